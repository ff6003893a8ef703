-- `node_reports::hears` meets its contract: from index 32 on no node is in a set of 32 bits. Assumes nothing.
use Prim.Native.Nat.{◌+◌}
use native.Mathlib.Omega.{arith}
use mathlib.Core.Path.{sym, ◌∙◌}
use borrow.Author.Tests.{le-ltb}
use Rattle.nodeset.proofs.Bits.{has-beyond}
use Rattle.node_reports.proofs.hears.Goals as goal

pub returns-else-i-lt32 : goal.returns-else-i-lt32
returns-else-i-lt32 c = le-ltb c.args.i 32 (omega arith) ∙ sym (has-beyond 32 _ (c.args.i + 1) c.ranges.hearers.fits (omega arith))
