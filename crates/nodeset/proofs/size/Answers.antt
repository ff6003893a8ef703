-- `nodeset::size` meets its contract: the ones of the set's n lowest bits are the nodes of 1 to n in it. Assumes nothing.
use Prim.Native.Nat.{ℕ}
use mathlib.Core.Path.{ap, ◌∙◌}
use borrow.Author.Rules.{rules}
use lib.Bits.{bit_and}
use lib.Count.{ones}
use Rattle.nodeset.proofs.Counts.{ones-masked}
use Rattle.nodeset.proofs.size.Goals as goal

pub returns : goal.returns
returns c =
    ap (λ (m : ℕ). ones (bit_and c.args.s m)) c.full.ensures
    ∙ ones-masked c.args.n c.args.s (search rules)
