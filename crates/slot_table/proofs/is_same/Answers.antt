-- `slot_table::is_same` meets its contract. Assumes nothing.
use mathlib.Core.Path.{◌∙◌}
use native.Mathlib.Omega.{arith}
use Rattle.slot_table.proofs.Same.{places-same}
use Rattle.slot_table.proofs.is_same.Goals as goal

pub returns : goal.returns
returns c = c.eq.ensures ∙ places-same c.args.a c.args.b (omega arith)
