-- `slot_table::nodes_at` meets its contract. The invariant: after p turns it is the set of the nodes at the first p places. Assumes nothing.
use mathlib.Core.Path.{◌≡◌}
use Rattle.slot_table.specs.Order.{nodes_at}
use Rattle.slot_table.proofs.nodes_at.Given as goal

abbrev pub invariant-loop-p : goal.invariant-loop-p
invariant-loop-p l = l.set ≡ nodes_at l.p l.order
