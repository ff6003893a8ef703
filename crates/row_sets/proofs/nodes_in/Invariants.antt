-- `row_sets::nodes_in` meets its contract. The invariant: the set so far holds the nodes of the places passed. Assumes nothing.
use mathlib.Core.Path.{◌≡◌}
use Rattle.row.specs.slot_table.Order.{nodes_at}
use Rattle.row_sets.proofs.nodes_in.Given as goal

abbrev pub invariant-loop-x : goal.invariant-loop-x
invariant-loop-x l = l.s ≡ nodes_at l.x-index l.fn.row.nodes
