-- `plan_line::in_ring` meets its contract.
-- Assumes nothing.
use mathlib.Core.Path.{sym, ◌∙◌}
use Rattle.plan_line.proofs.in_ring.Goals as goal

pub returns-then-is_node_number : goal.returns-then-is_node_number
returns-then-is_node_number c = simp (sym c.is_node_number.ensures ∙ c.if-is_node_number.true)

pub returns-else-is_node_number : goal.returns-else-is_node_number
returns-else-is_node_number c = c.if-is_node_number.false ∙ simp (sym c.is_node_number.ensures ∙ c.if-is_node_number.false)
