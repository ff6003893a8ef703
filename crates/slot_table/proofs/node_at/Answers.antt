-- `slot_table::node_at` meets its contract: there are 32 places. Assumes nothing.
use mathlib.Core.Path.{sym, ap, ◌∙◌}
use native.Mathlib.Omega.{arith}
use Rattle.slot_table.specs.Order.{node_at}
use Rattle.slot_table.proofs.Entries.{node-entry, no_node}
use Rattle.slot_table.proofs.node_at.Goals as goal

pub returns-then-p-eq0 : goal.returns-then-p-eq0
unfolding node_at
returns-then-p-eq0 c = sym (ap (node_at c.args.order) c.if-p-eq0.true)

pub returns-then-i-ge32 : goal.returns-then-i-ge32
returns-then-i-ge32 c = let a = c.args in sym (no_node a.order a.p (omega arith) (omega (arith, c.if-i-ge32.true)))

pub returns : goal.returns
returns c = let a = c.args in c.from.ensures ∙ sym (node-entry a.order a.p (omega arith))
