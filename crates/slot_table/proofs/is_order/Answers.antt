-- `slot_table::is_order` meets its contract: its tests are those of the definition. Assumes nothing.
use borrow.Author.Tests.{le-leb, lt-leb}
use Rattle.slot_table.specs.Order.{is_order}
use Rattle.slot_table.proofs.is_order.Goals as goal

pub returns-then-n-le32 : goal.returns-then-n-le32
unfolding is_order
returns-then-n-le32 c = simp (le-leb c.args.n 32 c.if-n-le32.true, c.nodes_at.ensures, c.full.ensures)

pub returns-else-n-le32 : goal.returns-else-n-le32
unfolding is_order
returns-else-n-le32 c = simp (lt-leb c.args.n 32 c.if-n-le32.false)
