-- `message::in_range` meets its contract: the second test is the answer where the first holds, and the first where it does not.
-- Assumes nothing.
use borrow.Author.Tests.{le-leb, lt-leb}
use Rattle.message.proofs.in_range.Goals as goal

pub returns-then-k-ge2 : goal.returns-then-k-ge2
returns-then-k-ge2 c = simp (le-leb _ _ c.if-k-ge2.true)

pub returns-else-k-ge2 : goal.returns-else-k-ge2
returns-else-k-ge2 c = simp (lt-leb _ _ c.if-k-ge2.false)
