-- `ring::previous` meets its contract: its test is that of the definition. Assumes nothing.
use borrow.Author.Tests.{le-leb, lt-leb}
use Rattle.ring.specs.Ring.{previous}
use Rattle.ring.proofs.previous.Goals as goal

pub returns-then-p-le1 : goal.returns-then-p-le1
unfolding previous
returns-then-p-le1 c = simp (le-leb c.args.p 1 c.if-p-le1.true)

pub returns-else-p-le1 : goal.returns-else-p-le1
unfolding previous
returns-else-p-le1 c = simp (lt-leb c.args.p 1 c.if-p-le1.false)
