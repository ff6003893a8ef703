-- `plan_line::line_of` meets its contract.
-- Assumes nothing.
use lib.ListN.{length}
use borrow.Author.Tests.{le-leb, lt-leb}
use Rattle.plan_line.specs.Plan.{line_of}
use Rattle.plan_line.proofs.line_of.Goals as goal

pub returns-then-line-gt120 : goal.returns-then-line-gt120
unfolding line_of
returns-then-line-gt120 c = simp (lt-leb (length c.args.line.now) 120 c.if-line-gt120.true)

pub returns : goal.returns
unfolding line_of
returns c = simp (le-leb (length c.args.line.now) 120 c.if-line-gt120.false) c.word.ensures
