-- `plan_line::is_number` meets its contract.
-- Assumes nothing.
use native.Mathlib.Omega.{arith}
use Rattle.std.proofs.lemmas.Bool.Decides.{nat_tests}
use Rattle.plan_line.specs.Words.{is_number}
use Rattle.plan_line.proofs.is_number.Goals as goal

pub returns-then-not-leading_zero : goal.returns-then-not-leading_zero
unfolding is_number
returns-then-not-leading_zero c = grind (arith, nat_tests)

pub returns-else-not-leading_zero : goal.returns-else-not-leading_zero
unfolding is_number
returns-else-not-leading_zero c = grind (arith, nat_tests)
