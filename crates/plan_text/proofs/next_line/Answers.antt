-- `plan_text::next_line` meets its contract. Assumes nothing.
use native.Mathlib.Omega.{arith}
use Rattle.std.proofs.lemmas.Bool.Decides.{nat_tests}
use Rattle.plan_text.specs.Text.{next_line}
use Rattle.plan_text.proofs.next_line.Goals as goal

pub returns : goal.returns
unfolding next_line
returns c = grind (arith, nat_tests)
