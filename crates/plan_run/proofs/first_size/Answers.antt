-- `plan_run::first_size` meets its contract, case by case. Assumes nothing.
use Prim.Native.Nat.{ℕ}
use mathlib.Core.Path.{sym, ap, ◌∙◌}
use Rattle.plan_line.specs.Plan.{Opening}
use Rattle.plan_run.specs.Run.{opened_by, opened_of}
use Rattle.plan_run.proofs.first_size.Goals as goal

abbrev said : Opening → ℕ
said o = (opened_by o).n

pub returns-in-Ok : goal.returns-in-Ok
unfolding opened_of
returns-in-Ok c = sym (ap said c.in-Ok.is) ∙ ap said c.opening_of-opening.ensures

pub returns-in-Err : goal.returns-in-Err
unfolding opened_of
returns-in-Err c = sym (ap said c.in-Err.is) ∙ ap said c.opening_of-opening.ensures
