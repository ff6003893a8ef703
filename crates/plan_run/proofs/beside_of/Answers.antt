-- `plan_run::beside_of` meets its contract, case by case. Assumes nothing.
use mathlib.Core.Path.{sym, ap}
use Rattle.cable.specs.slot_table.Order.{numbers_from, plain}
use Rattle.plan_run.specs.Inner.{beside_of}
use Rattle.plan_run.proofs.beside_of.Goals as goal

pub returns-in-Err : goal.returns-in-Err
unfolding plain numbers_from
returns-in-Err c = sym (ap beside_of c.in-Err.is)
