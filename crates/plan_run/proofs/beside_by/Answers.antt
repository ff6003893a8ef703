-- `plan_run::beside_by` meets its contract, case by case. Assumes nothing.
use mathlib.Core.Path.{sym, ap}
use Rattle.cable.specs.slot_table.Order.{numbers_from, plain}
use Rattle.plan_run.specs.Inner.{beside_by}
use Rattle.plan_run.proofs.beside_by.Goals as goal

pub returns-in-Off : goal.returns-in-Off
unfolding plain numbers_from
returns-in-Off c = sym (ap beside_by c.in-Off.is)

pub returns-in-Restart : goal.returns-in-Restart
unfolding plain numbers_from
returns-in-Restart c = sym (ap beside_by c.in-Restart.is)

pub returns-in-Slot : goal.returns-in-Slot
unfolding plain numbers_from
returns-in-Slot c = sym (ap beside_by c.in-Slot.is)

pub returns-in-Look : goal.returns-in-Look
unfolding plain numbers_from
returns-in-Look c = sym (ap beside_by c.in-Look.is)
