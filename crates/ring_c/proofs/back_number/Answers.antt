-- `ring_c::back_number` meets its contract, case by case. Assumes nothing.
use Rattle.ring_c.proofs.back_number.Goals as goal

pub returns-in-Some : goal.returns-in-Some
returns-in-Some c = cc
