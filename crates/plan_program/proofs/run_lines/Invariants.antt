-- `plan_program::run_lines` meets its contract. Where a turn begins, the loop stands as `Turns.antt` says (Stands). The measure is what is left of the input.
-- Assumes nothing.
use Rattle.plan_program.specs.Calls.{bytes_in}
use Rattle.plan_program.proofs.Turns.{Stands, left}
use Rattle.plan_program.proofs.run_lines.Given as goal

abbrev pub invariant-loop-g : goal.invariant-loop-g
invariant-loop-g l = Stands l.fn.plan (bytes_in l.fn.part) l.input l.initial.out l.g l.rows l.out

abbrev pub decreases-loop-g : goal.decreases-loop-g
decreases-loop-g l = left l.input l.g
