-- `plan_program::print_plan` meets its contract. Assumes nothing.
use mathlib.Core.Path.{ap}
use Prim.Native.Nat.{◌+◌, ◌*◌}
use native.Mathlib.Omega.{arith}
use borrow.Author.Tests.{lt-leb}
use lib.ListN.{length}
use Rattle.plan_program.specs.Calls.{bytes_in, plan_sound, printed_in}
use Rattle.plan_program.proofs.Pieces.{whole, printed-in}
use Rattle.plan_program.proofs.print_plan.Goals as goal

pub returns-then-out-input : goal.returns-then-out-input
unfolding printed_in
returns-then-out-input c =
    let a = c.args in
    simp (lt-leb (80 * length a.input.now + 80) (length a.out.now) (omega arith))

pub run_lines-ran-requires : goal.run_lines-ran-requires
unfolding plan_sound
run_lines-ran-requires c =
    (ap plan_sound c.no_plan.ensures, omega arith)

pub returns : goal.returns
returns c =
    let a = c.args in
    printed-in a.input.now (omega (arith, c.if-out-input.false)) (whole c.no_plan.result (bytes_in c.no_part.result) a.input.now c.run_lines-ran.result c.no_plan.ensures (ap bytes_in c.no_part.ensures) c.run_lines-ran.ensures c.put_end.ensures)
