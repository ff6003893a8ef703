-- `plan_program::finish` meets its contract. Assumes nothing.
use Prim.Native.Nat.{◌-◌}
use mathlib.Core.Path.{◌≡◌}
use native.Mathlib.Omega.{arith}
use borrow.Author.Tests.{lt-leb}
use lib.ListN.{length}
use Rattle.plan_text.specs.Text.{written_of}
use Rattle.plan_text.proofs.Paste.{written}
use Rattle.plan_program.specs.Program.{end_text}
use Rattle.plan_program.specs.Calls.{bytes_in}
use Rattle.plan_program.proofs.finish.Goals as goal

pub returns-then-out-lt80 : goal.returns-then-out-lt80
unfolding written_of
returns-then-out-lt80 c = simp (lt-leb 80 (length c.args.out.now) (omega arith))

pub returns : goal.returns
returns c =
    let a = c.args in
    let none : c.put_end.result - 0 ≡ c.put_end.result = omega arith in
    rw none at (written (end_text a.plan (bytes_in a.part)) 0 a.out.now c.put_end.result c.put_end.new.out (omega (arith, c.if-out-lt80.false)) c.put_end.ensures)
