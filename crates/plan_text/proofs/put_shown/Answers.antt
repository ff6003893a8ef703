-- `plan_text::put_shown` meets its contract, by the cases of what is shown.
-- Assumes nothing.
use Prim.Native.Nat.{◌+◌}
use native.Mathlib.Omega.{arith}
use Rattle.plan_text.specs.Text.{PutAt, digits}
use Rattle.plan_text.proofs.Paste.{both, put_byte}
use Rattle.plan_text.proofs.Digits.{length_digits}
use Rattle.plan_text.proofs.put_shown.Goals as goal

pub returns : goal.returns
returns c =
    let a = c.args in
    let d = a.out.now in
    let e = c.put_digits.new.out in
    let set = c.in-Some.set in
    let number : PutAt (a.at + 8) a.at (digits 16 8 set) d e = record { end = omega (arith, length_digits 16 8 set); bytes = c.put_digits.ensures } in
    rw c.in-Some.is (both (omega (arith, c.requires)) number (put_byte e (a.at + 8) 32 (a.at + 9) (omega arith) (omega (arith, c.put_digits.auto.out, c.requires))))
