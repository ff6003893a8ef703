-- `message_c::reading_number` meets its contract: the parts stand one above the other. Assumes nothing.
use Prim.Native.Nat.{ℕ, ◌+◌, ◌*◌, ◌<◌}
use mathlib.Core.Path.{ap, sym, ◌∙◌}
use mathlib.Core.Bool.{Bool}
use native.Mathlib.Omega.{arith}
use mir.Val.{bool_byte}
use Rattle.message.proofs.Tests.{byte-is, bit-small}
use Rattle.message_c.specs.Numbers.{reading_number}
use Rattle.message_c.proofs.reading_number.Goals as goal

-- a bool is 0 or 1
small : (b : Bool) → bool_byte b < 2
small b = omega (arith, byte-is b, bit-small b)

pub overflow_mul-result-in-Ok : goal.overflow_mul-result-in-Ok
overflow_mul-result-in-Ok c = omega (arith, small c.in-Ok.heard.return_bit)

pub overflow_add-result-in-Ok : goal.overflow_add-result-in-Ok
overflow_add-result-in-Ok c = omega (arith, small c.in-Ok.heard.return_bit)

pub overflow_add-result-in-Ok-2 : goal.overflow_add-result-in-Ok-2
overflow_add-result-in-Ok-2 c = omega (arith, small c.in-Ok.heard.return_bit)

pub returns-in-Ok : goal.returns-in-Ok
returns-in-Ok c =
    let a = c.args in
    ap (λ (x : ℕ). 0x200_0000_0000 + a.jobs * 0x2_0000_0000 + x * 0x1_0000_0000 + c.in-Ok.heard.acknowledgements) (byte-is c.in-Ok.heard.return_bit)
    ∙ ap (reading_number a.jobs) (sym c.in-Ok.is)

pub returns-in-Err : goal.returns-in-Err
returns-in-Err c = c.number.ensures ∙ ap (reading_number c.args.jobs) (sym c.in-Err.is)
