-- `message_c::written_number` meets its contract. A message has at most 9 bytes, so that the sum fits. Assumes nothing.
use Prim.Native.Nat.{◌≤◌}
use mathlib.Core.Path.{sym, ap, ◌∙◌, subst}
use native.Mathlib.Omega.{arith}
use Rattle.message_c.specs.Numbers.{Short, written_number}
use Rattle.message_c.proofs.written_number.Goals as goal

pub overflow_add-result : goal.overflow_add-result
overflow_add-result c =
    let few : c.in-Ok.count ≤ 9 = subst Short c.in-Ok.is c.requires in
    omega (arith, few)

pub returns-in-Ok : goal.returns-in-Ok
returns-in-Ok c = ap written_number (sym c.in-Ok.is)

pub returns-in-Err : goal.returns-in-Err
returns-in-Err c = c.number.ensures ∙ ap written_number (sym c.in-Err.is)
