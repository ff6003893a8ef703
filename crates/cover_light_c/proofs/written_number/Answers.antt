-- `cover_light_c::written_number` meets its contract. There are at most 32 lamps, so that the sum fits. Assumes nothing.
use Prim.Native.Nat.{◌≤◌}
use mathlib.Core.Path.{sym, ap, ◌∙◌, subst}
use native.Mathlib.Omega.{arith}
use Rattle.cover_light_c.specs.Calls.{Few, written_number}
use Rattle.cover_light_c.proofs.written_number.Goals as goal

pub overflow_add-result : goal.overflow_add-result
overflow_add-result c =
    let few : c.in-Ok.count ≤ 32 = subst Few c.in-Ok.is c.requires in
    omega (arith, few)

pub returns-in-Ok : goal.returns-in-Ok
returns-in-Ok c = ap written_number (sym c.in-Ok.is)

pub returns-in-Err : goal.returns-in-Err
returns-in-Err c = c.number.ensures ∙ ap written_number (sym c.in-Err.is)
