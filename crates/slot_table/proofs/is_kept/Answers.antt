-- `slot_table::is_kept` meets its contract: an array has its 32 places. Assumes nothing.
use Prim.Native.Nat.{◌-◌}
use mathlib.Core.Path.{◌≡◌, sym, ap, ap₂, ◌∙◌}
use mathlib.Core.Bool.{Bool, ◌&&◌}
use native.Mathlib.Omega.{arith}
use borrow.Author.Tests.{eq-eqb}
use lib.ListN.{length}
use Rattle.slot_table.specs.Order.{is_order, spare_empty, is_kept}
use Rattle.slot_table.proofs.is_kept.Goals as goal

pub returns : goal.returns
unfolding is_kept
returns c =
    let a = c.args in
    let all : length a.order ≡ 32 = omega arith in
    ap₂ ◌&&◌ c.is_order.ensures c.spare_empty.ensures
    ∙ sym (ap (λ (b : Bool). b && (is_order a.n a.order && spare_empty (32 - a.n) a.n a.order)) (eq-eqb (length a.order) 32 all))
