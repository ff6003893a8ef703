-- `slot_table::spare_empty` meets its contract: the places passed over are the first n. Assumes nothing.
use Prim.Native.Nat.{ℕ, zero, suc, ◌+◌, ◌-◌, ◌≤◌}
use mathlib.Core.Path.{◌≡◌, refl, sym, ap, ap₂, ◌∙◌}
use mathlib.Core.Bool.{Bool, ◌&&◌}
use mathlib.Core.List.{List}
use native.Mathlib.Omega.{arith}
use native.Mathlib.Decide.{dec_le}
use native.Mathlib.Numerals.{add-one}
use lib.Dec.{eqb}
use lib.ListN.{length, take, drop}
use Rattle.std.proofs.Common.{rules, tests}
use Rattle.std.specs.List.{list_all}
use Rattle.std.proofs.lemmas.Iterator.{YieldsList-from_slice}
use Rattle.std.proofs.lemmas.Iterator.Adapters.{YieldsList-from_skip}
use Rattle.std.proofs.lemmas.Iterator.Search.{all_from_yields_List}
use Rattle.std.proofs.lemmas.List.{length-drop, get_or-drop, take_all, drop_all}
use Rattle.std.proofs.lemmas.List.Folds.{list_all_more}
use Rattle.slot_table.specs.Order.{node_at, spare_empty}
use Rattle.slot_table.proofs.spare_empty.Goals as goal

-- the m places after place n
some : (n : ℕ) (order : List ℕ) (m : ℕ) → n + m ≤ length order → list_all (λ x. eqb x 0) (take m (drop n order)) ≡ spare_empty m n order
unfolding spare_empty node_at
some n order zero h = refl
some n order (suc m) h =
    let one : m + 1 ≡ suc m = add-one m in
    let p : suc (n + m) ≡ n + suc m = omega arith in
    ap (λ (k : ℕ). list_all (λ x. eqb x 0) (take k (drop n order))) (sym one)
    ∙ list_all_more (λ x. eqb x 0) (drop n order) m 0 (omega (arith, length-drop n order))
    ∙ ap₂ (λ (b : Bool) (x : ℕ). b && eqb x 0) (some n order m (omega arith)) (get_or-drop n order m 0)
    ∙ ap (λ (p : ℕ). spare_empty m n order && eqb (node_at order p) 0) p

-- all that there are
rest : (n : ℕ) (order : List ℕ) → length order ≡ 32 → Dec (n ≤ 32) → list_all (λ x. eqb x 0) (drop n order) ≡ spare_empty (32 - n) n order
unfolding spare_empty
rest n order e (yes l) =
    ap (list_all (λ x. eqb x 0)) (sym (take_all (32 - n) (drop n order) (omega (arith, length-drop n order))))
    ∙ some n order (32 - n) (omega arith)
rest n order e (no l) =
    let z : 0 ≡ 32 - n = omega arith in
    ap (list_all (λ x. eqb x 0)) (drop_all n order (omega arith)) ∙ ap (λ (m : ℕ). spare_empty m n order) z

pub returns : goal.returns
returns c =
    let a = c.args in
    all_from_yields_List (λ x. eqb x 0) _ _ c.all.result c.all.ensures.ran (YieldsList-from_skip a.n (YieldsList-from_slice a.order cc) c.skip.ensures.count) (λ x b q k. search (rules, tests))
    ∙ rest a.n a.order (omega arith) (dec_le a.n 32)
