use Prim.Native.Nat.{ℕ, zero, suc, ◌+◌, ◌-◌, ◌<◌, min}
use mathlib.Core.Path.{◌≡◌, refl, sym, ap, ◌∙◌}
use mathlib.Core.List.{List, [], ◌∷◌, ◌++◌}
use native.Mathlib.Omega.{arith}
use native.Mathlib.Numerals.{add-one}
use lib.ListN.{replicate, set}
use lib.Seq.{set_at, append_snoc}
use Rattle.slot_table.specs.Order.{numbers_from, plain}
use Rattle.slot_table.proofs.Numbers.{count_of}
use Rattle.slot_table.proofs.plain.Goals as goal

-- one number more at the end
snoc : (m i : ℕ) → numbers_from (suc m) i ≡ numbers_from m i ++ (m + i) ∷ []
unfolding numbers_from
snoc zero i = let z : i ≡ 0 + i = omega arith in ap (λ (x : ℕ). x ∷ []) z
snoc (suc m) i =
    let z : m + suc i ≡ suc m + i = omega arith in
    ap (λ (t : List ℕ). i ∷ t) (snoc m (suc i) ∙ ap (λ (x : ℕ). numbers_from m (suc i) ++ x ∷ []) z)

one-more : (order : List ℕ) (i : ℕ) → i < 32 → order ≡ numbers_from i 1 ++ replicate (32 - i) 0 → set order i (i + 1) ≡ numbers_from (i + 1) 1 ++ replicate (32 - (i + 1)) 0
one-more order i l e =
    let z : 32 - i ≡ suc (32 - (i + 1)) = omega arith in
    ap (λ (t : List ℕ). set t i (i + 1)) (e ∙ ap (λ (m : ℕ). numbers_from i 1 ++ replicate m 0) z)
    ∙ set_at (numbers_from i 1) 0 (replicate (32 - (i + 1)) 0) (i + 1) i (count_of i 1)
    ∙ sym (append_snoc (numbers_from i 1) (i + 1) (replicate (32 - (i + 1)) 0))
    ∙ ap (λ (t : List ℕ). t ++ replicate (32 - (i + 1)) 0) (sym (snoc i 1) ∙ ap (λ (m : ℕ). numbers_from m 1) (sym (add-one i)))

pub loop-i-init : goal.loop-i-init
unfolding numbers_from
loop-i-init c = refl

pub loop-i-preserved : goal.loop-i-preserved
loop-i-preserved c = let l = c.loop-i in one-more l.order l.i (omega arith) l.invariant

pub returns : goal.returns
unfolding plain
returns c =
    let l = c.loop-i in
    let last : l.i ≡ min c.args.n 32 = omega arith in
    l.invariant ∙ ap (λ (m : ℕ). numbers_from m 1 ++ replicate (32 - m) 0) last
