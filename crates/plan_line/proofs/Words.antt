-- One byte more of a text: what the definitions of digits, of parts and of plan words say of it.
-- Assumes nothing.
use Prim.Native.Nat.{ℕ, suc, ◌+◌, ◌≤◌, ◌<◌}
use mathlib.Core.Path.{◌≡◌, refl, sym, ap, ◌∙◌}
use mathlib.Core.Bool.{Bool, true, false, cond, ◌&&◌}
use mathlib.Core.List.{List, [], ◌∷◌}
use native.Mathlib.Omega.{arith}
use native.Mathlib.Numerals.{add-one}
use lib.ListN.{length, get_or, take, drop, drop_of_length-le}
use lib.Pointwise.{pointwise}
use lib.Seq.{drop-cons}
use lib.Dec.{eqb, leb, eqb-suc-suc}
use borrow.Author.Tests.{eq-eqb, ne_eqb, le-leb, lt-leb}
use Rattle.std.proofs.lemmas.Cmp.{nat_eq_equiv}
use Rattle.plan_line.specs.Words.{begins, gap, is_digit, same}

-- ---- digits

pub digit-yes : (b : ℕ) → 48 ≤ b → b ≤ 57 → is_digit b ≡ true
digit-yes b low high = simp (le-leb 48 b low, le-leb b 57 high)

pub and-false : (x : Bool) → (x && false) ≡ false
and-false true = refl
and-false false = refl

pub digit-high : (b : ℕ) → 57 < b → is_digit b ≡ false
digit-high b h = rw (lt-leb b 57 h) (and-false (leb 48 b))

-- ---- the ends of parts

module _ (mark : ℕ) (l : List ℕ) (i : ℕ) (below : i < length l) where
  gap_at : gap mark (drop i l) ≡ cond (eqb (get_or l i 0) mark) 0 (suc (gap mark (drop (i + 1) l)))
  unfolding gap
  gap_at = rw (drop-cons l i 0 below, add-one i)

  pub gap-mark : get_or l i 0 ≡ mark → gap mark (drop i l) ≡ 0
  gap-mark e = gap_at ∙ ap (λ (b : Bool). cond b 0 (suc (gap mark (drop (i + 1) l)))) (eq-eqb (get_or l i 0) mark e)

  pub gap-next : (get_or l i 0 ≡ mark → ⊥) → gap mark (drop i l) ≡ suc (gap mark (drop (i + 1) l))
  gap-next h = gap_at ∙ ap (λ (b : Bool). cond b 0 (suc (gap mark (drop (i + 1) l)))) (ne_eqb (get_or l i 0) mark h)

pub gap-end : (mark : ℕ) (l : List ℕ) (i : ℕ) → length l ≤ i → gap mark (drop i l) ≡ 0
unfolding gap
gap-end mark l i h = ap (gap mark) (drop_of_length-le l h)

-- ---- plan words

-- as std's `strip_prefix` and `==` of bytes say it
pub stripped : (w l : List ℕ) → pointwise eqb (take (length w) l) w ≡ begins w l
unfolding begins
stripped [] l = refl
stripped (a ∷ w) [] = refl
stripped (a ∷ w) (b ∷ l) = ap (λ (t : Bool). t && pointwise eqb (take (length w) l) w) (nat_eq_equiv.symm b a) ∙ ap (λ (t : Bool). eqb a b && t) (stripped w l)

and-swap : (x y z : Bool) → (x && (y && z)) ≡ (y && (x && z))
and-swap true y z = refl
and-swap false y z = sym (and-false y)

pub equal : (w l : List ℕ) → pointwise eqb w l ≡ same w l
unfolding begins
equal [] [] = refl
equal [] (b ∷ l) = simp (ne_eqb 0 (suc (length l)) (λ e. omega arith))
equal (a ∷ w) [] = sym (and-false (eqb (suc (length w)) 0))
equal (a ∷ w) (b ∷ l) = simp eqb-suc-suc (ap (λ (t : Bool). eqb a b && t) (equal w l) ∙ and-swap (eqb a b) (eqb (length w) (length l)) (begins w l))
