-- Numbers without leading zeros: what a test of their form tells, and their order by length and then by digits, which is that of the values.
-- Assumes nothing.
use Prim.Native.Nat.{ℕ, ◌+◌, ◌-◌, ◌*◌, ◌≤◌, ◌<◌}
use mathlib.Core.Path.{◌≡◌, refl, sym, ap, ◌∙◌}
use mathlib.Core.Bool.{Bool, true, false, cond, not, ◌&&◌, and-eq-true_iff}
use mathlib.Core.List.{List, [], ◌∷◌}
use native.Mathlib.Omega.{arith}
use native.Mathlib.Decide.{dec_lt, ℕ_discrete}
use lib.ListN.{length, get_or}
use lib.Dec.{eqb, leb, ltb}
use borrow.Author.Tests.{le-leb, eq-eqb, ne_eqb, lt-ltb, le-ltb, ltb-true, leb-true, not-true}
use Rattle.std.specs.Cmp.Lexicographic.{slice_partial_cmp}
use Rattle.std.specs.Prelude.{Some}
use Rattle.std.specs.Ordering.{is_lt, is_some_and, nat_cmp}
use Rattle.std.proofs.lemmas.Bool.Decides.{nat_tests}
use Rattle.std.proofs.lemmas.Cmp.{same_from_slice_cmp_tested}
use Rattle.plan_line.specs.Words.{all_digits, is_digit, is_number, leading_zero, least_after, value_from, value_of}
use Rattle.plan_line.proofs.Words.{and-false}

-- ---- the form

pub digit-bounds : (b : ℕ) → is_digit b ≡ true → (48 ≤ b) × (b ≤ 57)
digit-bounds b e =
    let h = (and-eq-true_iff (leb 48 b) (leb b 57)).0 e in
    (leb-true 48 b h.0, leb-true b 57 h.1)

pub digits-head : (b : ℕ) (l : List ℕ) → all_digits (b ∷ l) ≡ true → (48 ≤ b) × (b ≤ 57)
unfolding all_digits
digits-head b l e = digit-bounds b ((and-eq-true_iff (is_digit b) (all_digits l)).0 e).0

pub digits-tail : (b : ℕ) (l : List ℕ) → all_digits (b ∷ l) ≡ true → all_digits l ≡ true
unfolding all_digits
digits-tail b l e = ((and-eq-true_iff (is_digit b) (all_digits l)).0 e).1

-- a number has a digit at least, no leading zero, and digits alone
pub form : (w : List ℕ) → is_number w ≡ true → (0 < length w) × (leading_zero w ≡ false) × (all_digits w ≡ true)
unfolding is_number
form w e =
    let one = (and-eq-true_iff (ltb 0 (length w)) (not (leading_zero w) && all_digits w)).0 e in
    let two = (and-eq-true_iff (not (leading_zero w)) (all_digits w)).0 one.1 in
    (ltb-true 0 (length w) one.0, not-true (leading_zero w) two.0, two.1)

-- no leading zero: the first of two digits or more is not 0
pub first-digit : (b d : ℕ) (l : List ℕ) → leading_zero (b ∷ d ∷ l) ≡ false → b ≡ 48 → ⊥
first-digit b d l e is = let z : ◌≡◌ {A = ℕ} 0 1 = cc (two, eq-eqb b 48 is) in omega arith
  where
    two : ltb 1 (length (b ∷ d ∷ l)) ≡ true
    two = lt-ltb 1 (length (b ∷ d ∷ l)) (omega arith)

-- one digit alone, or a first one that is not 0
pub zero-alone : (w : List ℕ) → length w ≤ 1 → leading_zero w ≡ false
zero-alone w h = simp (le-ltb 1 (length w) h)

pub zero-not : (w : List ℕ) → (get_or w 0 0 ≡ 48 → ⊥) → leading_zero w ≡ false
zero-not w h = rw (ne_eqb (get_or w 0 0) 48 h) (and-false (ltb 1 (length w)))

-- ---- the order

-- more before digits of the same number is more
pub value-lt : (x y : ℕ) (a b : List ℕ) → length a ≡ length b → all_digits a ≡ true → x < y → value_from x a < value_from y b
unfolding value_from
value-lt x y [] [] e da h = h
value-lt x y [] (b ∷ bl) e da h = absurd (omega arith)
value-lt x y (a ∷ al) [] e da h = absurd (omega arith)
value-lt x y (a ∷ al) (b ∷ bl) e da h =
    let high = digits-head a al da in
    value-lt (x * 10 + (a - 48)) (y * 10 + (b - 48)) al bl (omega arith) (digits-tail a al da) (omega arith)

-- more digits, after a number that is not 0, are more
pub value-longer : (y : ℕ) (a b : List ℕ) → length a ≤ length b → all_digits a ≡ true → 0 < y → value_from 0 a < value_from y b
unfolding value_from
value-longer y a [] few da h = value-lt 0 y a [] (omega arith) da h
value-longer y a (b ∷ bl) few da h = go (ℕ_discrete (length a) (length (b ∷ bl))) (value-longer (y * 10 + (b - 48)) a bl)
  where
    go : Dec (length a ≡ length (b ∷ bl)) → (length a ≤ length bl → all_digits a ≡ true → 0 < y * 10 + (b - 48) → value_from 0 a < value_from (y * 10 + (b - 48)) bl)
        → value_from 0 a < value_from y (b ∷ bl)
    go (yes e) rest = value-lt 0 y a (b ∷ bl) e da h
    go (no e) rest = rest (omega arith) da (omega arith)

-- a number of more digits is more
pub shorter : (a b : List ℕ) → 0 < length a → length a < length b → all_digits a ≡ true → all_digits b ≡ true → leading_zero b ≡ false → value_of a < value_of b
unfolding value_from
shorter a [] some few da db zb = absurd (omega arith)
shorter a (b ∷ []) some few da db zb = absurd (omega arith)
shorter a (b ∷ d ∷ bl) some few da db zb =
    let bounds = digits-head b (d ∷ bl) db in
    let first = first-digit b d bl zb in
    value-longer (0 * 10 + (b - 48)) a (d ∷ bl) (omega arith) da (omega arith)

-- the first digit that differs decides; where none does, the longer is more
unfoldable pub lexb : List ℕ → List ℕ → Bool
lexb [] [] = false
lexb [] (y ∷ b) = true
lexb (x ∷ a) [] = false
lexb (x ∷ a) (y ∷ b) = cond (eqb x y) (lexb a b) (ltb x y)

-- the first digits differ, or the others decide
differing : (h x y : ℕ) (a b : List ℕ) → length (x ∷ a) ≡ length (y ∷ b) → all_digits (x ∷ a) ≡ true → all_digits (y ∷ b) ≡ true → Dec (x ≡ y) → Dec (x < y)
    → ltb (value_from (h * 10 + (x - 48)) a) (value_from (h * 10 + (x - 48)) b) ≡ lexb a b
    → ltb (value_from (h * 10 + (x - 48)) a) (value_from (h * 10 + (y - 48)) b) ≡ cond (eqb x y) (lexb a b) (ltb x y)
differing h x y a b e da db (yes is) less rest =
    ap (λ (z : ℕ). ltb (value_from (h * 10 + (x - 48)) a) (value_from (h * 10 + (z - 48)) b)) (sym is)
    ∙ rest
    ∙ ap (λ (t : Bool). cond t (lexb a b) (ltb x y)) (sym (eq-eqb x y is))
differing h x y a b e da db (no differ) (yes less) rest =
    let hx = digits-head x a da in
    let hy = digits-head y b db in
    lt-ltb (value_from (h * 10 + (x - 48)) a) (value_from (h * 10 + (y - 48)) b)
    (value-lt (h * 10 + (x - 48)) (h * 10 + (y - 48)) a b (omega arith) (digits-tail x a da) (omega arith))
    ∙ sym (lt-ltb x y less)
    ∙ ap (λ (t : Bool). cond t (lexb a b) (ltb x y)) (sym (ne_eqb x y differ))
differing h x y a b e da db (no differ) (no more) rest =
    let hx = digits-head x a da in
    let hy = digits-head y b db in
    le-ltb (value_from (h * 10 + (x - 48)) a) (value_from (h * 10 + (y - 48)) b)
    (omega (arith, value-lt (h * 10 + (y - 48)) (h * 10 + (x - 48)) b a (omega arith) (digits-tail y b db) (omega arith)))
    ∙ sym (le-ltb x y (omega arith))
    ∙ ap (λ (t : Bool). cond t (lexb a b) (ltb x y)) (sym (ne_eqb x y differ))

pub by_digits : (h : ℕ) (a b : List ℕ) → length a ≡ length b → all_digits a ≡ true → all_digits b ≡ true → ltb (value_from h a) (value_from h b) ≡ lexb a b
unfolding value_from lexb
by_digits h [] [] e da db = le-ltb h h (omega arith)
by_digits h [] (y ∷ b) e da db = absurd (omega arith)
by_digits h (x ∷ a) [] e da db = absurd (omega arith)
by_digits h (x ∷ a) (y ∷ b) e da db =
    differing h x y a b e da db (ℕ_discrete x y) (dec_lt x y) (by_digits (h * 10 + (x - 48)) a b (omega arith) (digits-tail x a da) (digits-tail y b db))

-- ---- small numbers

pub one-digit : (w : List ℕ) → is_number w ≡ true → length w ≡ 1 → (48 ≤ get_or w 0 0) × (get_or w 0 0 ≤ 57) × (value_of w ≡ get_or w 0 0 - 48)
unfolding value_from
one-digit [] e n = absurd (omega arith)
one-digit (a ∷ []) e n =
    let h = digits-head a [] (form (a ∷ []) e).2 in
    (h.0, h.1, omega arith)
one-digit (a ∷ b ∷ l) e n = absurd (omega arith)

pub two_digits : (w : List ℕ) → is_number w ≡ true → length w ≡ 2
    → (48 ≤ get_or w 0 0) × (get_or w 0 0 ≤ 57) × (48 ≤ get_or w 1 0) × (get_or w 1 0 ≤ 57) × (value_of w ≡ (get_or w 0 0 - 48) * 10 + (get_or w 1 0 - 48))
unfolding value_from
two_digits [] e n = absurd (omega arith)
two_digits (a ∷ []) e n = absurd (omega arith)
two_digits (a ∷ b ∷ []) e n =
    let all = (form (a ∷ b ∷ []) e).2 in
    let h = digits-head a (b ∷ []) all in
    let k = digits-head b [] (digits-tail a (b ∷ []) all) in
    (h.0, h.1, k.0, k.1, omega arith)
two_digits (a ∷ b ∷ d ∷ l) e n = absurd (omega arith)

-- three digits or more are 100 or more: more than `99`
pub many-digits : (w : List ℕ) → is_number w ≡ true → 2 < length w → 100 ≤ value_of w
unfolding value_from all_digits
many-digits w e long =
    let f = form w e in
    shorter (57 ∷ 57 ∷ []) w (omega arith) (omega arith) refl f.2 f.1

-- ---- a number after the last one

module _ (last word : List ℕ) (zero-free : leading_zero last ≡ false) (digits : all_digits last ≡ true) (number : is_number word ≡ true) where
  pub rise-shorter : length last < length word → leb (least_after last) (value_of word) ≡ true
  rise-shorter few = shorter-case last digits few
    where
      shorter-case : (l : List ℕ) → all_digits l ≡ true → length l < length word → leb (least_after l) (value_of word) ≡ true
      shorter-case [] d h = le-leb 0 (value_of word) (omega arith)
      shorter-case (b ∷ l) d h = lt-ltb (value_of (b ∷ l)) (value_of word) (shorter (b ∷ l) word (omega arith) h d (form word number).2 (form word number).1)

  pub rise-longer : length word < length last → leb (least_after last) (value_of word) ≡ false
  rise-longer more = longer-case last zero-free digits more
    where
      longer-case : (l : List ℕ) → leading_zero l ≡ false → all_digits l ≡ true → length word < length l → leb (least_after l) (value_of word) ≡ false
      longer-case [] z d h = absurd (omega arith)
      longer-case (b ∷ l) z d h =
          le-ltb (value_of (b ∷ l)) (value_of word) (omega (arith, shorter word (b ∷ l) (form word number).0 h (form word number).2 d z))

  pub rise-same : length last ≡ length word → leb (least_after last) (value_of word) ≡ lexb last word
  rise-same e = same_case last digits e
    where
      same_case : (l : List ℕ) → all_digits l ≡ true → length l ≡ length word → leb (least_after l) (value_of word) ≡ lexb l word
      same_case [] d h = absurd (omega (arith, (form word number).0))
      same_case (b ∷ l) d h = by_digits 0 (b ∷ l) word h d (form word number).2

-- as std's `<` of slices says it
pub lex-is : (a b : List ℕ) (r : Bool) → r ≡ is_some_and is_lt (slice_partial_cmp (λ x y. Some (nat_cmp x y)) a b) → r ≡ lexb a b
unfolding lexb
lex-is = same_from_slice_cmp_tested nat_cmp is_lt lexb refl (λ _ _. refl) (λ _ _. refl) (λ x y xs ys o h. grind (arith, nat_tests))
