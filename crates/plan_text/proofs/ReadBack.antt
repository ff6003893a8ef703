-- What `decimal` writes is a number of plan lines, with no leading zero, and of the value written: for every number below 10 ^ 20.
-- Assumes nothing.
use Prim.Native.Nat.{ℕ, zero, suc, ◌+◌, ◌-◌, ◌*◌, ◌/◌, ◌%◌, ◌^◌, ◌≤◌, ◌<◌}
use mathlib.Core.Path.{◌≡◌, refl, ap, ◌∙◌}
use mathlib.Core.Bool.{true, false, and-eq-true_iff}
use mathlib.Core.List.{List, [], ◌∷◌, ◌++◌}
use native.Mathlib.Omega.{arith}
use native.Mathlib.Decide.{dec_lt}
use native.Mathlib.Nat.{pow-suc}
use lib.ListN.{length, get_or, get_or-append}
use borrow.Author.Tests.{lt-ltb}
use Rattle.plan_line.specs.Words.{all_digits, is_digit, is_number, leading_zero, value_from, value_of}
use Rattle.plan_line.proofs.Words.{digit-yes}
use Rattle.plan_line.proofs.Numbers.{zero-alone, zero-not}
use Rattle.plan_text.specs.Text.{decimal, digits, glyph, places}
use Rattle.plan_text.proofs.Digits.{length_digits, length-decimal, places-some, places-stop, places-next}

-- a decimal digit
glyph-is : (x : ℕ) → glyph (x % 10) ≡ 48 + x % 10
glyph-is x = simp (lt-ltb (x % 10) 10 (omega arith))

-- ---- the value

value-append : (h : ℕ) (a b : List ℕ) → value_from h (a ++ b) ≡ value_from (value_from h a) b
unfolding value_from
value-append h [] b = refl
value-append h (x ∷ a) b = value-append (h * 10 + (x - 48)) a b

value-digits : (k x : ℕ) → x < 10 ^ k → value_of (digits 10 k x) ≡ x
unfolding digits value_from
value-digits zero x h = omega arith
value-digits (suc k) x h =
    let below : x < 10 ^ k * 10 = rw pow-suc at h in
    let high : value_of (digits 10 k (x / 10)) ≡ x / 10 = value-digits k (x / 10) (omega arith) in
    let low = glyph-is x in
    value-append 0 (digits 10 k (x / 10)) (glyph (x % 10) ∷ [])
    ∙ ap (λ (v : ℕ). v * 10 + (glyph (x % 10) - 48)) high
    ∙ ap (λ (g : ℕ). x / 10 * 10 + (g - 48)) low
    ∙ omega arith

-- the places counted hold the number
places-hold : (m x : ℕ) → x < 10 ^ suc m → x < 10 ^ places m x
places-hold zero x h = rw (places-stop zero x (omega arith)) (omega arith)
places-hold (suc m) x h = go (dec_lt x 10) (places-hold m (x / 10))
  where
    go : Dec (x < 10) → (x / 10 < 10 ^ suc m → x / 10 < 10 ^ places m (x / 10)) → x < 10 ^ places (suc m) x
    go (yes small) rest = rw (places-stop (suc m) x small) (omega arith)
    go (no large) rest =
        let below : x < 10 ^ suc m * 10 = rw pow-suc at h in
        let high = rest (omega arith) in
        rw (places-next (suc m) m x refl (omega arith), pow-suc) (omega arith)

pub decimal-value : (x : ℕ) → x < 10 ^ 20 → value_of (decimal x) ≡ x
unfolding decimal
decimal-value x h = value-digits (places 19 x) x (places-hold 19 x h)

-- ---- the form

all_append : (a b : List ℕ) → all_digits a ≡ true → all_digits b ≡ true → all_digits (a ++ b) ≡ true
unfolding all_digits
all_append [] b ha hb = hb
all_append (x ∷ a) b ha hb =
    let h = (and-eq-true_iff (is_digit x) (all_digits a)).0 ha in
    rw h.0 (all_append a b h.1 hb)

all-digits : (k x : ℕ) → all_digits (digits 10 k x) ≡ true
unfolding digits all_digits
all-digits zero x = refl
all-digits (suc k) x = all_append (digits 10 k (x / 10)) (glyph (x % 10) ∷ []) (all-digits k (x / 10)) (one (glyph (x % 10)) (glyph-is x))
  where
    one : (g : ℕ) → g ≡ 48 + x % 10 → all_digits (g ∷ []) ≡ true
    one g e = rw (digit-yes g (omega arith) (omega arith))

decimal-digits : (x : ℕ) → all_digits (decimal x) ≡ true
unfolding decimal
decimal-digits x = all-digits (places 19 x) x

-- one digit
alone : (x : ℕ) → x < 10 → 1 ≤ x → 48 < get_or (digits 10 1 x) 0 0
unfolding digits
alone x small some = let is : glyph (x % 10) ≡ 48 + x % 10 = glyph-is x in omega arith

-- the first digit of a number that is not 0 is not 0
first-digit : (m x : ℕ) → x < 10 ^ suc m → 1 ≤ x → 48 < get_or (digits 10 (places m x) x) 0 0
unfolding digits
first-digit zero x h some = rw (places-stop zero x (omega arith)) (alone x (omega arith) some)
first-digit (suc m) x h some = go (dec_lt x 10) (first-digit m (x / 10))
  where
    go : Dec (x < 10) → (x / 10 < 10 ^ suc m → 1 ≤ x / 10 → 48 < get_or (digits 10 (places m (x / 10)) (x / 10)) 0 0) → 48 < get_or (digits 10 (places (suc m) x) x) 0 0
    go (yes small) rest = rw (places-stop (suc m) x small) (alone x small some)
    go (no large) rest =
        let below : x < 10 ^ suc m * 10 = rw pow-suc at h in
        let high = digits 10 (places m (x / 10)) (x / 10) in
        let there : 0 < length high = omega (arith, length_digits 10 (places m (x / 10)) (x / 10), places-some m (x / 10)) in
        rw (places-next (suc m) m x refl (omega arith), get_or-append high (glyph (x % 10) ∷ []) 0 0 there) (rest (omega arith) (omega arith))

no-leading-zero : (x : ℕ) → x < 10 ^ 20 → leading_zero (decimal x) ≡ false
unfolding decimal
no-leading-zero x h = go (dec_lt x 10)
  where
    go : Dec (x < 10) → leading_zero (digits 10 (places 19 x) x) ≡ false
    go (yes small) = zero-alone (digits 10 (places 19 x) x) (omega (arith, length_digits 10 (places 19 x) x, places-stop 19 x small))
    go (no large) = zero-not (digits 10 (places 19 x) x) (λ e. omega (arith, first-digit 19 x h (omega arith)))

pub decimal-number : (x : ℕ) → x < 10 ^ 20 → is_number (decimal x) ≡ true
unfolding is_number
decimal-number x h =
    let some : 0 < length (decimal x) = omega (arith, length-decimal x, places-some 19 x) in
    simp (lt-ltb 0 (length (decimal x)) some, no-leading-zero x h) (decimal-digits x)
