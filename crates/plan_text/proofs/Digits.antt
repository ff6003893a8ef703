-- How many digits a number takes, how long the parts of a line are, and that line numbers are exact for 2 ^ 64 lines.
-- Assumes nothing.
use Rattle.std.specs.Prelude.{None, Some}
use Prim.Native.Nat.{ℕ, zero, suc, ◌+◌, ◌/◌, ◌%◌, ◌≤◌, ◌<◌, ◌*◌, ◌^◌}
use mathlib.Core.Path.{◌≡◌, refl, ap, ◌∙◌}
use mathlib.Core.Bool.{Bool, true, false, cond}
use mathlib.Core.List.{[], ◌∷◌}
use native.Mathlib.Omega.{arith}
use native.Mathlib.Nat.{pow-suc}
use lib.ListN.{length, length-append}
use lib.Dec.{ltb}
use borrow.Author.Tests.{lt-ltb, le-ltb}
use Rattle.plan_text.specs.Text.{decimal, digits, fate_text, glyph, next_line, number_then, places, refusal_text, shown_text}
use Rattle.bench.specs.declared.Fate.{Fate}
use Rattle.bench.specs.declared.Fate.TheVariants.{Silent, Lost, Knock, Sent}
use Rattle.bench.specs.Answers.{Listed}

pub places-stop : (m x : ℕ) → x < 10 → places m x ≡ 1
unfolding places
places-stop zero x h = refl
places-stop (suc m) x h = simp (lt-ltb x 10 h)

pub places-next : (m k x : ℕ) → m ≡ suc k → 10 ≤ x → places m x ≡ suc (places k (x / 10))
unfolding places
places-next m k x e h = ap (λ (j : ℕ). places j x) e ∙ simp (le-ltb x 10 h)

power-some : (k : ℕ) → 1 ≤ 10 ^ k
power-some zero = omega arith
power-some (suc k) = rw pow-suc (omega (arith, power-some k))

-- a number has one place more than its logarithm
pub places-log : (m k x : ℕ) → k ≤ m → 10 ^ k ≤ x → x < 10 * 10 ^ k → places m x ≡ suc k
unfolding places
places-log zero zero x few low high = refl
places-log zero (suc k) x few low high = absurd (omega arith)
places-log (suc m) zero x few low high = places-stop (suc m) x (omega arith)
places-log (suc m) (suc k) x few low high =
    let more : 10 ^ k * 10 ≤ x = rw pow-suc at low in
    let less : x < 10 * (10 ^ k * 10) = rw pow-suc at high in
    places-next (suc m) m x refl (omega (arith, power-some k)) ∙ ap suc (places-log m k (x / 10) (omega arith) (omega arith) (omega arith))

pub places-most : (m x : ℕ) → places m x ≤ suc m
unfolding places
places-most zero x = omega arith
places-most (suc m) x = go (ltb x 10) (places-most m (x / 10))
  where
    go : (t : Bool) → places m (x / 10) ≤ suc m → cond t 1 (suc (places m (x / 10))) ≤ suc (suc m)
    go true h = omega arith
    go false h = omega arith

pub places-some : (m x : ℕ) → 1 ≤ places m x
unfolding places
places-some zero x = omega arith
places-some (suc m) x = go (ltb x 10)
  where
    go : (t : Bool) → 1 ≤ cond t 1 (suc (places m (x / 10)))
    go true = omega arith
    go false = omega arith

pub length_digits : (base count x : ℕ) → length (digits base count x) ≡ count
unfolding digits
length_digits base zero x = refl
length_digits base (suc count) x =
    omega (arith, length-append (digits base count (x / base)) (glyph (x % base) ∷ []), length_digits base count (x / base))

pub length-decimal : (x : ℕ) → length (decimal x) ≡ places 19 x
unfolding decimal
length-decimal x = length_digits 10 (places 19 x) x

pub decimal-short : (x : ℕ) → length (decimal x) ≤ 20
decimal-short x = omega (arith, length-decimal x, places-most 19 x)

pub number_short : (byte x : ℕ) → length (number_then byte x) ≤ 21
number_short byte x = omega (arith, length-append (decimal x) (byte ∷ []), decimal-short x)

pub fate-short : (fate : Fate) → length (fate_text fate) ≤ 7
fate-short Silent = omega arith
fate-short Lost = omega arith
fate-short Knock = omega arith
fate-short Sent = omega arith

pub shown-short : (shown : Listed) → length (shown_text shown) ≤ 9
shown-short (Some set) = omega (arith, length-append (digits 16 8 set) (32 ∷ []), length_digits 16 8 set)
shown-short None = omega arith

pub refusal-short : (line cause : ℕ) → length (refusal_text line cause) ≤ 80
unfolding refusal_text
refusal-short line cause = simp length-append (omega (arith, decimal-short line, decimal-short cause))

pub exact : (lines : ℕ) → lines + 1 < 18446744073709551616 → next_line lines ≡ lines + 1
unfolding next_line
exact lines h = simp (lt-ltb lines 18446744073709551615 (omega arith))
