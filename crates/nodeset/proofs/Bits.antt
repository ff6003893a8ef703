-- A set bit by bit, lowest first: what adding or taking a power of two does to `has` (specs/Sets). Each fact goes by
-- halving: node 1 is the number's last binary digit, and node x + 1 is node x of its half. Assumes nothing.
use Prim.Native.Nat.{ℕ, zero, suc, ◌+◌, ◌-◌, ◌*◌, ◌/◌, ◌%◌, ◌^◌, ◌≤◌, ◌<◌, min, max}
use mathlib.Core.Path.{◌≡◌, refl, sym, ap, ap₂, ◌∙◌}
use mathlib.Core.Logic.{◌≢◌}
use mathlib.Core.Bool.{Bool, true, false, not, xor, ◌&&◌, ◌||◌}
use native.Mathlib.Omega.{arith}
use native.Mathlib.Nat.{div-one, one-mul}
use native.Mathlib.Numerals.{one-add, add-one}
use lib.Dec.{eqb}
use lib.Bits.{bit_and, bit_or, bit_xor, differ, and_step, or_step, xor_step}
use lib.Pow.{shr-shr, pow_pos, pow_mono, mod-pow-add, shl_exact}
use borrow.Author.Tests.{eqb-true, eqb-false, eq-eqb, ne_eqb}
use Rattle.nodeset.specs.Sets.{has}

pub has_first : (s : ℕ) → has s 1 ≡ eqb (s % 2) 1
unfolding has
has_first s = ap (λ (q : ℕ). eqb (q % 2) 1) (div-one s)

pub has-next : (s i : ℕ) → has s (suc (suc i)) ≡ has (s / 2) (suc i)
unfolding has
has-next s i = ap (λ (q : ℕ). eqb (q % 2) 1) (ap (λ (e : ℕ). s / 2 ^ e) (sym (one-add i)) ∙ sym (shr-shr s 1 i))

-- the last digit, from what `has` says of node 1
pub odd : (s : ℕ) → has s 1 ≡ true → s % 2 ≡ 1
odd s e = eqb-true (s % 2) 1 (sym (has_first s) ∙ e)

pub even : (s : ℕ) → has s 1 ≡ false → s % 2 ≡ 0
even s e =
    let z : s % 2 ≢ 1 = eqb-false (s % 2) 1 (sym (has_first s) ∙ e) in
    omega (arith, z)

pub is_odd : (s : ℕ) → s % 2 ≡ 1 → has s 1 ≡ true
is_odd s e = has_first s ∙ eq-eqb (s % 2) 1 e

pub is-even : (s : ℕ) → s % 2 ≡ 0 → has s 1 ≡ false
is-even s e = has_first s ∙ ne_eqb (s % 2) 1 (λ p. omega arith)

-- ---- a power of two more or less

-- a set holds the power of each of its nodes
pub has-le : (s i : ℕ) → has s (suc i) ≡ true → 2 ^ i ≤ s
has-le s zero e = omega (arith, odd s e)
has-le s (suc i) e = omega (arith, has-le (s / 2) i (sym (has-next s i) ∙ e))

-- a power that the set lacks, added: that node is in
pub has_more : (s i : ℕ) → has s (suc i) ≡ false → has (s + 2 ^ i) (suc i) ≡ true
has_more s zero e = is_odd (s + 1) (omega (arith, even s e))
has_more s (suc i) e =
    let z : (s + 2 ^ suc i) / 2 ≡ s / 2 + 2 ^ i = omega arith in
    has-next (s + 2 ^ suc i) i ∙ ap (λ (q : ℕ). has q (suc i)) z ∙ has_more (s / 2) i (sym (has-next s i) ∙ e)

-- and every other node is as it was
pub has-more-other : (s i j : ℕ) → has s (suc i) ≡ false → i ≢ j → has (s + 2 ^ i) (suc j) ≡ has s (suc j)
has-more-other s zero zero e h = absurd (h refl)
has-more-other s zero (suc j) e h =
    let z : (s + 1) / 2 ≡ s / 2 = omega (arith, even s e) in
    has-next (s + 1) j ∙ ap (λ (q : ℕ). has q (suc j)) z ∙ sym (has-next s j)
has-more-other s (suc i) zero e h =
    let z : (s + 2 ^ suc i) % 2 ≡ s % 2 = omega arith in
    has_first (s + 2 ^ suc i) ∙ ap (λ (q : ℕ). eqb q 1) z ∙ sym (has_first s)
has-more-other s (suc i) (suc j) e h =
    let z : (s + 2 ^ suc i) / 2 ≡ s / 2 + 2 ^ i = omega arith in
    has-next (s + 2 ^ suc i) j ∙ ap (λ (q : ℕ). has q (suc j)) z
    ∙ has-more-other (s / 2) i j (sym (has-next s i) ∙ e) (λ p. h (ap suc p))
    ∙ sym (has-next s j)

-- a power that the set holds, taken: that node is out
pub has-less : (s i : ℕ) → has s (suc i) ≡ true → has (s - 2 ^ i) (suc i) ≡ false
has-less s zero e = is-even (s - 1) (omega (arith, odd s e))
has-less s (suc i) e =
    let z : (s - 2 ^ suc i) / 2 ≡ s / 2 - 2 ^ i = omega (arith, has-le s (suc i) e) in
    has-next (s - 2 ^ suc i) i ∙ ap (λ (q : ℕ). has q (suc i)) z ∙ has-less (s / 2) i (sym (has-next s i) ∙ e)

-- and every other node is as it was: adding the power again gives the set back
pub has-less-other : (s i j : ℕ) → has s (suc i) ≡ true → i ≢ j → has (s - 2 ^ i) (suc j) ≡ has s (suc j)
has-less-other s i j e h =
    let z : s - 2 ^ i + 2 ^ i ≡ s = omega (arith, has-le s i e) in
    sym (has-more-other (s - 2 ^ i) i j (has-less s i e) h) ∙ ap (λ (q : ℕ). has q (suc j)) z

-- a power that the set lacks fits beside it, below 2 ^ n
pub more_lt : (n s i : ℕ) → i < n → s < 2 ^ n → has s (suc i) ≡ false → s + 2 ^ i < 2 ^ n
more_lt zero s i h l e = absurd (elim h [ ])
more_lt (suc n) s zero h l e = omega (arith, even s e)
more_lt (suc n) s (suc i) h l e =
    omega (arith, more_lt n (s / 2) i (omega arith) (omega arith) (sym (has-next s i) ∙ e))

-- ---- particular sets

-- below 2 ^ n there are the nodes 1 to n alone
pub has-beyond : (n s x : ℕ) → s < 2 ^ n → n < x → has s x ≡ false
has-beyond n s zero l h = absurd (elim h [ ])
has-beyond n s (suc i) l h = go (has s (suc i)) refl
  where
    go : (b : Bool) → has s (suc i) ≡ b → b ≡ false
    go true e =
        let z : ⊥ = omega (arith, has-le s i e, pow_mono {i = n} {j = i} (omega arith)) in absurd z
    go false e = refl

pub has-none : (x : ℕ) → has 0 x ≡ false
unfolding has
has-none zero = refl
has-none (suc i) = has-beyond 0 0 (suc i) (omega arith) (omega arith)

pub has-ones : (n i : ℕ) → i < n → has (2 ^ n - 1) (suc i) ≡ true
has-ones zero i h = absurd (elim h [ ])
has-ones (suc n) zero h = is_odd (2 ^ suc n - 1) (omega (arith, pow_pos n))
has-ones (suc n) (suc i) h =
    let z : (2 ^ suc n - 1) / 2 ≡ 2 ^ n - 1 = omega (arith, pow_pos n) in
    has-next (2 ^ suc n - 1) i ∙ ap (λ (q : ℕ). has q (suc i)) z ∙ has-ones n i (omega arith)

-- ---- two numbers with the same nodes are one

pub bit-ext : (n a b : ℕ) → a < 2 ^ n → b < 2 ^ n → ((i : ℕ) → i < n → has a (suc i) ≡ has b (suc i)) → a ≡ b
bit-ext zero a b p q h = omega arith
bit-ext (suc n) a b p q h =
    let r : a / 2 ≡ b / 2 = bit-ext n (a / 2) (b / 2) (omega arith) (omega arith) (λ i l. sym (has-next a i) ∙ h (suc i) (omega arith) ∙ has-next b i) in
    let z : a % 2 ≡ b % 2 = go (has b 1) (h zero (omega arith)) refl in
    omega arith
  where
    go : (y : Bool) → has a 1 ≡ has b 1 → has b 1 ≡ y → a % 2 ≡ b % 2
    go true e f = odd a (e ∙ f) ∙ sym (odd b f)
    go false e f = even a (e ∙ f) ∙ sym (even b f)

-- ---- the lower digits, and the digits in which two numbers differ

-- s below 2 ^ (m + 1): its half below 2 ^ m, and its last digit
mod-halves : (s m : ℕ) → s % 2 ^ suc m ≡ s / 2 % 2 ^ m * 2 + s % 2
mod-halves s m = ap (λ (e : ℕ). s % 2 ^ e) (sym (add-one m)) ∙ mod-pow-add s m 1

pub has-mod : (m s i : ℕ) → i < m → has (s % 2 ^ m) (suc i) ≡ has s (suc i)
has-mod zero s i h = absurd (elim h [ ])
has-mod (suc m) s zero h =
    let z : s % 2 ^ suc m % 2 ≡ s % 2 = omega (arith, mod-halves s m) in
    has_first (s % 2 ^ suc m) ∙ ap (λ (q : ℕ). eqb q 1) z ∙ sym (has_first s)
has-mod (suc m) s (suc i) h =
    let z : s % 2 ^ suc m / 2 ≡ s / 2 % 2 ^ m = omega (arith, mod-halves s m) in
    has-next (s % 2 ^ suc m) i ∙ ap (λ (q : ℕ). has q (suc i)) z ∙ has-mod m (s / 2) i (omega arith) ∙ sym (has-next s i)

digit-le : (a b : ℕ) → a < 2 → b < 2 → differ a b < 2
digit-le zero b h l = l
digit-le (suc zero) zero h l = omega arith
digit-le (suc zero) (suc zero) h l = omega arith
digit-le (suc zero) (suc (suc b)) h l = let z : ⊥ = omega arith in absurd z
digit-le (suc (suc a)) b h l = let z : ⊥ = omega arith in absurd z

digit-xor : (a b : ℕ) → a < 2 → b < 2 → eqb (differ a b) 1 ≡ xor (eqb a 1) (eqb b 1)
unfolding xor
digit-xor zero zero h l = refl
digit-xor zero (suc zero) h l = refl
digit-xor zero (suc (suc b)) h l = let z : ⊥ = omega arith in absurd z
digit-xor (suc zero) zero h l = refl
digit-xor (suc zero) (suc zero) h l = refl
digit-xor (suc zero) (suc (suc b)) h l = let z : ⊥ = omega arith in absurd z
digit-xor (suc (suc a)) b h l = let z : ⊥ = omega arith in absurd z

pub has-xor : (a b i : ℕ) → has (bit_xor a b) (suc i) ≡ xor (has a (suc i)) (has b (suc i))
has-xor a b zero =
    let d : differ (a % 2) (b % 2) < 2 = digit-le (a % 2) (b % 2) (omega arith) (omega arith) in
    let z : bit_xor a b % 2 ≡ differ (a % 2) (b % 2) = omega (arith, xor_step a b, d) in
    has_first (bit_xor a b) ∙ ap (λ (q : ℕ). eqb q 1) z
    ∙ digit-xor (a % 2) (b % 2) (omega arith) (omega arith)
    ∙ ap₂ xor (sym (has_first a)) (sym (has_first b))
has-xor a b (suc i) =
    let d : differ (a % 2) (b % 2) < 2 = digit-le (a % 2) (b % 2) (omega arith) (omega arith) in
    let z : bit_xor a b / 2 ≡ bit_xor (a / 2) (b / 2) = omega (arith, xor_step a b, d) in
    has-next (bit_xor a b) i ∙ ap (λ (q : ℕ). has q (suc i)) z ∙ has-xor (a / 2) (b / 2) i
    ∙ ap₂ xor (sym (has-next a i)) (sym (has-next b i))

-- ---- the digits that two numbers share, and those that one lacks

digit_and : (a b : ℕ) → a < 2 → b < 2 → (min a b < 2) × (eqb (min a b) 1 ≡ (eqb a 1 && eqb b 1))
digit_and zero b h l = (omega arith, ne_eqb (min 0 b) 1 (λ e. omega arith))
digit_and (suc zero) zero h l = (omega arith, refl)
digit_and (suc zero) (suc zero) h l = (omega arith, refl)
digit_and (suc zero) (suc (suc b)) h l = let z : ⊥ = omega arith in absurd z
digit_and (suc (suc a)) b h l = let z : ⊥ = omega arith in absurd z

pub has-and : (a b i : ℕ) → has (bit_and a b) (suc i) ≡ (has a (suc i) && has b (suc i))
has-and a b zero =
    let d = digit_and (a % 2) (b % 2) (omega arith) (omega arith) in
    let z : bit_and a b % 2 ≡ min (a % 2) (b % 2) = omega (arith, and_step a b) in
    has_first (bit_and a b) ∙ ap (λ (q : ℕ). eqb q 1) z ∙ d.1 ∙ ap₂ ◌&&◌ (sym (has_first a)) (sym (has_first b))
has-and a b (suc i) =
    let z : bit_and a b / 2 ≡ bit_and (a / 2) (b / 2) = omega (arith, and_step a b) in
    has-next (bit_and a b) i ∙ ap (λ (q : ℕ). has q (suc i)) z ∙ has-and (a / 2) (b / 2) i
    ∙ ap₂ ◌&&◌ (sym (has-next a i)) (sym (has-next b i))

-- ---- the digits of one of two numbers or of both

digit_or : (a b : ℕ) → a < 2 → b < 2 → (max a b < 2) × (eqb (max a b) 1 ≡ (eqb a 1 || eqb b 1))
digit_or zero zero h l = (omega arith, refl)
digit_or zero (suc zero) h l = (omega arith, refl)
digit_or zero (suc (suc b)) h l = let z : ⊥ = omega arith in absurd z
digit_or (suc zero) zero h l = (omega arith, refl)
digit_or (suc zero) (suc zero) h l = (omega arith, refl)
digit_or (suc zero) (suc (suc b)) h l = let z : ⊥ = omega arith in absurd z
digit_or (suc (suc a)) b h l = let z : ⊥ = omega arith in absurd z

pub has-or : (a b i : ℕ) → has (bit_or a b) (suc i) ≡ (has a (suc i) || has b (suc i))
has-or a b zero =
    let d = digit_or (a % 2) (b % 2) (omega arith) (omega arith) in
    let z : bit_or a b % 2 ≡ max (a % 2) (b % 2) = omega (arith, or_step a b) in
    has_first (bit_or a b) ∙ ap (λ (q : ℕ). eqb q 1) z ∙ d.1 ∙ ap₂ ◌||◌ (sym (has_first a)) (sym (has_first b))
has-or a b (suc i) =
    let z : bit_or a b / 2 ≡ bit_or (a / 2) (b / 2) = omega (arith, or_step a b) in
    has-next (bit_or a b) i ∙ ap (λ (q : ℕ). has q (suc i)) z ∙ has-or (a / 2) (b / 2) i
    ∙ ap₂ ◌||◌ (sym (has-next a i)) (sym (has-next b i))

-- the complement within n digits
pub has-not : (n s i : ℕ) → i < n → s < 2 ^ n → has (2 ^ n - 1 - s) (suc i) ≡ not (has s (suc i))
has-not zero s i h l = absurd (elim h [ ])
has-not (suc n) s zero h l =
    go (has s 1) refl
  where
    go : (b : Bool) → has s 1 ≡ b → has (2 ^ suc n - 1 - s) 1 ≡ not (has s 1)
    go true e = is-even (2 ^ suc n - 1 - s) (omega (arith, odd s e, pow_pos n)) ∙ ap not (sym e)
    go false e = is_odd (2 ^ suc n - 1 - s) (omega (arith, even s e, pow_pos n)) ∙ ap not (sym e)
has-not (suc n) s (suc i) h l =
    let z : (2 ^ suc n - 1 - s) / 2 ≡ 2 ^ n - 1 - s / 2 = omega (arith, pow_pos n) in
    has-next (2 ^ suc n - 1 - s) i ∙ ap (λ (q : ℕ). has q (suc i)) z ∙ has-not n (s / 2) i (omega arith) (omega arith)
    ∙ ap not (sym (has-next s i))

-- ---- the machine's words

-- the quotient that a shift right gives
pub has-at : (s x : ℕ) → 1 ≤ x → has s x ≡ eqb (s / 2 ^ (x - 1) % 2) 1
unfolding has
has-at s zero h = absurd (elim h [ ])
has-at s (suc i) h = let z : i ≡ suc i - 1 = omega arith in ap (λ (e : ℕ). eqb (s / 2 ^ e % 2) 1) z

-- one shifted left within a word
pub shifted_one : (w i : ℕ) → i < w → 1 * 2 ^ i % 2 ^ w ≡ 2 ^ i
shifted_one w i h = shl_exact 1 i w (omega arith) (omega arith) ∙ one-mul (2 ^ i)
