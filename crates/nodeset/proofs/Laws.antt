-- The laws of sets of nodes that the layers above use in place of the definitions (specs/Sets), for all n together.
-- Each comes from the facts about single bits in Bits. Assumes nothing.
use Prim.Native.Nat.{ℕ, zero, suc, ◌+◌, ◌-◌, ◌^◌, ◌≤◌, ◌<◌, min}
use mathlib.Core.Path.{◌≡◌, refl, sym, ap, ◌∙◌}
use mathlib.Core.Logic.{◌≢◌}
use mathlib.Core.Bool.{Bool, true, false, cond, ◌||◌, true≢false, and-false}
use native.Mathlib.Omega.{arith}
use native.Mathlib.Decide.{dec_le, dec_lt, ℕ_discrete}
use lib.Dec.{eqb, ltb}
use lib.Bits.{or_lt}
use lib.Pow.{pow_pos, pow_mono}
use borrow.Author.Tests.{lt-ltb, le-ltb, eqb-true, eqb-false}
use Rattle.nodeset.specs.Sets.{has, with, without, union, full}
use Rattle.nodeset.proofs.Tests.{by_cases, or_right}
use Rattle.nodeset.proofs.Bits.{has_more, has-more-other, has-less, has-less-other, more_lt, has-beyond, has-ones, has-or, bit-ext}

-- ---- with and without, by whether the node is there

pub with-there : (s x : ℕ) → has s x ≡ true → with s x ≡ s
unfolding with
with-there s zero e = refl
with-there s (suc i) e = rw e (ap (λ (b : Bool). cond b (s + 2 ^ i) s) (and-false (ltb i 32)))

pub with-new : (s i : ℕ) → i < 32 → has s (suc i) ≡ false → with s (suc i) ≡ s + 2 ^ i
unfolding with
with-new s i h e = rw (e, lt-ltb i 32 h) refl

pub with-beyond : (s i : ℕ) → 32 ≤ i → with s (suc i) ≡ s
unfolding with
with-beyond s i h = rw (le-ltb i 32 h) refl

pub without-there : (s i : ℕ) → has s (suc i) ≡ true → without s (suc i) ≡ s - 2 ^ i
unfolding without
without-there s i e = rw e refl

pub without-absent : (s x : ℕ) → has s x ≡ false → without s x ≡ s
unfolding without
without-absent s zero e = refl
without-absent s (suc i) e = rw e refl

-- ---- membership after with and without

pub has-with : (s x : ℕ) → 1 ≤ x → x ≤ 32 → has (with s x) x ≡ true
has-with s zero h l = absurd (elim h [ ])
has-with s (suc i) h l =
    by_cases (has s (suc i))
    (λ e. ap (λ (q : ℕ). has q (suc i)) (with-there s (suc i) e) ∙ e)
    (λ e. ap (λ (q : ℕ). has q (suc i)) (with-new s i l e) ∙ has_more s i e)

pub has-with-other : (s x y : ℕ) → x ≢ y → has (with s x) y ≡ has s y
unfolding has with
has-with-other s zero y h = refl
has-with-other s (suc i) zero h = refl
has-with-other s (suc i) (suc j) h = go (dec_lt i 32)
  where
    stays : with s (suc i) ≡ s → has (with s (suc i)) (suc j) ≡ has s (suc j)
    stays e = ap (λ (q : ℕ). has q (suc j)) e

    go : Dec (i < 32) → has (with s (suc i)) (suc j) ≡ has s (suc j)
    go (yes l) =
        by_cases (has s (suc i))
        (λ e. stays (with-there s (suc i) e))
        (λ e. ap (λ (q : ℕ). has q (suc j)) (with-new s i l e) ∙ has-more-other s i j e (λ p. h (ap suc p)))
    go (no l) = stays (with-beyond s i (omega arith))

pub has-without : (s x : ℕ) → has (without s x) x ≡ false
unfolding has without
has-without s zero = refl
has-without s (suc i) =
    by_cases (has s (suc i))
    (λ e. ap (λ (q : ℕ). has q (suc i)) (without-there s i e) ∙ has-less s i e)
    (λ e. ap (λ (q : ℕ). has q (suc i)) (without-absent s (suc i) e) ∙ e)

pub has-without-other : (s x y : ℕ) → x ≢ y → has (without s x) y ≡ has s y
unfolding has without
has-without-other s zero y h = refl
has-without-other s (suc i) zero h = refl
has-without-other s (suc i) (suc j) h =
    by_cases (has s (suc i))
    (λ e. ap (λ (q : ℕ). has q (suc j)) (without-there s i e) ∙ has-less-other s i j e (λ p. h (ap suc p)))
    (λ e. ap (λ (q : ℕ). has q (suc j)) (without-absent s (suc i) e))

-- a set without a node is a part of it
pub without-part : (s x y : ℕ) → has (without s x) y ≡ true → has s y ≡ true
without-part s x y e = go (ℕ_discrete x y)
  where
    go : Dec (x ≡ y) → has s y ≡ true
    go (yes p) = absurd (true≢false (sym e ∙ rw p (has-without s y)))
    go (no p) = sym (has-without-other s x y p) ∙ e

-- ---- sets of the nodes 1 to n are the numbers below 2 ^ n

pub with-lt : (n s x : ℕ) → x ≤ n → s < 2 ^ n → with s x < 2 ^ n
unfolding with
with-lt n s zero h l = l
with-lt n s (suc i) h l = go (dec_lt i 32)
  where
    go : Dec (i < 32) → with s (suc i) < 2 ^ n
    go (yes d) =
        by_cases (has s (suc i))
        (λ e. omega (arith, with-there s (suc i) e))
        (λ e. omega (arith, with-new s i d e, more_lt n s i h l e))
    go (no d) = omega (arith, with-beyond s i (omega arith))

pub without-lt : (n s x : ℕ) → s < 2 ^ n → without s x < 2 ^ n
unfolding without
without-lt n s zero l = l
without-lt n s (suc i) l =
    by_cases (has s (suc i)) (λ e. omega (arith, without-there s i e)) (λ e. omega (arith, without-absent s (suc i) e))

pub full-lt : (n : ℕ) → full n < 2 ^ n
unfolding full
full-lt n = omega (arith, pow_pos (min n 32), pow_mono {i = min n 32} {j = n} (omega arith))

pub has-full : (n x : ℕ) → 1 ≤ x → x ≤ n → x ≤ 32 → has (full n) x ≡ true
unfolding full
has-full n zero h l m = absurd (elim h [ ])
has-full n (suc i) h l m = has-ones (min n 32) i (omega arith)

-- a node of such a set is one of 1 to n
pub has-range : (n s x : ℕ) → s < 2 ^ n → has s x ≡ true → (1 ≤ x) × (x ≤ n)
unfolding has
has-range n s zero l e = absurd (true≢false (sym e))
has-range n s (suc i) l e = go (dec_le (suc i) n)
  where
    go : Dec (suc i ≤ n) → (1 ≤ suc i) × (suc i ≤ n)
    go (yes h) = (omega arith, h)
    go (no h) = absurd (true≢false (sym e ∙ has-beyond n s (suc i) l (omega arith)))

-- extensionality: two sets of the nodes 1 to n that have the same nodes are equal
pub set-ext : (n a b : ℕ) → a < 2 ^ n → b < 2 ^ n → ((x : ℕ) → 1 ≤ x → x ≤ n → has a x ≡ has b x) → a ≡ b
set-ext n a b p q h = bit-ext n a b p q (λ i l. h (suc i) (omega arith) l)

-- ---- the union

-- a number above 32 names no node
pub with-above : (s x : ℕ) → 32 < x → with s x ≡ s
with-above s zero h = absurd (elim h [ ])
with-above s (suc i) h = with-beyond s i (omega arith)

pub with-lt-32 : (s x : ℕ) → s < 2 ^ 32 → with s x < 2 ^ 32
with-lt-32 s x l = go (dec_le x 32)
  where
    go : Dec (x ≤ 32) → with s x < 2 ^ 32
    go (yes h) = with-lt 32 s x h l
    go (no h) = omega (arith, with-above s x (omega arith))

pub has-union : (a b y : ℕ) → 1 ≤ y → has (union a b) y ≡ (has a y || has b y)
has-union a b zero h = absurd (elim h [ ])
has-union a b (suc i) h = has-or a b i

-- a node more in the second set is one more in the union
pub union-with : (a b x : ℕ) → a < 2 ^ 32 → b < 2 ^ 32 → with (union a b) x ≡ union a (with b x)
union-with a b x p q =
    set-ext 32 (with (union a b) x) (union a (with b x)) (with-lt-32 (union a b) x (or_lt 32 a b p q)) (or_lt 32 a (with b x) p (with-lt-32 b x q)) same
  where
    there : (y : ℕ) → 1 ≤ y → y ≤ 32 → x ≡ y → has (with (union a b) x) y ≡ (has a y || has (with b x) y)
    there y h l e =
        let u : has (with (union a b) x) y ≡ true = ap (λ (z : ℕ). has (with (union a b) z) y) e ∙ has-with (union a b) y h l in
        let w : has (with b x) y ≡ true = ap (λ (z : ℕ). has (with b z) y) e ∙ has-with b y h l in
        u ∙ sym (or_right (has a y) (has (with b x) y) w)

    other : (y : ℕ) → 1 ≤ y → x ≢ y → has (with (union a b) x) y ≡ (has a y || has (with b x) y)
    other y h e =
        has-with-other (union a b) x y e ∙ has-union a b y h ∙ ap (λ (t : Bool). has a y || t) (sym (has-with-other b x y e))

    same : (y : ℕ) → 1 ≤ y → y ≤ 32 → has (with (union a b) x) y ≡ has (union a (with b x)) y
    same y h l =
        by_cases (eqb x y) (λ e. there y h l (eqb-true x y e)) (λ e. other y h (eqb-false x y e))
        ∙ sym (has-union a (with b x) y h)
