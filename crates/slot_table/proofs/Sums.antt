-- Sums over numbers in a row whose terms are few, and two sums one in the other. Assumes nothing.
use Prim.Native.Nat.{ℕ, zero, suc, ◌+◌, ◌-◌, ◌≤◌, ◌<◌}
use mathlib.Core.Path.{◌≡◌, refl, sym, ap, ◌∙◌}
use mathlib.Core.Logic.{◌≢◌}
use native.Mathlib.Omega.{arith}
use native.Mathlib.Decide.{ℕ_discrete, dec_le}
use Rattle.nodeset.specs.Sums.{sum}
use Rattle.nodeset.proofs.Sums.{sum-none, sum-next, sum-add, sum-at, sum-zero, sum-split}

-- a sum with one term
pub sum-single : (f : ℕ → ℕ) (a m q : ℕ) → a ≤ q → q < a + m → ((u : ℕ) → a ≤ u → u < a + m → u ≢ q → f u ≡ 0) → sum f a m ≡ f q
sum-single f a zero q p l h = let z : ⊥ = omega arith in absurd z
sum-single f a (suc m) q p l h = go (λ (b : q < a + m). sum-single f a m q p b (λ u x y ne. h u x (omega arith) ne)) (ℕ_discrete q (a + m))
  where
    go : (q < a + m → sum f a m ≡ f q) → Dec (q ≡ a + m) → sum f a (suc m) ≡ f q
    go r (yes e) = omega (arith, sum-next f a m, ap f e, sum-zero f a m (λ u x y. h u x (omega arith) (λ z. let w : ⊥ = omega arith in w)))
    go r (no e) = omega (arith, sum-next f a m, r (omega arith), h (a + m) (omega arith) (omega arith) (λ z. e (sym z)))

-- a term that counts, where a sum does
pub sum-some : (f : ℕ → ℕ) (a m : ℕ) → 1 ≤ sum f a m → (u : ℕ) × (a ≤ u) × (u < a + m) × (1 ≤ f u)
sum-some f a zero h = let z : ⊥ = omega (arith, sum-none f a) in absurd z
sum-some f a (suc m) h = go (λ (b : 1 ≤ sum f a m). sum-some f a m b) (dec_le 1 (f (a + m)))
  where
    go : (1 ≤ sum f a m → (u : ℕ) × (a ≤ u) × (u < a + m) × (1 ≤ f u)) → Dec (1 ≤ f (a + m)) → (u : ℕ) × (a ≤ u) × (u < a + suc m) × (1 ≤ f u)
    go r (yes e) = (a + m, omega arith, omega arith, e)
    go r (no e) = let x = r (omega (arith, sum-next f a m)) in (x.0, x.1, omega (arith, x.2), x.3)

-- two terms
pub sum-two : (f : ℕ → ℕ) (a m p q : ℕ) → a ≤ p → p < q → q < a + m → f p + f q ≤ sum f a m
sum-two f a zero p q h i l = let z : ⊥ = omega arith in absurd z
sum-two f a (suc m) p q h i l = go (λ (b : q < a + m). sum-two f a m p q h i b) (ℕ_discrete q (a + m))
  where
    go : (q < a + m → f p + f q ≤ sum f a m) → Dec (q ≡ a + m) → f p + f q ≤ sum f a (suc m)
    go r (yes e) = omega (arith, sum-next f a m, ap f e, sum-at f a m p h (omega arith))
    go r (no e) = omega (arith, sum-next f a m, r (omega arith))

-- terms of 1 at most
most : (f : ℕ → ℕ) → ((u : ℕ) → f u ≤ 1) → (a m : ℕ) → sum f a m ≤ m
most f h a zero = omega (arith, sum-none f a)
most f h a (suc m) = omega (arith, sum-next f a m, most f h a m, h (a + m))

-- are 1 each where their sum is their number
pub sum-all : (f : ℕ → ℕ) (a m : ℕ) → ((u : ℕ) → f u ≤ 1) → m ≤ sum f a m → (u : ℕ) → a ≤ u → u < a + m → 1 ≤ f u
sum-all f a m h s u p q = go (dec_le 1 (f u))
  where
    go : Dec (1 ≤ f u) → 1 ≤ f u
    go (yes e) = e
    go (no e) =
        let d : ℕ = u - a in
        let l : ℕ = m - suc d in
        let z : m ≡ suc d + l = omega arith in
        let y : a + d ≡ u = omega arith in
        let bad : ⊥ = omega (arith, ap (sum f a) z, sum-split f a (suc d) l, sum-next f a d, ap f y, most f h a d, most f h (a + suc d) l) in
        absurd bad

-- terms of 1 at least, and one of them
pub sum-least : (f : ℕ → ℕ) (a m q : ℕ) → ((u : ℕ) → a ≤ u → u < a + m → 1 ≤ f u) → a ≤ q → q < a + m → m + f q ≤ suc (sum f a m)
sum-least f a m q h p l =
    let d : ℕ = q - a in
    let e : ℕ = m - suc d in
    let z : m ≡ suc d + e = omega arith in
    let y : a + d ≡ q = omega arith in
    omega (
      arith,
      ap (sum f a) z,
      sum-split f a (suc d) e,
      sum-next f a d,
      ap f y,
      least a d (λ u x w. h u x (omega arith)),
      least (a + suc d) e (λ u x w. h u (omega arith) (omega arith)),
    )
  where
    least : (a m : ℕ) → ((u : ℕ) → a ≤ u → u < a + m → 1 ≤ f u) → m ≤ sum f a m
    least a zero h = omega (arith, sum-none f a)
    least a (suc m) h = omega (arith, sum-next f a m, least a m (λ u x w. h u x (omega arith)), h (a + m) (omega arith) (omega arith))

-- the order of two sums
pub sum-swap : (f : ℕ → ℕ → ℕ) (a m b l : ℕ) → sum (λ i. sum (f i) b l) a m ≡ sum (λ j. sum (λ i. f i j) a m) b l
unfolding sum
sum-swap f a zero b l = sym (sum-zero (λ j. 0) b l (λ u p q. refl))
sum-swap f a (suc m) b l = ap (λ (x : ℕ). x + sum (f (a + m)) b l) (sum-swap f a m b l) ∙ sym (sum-add (λ j. sum (λ i. f i j) a m) (f (a + m)) b l)
