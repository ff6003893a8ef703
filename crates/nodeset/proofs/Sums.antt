-- Laws of sums over numbers in a row (specs/Sums). Assumes nothing.
use Prim.Native.Nat.{ℕ, zero, suc, ◌+◌, ◌-◌, ◌≤◌, ◌<◌}
use mathlib.Core.Path.{◌≡◌, refl, sym, ap}
use mathlib.Core.Logic.{◌≢◌}
use mathlib.Core.Bool.{Bool, true, false}
use native.Mathlib.Omega.{arith}
use native.Mathlib.Nat.{add-zero, add-suc}
use native.Mathlib.Decide.{ℕ_discrete, dec_lt}
use Rattle.nodeset.specs.Sums.{sum, num}

-- ---- the two clauses of the definition

pub sum-none : (f : ℕ → ℕ) (a : ℕ) → sum f a 0 ≡ 0
unfolding sum
sum-none f a = refl

pub sum-next : (f : ℕ → ℕ) (a m : ℕ) → sum f a (suc m) ≡ sum f a m + f (a + m)
unfolding sum
sum-next f a m = refl

-- ---- the terms of a sum

-- sums keep order
pub sum-le : (f g : ℕ → ℕ) (a m : ℕ) → ((u : ℕ) → a ≤ u → u < a + m → f u ≤ g u) → sum f a m ≤ sum g a m
unfolding sum
sum-le f g a zero h = omega arith
sum-le f g a (suc m) h =
    omega (arith, sum-le f g a m (λ u p q. h u p (omega arith)), h (a + m) (omega arith) (omega arith))

pub sum_same : (f g : ℕ → ℕ) (a m : ℕ) → ((u : ℕ) → a ≤ u → u < a + m → f u ≡ g u) → sum f a m ≡ sum g a m
sum_same f g a m h =
    omega (arith, sum-le f g a m (λ u p q. omega (arith, h u p q)), sum-le g f a m (λ u p q. omega (arith, h u p q)))

pub sum-add : (f g : ℕ → ℕ) (a m : ℕ) → sum (λ u. f u + g u) a m ≡ sum f a m + sum g a m
unfolding sum
sum-add f g a zero = refl
sum-add f g a (suc m) = omega (arith, sum-add f g a m)

-- a term is no more than the sum
pub sum-at : (f : ℕ → ℕ) (a m q : ℕ) → a ≤ q → q < a + m → f q ≤ sum f a m
unfolding sum
sum-at f a zero q h l = let z : ⊥ = omega arith in absurd z
sum-at f a (suc m) q h l = go (λ (p : q < a + m). sum-at f a m q h p) (ℕ_discrete q (a + m))
  where
    go : (q < a + m → f q ≤ sum f a m) → Dec (q ≡ a + m) → f q ≤ sum f a m + f (a + m)
    go r (yes e) = omega (arith, ap f e)
    go r (no e) = omega (arith, r (omega arith))

-- a sum of nothings is nothing
pub sum-zero : (f : ℕ → ℕ) (a m : ℕ) → ((u : ℕ) → a ≤ u → u < a + m → f u ≡ 0) → sum f a m ≡ 0
unfolding sum
sum-zero f a zero h = refl
sum-zero f a (suc m) h =
    omega (arith, sum-zero f a m (λ u p q. h u p (omega arith)), h (a + m) (omega arith) (omega arith))

-- two functions that agree at every number but q
pub sum-but : (f g : ℕ → ℕ) (a m q : ℕ) → a ≤ q → q < a + m → ((u : ℕ) → u ≢ q → f u ≡ g u) → sum f a m + g q ≡ sum g a m + f q
unfolding sum
sum-but f g a zero q p l h = let z : ⊥ = omega arith in absurd z
sum-but f g a (suc m) q p l h = go (λ (l : q < a + m). sum-but f g a m q p l h) (ℕ_discrete q (a + m))
  where
    go : (q < a + m → sum f a m + g q ≡ sum g a m + f q) → Dec (q ≡ a + m) → sum f a m + f (a + m) + g q ≡ sum g a m + g (a + m) + f q
    go r (yes e) = omega (arith, sum_same f g a m (λ u i j. h u (λ z. omega arith)), ap f e, ap g e)
    go r (no e) = omega (arith, r (omega arith), h (a + m) (λ z. e (sym z)))

-- ---- the row moved, cut and turned

-- f at the next number, over the row before
pub sum_moved : (f : ℕ → ℕ) (a m : ℕ) → sum (λ u. f (suc u)) a m ≡ sum f (suc a) m
unfolding sum
sum_moved f a zero = refl
sum_moved f a (suc m) =
    let e : suc a + m ≡ suc (a + m) = omega arith in
    omega (arith, sum_moved f a m, ap f e)

-- a row moved on by one loses its first term and gains the next
pub shift : (f : ℕ → ℕ) (a m : ℕ) → sum f (suc a) m + f a ≡ sum f a m + f (a + m)
unfolding sum
shift f a zero = ap (λ (x : ℕ). 0 + f x) (sym (add-zero a))
shift f a (suc m) =
    let e : suc a + m ≡ a + suc m = omega arith in
    let d : f (suc a + m) ≡ f (a + suc m) = ap f e in
    omega (arith, shift f a m)

-- the first term apart
pub sum_first : (f : ℕ → ℕ) (a m : ℕ) → sum f a (suc m) ≡ f a + sum f (suc a) m
unfolding sum
sum_first f a m = omega (arith, shift f a m)

-- a row in two parts
pub sum-split : (f : ℕ → ℕ) (a m d : ℕ) → sum f a (m + d) ≡ sum f a m + sum f (a + m) d
unfolding sum
sum-split f a m zero = omega (arith, ap (sum f a) (add-zero m))
sum-split f a m (suc d) =
    let z : a + m + d ≡ a + (m + d) = omega arith in
    omega (arith, ap (sum f a) (add-suc m d), sum-split f a m d, ap f z)

-- the terms from a later place on are no more than all
pub sum-tail : (f : ℕ → ℕ) (d a m : ℕ) → sum f (a + d) m ≤ sum f a (d + m)
sum-tail f d a m = omega (arith, sum-split f a d m)

-- nor are they with an earlier term
pub sum-rest : (f : ℕ → ℕ) (a m b l : ℕ) → a < b → a + m ≡ b + l → f a + sum f b l ≤ sum f a m
sum-rest f a m b l h e =
    let d = b - suc a in
    let z : m ≡ suc (d + l) = omega arith in
    let y : b ≡ suc a + d = omega arith in
    omega (arith, ap (sum f a) z, sum_first f a (d + l), sum-tail f d (suc a) l, ap (λ (x : ℕ). sum f x l) y)

-- two places from which on the sum is the same, and where the term counts, are one
pub one_place : (f : ℕ → ℕ) (j a m b l : ℕ) → a + m ≡ b + l → sum f a m ≡ j → sum f b l ≡ j → 1 ≤ f a → 1 ≤ f b → a ≡ b
one_place f j a m b l z p q x y = go (dec_lt a b) (dec_lt b a)
  where
    go : Dec (a < b) → Dec (b < a) → a ≡ b
    go (yes h) d = let c : ⊥ = omega (arith, sum-rest f a m b l h z) in absurd c
    go (no h) (yes d) = let c : ⊥ = omega (arith, sum-rest f b l a m d (sym z)) in absurd c
    go (no h) (no d) = omega arith

-- the sum of a function of period n over n numbers in a row is the same wherever they begin
pub rotation : (f : ℕ → ℕ) (n : ℕ) → ((u : ℕ) → f (u + n) ≡ f u) → (a : ℕ) → sum f a n ≡ sum f 0 n
rotation f n p zero = refl
rotation f n p (suc a) = omega (arith, shift f a n, p a, rotation f n p a)

-- ---- yes and no

pub num-le : (b : Bool) → num b ≤ 1
num-le true = omega arith
num-le false = omega arith

pub num-false : (b : Bool) → num b ≡ 0 → b ≡ false
num-false true h = let z : ⊥ = omega arith in absurd z
num-false false h = refl
