-- Laws of counting: how many nodes a set has, the distance of two sets, the run of ones (specs/Sets), for all n together;
-- and what the machine's bit counts have to do with them. Assumes nothing.
use Prim.Native.Nat.{ℕ, zero, suc, ◌+◌, ◌-◌, ◌/◌, ◌%◌, ◌^◌, ◌≤◌, ◌<◌, min}
use mathlib.Core.Path.{◌≡◌, refl, sym, ap, ap₂, ◌∙◌}
use mathlib.Core.Bool.{Bool, true, false, cond, xor}
use native.Mathlib.Omega.{arith}
use native.Mathlib.Decide.{dec_le}
use native.Mathlib.Nat.{add-zero, mod-lt}
use lib.Bits.{bit_and, bit_xor, and_mask}
use lib.Count.{ones, ones_step, ones-le, count_trailing_zeros, under}
use lib.Pow.{pow_pos}
use Rattle.nodeset.specs.Sums.{sum, num}
use Rattle.nodeset.specs.Sets.{has, with, without, full, size, distance, run_from}
use Rattle.nodeset.proofs.Tests.{by_cases}
use Rattle.nodeset.proofs.Sums.{sum-none, sum-next, sum_same, sum-zero, sum-at, sum-but, sum_first, sum_moved, sum-split, num-le, num-false}
use Rattle.nodeset.proofs.Bits.{has-next, odd, even, has-beyond, has-mod, has-none, has-xor}
use Rattle.nodeset.proofs.Laws.{has-with, has-with-other, has-without, has-without-other, set-ext}

-- ---- how many

-- one node of the half is the next node of the whole
half : (s u : ℕ) → 1 ≤ u → has s (suc u) ≡ has (s / 2) u
half s zero h = absurd (elim h [ ])
half s (suc i) h = has-next s i

last : (s : ℕ) → num (has s 1) ≡ s % 2
last s = by_cases (has s 1) (λ e. ap num e ∙ sym (odd s e)) (λ e. ap num e ∙ sym (even s e))

-- the ones of a number below 2 ^ n are the nodes of 1 to n in it
pub ones-size : (n s : ℕ) → s < 2 ^ n → ones s ≡ size n s
unfolding size
ones-size zero s h = omega (arith, ones-le 0 s h, sum-none (λ x. num (has s x)) 1)
ones-size (suc n) s h =
    let f : ℕ → ℕ = λ x. num (has s x) in
    let e : sum f 2 n ≡ sum (λ x. num (has (s / 2) x)) 1 n =
    sym (sum_moved f 1 n) ∙ sum_same (λ u. f (suc u)) (λ x. num (has (s / 2) x)) 1 n (λ u p q. ap num (half s u p)) in
    omega (arith, ones_step s, ones-size n (s / 2) (omega arith), sum_first f 1 n, last s, e)

pub size_is : (n s : ℕ) → size n s ≡ sum (λ x. num (has s x)) 1 n
unfolding size
size_is n s = refl

-- how many of the nodes 1 to n is told by the n lowest bits
pub size-mod : (n s : ℕ) → size n (s % 2 ^ n) ≡ size n s
unfolding size
size-mod n s = sum_same (λ x. num (has (s % 2 ^ n) x)) (λ x. num (has s x)) 1 n each
  where
    each : (u : ℕ) → 1 ≤ u → u < 1 + n → num (has (s % 2 ^ n) u) ≡ num (has s u)
    each zero p q = absurd (elim p [ ])
    each (suc i) p q = ap num (has-mod n s i (omega arith))

-- a set of the nodes 1 to n has no others to count
pub size-wider : (n m s : ℕ) → n ≤ m → s < 2 ^ n → size m s ≡ size n s
unfolding size
size-wider n m s h l =
    let f : ℕ → ℕ = λ x. num (has s x) in
    let z : n + (m - n) ≡ m = omega arith in
    let none : sum f (1 + n) (m - n) ≡ 0 = sum-zero f (1 + n) (m - n) (λ u p q. ap num (has-beyond n s u l (omega arith))) in
    omega (arith, ap (sum f 1) z, sum-split f 1 n (m - n), none)

-- what the machine counts
pub ones-masked : (n s : ℕ) → s < 2 ^ 32 → ones (bit_and s (full n)) ≡ size n s
unfolding full
ones-masked n s h =
    let m : ℕ = min n 32 in
    ap ones (and_mask s m) ∙ ones-size m (s % 2 ^ m) (mod-lt s (pow_pos m)) ∙ size-mod m s ∙ go (dec_le n 32)
  where
    go : Dec (n ≤ 32) → size (min n 32) s ≡ size n s
    go (yes d) = ap (λ (x : ℕ). size x s) (omega arith)
    go (no d) = let z : min n 32 ≡ 32 = omega arith in ap (λ (x : ℕ). size x s) z ∙ sym (size-wider 32 n s (omega arith) h)

pub size_none : (n : ℕ) → size n 0 ≡ 0
unfolding size
size_none n = sum-zero (λ x. num (has 0 x)) 1 n (λ u p q. ap num (has-none u))

pub size-le : (n s : ℕ) → size n s ≤ n
unfolding size
size-le zero s = omega (arith, sum-none (λ x. num (has s x)) 1)
size-le (suc n) s = omega (arith, sum-next (λ x. num (has s x)) 1 n, size-le n s, num-le (has s (1 + n)))

pub size-with : (n s x : ℕ) → 1 ≤ x → x ≤ n → x ≤ 32 → has s x ≡ false → size n (with s x) ≡ suc (size n s)
unfolding size
size-with n s x p q l e =
    let f : ℕ → ℕ = λ y. num (has (with s x) y) in
    let g : ℕ → ℕ = λ y. num (has s y) in
    omega (arith, sum-but f g 1 n x p (omega arith) (λ u h. ap num (has-with-other s x u (λ z. h (sym z)))), ap num e, ap num (has-with s x p l))

pub size-without : (n s x : ℕ) → 1 ≤ x → x ≤ n → has s x ≡ true → suc (size n (without s x)) ≡ size n s
unfolding size
size-without n s x p q e =
    let f : ℕ → ℕ = λ y. num (has (without s x) y) in
    let g : ℕ → ℕ = λ y. num (has s y) in
    omega (arith, sum-but f g 1 n x p (omega arith) (λ u h. ap num (has-without-other s x u (λ z. h (sym z)))), ap num e, ap num (has-without s x))

-- a set that has none of the nodes 1 to n is empty
pub size-zero : (n s : ℕ) → s < 2 ^ n → size n s ≡ 0 → s ≡ 0
unfolding size
size-zero n s l e =
    set-ext n s 0 l (pow_pos n) (λ x p q. num-false (has s x) (omega (arith, sum-at (λ x. num (has s x)) 1 n x p (omega arith))) ∙ sym (has-none x))

-- ---- the distance

-- what the machine counts
pub size-xor : (n a b : ℕ) → size n (bit_xor a b) ≡ distance n a b
unfolding size distance
size-xor n a b = sum_same (λ x. num (has (bit_xor a b) x)) (λ x. num (xor (has a x) (has b x))) 1 n each
  where
    each : (u : ℕ) → 1 ≤ u → u < 1 + n → num (has (bit_xor a b) u) ≡ num (xor (has a u) (has b u))
    each zero p q = absurd (elim p [ ])
    each (suc i) p q = ap num (has-xor a b i)

xor_same : (a : Bool) → xor a a ≡ false
unfolding xor
xor_same true = refl
xor_same false = refl

xor-none : (a b : Bool) → xor a b ≡ false → a ≡ b
unfolding xor
xor-none true true e = refl
xor-none true false e = e
xor-none false true e = sym e
xor-none false false e = refl

-- the distance is zero exactly if the sets are equal
pub distance-same : (n a : ℕ) → distance n a a ≡ 0
unfolding distance
distance-same n a = sum-zero (λ x. num (xor (has a x) (has a x))) 1 n (λ u p q. ap num (xor_same (has a u)))

pub distance-zero : (n a b : ℕ) → a < 2 ^ n → b < 2 ^ n → distance n a b ≡ 0 → a ≡ b
unfolding distance
distance-zero n a b p q e =
    set-ext n a b p q (λ x h l.
    let d : ℕ → ℕ = λ x. num (xor (has a x) (has b x)) in
    xor-none (has a x) (has b x) (num-false (xor (has a x) (has b x)) (omega (arith, sum-at d 1 n x h (omega arith)))))

-- ---- the run of ones

-- the run from the second bit on is the run of the half
run-half : (most x s : ℕ) → 1 ≤ x → run_from most (suc x) s ≡ run_from most x (s / 2)
unfolding run_from
run-half zero x s h = refl
run-half (suc most) x s h =
    ap₂ (λ (b : Bool) (r : ℕ). cond b (suc r) 0) (half s x h) (run-half most (suc x) s (omega arith))

-- what the machine counts: the zeros below the lowest one of the complement
pub trailing-run : (k s : ℕ) → s < 2 ^ k → count_trailing_zeros k (2 ^ k - 1 - s) ≡ run_from k 1 s
unfolding count_trailing_zeros run_from
trailing-run zero s h = refl
trailing-run (suc k) s h =
    let t : ℕ = 2 ^ suc k - 1 - s in
    let halves : t / 2 ≡ 2 ^ k - 1 - s / 2 = omega (arith, pow_pos k) in
    let rest : count_trailing_zeros k (t / 2) ≡ run_from k 2 s =
    ap (count_trailing_zeros k) halves ∙ trailing-run k (s / 2) (omega arith) ∙ sym (run-half k 1 s (omega arith)) in
    by_cases (has s 1)
    (λ e. let z : t % 2 ≡ 0 = omega (arith, odd s e, pow_pos k) in ap₂ under z rest ∙ ap (λ (b : Bool). cond b (suc (run_from k 2 s)) 0) (sym e))
    (λ e. let z : t % 2 ≡ 1 = omega (arith, even s e, pow_pos k) in ap₂ under z rest ∙ ap (λ (b : Bool). cond b (suc (run_from k 2 s)) 0) (sym e))

pub run-le : (most x s : ℕ) → run_from most x s ≤ most
unfolding run_from
run-le zero x s = omega arith
run-le (suc most) x s =
    by_cases (has s x)
    (λ e. rw e (omega (arith, run-le most (suc x) s)))
    (λ e. rw e (omega arith))

-- a run that goes on, and one that ends at once
run_on : (most x s : ℕ) → has s x ≡ true → run_from (suc most) x s ≡ suc (run_from most (suc x) s)
unfolding run_from
run_on most x s e = rw e refl

run_ends : (most x s : ℕ) → has s x ≡ false → run_from (suc most) x s ≡ 0
unfolding run_from
run_ends most x s e = rw e refl

-- every bit of the run is one
pub run-has : (most x s d : ℕ) → d < run_from most x s → has s (x + d) ≡ true
run-has zero x s d h = let z : ⊥ = omega (arith, run-le zero x s) in absurd z
run-has (suc most) x s zero h =
    by_cases (has s x)
    (λ e. ap (has s) (add-zero x) ∙ e)
    (λ e. let z : ⊥ = omega (arith, run_ends most x s e) in absurd z)
run-has (suc most) x s (suc d) h =
    by_cases (has s x)
    (λ e.
    let z : x + suc d ≡ suc x + d = omega arith in
    ap (has s) z ∙ run-has most (suc x) s d (omega (arith, run_on most x s e)))
    (λ e. let z : ⊥ = omega (arith, run_ends most x s e) in absurd z)

-- the bit after it is not, unless the run is as long as may be
pub run-stops : (most x s : ℕ) → run_from most x s < most → has s (x + run_from most x s) ≡ false
run-stops zero x s h = absurd (elim h [ ])
run-stops (suc most) x s h =
    by_cases (has s x)
    (λ e.
    let r : run_from (suc most) x s ≡ suc (run_from most (suc x) s) = run_on most x s e in
    let z : x + run_from (suc most) x s ≡ suc x + run_from most (suc x) s = omega arith in
    ap (has s) z ∙ run-stops most (suc x) s (omega arith))
    (λ e.
    let z : x + run_from (suc most) x s ≡ x = omega (arith, run_ends most x s e) in
    ap (has s) z ∙ e)
