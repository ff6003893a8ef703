-- No test of a plan tells numbers of 100 or more apart.
-- Assumes nothing.
use Rattle.std.specs.Prelude.{Err}
use Prim.Native.Nat.{ℕ, zero, suc, ◌-◌, ◌≤◌, ◌<◌, min}
use mathlib.Core.Path.{◌≡◌, refl, sym, ap, ◌∙◌}
use mathlib.Core.Bool.{true, false, and-eq-true_iff}
use native.Mathlib.Omega.{arith}
use native.Mathlib.Decide.{dec_le}
use native.Mathlib.Nat.{min-eq_left, min-eq_right}
use lib.Dec.{leb}
use borrow.Author.Tests.{leb-true, lt-leb, le-ltb}
use Rattle.refusal.specs.declared.Refusal.TheVariants.{RingSize, SponsorCount}
use Rattle.nodeset.specs.Sets.{with}
use Rattle.cable.specs.Cable.{node_number, ring_size}
use Rattle.plan_line.specs.Plan.{if_opened, in_ring, ring_of}
use Rattle.plan_line.proofs.Words.{and-false}

-- what holds of a number holds of the capped one, if it holds of 100 where the number is 100 or more
pub capped : (P : ℕ → Type 0) (v : ℕ) → P v → (100 ≤ v → P 100) → P (min v 100)
capped P v same large = go (dec_le v 100)
  where
    go : Dec (v ≤ 100) → P (min v 100)
    go (yes h) = rw (min-eq_left h) same
    go (no h) = let more : 100 ≤ v = omega arith in rw (min-eq_right more) (large more)

pub in-ring-large : (n v : ℕ) → 32 < v → in_ring n v ≡ false
in-ring-large n v h = rw (lt-leb v 32 h) (and-false (node_number n v))

pub in-ring-capped : (n v : ℕ) → in_ring n (min v 100) ≡ in_ring n v
in-ring-capped n v = capped (λ (x : ℕ). in_ring n x ≡ in_ring n v) v refl (λ h. in-ring-large n 100 (omega arith) ∙ sym (in-ring-large n v (omega arith)))

-- a node is below 100
pub in-ring-kept : (n v : ℕ) → in_ring n v ≡ true → min v 100 ≡ v
in-ring-kept n v e = min-eq_left (omega (arith, leb-true v 32 ((and-eq-true_iff (node_number n v) (leb v 32)).0 e).1))

pub with-large : (s v : ℕ) → 32 < v → with s v ≡ s
unfolding with
with-large s zero h = refl
with-large s (suc i) h = simp (le-ltb i 32 (omega arith))

pub with-capped : (s v : ℕ) → with s (min v 100) ≡ with s v
with-capped s v = capped (λ (x : ℕ). with s x ≡ with s v) v refl (λ h. with-large s 100 (omega arith) ∙ sym (with-large s v (omega arith)))

ring-large : (n k : ℕ) → 32 < n → ring_of n k ≡ Err RingSize
unfolding ring_of
ring-large n k h = rw (lt-leb n 32 h, and-false)

sponsors-large : (n k : ℕ) → n ≤ 32 → 32 < k → ring_of n k ≡ if_opened (ring_size n) RingSize (Err SponsorCount)
unfolding ring_of
sponsors-large n k small h = rw (lt-leb k (n - 1) (omega arith), and-false)

pub ring-capped : (n k : ℕ) → ring_of (min n 100) (min k 100) ≡ ring_of n k
ring-capped n k = go (dec_le n 32)
  where
    go : Dec (n ≤ 32) → ring_of (min n 100) (min k 100) ≡ ring_of n k
    go (yes h) =
        let same : min n 100 ≡ n = min-eq_left (omega arith) in
        ap (λ (m : ℕ). ring_of m (min k 100)) same
        ∙ capped (λ (x : ℕ). ring_of n x ≡ ring_of n k) k refl (λ more. sponsors-large n 100 h (omega arith) ∙ sym (sponsors-large n k h (omega arith)))
    go (no h) =
        capped (λ (m : ℕ). ring_of m (min k 100) ≡ Err RingSize) n (ring-large n (min k 100) (omega arith)) (λ more. ring-large 100 (min k 100) (omega arith))
        ∙ sym (ring-large n k (omega arith))
