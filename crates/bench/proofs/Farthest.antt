-- The greatest distance of a table (specs/Calls) is the least number that the distance of no two members passes. Assumes nothing.
use Prim.Native.Nat.{ℕ, zero, suc, ◌-◌, ◌≤◌, ◌<◌}
use mathlib.Core.Path.{◌≡◌, refl, sym, ap, ◌∙◌}
use mathlib.Core.Bool.{Bool, true, false, cond, xor}
use mathlib.Core.List.{[], ◌∷◌}
use native.Mathlib.Omega.{arith}
use native.Mathlib.Decide.{dec_lt}
use lib.ListN.{length, get_or}
use Rattle.cable.specs.nodeset.Sums.{num}
use Rattle.cable.specs.nodeset.Sets.{has, distance}
use Rattle.cable.proofs.nodeset.Sums.{sum_same}
use Rattle.cable.proofs.nodeset.Counts.{distance-same}
use Rattle.node.specs.node_record.States.{is_member}
use Rattle.node.specs.Calls.{no_node}
use Rattle.bench.specs.Table.{Table, record_of}
use Rattle.bench.specs.Calls.{farthest, greatest}
use Rattle.bench.proofs.Choices.{choose}

distance-swap : (n a b : ℕ) → distance n a b ≡ distance n b a
unfolding distance xor
distance-swap n a b = sum_same (λ x. num (xor (has a x) (has b x))) (λ x. num (xor (has b x) (has a x))) 1 n (λ x _ _. ap num (swap (has a x) (has b x)))
  where
    swap : (p q : Bool) → xor p q ≡ xor q p
    swap true true = refl
    swap true false = refl
    swap false true = refl
    swap false false = refl

abbrev member_at : Table → ℕ → Bool
member_at t i = is_member (get_or t i no_node).state

abbrev set_at : Table → ℕ → ℕ
set_at t i = (get_or t i no_node).set

module _ (n : ℕ) where
  far-upper : (set : ℕ) (t : Table) (i : ℕ) → i < length t → member_at t i ≡ true → distance n set (set_at t i) ≤ farthest n set t
  unfolding farthest
  far-upper set [] i l m = absurd (elim l [ ])
  far-upper set (v ∷ t) zero l m = rw m (omega arith)
  far-upper set (v ∷ t) (suc i) l m = omega (arith, far-upper set t i (omega arith) m)

  great-upper : (t : Table) (i j : ℕ) → i < j → j < length t → member_at t i ≡ true → member_at t j ≡ true → distance n (set_at t i) (set_at t j) ≤ greatest n t
  unfolding greatest
  great-upper [] i j h l p q = absurd (elim l [ ])
  great-upper (v ∷ t) i zero h l p q = absurd (elim h [ ])
  great-upper (v ∷ t) zero (suc j) h l p q = rw p (omega (arith, far-upper v.set t j (omega arith) q))
  great-upper (v ∷ t) (suc i) (suc j) h l p q = omega (arith, great-upper t i j (omega arith) (omega arith) p q)

  far-least : (c set : ℕ) (t : Table) → ((i : ℕ) → i < length t → member_at t i ≡ true → distance n set (set_at t i) ≤ c) → farthest n set t ≤ c
  unfolding farthest
  far-least c set [] h = omega arith
  far-least c set (v ∷ t) h =
      let r = far-least c set t (λ i l m. h (suc i) (omega arith) m) in
      let d : cond (is_member v.state) (distance n set v.set) 0 ≤ c = choose (λ (x : ℕ). x ≤ c) (is_member v.state) (distance n set v.set) 0 (λ m. h 0 (omega arith) m) (λ _. omega arith) in
      omega arith

  great-least : (c : ℕ) (t : Table) → ((i j : ℕ) → i < length t → j < length t → member_at t i ≡ true → member_at t j ≡ true → distance n (set_at t i) (set_at t j) ≤ c) → greatest n t ≤ c
  unfolding greatest
  great-least c [] h = omega arith
  great-least c (v ∷ t) h =
      let r = great-least c t (λ i j a b p q. h (suc i) (suc j) (omega arith) (omega arith) p q) in
      let d : cond (is_member v.state) (farthest n v.set t) 0 ≤ c
      = choose (λ (x : ℕ). x ≤ c) (is_member v.state) (farthest n v.set t) 0 (λ m. far-least c v.set t (λ i l q. h 0 (suc i) (omega arith) (omega arith) m q)) (λ _. omega arith) in
      omega arith

  -- the same by node numbers

  upper : (t : Table) (x y : ℕ) → 1 ≤ x → x ≤ length t → 1 ≤ y → y ≤ length t → is_member (record_of t x).state ≡ true → is_member (record_of t y).state ≡ true
      → distance n (record_of t x).set (record_of t y).set ≤ greatest n t
  unfolding record_of
  upper t x y a b c d p q = go (dec_lt (x - 1) (y - 1)) (dec_lt (y - 1) (x - 1))
    where
      go : Dec (x - 1 < y - 1) → Dec (y - 1 < x - 1) → distance n (set_at t (x - 1)) (set_at t (y - 1)) ≤ greatest n t
      go (yes h) _ = great-upper t (x - 1) (y - 1) h (omega arith) p q
      go (no h) (yes i) = omega (arith, distance-swap n (set_at t (x - 1)) (set_at t (y - 1)), great-upper t (y - 1) (x - 1) i (omega arith) q p)
      go (no h) (no i) =
          let z : y - 1 ≡ x - 1 = omega arith in
          omega (arith, ap (λ (w : ℕ). distance n (set_at t (x - 1)) (set_at t w)) z, distance-same n (set_at t (x - 1)))

  pub least : (c : ℕ) (t : Table)
      → ((x y : ℕ) → 1 ≤ x → x ≤ length t → 1 ≤ y → y ≤ length t → is_member (record_of t x).state ≡ true → is_member (record_of t y).state ≡ true
      → distance n (record_of t x).set (record_of t y).set ≤ c)
      → greatest n t ≤ c
  unfolding record_of
  least c t h = great-least c t pair
    where
      less : (i : ℕ) → suc i - 1 ≡ i
      less i = omega arith

      pair : (i j : ℕ) → i < length t → j < length t → member_at t i ≡ true → member_at t j ≡ true → distance n (set_at t i) (set_at t j) ≤ c
      pair i j a b p q = rw (less i, less j) at (h (suc i) (suc j) (omega arith) a (omega arith) b (rw (less i) p) (rw (less j) q))

  -- A table whose records are those of another under other numbers, members alike and as far apart, tells no greater distance.
  pub no-greater : (t u : Table) (f : ℕ → ℕ)
      → ((x : ℕ) → 1 ≤ x → x ≤ length t → (1 ≤ f x) × (f x ≤ length u) × (is_member (record_of t x).state ≡ is_member (record_of u (f x)).state))
      → ((x y : ℕ) → 1 ≤ x → x ≤ length t → 1 ≤ y → y ≤ length t → distance n (record_of t x).set (record_of t y).set ≡ distance n (record_of u (f x)).set (record_of u (f y)).set)
      → greatest n t ≤ greatest n u
  no-greater t u f is apart = least (greatest n u) t (λ x y a b c d p q.
      let r = is x a b in
      let s = is y c d in
      omega (arith, apart x y a b c d, upper u (f x) (f y) r.0 r.1 s.0 s.1 (sym r.2 ∙ p) (sym s.2 ∙ q)))
