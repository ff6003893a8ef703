-- With the plain table the ring is that of document 01, by node numbers (specs/Before). Assumes nothing.
use Rattle.std.specs.Prelude.{None, Option}
use Prim.Native.Nat.{ℕ, zero, suc, ◌+◌, ◌-◌, ◌≤◌}
use mathlib.Core.Path.{◌≡◌, refl, sym, ap, ◌∙◌}
use mathlib.Core.Bool.{Bool, true, false, cond, ◌&&◌, and-true, true≢false}
use mathlib.Core.List.{List}
use native.Mathlib.Omega.{arith}
use lib.Dec.{eqb, leb}
use borrow.Author.Tests.{eqb-true}
use Rattle.ring.specs.nodeset.Sums.{num}
use Rattle.ring.specs.nodeset.Sets.{has}
use Rattle.ring.proofs.nodeset.Tests.{by_cases}
use Rattle.ring.specs.slot_table.Order.{node_at, is_kept, plain, place, same_order}
use Rattle.ring.proofs.slot_table.Same.{order_same}
use Rattle.ring.proofs.slot_table.Numbers.{numbers-kept, plain_at, plain-kept, plain-place}
use Rattle.ring.specs.cable.declared.Cable.{Cable}
use Rattle.ring.specs.declared.Found.{Found}
use Rattle.ring.specs.cable.Cable.{same_cable, ring_size, node_number, lag_fits, sponsor_count, job_count, cable_fits, fault_of}
use Rattle.ring.specs.Ring.{turn, sender, previous, walk, member_before, sponsors, sponsored, decided}
use Rattle.ring_laws.specs.Before.{fits_by_number, fault_by_number, same_by_number, sender_by_number, walk_by_number, before_by_number, sponsored_by_number, decided_by_number, AsBefore}
use Rattle.ring.proofs.cable.Ranges.{ring-size, node-number}
use Rattle.ring_laws.proofs.Senders.{turn-range, previous-range}
use Rattle.ring.specs.Ring.{found}

module _ (cable : Cable) (is : cable.order ≡ plain cable.n) where
  open cable use {n, order}

  -- ---- set-up and the test of a table

  fits-is : cable_fits cable ≡ fits_by_number cable
  fits-is =
      by_cases (ring_size n)
      (λ ring. ap (λ (b : Bool). ring_size n && (lag_fits cable.lag && (sponsor_count cable && (job_count cable.m && b)))) (ap (is_kept n) is ∙ plain-kept n (ring-size n ring).1)
      ∙ ap (λ (b : Bool). ring_size n && (lag_fits cable.lag && (sponsor_count cable && b))) (and-true (job_count cable.m)))
      (λ no. ap (λ (b : Bool). b && (lag_fits cable.lag && (sponsor_count cable && (job_count cable.m && is_kept n order)))) no
      ∙ sym (ap (λ (b : Bool). b && (lag_fits cable.lag && (sponsor_count cable && job_count cable.m))) no))

  fault-is : cable_fits cable ≡ false → fault_of cable n ≡ fault_by_number cable
  fault-is e = go (ring_size n) (lag_fits cable.lag) (sponsor_count cable) (job_count cable.m) (sym fits-is ∙ e)
    where
      go : (a b c d : Bool) → (a && (b && (c && d))) ≡ false
          → ◌≡◌ {A = ℕ} (cond a (cond b (cond c (cond d (cond (eqb n n) 18 17) 14) 2) 16) 1) (cond a (cond b (cond c 14 2) 16) 1)
      go true true true true e = absurd (true≢false e)
      go true true true false e = refl
      go true true false d e = refl
      go true false c d e = refl
      go false b c d e = refl

  same-is : (other : Cable) → other.order ≡ plain other.n → same_cable cable other ≡ same_by_number cable other
  same-is other e =
      by_cases (eqb n other.n)
      (λ t. ap (λ (b : Bool). eqb n other.n && (eqb cable.k other.k && (eqb cable.m other.m && b)))
      (ap (λ (b : Bool). eqb cable.lag other.lag && b) (order_same order other.order (is ∙ ap plain (eqb-true n other.n t) ∙ sym e)) ∙ and-true (eqb cable.lag other.lag)))
      (λ t. ap (λ (b : Bool). b && (eqb cable.k other.k && (eqb cable.m other.m && (eqb cable.lag other.lag && same_order order other.order)))) t
      ∙ sym (ap (λ (b : Bool). b && (eqb cable.k other.k && (eqb cable.m other.m && eqb cable.lag other.lag))) t))

module _ (cable : Cable) (is : cable.order ≡ plain cable.n) (ring : ring_size cable.n ≡ true) where
  open cable use {n, order}

  some : 3 ≤ n
  some = (ring-size n ring).0

  most : n ≤ 32
  most = (ring-size n ring).1

  -- ---- the walk

  node-is : (p : ℕ) → 1 ≤ p → p ≤ n → node_at order p ≡ p
  node-is p h l = ap (λ (t : List ℕ). node_at t p) is ∙ plain_at n most p h l

  place_is : (x : ℕ) → node_number n x ≡ true → place order x ≡ x
  place_is x e = let r = node-number n x e in ap (λ (t : List ℕ). place t x) is ∙ plain-place n most x r.0 r.1

  walk_is : (left set p j : ℕ) → p ≤ n → walk left cable set p j ≡ walk_by_number left n set p j
  unfolding walk walk_by_number
  walk_is zero set p j l = refl
  walk_is (suc left) set p j l =
      let q : ℕ = previous n p in
      let r = previous-range n (omega (arith, some)) p l in
      ap (λ (x : ℕ). cond (has set x && eqb j 1) (found x (n - suc left)) (walk left cable set q (j - num (has set x)))) (node-is q r.0 r.1)
      ∙ ap (λ (f : Option Found). cond (has set q && eqb j 1) (found q (n - suc left)) f) (walk_is left set q (j - num (has set q)) r.1)

  before-is : (set x j : ℕ) → node_number n x ≡ true → member_before cable set x j ≡ before_by_number n set x j
  unfolding member_before
  before-is set x j e = ap (λ (p : ℕ). walk (n - 1) cable set p j) (place_is x e) ∙ walk_is (n - 1) set x j (node-number n x e).1

  sponsored-is : (set x j : ℕ) → node_number n x ≡ true → sponsored cable set x j ≡ sponsored_by_number cable set x j
  unfolding sponsored
  sponsored-is set x j e = ap (λ (f : Option Found). cond (leb 1 j && leb j (sponsors cable set)) f None) (before-is set x (j + cable.lag) e)

  decided-is : (set x : ℕ) → node_number n x ≡ true → decided cable set x ≡ decided_by_number cable set x
  unfolding decided
  decided-is set x e = sponsored-is set x (sponsors cable set) e

  sender-is : (s : ℕ) → sender cable s ≡ sender_by_number n s
  unfolding sender turn
  sender-is s = let r = turn-range n (omega (arith, some)) s in node-is (turn n s) r.0 r.1

pub as_before : AsBefore
as_before cable is = record {
  keeps = numbers-kept cable.n;
  fits = fits-is cable is;
  faults = fault-is cable is;
  same = same-is cable is;
  senders = sender-is cable is;
  befores = before-is cable is;
  sponsoreds = sponsored-is cable is;
  decideds = decided-is cable is;
}
