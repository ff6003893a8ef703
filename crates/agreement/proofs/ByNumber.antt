-- With the plain table the members after a node are those by node numbers (specs/ByNumber). Assumes nothing.
use Prim.Native.Nat.{ℕ, zero, suc, ◌+◌, ◌-◌, ◌≤◌}
use mathlib.Core.Path.{◌≡◌, refl, ap, ◌∙◌}
use mathlib.Core.Bool.{true, cond, ◌&&◌}
use mathlib.Core.List.{List}
use native.Mathlib.Omega.{arith}
use native.Mathlib.Decide.{ℕ_discrete}
use lib.Dec.{eqb}
use borrow.Author.Tests.{eq-eqb, ne_eqb}
use Rattle.bench.specs.nodeset.Sums.{num}
use Rattle.bench.specs.nodeset.Sets.{has}
use Rattle.bench.specs.slot_table.Order.{node_at, plain, place}
use Rattle.bench.proofs.slot_table.Numbers.{plain_at, plain-place}
use Rattle.bench.specs.cable.declared.Cable.{Cable}
use Rattle.bench.specs.cable.Cable.{ring_size, node_number}
use Rattle.bench.proofs.cable.Ranges.{ring-size, node-number}
use Rattle.agreement.specs.Demand.{next, onwards, member_after}
use Rattle.agreement.specs.ByNumber.{onwards_by_number, after_by_number, AfterAsBefore}

module _ (cable : Cable) (ring : ring_size cable.n ≡ true) (is : cable.order ≡ plain cable.n) where
  open cable use {n, order}

  some : 3 ≤ n
  some = (ring-size n ring).0

  most : n ≤ 32
  most = (ring-size n ring).1

  next-range : (p : ℕ) → p ≤ n → (1 ≤ next n p) × (next n p ≤ n)
  unfolding next
  next-range p l = go (ℕ_discrete p n)
    where
      go : Dec (p ≡ n) → (1 ≤ cond (eqb p n) 1 (p + 1)) × (cond (eqb p n) 1 (p + 1) ≤ n)
      go (yes e) = rw (eq-eqb p n e) (omega arith, omega (arith, some))
      go (no e) = rw (ne_eqb p n e) (omega arith, omega arith)

  onwards-is : (left set p j : ℕ) → p ≤ n → onwards left cable set p j ≡ onwards_by_number left n set p j
  unfolding onwards onwards_by_number
  onwards-is zero set p j l = refl
  onwards-is (suc left) set p j l =
      let q : ℕ = next n p in
      let r = next-range p l in
      ap (λ (x : ℕ). cond (has set x && eqb j 1) x (onwards left cable set q (j - num (has set x)))) (ap (λ (t : List ℕ). node_at t q) is ∙ plain_at n most q r.0 r.1)
      ∙ ap (λ (found : ℕ). cond (has set q && eqb j 1) q found) (onwards-is left set q (j - num (has set q)) r.1)

  after_is : (set x j : ℕ) → node_number n x ≡ true → member_after cable set x j ≡ after_by_number n set x j
  after_is set x j e =
      let r = node-number n x e in
      ap (λ (p : ℕ). onwards n cable set p j) (ap (λ (t : List ℕ). place t x) is ∙ plain-place n most x r.0 r.1) ∙ onwards-is n set x j r.1

pub after-as-before : AfterAsBefore
after-as-before = after_is
