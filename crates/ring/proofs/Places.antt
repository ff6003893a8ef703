-- The place that a walk back reaches (specs/Places) says what the walk finds. Assumes nothing.
use Prim.Native.Nat.{ℕ, zero, suc, ◌-◌}
use mathlib.Core.Path.{◌≡◌, refl, sym, ap, ◌∙◌}
use mathlib.Core.Bool.{true, ◌&&◌, true≢false}
use native.Mathlib.Omega.{arith}
use lib.Dec.{eqb}
use borrow.Author.Tests.{ne_eqb}
use Rattle.nodeset.specs.Sums.{num}
use Rattle.nodeset.specs.Sets.{has}
use Rattle.nodeset.proofs.Tests.{by_cases, both}
use Rattle.slot_table.specs.Order.{node_at}
use Rattle.cable.specs.declared.Cable.{Cable}
use Rattle.ring.specs.Ring.{previous, walk}
use Rattle.ring.specs.Places.{reach, found_at}
use Rattle.ring.specs.Ring.{found}

-- node 0 is in no set
some-node : (n set x q left : ℕ) → has set x ≡ true → found_at n (record { node = x; place = q; left = left }) ≡ found x (n - 1 - left)
unfolding has
some-node n set zero q left e = absurd (true≢false (sym e))
some-node n set (suc x) q left e = rw (ne_eqb (suc x) 0 (λ z. omega arith)) refl

pub reach-finds : (left : ℕ) (cable : Cable) (set p j : ℕ) → found_at cable.n (reach left cable set p j) ≡ walk left cable set p j
unfolding walk reach
reach-finds zero cable set p j = refl
reach-finds (suc left) cable set p j =
    let n = cable.n in
    let q = previous n p in
    let x = node_at cable.order q in
    let back : n - 1 - left ≡ n - suc left = omega arith in
    by_cases (has set x && eqb j 1)
    (λ t. rw t (some-node n set x q left (both (has set x) (eqb j 1) t).0 ∙ ap (found x) back))
    (λ t. rw t (reach-finds left cable set q (j - num (has set x))))
