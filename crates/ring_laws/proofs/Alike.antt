-- What the ring finds depends on few of a cable's choices: a walk on n and the slot table alone, sponsoring on k and the lag besides. Assumes nothing.
use Rattle.std.specs.Prelude.{None, Option}
use Prim.Native.Nat.{ℕ, zero, suc, ◌+◌, ◌-◌, min}
use mathlib.Core.Path.{◌≡◌, refl, ap, ap₂, ◌∙◌}
use mathlib.Core.Bool.{cond, ◌&&◌}
use mathlib.Core.List.{List}
use lib.Dec.{eqb, leb}
use Rattle.ring.specs.nodeset.Sums.{num}
use Rattle.ring.specs.nodeset.Sets.{has, size}
use Rattle.ring.specs.slot_table.Order.{node_at, place}
use Rattle.ring.specs.cable.declared.Cable.{Cable}
use Rattle.ring.specs.declared.Found.{Found}
use Rattle.ring.specs.Ring.{previous, walk, member_before, sponsors, sponsored, decided}
use Rattle.ring.specs.Ring.{found}

module _ (a b : Cable) (n-is : a.n ≡ b.n) (order_is : a.order ≡ b.order) where
  walk-alike : (left set p j : ℕ) → walk left a set p j ≡ walk left b set p j
  unfolding walk
  walk-alike zero set p j = refl
  walk-alike (suc left) set p j =
      let q : ℕ = previous b.n p in
      let x : ℕ = node_at b.order q in
      ap₂ (λ (n : ℕ) (order : List ℕ).
      let y = node_at order (previous n p) in
      cond (has set y && eqb j 1) (found y (n - suc left)) (walk left a set (previous n p) (j - num (has set y)))) n-is order_is
      ∙ ap (λ (f : Option Found). cond (has set x && eqb j 1) (found x (b.n - suc left)) f) (walk-alike left set q (j - num (has set x)))

  pub before-alike : (set x j : ℕ) → member_before a set x j ≡ member_before b set x j
  unfolding member_before
  before-alike set x j =
      ap₂ (λ (n : ℕ) (order : List ℕ). walk (n - 1) a set (place order x) j) n-is order_is ∙ walk-alike (b.n - 1) set (place b.order x) j

  module _ (k-is : a.k ≡ b.k) (lag-is : a.lag ≡ b.lag) where
    sponsors-alike : (set : ℕ) → sponsors a set ≡ sponsors b set
    unfolding sponsors
    sponsors-alike set =
        ap₂ (λ (k lag : ℕ). min k (size a.n set - (1 + lag))) k-is lag-is ∙ ap (λ (n : ℕ). min b.k (size n set - (1 + b.lag))) n-is

    pub sponsored-alike : (set x j : ℕ) → sponsored a set x j ≡ sponsored b set x j
    unfolding sponsored
    sponsored-alike set x j =
        ap₂ (λ (ks lag : ℕ). cond (leb 1 j && leb j ks) (member_before a set x (j + lag)) None) (sponsors-alike set) lag-is
        ∙ ap (λ (f : Option Found). cond (leb 1 j && leb j (sponsors b set)) f None) (before-alike set x (j + b.lag))

    pub decided-alike : (set x : ℕ) → decided a set x ≡ decided b set x
    unfolding decided
    decided-alike set x = ap (sponsored a set x) (sponsors-alike set) ∙ sponsored-alike set x (sponsors b set)
