-- Whoever a walk back finds is a member, and sponsored members are the members before (specs/Ring). Assumes nothing.
use Rattle.std.specs.Prelude.{None, Option, Some}
use Prim.Native.Nat.{ℕ, zero, suc, ◌+◌, ◌-◌, ◌≤◌}
use mathlib.Core.Path.{◌≡◌, sym, ap, ◌∙◌}
use mathlib.Core.Bool.{true, ◌&&◌}
use native.Mathlib.Omega.{arith}
use lib.Dec.{eqb, leb}
use borrow.Author.Tests.{le-leb}
use Rattle.nodeset.specs.Sums.{num}
use Rattle.nodeset.specs.Sets.{has, size}
use Rattle.nodeset.proofs.Tests.{by_cases, both, all, chosen, otherwise}
use Rattle.slot_table.specs.Order.{node_at, place}
use Rattle.cable.specs.declared.Cable.{Cable}
use Rattle.ring.specs.declared.Found.{Found}
use Rattle.ring.specs.Ring.{member_in, previous, walk, member_before, sponsors, sponsored, decided}
use Rattle.ring.specs.Ring.{found}

-- how many slots back
abbrev back_in : Option Found → ℕ
back_in (Some f) = f.back
back_in None = 0

pub same-member : {x y b d : ℕ} → found x b ≡ found y d → x ≡ y
same-member e = ap member_in e

pub same_back : {x y b d : ℕ} → found x b ≡ found y d → b ≡ d
same_back e = ap back_in e

pub nobody-found : (m back : ℕ) → None ≡ found m back → ⊥
nobody-found m back e = let z : ◌≡◌ {A = ℕ} 0 1 = cc in omega arith

walk-member : (left : ℕ) (cable : Cable) (set p j m back : ℕ) → walk left cable set p j ≡ found m back → has set m ≡ true
unfolding walk
walk-member zero cable set p j m back e = absurd (nobody-found m back e)
walk-member (suc left) cable set p j m back e =
    let q : ℕ = previous cable.n p in
    let x : ℕ = node_at cable.order q in
    let here : Option Found = found x (cable.n - suc left) in
    let more : ℕ = j - num (has set x) in
    by_cases (has set x && eqb j 1)
    (λ t. sym (ap (has set) (same-member (sym (chosen here (walk left cable set q more) t) ∙ e))) ∙ (both (has set x) (eqb j 1) t).0)
    (λ t. walk-member left cable set q more m back (sym (otherwise here (walk left cable set q more) t) ∙ e))

pub before-member : (cable : Cable) (set x j m back : ℕ) → member_before cable set x j ≡ found m back → has set m ≡ true
unfolding member_before
before-member cable set x j m back e = walk-member (cable.n - 1) cable set (place cable.order x) j m back e

pub sponsored-member : (cable : Cable) (set x j m back : ℕ) → sponsored cable set x j ≡ found m back → has set m ≡ true
unfolding sponsored
sponsored-member cable set x j m back e =
    by_cases (leb 1 j && leb j (sponsors cable set))
    (λ t. before-member cable set x (j + cable.lag) m back (sym (chosen _ None t) ∙ e))
    (λ t. absurd (nobody-found m back (sym (otherwise (member_before cable set x (j + cable.lag)) None t) ∙ e)))

-- as far as ks, the j-th sponsored member is the j-th before, after as many as the lag is
pub sponsored-before : (cable : Cable) (set x j : ℕ) → 1 ≤ j → j ≤ sponsors cable set → sponsored cable set x j ≡ member_before cable set x (j + cable.lag)
unfolding sponsored
sponsored-before cable set x j h l = chosen _ None (all (le-leb 1 j h) (le-leb j (sponsors cable set) l))

-- the members sponsored, and those that the lag leaves out, are others than the one that sponsors
pub sponsors-others : (cable : Cable) (set : ℕ) → 1 ≤ sponsors cable set → suc (sponsors cable set + cable.lag) ≤ size cable.n set
unfolding sponsors
sponsors-others cable set h = omega arith

-- the decided member is the last one sponsored
pub decided-before : (cable : Cable) (set x : ℕ) → 1 ≤ sponsors cable set → decided cable set x ≡ member_before cable set x (sponsors cable set + cable.lag)
unfolding decided
decided-before cable set x h = sponsored-before cable set x (sponsors cable set) h (omega arith)
