-- How far back a member is that the walk finds, and that whoever stands so is found (specs/Back). Assumes nothing.
use Rattle.std.specs.Prelude.{Option}
use Prim.Native.Nat.{ℕ, zero, suc, ◌+◌, ◌-◌, ◌≤◌}
use mathlib.Core.Path.{◌≡◌, sym, ap, ◌∙◌}
use mathlib.Core.Bool.{true, ◌&&◌}
use native.Mathlib.Omega.{arith}
use native.Mathlib.Decide.{dec_le}
use lib.Dec.{eqb}
use borrow.Author.Tests.{eqb-true}
use Rattle.ring.specs.nodeset.Sums.{num}
use Rattle.ring.specs.nodeset.Sets.{has}
use Rattle.ring.proofs.nodeset.Tests.{by_cases, both, chosen, otherwise}
use Rattle.ring.specs.slot_table.Order.{node_at, place}
use Rattle.ring.specs.cable.declared.Cable.{Cable}
use Rattle.ring.specs.declared.Found.{Found}
use Rattle.ring.specs.Ring.{previous, walk, member_before}
use Rattle.ring_laws.specs.Back.{place_back, members_back, StandsBack, FoundBack}
use Rattle.ring_laws.proofs.Walks.{walk-past, walk_here, walk-on}
use Rattle.ring.proofs.Members.{nobody-found, same-member, same_back}
use Rattle.ring.specs.Ring.{found}

-- what a walk of so many slots finds is i slots back from where it begins
record Stood (left : ℕ) (cable : Cable) (set p j m back : ℕ) : Type 0 where
  i : ℕ
  some : 1 ≤ j
  low : 1 ≤ i
  high : i ≤ left
  is : back ≡ cable.n - suc left + i
  stands : node_at cable.order (place_back cable.n p i) ≡ m
  listed : has set m ≡ true
  count : members_back cable set p i ≡ j

stood : (left : ℕ) (cable : Cable) (set p j m back : ℕ) → suc left ≤ cable.n → walk left cable set p j ≡ found m back → Stood left cable set p j m back
unfolding walk place_back members_back
stood zero cable set p j m back h e = absurd (nobody-found m back e)
stood (suc left) cable set p j m back h e =
    let q = previous cable.n p in
    let x = node_at cable.order q in
    let more = j - num (has set x) in
    let here : Option Found = found x (cable.n - suc left) in
    by_cases (has set x && eqb j 1)
    (λ t.
    let b = both (has set x) (eqb j 1) t in
    let found = sym (chosen here (walk left cable set q more) t) ∙ e in
    let is_m = same-member found in
    record {
      i = 1;
      some = omega (arith, eqb-true j 1 b.1);
      low = omega arith;
      high = omega arith;
      is = omega (arith, same_back found);
      stands = is_m;
      listed = sym (ap (has set) is_m) ∙ b.0;
      count = omega (arith, ap num b.0, eqb-true j 1 b.1);
    })
    (λ t.
    let r = stood left cable set q more m back (omega arith) (sym (otherwise here (walk left cable set q more) t) ∙ e) in
    record {
      i = suc r.i;
      some = omega (arith, r.some);
      low = omega arith;
      high = omega (arith, r.high);
      is = omega (arith, r.is, r.high);
      stands = r.stands;
      listed = r.listed;
      count = omega (arith, r.count, r.some);
    })

stands-back : (cable : Cable) (set x j m back : ℕ) → member_before cable set x j ≡ found m back → StandsBack cable set x j m back
unfolding member_before walk
stands-back cable set x j m back e = go (dec_le 1 cable.n)
  where
    p : ℕ
    p = place cable.order x

    go : Dec (1 ≤ cable.n) → StandsBack cable set x j m back
    go (yes h) =
        let r = stood (cable.n - 1) cable set p j m back (omega arith) e in
        let same : back ≡ r.i = omega (arith, r.is) in
        record {
          low = omega (arith, same, r.low);
          high = omega (arith, same, r.high);
          stands = ap (λ (i : ℕ). node_at cable.order (place_back cable.n p i)) same ∙ r.stands;
          listed = r.listed;
          count = ap (members_back cable set p) same ∙ r.count;
        }
    go (no h) = let z : cable.n - 1 ≡ 0 = omega arith in absurd (nobody-found m back (sym (ap (λ (l : ℕ). walk l cable set p j) z) ∙ e))

-- ---- whoever stands so is found

-- the last of some slots is a member's
some-member : (cable : Cable) (set p i : ℕ) → 1 ≤ i → has set (node_at cable.order (place_back cable.n p i)) ≡ true → 1 ≤ members_back cable set p i
unfolding place_back members_back
some-member cable set p zero h e = absurd (elim h [ ])
some-member cable set p (suc zero) h e = omega (arith, ap num e)
some-member cable set p (suc (suc i)) h e = omega (arith, some-member cable set (previous cable.n p) (suc i) (omega arith) e)

walks-to : (left : ℕ) (cable : Cable) (set p j i : ℕ) → suc left ≤ cable.n → 1 ≤ i → i ≤ left → has set (node_at cable.order (place_back cable.n p i)) ≡ true → members_back cable set p i ≡ j
    → walk left cable set p j ≡ found (node_at cable.order (place_back cable.n p i)) (cable.n - suc left + i)
unfolding place_back members_back
walks-to zero cable set p j i s h l e c = absurd (let z : ⊥ = omega arith in z)
walks-to (suc left) cable set p j zero s h l e c = absurd (elim h [ ])
walks-to (suc left) cable set p j (suc zero) s h l e c =
    let n = cable.n in
    let one : j ≡ 1 = omega (arith, ap num e) in
    let back : n - suc left ≡ n - suc (suc left) + 1 = omega arith in
    ap (walk (suc left) cable set p) one ∙ walk_here left cable set p e ∙ ap (found (node_at cable.order (previous n p))) back
walks-to (suc left) cable set p j (suc (suc i)) s h l e c =
    let n = cable.n in
    let q = previous n p in
    let more = some-member cable set q (suc i) (omega arith) e in
    let back : n - suc left + suc i ≡ n - suc (suc left) + suc (suc i) = omega arith in
    by_cases (has set (node_at cable.order q))
    (λ t.
    walk-on left cable set p j (λ w. omega (arith, w, ap num t)) t
    ∙ walks-to left cable set q (j - 1) (suc i) (omega arith) (omega arith) (omega arith) e (omega (arith, ap num t))
    ∙ ap (found (node_at cable.order (place_back n q (suc i)))) back)
    (λ t.
    walk-past left cable set p j t
    ∙ walks-to left cable set q j (suc i) (omega arith) (omega arith) (omega arith) e (omega (arith, ap num t))
    ∙ ap (found (node_at cable.order (place_back n q (suc i)))) back)

finds-back : (cable : Cable) (set x j m back : ℕ) → StandsBack cable set x j m back → member_before cable set x j ≡ found m back
unfolding member_before
finds-back cable set x j m back r =
    let n = cable.n in
    let p = place cable.order x in
    let all : n - suc (n - 1) + back ≡ back = omega (arith, r.low, r.high) in
    walks-to (n - 1) cable set p j back (omega (arith, r.low, r.high)) r.low r.high (ap (has set) r.stands ∙ r.listed) r.count
    ∙ ap (found (node_at cable.order (place_back n p back))) all
    ∙ ap (λ (y : ℕ). found y back) r.stands

pub found_back : FoundBack
found_back = record { found = stands-back; finds = finds-back }
