-- Document 02, request b: "The walk back shall give both the member and the number of slots, from 1 to n - 1." What the number says, by the ring alone.
use Rattle.std.specs.Prelude.{ℕ, zero, suc, ◌+◌, ◌-◌, ◌≤◌, ◌≡◌, true}
use Rattle.ring.specs.nodeset.Sums.{num}
use Rattle.ring.specs.nodeset.Sets.{has}
use Rattle.ring.specs.slot_table.Order.{node_at, place}
use Rattle.ring.specs.cable.declared.Cable.{Cable}
use Rattle.ring.specs.Ring.{previous, member_before}
use Rattle.ring.specs.Ring.{found as met}

-- The place whose slot comes so many slots before that of place p.
unfoldable pub place_back : ℕ → ℕ → ℕ → ℕ
place_back n p zero = p
place_back n p (suc back) = place_back n (previous n p) back

-- How many members speak in so many slots before that of place p.
unfoldable pub members_back : Cable → ℕ → ℕ → ℕ → ℕ
members_back cable set p zero = 0
members_back cable set p (suc back) =
    let q = previous cable.n p in
    num (has set (node_at cable.order q)) + members_back cable set q back

-- "from 1 to n - 1"; so many slots back from x stands the member; just j members are met on the way, it the last of them.
pub record StandsBack (cable : Cable) (set x j m back : ℕ) : Type 0 where
  pub low : 1 ≤ back
  pub high : back ≤ cable.n - 1
  pub stands : node_at cable.order (place_back cable.n (place cable.order x) back) ≡ m
  pub listed : has set m ≡ true
  pub count : members_back cable set (place cable.order x) back ≡ j

-- So it is of each member found, and whoever stands so is found: "Where there is no such member it gives none."
pub record FoundBack : Type 0 where
  pub found : (cable : Cable) (set x j m back : ℕ) → member_before cable set x j ≡ met m back → StandsBack cable set x j m back
  pub finds : (cable : Cable) (set x j m back : ℕ) → StandsBack cable set x j m back → member_before cable set x j ≡ met m back
