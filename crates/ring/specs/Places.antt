-- Inner: the walk of specs/Ring as the code takes it: the place that it reaches. The law is in proofs/Places.
use Rattle.std.specs.Prelude.{ℕ, zero, suc, ◌-◌, cond, ◌&&◌, eqb, Err, None, Ok, Option, Result}
use Rattle.nodeset.specs.Sums.{num}
use Rattle.nodeset.specs.Sets.{has}
use Rattle.slot_table.specs.Order.{node_at, place}
use Rattle.refusal.specs.declared.Refusal.{Refusal}
use Rattle.refusal.specs.declared.Refusal.TheVariants.{RingSize, Lag, SponsorCount, NodeNumber}
use Rattle.cable.specs.declared.Cable.{Cable}
use Rattle.ring.specs.declared.Found.{Found}
use Rattle.ring.specs.declared.Place.{Place}
use Rattle.cable.specs.Cable.{ring_size, lag_fits, sponsor_count, node_number}
use Rattle.ring.specs.Ring.{previous}
use Rattle.ring.specs.Ring.{found}

-- The tests before a walk, 1, 16, 2 and 3: it is not begun where one fails.
abbrev pub Tests : Type 0
Tests = Result Unit Refusal

abbrev pub tests_of : Cable → ℕ → Tests
tests_of cable x =
    cond (ring_size cable.n)
    (cond (lag_fits cable.lag)
    (cond (sponsor_count cable) (cond (node_number cable.n x) (Ok tt) (Err NodeNumber)) (Err SponsorCount))
    (Err Lag))
    (Err RingSize)

-- Where the walk begins: at the place of node x, with a round's other slots to go.
abbrev pub start_at : Cable → ℕ → Place
start_at cable x = record { node = x; place = place cable.order x; left = cable.n - 1 }

-- Where it ends that meets no further member.
abbrev pub nowhere : Place
nowhere = record { node = 0; place = 0; left = 0 }

-- The place of the j-th member met from place p, with the slots that are left there.
unfoldable pub reach : ℕ → Cable → ℕ → ℕ → ℕ → Place
reach zero cable set p j = nowhere
reach (suc left) cable set p j =
    let q = previous cable.n p in
    let x = node_at cable.order q in
    let more = j - num (has set x) in
    cond (has set x && eqb j 1) (record { node = x; place = q; left = left }) (reach left cable set q more)

-- The member at a place, and how many slots back from the start of the walk it speaks; nobody where the node is 0.
abbrev pub found_at : ℕ → Place → Option Found
found_at n from = cond (eqb from.node 0) None (found from.node (n - 1 - from.left))
