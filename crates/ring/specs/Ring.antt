-- Document 01, "The ring", in the order of its sentences: whose slot it is, and which members stand before a node. What set-up chooses, n and k among it, is cable's specs/Cable.
use Rattle.std.specs.Prelude.{ℕ, zero, suc, ◌+◌, ◌-◌, ◌%◌, min, Bool, false, cond, ◌&&◌, eqb, leb, None, Option, Some}
use Rattle.nodeset.specs.Sums.{num}
use Rattle.nodeset.specs.Sets.{has, size}
use Rattle.slot_table.specs.Order.{node_at, place}
use Rattle.cable.specs.declared.Cable.{Cable}
use Rattle.ring.specs.declared.Found.{Found}

-- "The sender of slot s is ((s - 1) mod n) + 1": its place, where the nodes speak in another order.
unfoldable pub turn : ℕ → ℕ → ℕ
turn n s = (s - 1) % n + 1

-- "A slot table says which node speaks at each place" (k).
unfoldable pub sender : Cable → ℕ → ℕ
sender cable s = node_at cable.order (turn cable.n s)

-- "With c members, ks is the smaller of k and c - 1"; "with lag 1 .. the smaller of k and c - 2" (j). (It is 0 where there are not so many.)
abbrev pub ks : Cable → ℕ → ℕ
ks cable c = min cable.k (c - (1 + cable.lag))

-- "Going back round the ring in slot order": the place whose slot comes just before that of place p.
unfoldable pub previous : ℕ → ℕ → ℕ
previous n p = cond (leb p 1) n (p - 1)

-- What is found, if anybody: a member, and how many slots back it speaks.
abbrev pub found : ℕ → ℕ → Option Found
found member back = Some (record { member = member; back = back })

-- "The walk back along the ring is a recursion with a falling number of slots" (in code a loop, request d): the j-th member met from place p, and "how many slots back round the ring that member speaks". Of a round of n slots
-- the walk may still go `left`, so that the next is n - left slots back from its start. (There is no 0th member.)
unfoldable pub walk : ℕ → Cable → ℕ → ℕ → ℕ → Option Found
walk zero cable set p j = None
walk (suc left) cable set p j =
    let q = previous cable.n p in
    let x = node_at cable.order q in
    let more = j - num (has set x) in
    cond (has set x && eqb j 1) (found x (cable.n - suc left)) (walk left cable set q more)

-- The j-th member before node x. The walk ends before it comes round to x. (ring_laws' specs/Back says what its distance is by the ring alone.)
unfoldable pub member_before : Cable → ℕ → ℕ → ℕ → Option Found
member_before cable set x j = walk (cable.n - 1) cable set (place cable.order x) j

-- How many of the set's members one of them sponsors.
unfoldable pub sponsors : Cable → ℕ → ℕ
sponsors cable set = ks cable (size cable.n set)

-- "A member sponsors the ks members before it": the j-th of those, the nearest first; with lag 1 sponsoring begins "two members back", and "bit 1 concerns the second member back" (j).
unfoldable pub sponsored : Cable → ℕ → ℕ → ℕ → Option Found
sponsored cable set x j = cond (leb 1 j && leb j (sponsors cable set)) (member_before cable set x (j + cable.lag)) None

-- "The one furthest back is the member it decides. With one member nobody is decided", with lag 1 "with two members or fewer" (j).
unfoldable pub decided : Cable → ℕ → ℕ → Option Found
decided cable set x = sponsored cable set x (sponsors cable set)

-- The number of the member found; 0, which is in no set, where there is none.
abbrev pub member_in : Option Found → ℕ
member_in (Some f) = f.member
member_in None = 0

-- The member found is x.
abbrev pub is_found : ℕ → Option Found → Bool
is_found x (Some f) = eqb f.member x
is_found x None = false
