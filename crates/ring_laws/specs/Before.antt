-- Document 02, request k: "With the plain table 1 to n everything is as now." The ring of document 01 as it was before the slot table, by node numbers, and that with the plain table all
-- that the rules ask of the ring is the same.
use Rattle.std.specs.Prelude.{ℕ, zero, suc, ◌+◌, ◌-◌, ◌%◌, ◌≡◌, Bool, true, false, cond, ◌&&◌, eqb, leb, None, Option}
use Rattle.ring.specs.nodeset.Sums.{num}
use Rattle.ring.specs.nodeset.Sets.{has}
use Rattle.ring.specs.slot_table.Order.{kept, numbers_from, plain}
use Rattle.ring.specs.cable.declared.Cable.{Cable}
use Rattle.ring.specs.declared.Found.{Found}
use Rattle.ring.specs.cable.Cable.{same_cable, ring_size, node_number, lag_fits, sponsor_count, job_count, cable_fits, fault_of}
use Rattle.ring.specs.Ring.{sender, previous, member_before, sponsors, sponsored, decided}
use Rattle.ring.specs.Ring.{found}

-- ---- the ring by node numbers

-- The choices in range, the first test that fails (1, 16, 2 and 14), and the same choices.
abbrev pub fits_by_number : Cable → Bool
fits_by_number cable = ring_size cable.n && (lag_fits cable.lag && (sponsor_count cable && job_count cable.m))

abbrev pub fault_by_number : Cable → ℕ
fault_by_number cable = cond (ring_size cable.n) (cond (lag_fits cable.lag) (cond (sponsor_count cable) 14 2) 16) 1

abbrev pub same_by_number : Cable → Cable → Bool
same_by_number a b = eqb a.n b.n && (eqb a.k b.k && (eqb a.m b.m && eqb a.lag b.lag))

-- "The sender of slot s is ((s - 1) mod n) + 1."
abbrev pub sender_by_number : ℕ → ℕ → ℕ
sender_by_number n s = (s - 1) % n + 1

-- The walk back from node x, in which the node before x is `previous n x`.
unfoldable pub walk_by_number : ℕ → ℕ → ℕ → ℕ → ℕ → Option Found
walk_by_number zero n set x j = None
walk_by_number (suc left) n set x j =
    let p = previous n x in
    let more = j - num (has set p) in
    cond (has set p && eqb j 1) (found p (n - suc left)) (walk_by_number left n set p more)

abbrev pub before_by_number : ℕ → ℕ → ℕ → ℕ → Option Found
before_by_number n set x j = walk_by_number (n - 1) n set x j

abbrev pub sponsored_by_number : Cable → ℕ → ℕ → ℕ → Option Found
sponsored_by_number cable set x j = cond (leb 1 j && leb j (sponsors cable set)) (before_by_number cable.n set x (j + cable.lag)) None

abbrev pub decided_by_number : Cable → ℕ → ℕ → Option Found
decided_by_number cable set x = sponsored_by_number cable set x (sponsors cable set)

-- ---- with the plain table

-- (Of `ks` and `sponsors` the text is as it was.)
pub record ByNumber (cable : Cable) : Type 0 where
  -- set-up with the table 1 to n keeps the plain table; it refuses as before
  pub keeps : kept (numbers_from cable.n 1) ≡ plain cable.n
  pub fits : cable_fits cable ≡ fits_by_number cable
  pub faults : cable_fits cable ≡ false → fault_of cable cable.n ≡ fault_by_number cable
  -- records on cables with plain tables are on the same cable as before
  pub same : (other : Cable) → other.order ≡ plain other.n → same_cable cable other ≡ same_by_number cable other
  -- on a ring of 3 to 32 nodes: whose slot it is, and for each node the walk back, whom it sponsors and whom it decides
  pub senders : ring_size cable.n ≡ true → (s : ℕ) → sender cable s ≡ sender_by_number cable.n s
  pub befores : ring_size cable.n ≡ true → (set x j : ℕ) → node_number cable.n x ≡ true → member_before cable set x j ≡ before_by_number cable.n set x j
  pub sponsoreds : ring_size cable.n ≡ true → (set x j : ℕ) → node_number cable.n x ≡ true → sponsored cable set x j ≡ sponsored_by_number cable set x j
  pub decideds : ring_size cable.n ≡ true → (set x : ℕ) → node_number cable.n x ≡ true → decided cable set x ≡ decided_by_number cable set x

abbrev pub AsBefore : Type 0
AsBefore = (cable : Cable) → cable.order ≡ plain cable.n → ByNumber cable
