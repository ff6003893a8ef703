-- What each call of the ring answers, refusals included: "Checks run in table order" (document 01, "Causes and their numbers"),
-- that is 1 (n not 3 to 32), 16 ("lag above 1: 16, after 1", document 02, j), 2 (k not 2 to n - 1 less the lag), 3 (node number not 1 to n).
use Rattle.std.specs.Prelude.{ℕ, cond, Err, Ok, Option, Result}
use Rattle.refusal.specs.declared.Refusal.{Refusal}
use Rattle.refusal.specs.Causes.{cause}
use Rattle.cable.specs.declared.Cable.{Cable}
use Rattle.ring.specs.declared.Found.{Found}
use Rattle.cable.specs.Cable.{ring_size, node_number, lag_fits, sponsor_count}
use Rattle.ring.specs.Ring.{sender, member_before, sponsored, decided}

-- ---- the answers: a node, or the refusal with this number

abbrev pub Speaker : Type 0
Speaker = Result ℕ Refusal

abbrev pub speaks : ℕ → Speaker
speaks x = Ok x

abbrev pub no_speaker : ℕ → Speaker
no_speaker number = Err (cause number)

-- what is found, or the refusal with this number
abbrev pub Lookup : Type 0
Lookup = Result (Option Found) Refusal

abbrev pub finds : Option Found → Lookup
finds found = Ok found

abbrev pub refuses : ℕ → Lookup
refuses number = Err (cause number)

-- ---- the calls

abbrev pub sender_of : Cable → ℕ → Speaker
sender_of cable s = cond (ring_size cable.n) (speaks (sender cable s)) (no_speaker 1)

abbrev pub before_of : Cable → ℕ → ℕ → ℕ → Lookup
before_of cable set x j = cond (ring_size cable.n) (cond (node_number cable.n x) (finds (member_before cable set x j)) (refuses 3)) (refuses 1)

-- 1, 16, 2 and 3, then what is found
abbrev pub on_cable : Cable → ℕ → Option Found → Lookup
on_cable cable x found =
    cond (ring_size cable.n)
    (cond (lag_fits cable.lag)
    (cond (sponsor_count cable) (cond (node_number cable.n x) (finds found) (refuses 3)) (refuses 2))
    (refuses 16))
    (refuses 1)

abbrev pub sponsored_of : Cable → ℕ → ℕ → ℕ → Lookup
sponsored_of cable set x j = on_cable cable x (sponsored cable set x j)

abbrev pub decided_of : Cable → ℕ → ℕ → Lookup
decided_of cable set x = on_cable cable x (decided cable set x)
