-- Inner: the slot of specs/Steps by cases, each case with what comes after it, as the code and the proofs take it; what is heard of the own slot is a refused
-- reading, so that no return bit is heard in it. The law is `slot-by-cases` in proofs/Cases.
use Rattle.std.specs.Prelude.{ℕ, zero, suc, Bool, true, false, cond, ◌&&◌, ◌||◌, eqb}
use Rattle.nodeset.specs.Sets.{has, without}
use Rattle.row.specs.ring.Ring.{member_in}
use Rattle.message.specs.Answers.{Reading}
use Rattle.node_record.specs.declared.Node.{Node}
use Rattle.node_record.specs.States.{is_knocking, leaving_cause}
use Rattle.node_record.specs.Sponsoring.{decided_in}
use Rattle.node_changes.specs.Changes.{leave, with_set, with_marks}
use Rattle.node_steps.specs.Steps.{return_in, marks_after, yes_after, noted, leaves, settle}

-- Step 1 by what is read.
abbrev pub read_return : Reading → Node → Bool
read_return heard v = return_in heard && eqb v.returning 0

abbrev pub read_heard : Reading → Node → Bool
read_heard heard v = v.return_heard || (is_knocking v.state && return_in heard)

abbrev pub read_marked : ℕ → Reading → Node → Node
read_marked s heard v = with_marks (marks_after s heard v) (yes_after s heard v) (read_heard heard v) v

-- Step 3 so many times, and what comes after it: "the decided member leaves if its mark is off. If that is this node, it leaves with cause 1 and the steps end."
unfoldable pub departing : ℕ → ℕ → Node → Node
departing zero s v = settle true s v
departing (suc times) s v =
    let m = member_in (decided_in s v) in
    cond (leaves s v m) (cond (eqb m v.own) (leave (leaving_cause 1) v) (departing times s (with_set (without v.set m) v))) (settle true s v)

-- The sender is in the set: step 1, then "Departure, only if the sender is in the set", and what comes after it; "leaving with cause 3, and nothing
-- further happens".
unfoldable pub inside_slot : ℕ → ℕ → Reading → Node → Node
inside_slot times s heard v = cond (read_return heard v) (leave (leaving_cause 3) v) (departing times s (read_marked s heard v))

-- The sender is outside the set: step 2, then step 4.
unfoldable pub outside_slot : ℕ → Reading → Node → Node
outside_slot s heard v = settle false s (noted s heard v)

-- Any slot of such a node.
unfoldable pub slot_by_cases : ℕ → ℕ → Reading → Node → Node
slot_by_cases times s heard v = cond (has v.set s) (inside_slot times s heard v) (outside_slot s heard v)
