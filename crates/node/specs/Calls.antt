-- What each call on a record answers, refusals included: "Checks run in table order, except that sending tests 10 before 9" (document 01,
-- "Causes and their numbers"); "a record that holds a bad n, k or own number gives 4. Off and restart don't test 5." A refused call on a record returns
-- it, and leaves the bytes, as they came.
use Rattle.std.specs.Prelude.{ℕ, ◌+◌, List, Bool, true, false, cond, not, ◌&&◌, eqb, leb, length, Err, Ok}
use Rattle.refusal.specs.Causes.{cause}
use Rattle.ring.specs.nodeset.Sets.{has}
use Rattle.cable.specs.declared.Choices.{Choices}
use Rattle.cable.specs.declared.Cable.{Cable}
use Rattle.cable.specs.Cable.{cable_of, cable_with, may_set_up, node_number, fault_of}
use Rattle.ring.specs.Ring.{sender}
use Rattle.node_reports.specs.Reports.{Counts, no_reports, counts_within, counts_with}
use Rattle.message.specs.Answers.{Reading}
use Rattle.message.specs.declared.Received.{Received}
use Rattle.message.specs.Answers.{Written}
use Rattle.message.specs.Message.{read_of, jobs_within, write_of}
use Rattle.node_record.specs.declared.Node.{Node}
use Rattle.node_record.specs.declared.State.TheVariants.{Out}
use Rattle.node_record.specs.States.{is_out, leaving_cause}
use Rattle.node_record.specs.Soundness.{sound, limit}
use Rattle.node.specs.Answers.{Answer}
use Rattle.node_changes.specs.Changes.{no_window, starting, out_for, fresh, counted}
use Rattle.node_steps.specs.Steps.{is_heard, is_own}
use Rattle.node_sending.specs.Sending.{sends, bits_sent, return_sent, jobs_sent}
use Rattle.node_slot.specs.Slot.{after_slot}

-- ---- the answers

-- The record after a call, and what came of the call.
pub record Stepped : Type 0 where
  pub node : Node
  pub answer : Answer

-- With the counts of failure reports (document 02, h).
pub record Counted : Type 0 where
  pub stepped : Stepped
  pub counts : Counts

-- A call that was made.
abbrev pub done : Node → Stepped
done v = record { node = v; answer = Ok tt }

-- One that is refused by this number.
abbrev pub refused : ℕ → Node → Stepped
refused number v = record { node = v; answer = Err (cause number) }

abbrev pub is_done : Answer → Bool
is_done (Ok _) = true
is_done (Err cause) = false

-- With the counts of failure reports beside it (document 02, h).
abbrev pub with_counts : Stepped → Counts → Counted
with_counts stepped counts = record { stepped = stepped; counts = counts }

-- Nothing is sent, by this number.
abbrev pub unsent : ℕ → List ℕ → Written × List ℕ
unsent number out = (Err (cause number), out)

-- ---- set-up: 1, 16, 2, 14, 17, 18 and 3

-- The record that comes with a refused set-up.
abbrev pub no_node : Node
no_node = record { cable = cable_of 0 0; own = 0; slots = 0; state = Out (leaving_cause 4); set = 0; present = 0; returning = 0; return_heard = false; yes_heard = false; listening = no_window }

-- Where the slot table was given with so many places.
unfoldable pub set_up_of : Cable → ℕ → ℕ → Stepped
set_up_of cable places own =
    cond (may_set_up cable places)
    (cond (node_number cable.n own) (done (starting cable own)) (refused 3 no_node))
    (refused (fault_of cable places) no_node)

-- The record, and "only set-up clears" the counts (h).
abbrev pub start_of : Choices → List ℕ → ℕ → Counted
start_of choices slots own = with_counts (set_up_of (cable_with choices slots) (length slots) own) no_reports

-- ---- one slot

-- "The slot count starts at 0 and the first slot is 1": after so many slots the next is the one numbered one more.
unfoldable pub step_of : Reading → Node → Stepped
step_of heard v =
    cond (sound v)
    (cond (leb limit v.slots) (refused 5 v) (done (after_slot (sender v.cable (v.slots + 1)) heard (counted v))))
    (refused 4 v)

-- ---- one slot with the counts of failure reports (h)

-- "The number of reports heard from senders in its set as the slot begins": another node's message is heard, and its sender is in the set.
abbrev pub hears_report : ℕ → Reading → Node → Bool
hears_report s heard v = not (is_own s v) && (is_heard heard && has v.set s)

-- The counts after a slot that is made, "even if that message makes it leave".
unfoldable pub counts_after : Received → Node → Counts → Counts
counts_after received v counts =
    let s = sender v.cable (v.slots + 1) in
    cond (hears_report s received.reading v) (counts_with s received.jobs counts) counts

-- "A report count above the slot count .. gives 4".
unfoldable pub counted_of : Received → Node → Counts → Counted
counted_of received v counts =
    let stepped = step_of received.reading v in
    cond (counts_within v.slots counts)
    (with_counts stepped (cond (is_done stepped.answer) (counts_after received v counts) counts))
    (with_counts (refused 4 v) counts)

-- The slot in which these bytes are heard; no bytes where nothing is.
abbrev pub slot_of : List ℕ → Node → Counts → Counted
slot_of bytes v counts = counted_of (read_of v.cable.k v.cable.m bytes) v counts

-- Inner: whose job byte counts in the next slot, 0 for nobody's.
unfoldable pub reporter_in : Reading → Node → ℕ
reporter_in heard v =
    let s = sender v.cable (v.slots + 1) in
    cond (hears_report s heard v) s 0

-- ---- sending

-- "the next slot is not this node's, or it neither is a member nor follows with returning 0"
abbrev pub its_turn : Node → Bool
its_turn v = eqb (sender v.cable (v.slots + 1)) v.own && sends v

-- What is answered, and the lent bytes afterwards. A spare bit, "also in a given job byte, gives .. 8".
unfoldable pub send_of : Node → ℕ → List ℕ → Written × List ℕ
send_of v jobs out =
    cond (sound v)
    (cond (leb limit v.slots) (unsent 5 out)
    (cond (jobs_within v.cable.m jobs)
    (cond (its_turn v) (write_of v.cable.k v.cable.m (bits_sent v) (return_sent v) (jobs_sent jobs v) out) (unsent 10 out))
    (unsent 8 out)))
    (unsent 4 out)

-- ---- off and restart

-- "`off` works in every state, giving cause 4."
unfoldable pub off_of : Node → Stepped
off_of v = cond (sound v) (done (out_for (leaving_cause 4) v)) (refused 4 v)

-- "Restart takes a node from out to listening."
unfoldable pub restart_of : Node → Stepped
restart_of v = cond (sound v) (cond (is_out v.state) (done (fresh v)) (refused 11 v)) (refused 4 v)
