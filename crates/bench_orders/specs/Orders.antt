-- Inner: what a call has each record of a table do, what is noted of all of them (bench_notes' specs/Notes), and what is answered. The laws in bench_calls' proofs/ tie it
-- to bench's specs/Calls, specs/Pairs, specs/Outcomes and specs/Ledger.
use Rattle.std.specs.Prelude.{ℕ, zero, suc, ◌+◌, ◌*◌, Bool, true, cond, ◌&&◌, List, eqb, leb, ltb, length, get_or, set, Err, Ok}
use Rattle.refusal.specs.declared.Refusal.{Refusal}
use Rattle.refusal.specs.declared.Refusal.TheVariants.{NodeNumber, Unsound, SlotLimit, SpareBit, OutputShort, NotOut, LedgerUnfit}
use Rattle.refusal.specs.Causes.{cause}
use Rattle.nodeset.specs.Sets.{has, within}
use Rattle.cable.specs.declared.Cable.{Cable}
use Rattle.cable.specs.Cable.{may_set_up, node_number, fault_of}
use Rattle.message.specs.Answers.{Reading}
use Rattle.message.specs.Message.{jobs_within}
use Rattle.row.specs.declared.Row.{Row}
use Rattle.node_record.specs.declared.Held.{Held}
use Rattle.node_record.specs.Held.{setted}
use Rattle.node_record.specs.States.{is_member}
use Rattle.node_record.specs.Soundness.{limit}
use Rattle.node_record.specs.declared.Cause.TheVariants.{SwitchedOff}
use Rattle.node_changes.specs.Held.{starting, out_for, fresh, numbered}
use Rattle.node_steps.specs.declared.Digest.{Digest}
use Rattle.node_steps.specs.Held.{digest_of}
use Rattle.node_sending.specs.Sending.{sends, return_sent}
use Rattle.node_sending.specs.Held.{bits_sent}
use Rattle.node.specs.Answers.{Answer}
use Rattle.node_slot.specs.Held.{after_by}
use Rattle.bench.specs.declared.Command.{Command}
use Rattle.bench.specs.declared.Command.TheVariants as command
use Rattle.bench_orders.specs.declared.Order.{Order}
use Rattle.bench_orders.specs.declared.Order.TheVariants as order
use Rattle.bench_orders.specs.declared.Beside.{Beside}
use Rattle.bench_orders.specs.declared.Errand.{Errand}
use Rattle.bench_orders.specs.declared.Turn.{Turn}
use Rattle.bench_notes.specs.declared.Notes.{Notes}
use Rattle.bench_notes.specs.Notes.{ordered, noticed, no_notes}
use Rattle.bench_orders.specs.declared.Members.{Members}
use Rattle.bench.specs.Answers.{Listed}
use Rattle.bench_orders.specs.declared.Survey.{Survey}
use Rattle.bench.specs.declared.Fate.{Fate}
use Rattle.bench.specs.declared.Fate.TheVariants as fate
use Rattle.bench.specs.declared.Outcome.{Outcome}
use Rattle.bench.specs.declared.Outcome.TheVariants as outcome
use Rattle.bench.specs.Calls.{unheard}
use Rattle.bench.specs.declared.Reply.{Reply}
use Rattle.bench.specs.Held.{HeldTable}
use Rattle.bench_orders.specs.Survey.{fold_from, map_from, survey_of, fine_table}
use Rattle.message.specs.Answers.{heard_with}

-- ---- orders

-- An order where a test holds, else the refusal.
abbrev pub if_good : Bool → Refusal → Order → Order
if_good good cause o = cond good o (order.Refuse cause)

abbrev pub set_up_order : ℕ → Beside → Order
set_up_order size beside =
    if_good (may_set_up beside.cable beside.places) (cause (fault_of beside.cable beside.places))
    (if_good beside.reports Unsound
    (if_good (eqb size beside.cable.n) Unsound
    order.Start))

abbrev pub off_order : ℕ → Survey → ℕ → Bool → Order
off_order a s size fits =
    if_good (fine_table s size) Unsound (if_good (node_number s.cable.n a) NodeNumber (if_good fits LedgerUnfit (order.Off a)))

abbrev pub restart_order : ℕ → Survey → ℕ → Order
restart_order a s size =
    if_good (fine_table s size) Unsound (if_good (node_number s.cable.n a) NodeNumber (if_good (has s.out a) NotOut (order.Restart a)))

-- What the speaker says, where it is heard.
abbrev pub spoken_by : Bool → Held → Reading
spoken_by lost v = cond lost unheard (cond (sends (setted v)) (heard_with (bits_sent v) (return_sent (setted v))) unheard)

-- What comes of the speaker's message.
abbrev pub fate_by : Bool → Held → Fate
fate_by lost v = cond (sends (setted v)) (cond lost fate.Lost (cond (is_member v.state) fate.Sent fate.Knock)) fate.Silent

-- What the slot means to those who hold the speaker's row.
abbrev pub digest_for : Bool → Survey → Digest
digest_for lost s = digest_of s.sender (spoken_by lost s.speaker) s.speaker.cable s.speaker.row

-- The slot that follows those of the table surveyed.
abbrev pub turn_of : Bool → ℕ → Survey → Turn
turn_of lost missed s = record {
  slot = s.slots + 1;
  sender = s.sender;
  fate = fate_by lost s.speaker;
  heard = spoken_by lost s.speaker;
  missed = missed;
  said = (digest_for lost s).said;
  decided = (digest_for lost s).decided;
}

abbrev pub slot_order : Bool → ℕ → ℕ → ℕ → Survey → ℕ → Beside → Order
slot_order lost missed jobs room s size beside =
    if_good (fine_table s size) Unsound
    (if_good beside.reports Unsound
    (if_good (within s.cable.n missed) NodeNumber
    (if_good beside.ledger LedgerUnfit
    (if_good (ltb s.slots limit) SlotLimit
    (if_good (jobs_within s.cable.m jobs) SpareBit
    (if_good (leb 64 room) OutputShort
    (order.Slot (turn_of lost missed s))))))))

abbrev pub look_order : Bool → Survey → ℕ → Order
look_order lost s size = if_good (fine_table s size) Unsound (order.Look s.slots s.sender (fate_by lost s.speaker))

abbrev pub order_of : Command → Survey → ℕ → ℕ → Beside → Order
order_of (command.SetUp choices) s size room beside = set_up_order size beside
order_of (command.Off a) s size room beside = off_order a s size beside.ledger
order_of (command.Restart a) s size room beside = restart_order a s size
order_of (command.Slot lost missed jobs) s size room beside = slot_order lost missed jobs room s size beside
order_of (command.Look lost) s size room beside = look_order lost s size

unfoldable pub order_for : Command → ℕ → Beside → HeldTable → Order
order_for c room beside t = order_of c (survey_of t) (length t) room beside

-- Nothing lent beside the table is amiss, and this cable is asked for, with so many places.
abbrev pub all_fit : Cable → ℕ → Beside
all_fit cable places = record { ledger = true; reports = true; cable = cable; places = places }

abbrev pub errand_of : Order → Survey → Beside → Errand
errand_of o s beside = record { order = o; cable = beside.cable; row = s.speaker.row }

-- ---- carrying an order out

-- The number of the node at index i, of the first 32.
abbrev pub number_at : ℕ → ℕ
number_at i = cond (ltb i 32) (i + 1) 0

abbrev pub off_at : ℕ → Held → Held
off_at a v = cond (eqb v.own a) (out_for SwitchedOff v) v

abbrev pub restart_at : ℕ → Held → Held
restart_at a v = cond (eqb v.own a) (fresh v) v

-- What the record's node hears.
abbrev pub heard_at : Turn → Held → Reading
heard_at turn v = cond (has turn.missed v.own) unheard turn.heard

-- What the slot means to those who hold the speaker's row, which stands beside the turn.
abbrev pub digest_in : Turn → Row → Digest
digest_in turn row = record { row = row; said = turn.said; decided = turn.decided }

abbrev pub step_at : Turn → Row → Held → Held
step_at turn row v = after_by (digest_in turn row) turn.sender (heard_at turn v) (numbered turn.slot v)

unfoldable pub carried_by : Order → Cable → Row → ℕ → Held → Held
carried_by (order.Refuse cause) cable row i v = v
carried_by order.Start cable row i v = starting cable (number_at i)
carried_by (order.Off a) cable row i v = off_at a v
carried_by (order.Restart a) cable row i v = restart_at a v
carried_by (order.Slot turn) cable row i v = step_at turn row v
carried_by (order.Look slots sender fate) cable row i v = v

abbrev pub carried : Errand → ℕ → Held → Held
carried e i v = carried_by e.order e.cable e.row i v

abbrev pub carried_from : Errand → ℕ → HeldTable → HeldTable
carried_from e i t = map_from (carried e) i t

-- ---- notes

abbrev pub noticed_from : Errand → Notes → ℕ → HeldTable → Notes
noticed_from o m i t = fold_from (λ m i v. noticed m v (carried o i v)) m i t

unfoldable pub notes_of : Errand → HeldTable → Notes
notes_of o t = noticed_from o no_notes 0 t

-- ---- what is answered

abbrev pub answer_to : Order → Answer
answer_to (order.Refuse cause) = Err cause
answer_to order.Start = Ok tt
answer_to (order.Off a) = Ok tt
answer_to (order.Restart a) = Ok tt
answer_to (order.Slot turn) = Ok tt
answer_to (order.Look slots sender fate) = Ok tt

-- How many records are to be looked through for the distance: none where all members hold one set.
abbrev pub reach_of : Notes → ℕ
reach_of m = cond m.lists.same 0 32

-- What there is to print.
abbrev pub outcome_by : Order → Listed → ℕ → Outcome
outcome_by (order.Refuse cause) list apart = outcome.Refused cause
outcome_by order.Start list apart = outcome.Quiet
outcome_by (order.Off a) list apart = outcome.Quiet
outcome_by (order.Restart a) list apart = outcome.Quiet
outcome_by (order.Slot turn) list apart = outcome.Slot turn.slot turn.sender turn.fate list apart
outcome_by (order.Look slots sender fate) list apart = outcome.Slot slots sender fate list apart

-- Pairs are told of a slot alone.
abbrev pub pairs_by : Order → Notes → ℕ
pairs_by (order.Refuse cause) m = 0
pairs_by order.Start m = 0
pairs_by (order.Off a) m = 0
pairs_by (order.Restart a) m = 0
pairs_by (order.Slot turn) m = m.pairs.count
pairs_by (order.Look slots sender fate) m = 0

abbrev pub reply_by : Order → Notes → Members → Reply
reply_by o m ms = record { outcome = outcome_by o m.lists.list ms.greatest; pairs = pairs_by o m }

-- The bytes of so many pairs, where they fit.
abbrev pub bytes_told : ℕ → ℕ → ℕ
bytes_told count room = cond (leb count 32 && leb 64 room) (count * 2) 0

-- The first so many of the bytes, stored.
unfoldable pub puts : List ℕ → ℕ → List ℕ → List ℕ
puts bytes zero out = out
puts bytes (suc j) out = set (puts bytes j out) j (get_or bytes j 0)

abbrev pub written_by : Order → Notes → List ℕ → List ℕ
written_by o m out = puts (ordered m.pairs).bytes (bytes_told (pairs_by o m) (length out)) out
