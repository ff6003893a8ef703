-- Document 02, request l: "each step on the row equals the step on the set". Each call on a held record is, through the conversion, the call of specs/Calls on the record that it stands for: a call that is made
-- leaves what holds the record that the rules leave; a refused one leaves the record that came. What is left stands for what the rules leave, so that the same holds of every sequence of calls (proofs/Standing).
use Rattle.std.specs.Prelude.{ℕ, cond, List, Result, Err, Ok}
use Rattle.refusal.specs.declared.Refusal.{Refusal}
use Rattle.refusal.specs.Causes.{cause}
use Rattle.cable.specs.declared.Choices.{Choices}
use Rattle.node_reports.specs.Reports.{Counts}
use Rattle.message.specs.Answers.{Reading}
use Rattle.message.specs.declared.Received.{Received}
use Rattle.node_record.specs.declared.Held.{Held}
use Rattle.node_record.specs.declared.Node.{Node}
use Rattle.node_record.specs.Soundness.{sound}
use Rattle.node_record.specs.Held.{rowed, setted}
use Rattle.node.specs.declared.Stepped as code
use Rattle.node.specs.declared.Counted as code'
use Rattle.node.specs.Calls.{Stepped, Counted, is_done, no_node, start_of, step_of, counted_of, slot_of, off_of, restart_of}

-- What a call leaves, where v came.
abbrev pub held_as : Held → Stepped → code.Stepped
held_as v s = record { node = cond (is_done s.answer) (rowed s.node) v; answer = s.answer }

-- With the counts of failure reports beside it.
abbrev pub beside : code.Stepped → Counts → code'.Counted
beside stepped counts = record { stepped = stepped; counts = counts }

abbrev pub held_with : Held → Counted → code'.Counted
held_with v c = beside (held_as v c.stepped) c.counts

-- ---- the calls. (Sending changes no record: its contract is `send_of` of the record that the held one stands for.)

-- With a refused set-up comes the record of no node.
abbrev pub start_held : Choices → List ℕ → ℕ → code'.Counted
start_held choices slots own = held_with (rowed no_node) (start_of choices slots own)

abbrev pub step_held : Reading → Held → code.Stepped
step_held heard v = held_as v (step_of heard (setted v))

abbrev pub counted_held : Received → Held → Counts → code'.Counted
counted_held received v counts = held_with v (counted_of received (setted v) counts)

abbrev pub slot_held : List ℕ → Held → Counts → code'.Counted
slot_held bytes v counts = held_with v (slot_of bytes (setted v) counts)

abbrev pub off_held : Held → code.Stepped
off_held v = held_as v (off_of (setted v))

abbrev pub restart_held : Held → code.Stepped
restart_held v = held_as v (restart_of (setted v))

-- The record that a held one stands for; one that is not sound is refused by 4.
unfoldable pub setted_of : Held → Result Node Refusal
setted_of v = cond (sound (setted v)) (Ok (setted v)) (Err (cause 4))
