-- Demand 2: every slot changes a node's record exactly as document 01 says, with requests e, f, h, j and k in it; a message written is read back as the same, and each readable message is the one
-- that would be written.
use Rattle.std.specs.Prelude.{ℕ, ◌+◌, ◌≤◌, ◌<◌, ◌-◌, ◌≡◌, Bool, true, false, List, ◌++◌, [], length, get_or, take, drop, Ok}
use Rattle.cover_light.specs.ring.Ring.{sender}
use Rattle.agreement.specs.bench.Reports.{received_by}
use Rattle.cover_light.specs.node_sending.Sending.{jobs_sent}
use Rattle.cover_light.specs.node_reports.Reports.{Counts, counts_within}
use Rattle.cover_light.specs.message.Answers.{Reading}
use Rattle.cover_light.specs.message.declared.Received.{Received}
use Rattle.cover_light.specs.message.Message.{AreBytes, heard, read_of, write_of}
use Rattle.cover_light.specs.node_record.declared.Node.{Node}
use Rattle.cover_light.specs.node_record.Soundness.{sound, limit}
use Rattle.cover_light.specs.node_changes.Changes.{counted}
use Rattle.cover_light.specs.node_slot.Slot.{slot_in}
use Rattle.cover_light.specs.node.Calls.{done, refused, unsent, with_counts, step_of, counts_after, counted_of, slot_of, send_of}
use Rattle.agreement.specs.bench.declared.Command.TheVariants.{Slot}
use Rattle.agreement.specs.bench.Table.{Table, record_of, node_count, speaker, table_sound}
use Rattle.agreement.specs.bench.Calls as bench
use Rattle.agreement.specs.bench.Ledger.{Ledger}
use Rattle.agreement.specs.bench.Kept.{slot_with, kept_of}

-- The sender of a record's next slot.
abbrev pub next_sender : Node → ℕ
next_sender v = sender v.cable (v.slots + 1)

pub record Demand2 : Type 0 where
  -- "every slot changes a node's record exactly as document 01 says": a sound record below the limit counts the slot and follows the rules of its state, which
  -- take the reading as it was handed over (`slot_in`: "One slot, for a member, following or knocking node" is node_steps' specs/Steps, "Listening" is
  -- node_hearing's specs/Hearing)
  pub slot : (heard : Reading) (v : Node) → sound v ≡ true → v.slots < limit
      → step_of heard v ≡ done (slot_in v.state (next_sender v) heard (counted v))
  -- any other is refused, by 4 and 5
  pub unsound : (heard : Reading) (v : Node) → sound v ≡ false → step_of heard v ≡ refused 4 v
  pub at-limit : (heard : Reading) (v : Node) → sound v ≡ true → limit ≤ v.slots → step_of heard v ≡ refused 5 v
  -- and counts the reports that it hears (document 02, h), where no count is above the slot count; where one is, it is refused by 4
  pub counts : (received : Received) (v : Node) (held : Counts) → sound v ≡ true → v.slots < limit → counts_within v.slots held ≡ true
      → counted_of received v held ≡ with_counts (step_of received.reading v) (counts_after received v held)
  pub over-count : (received : Received) (v : Node) (held : Counts) → counts_within v.slots held ≡ false → counted_of received v held ≡ with_counts (refused 4 v) held
  -- what is heard is what the reader finds in the bytes that are handed over
  pub by_bytes : (bytes : List ℕ) (v : Node) (held : Counts) → slot_of bytes v held ≡ counted_of (read_of v.cable.k v.cable.m bytes) v held
  -- a slot that runs on the bench is this slot of each record and its counts, and none is refused
  pub on-bench : (lost : Bool) (missed jobs : ℕ) (slots : List ℕ) (room : ℕ) (ledger : Ledger) (counts : List Counts) (t : Table) → (slot_with lost missed jobs room ledger counts t).answer ≡ Ok tt
      → (i : ℕ) → 1 ≤ i → i ≤ node_count t
      → let kept = kept_of (Slot lost missed jobs) slots room ledger counts t in
      counted_of (received_by lost missed jobs t i) (record_of t i) (get_or counts (i - 1) []) ≡ with_counts (done (record_of kept.table i)) (get_or kept.counts (i - 1) [])
  -- and what its message is heard as there is what the reader finds in the bytes that the sender sends, with the job byte that it is given
  pub heard-on-bench : (t : Table) (jobs : ℕ) (out : List ℕ) (count : ℕ) (after : List ℕ) → send_of (record_of t (speaker t)) jobs out ≡ (Ok count, after)
      → read_of (record_of t (speaker t)).cable.k (record_of t (speaker t)).cable.m (take count after) ≡ record { reading = bench.spoken t; jobs = jobs_sent jobs (record_of t (speaker t)) }
  -- nothing, where the sender has none to send
  pub silent-on-bench : (t : Table) (jobs : ℕ) (out : List ℕ) → table_sound t ≡ true → send_of (record_of t (speaker t)) jobs out ≡ unsent 10 out
      → bench.spoken t ≡ bench.unheard
  -- "a message written is read back as the same", the job byte, too
  pub read_back : (k m acknowledgements : ℕ) (return_bit : Bool) (jobs : ℕ) (out : List ℕ) (count : ℕ) (after : List ℕ)
      → write_of k m acknowledgements return_bit jobs out ≡ (Ok count, after)
      → read_of k m (take count after) ≡ heard acknowledgements return_bit jobs
  -- "each readable message is the one that would be written": where there is room the writer writes it for what it reads as, and leaves what stands after it
  pub written_read : (k m acknowledgements : ℕ) (return_bit : Bool) (jobs : ℕ) (bytes out : List ℕ)
      → AreBytes bytes → read_of k m bytes ≡ heard acknowledgements return_bit jobs → length bytes ≤ length out
      → write_of k m acknowledgements return_bit jobs out ≡ (Ok (length bytes), bytes ++ drop (length bytes) out)
