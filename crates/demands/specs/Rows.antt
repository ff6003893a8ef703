-- Document 02, request l, "Members as a row": what is promised of it. The demands speak of the records and tables of the rules; a record is held with a row, and through the conversion each call is the one that it was, so what the demands say
-- is said of records and tables as they are held. A sequence of calls has THE LATEST FIRST.
use Rattle.std.specs.Prelude.{ℕ, ◌≡◌, true, false, List, [], ◌∷◌}
use Rattle.cover_light.specs.cable.declared.Choices.{Choices}
use Rattle.cover_light.specs.cable.Cable.{cable_with}
use Rattle.cover_light.specs.row.Rows.{sound_row}
use Rattle.cover_light.specs.message.declared.Received.{Received}
use Rattle.cover_light.specs.node_reports.Reports.{Counts}
use Rattle.cover_light.specs.node_record.declared.Node.{Node}
use Rattle.cover_light.specs.node_record.declared.Held.{Held}
use Rattle.cover_light.specs.node_record.Soundness.{sound}
use Rattle.cover_light.specs.node_record.Held.{rowed, setted}
use Rattle.cover_light.specs.node.Calls.{is_done, start_of, slot_of, counted_of, off_of, restart_of}
use Rattle.cover_light.specs.node.Held.{start_held, slot_held, counted_held, off_held, restart_held}
use Rattle.agreement.specs.bench.declared.Command.{Command}
use Rattle.agreement.specs.bench.declared.Command.TheVariants as command
use Rattle.agreement.specs.bench.Calls.{set_up_of}
use Rattle.agreement.specs.bench.Ledger.{Ledger}
use Rattle.agreement.specs.bench.Kept.{set_up_with}
use Rattle.agreement.specs.bench.Held.{HeldTable, setted_all, kept_held, CallStands}
use Rattle.agreement.specs.bench.Runs.{table_after}
use Rattle.plan_report.specs.ledger.Runs.{Lent, commanded, room_of, taken}
use Rattle.plan_report.specs.plan_program.OnSets.{ShownAsBefore}
use Rattle.demands.specs.Demand1.{Keeps, ending, of_outcome}

-- The table after some calls, each made on the table that the one before it left, with any ledger, counts, job byte and slot table.
unfoldable pub held_lent : HeldTable → List Lent → HeldTable
held_lent start [] = start
held_lent start (l ∷ ls) = let g = l.given in (kept_held (commanded g) g.slots (room_of g.call) l.ledger g.counts (held_lent start ls)).table

pub record AsRows : Type 0 where
  -- "Conversion each way is proved to lose nothing for sound records"
  pub set_back : (v : Node) → sound v ≡ true → setted (rowed v) ≡ v
  pub row_back : (v : Held) → sound (setted v) ≡ true → rowed (setted v) ≡ v
  -- "A row out of order, doubled, longer than n or with a used spare place: 4": the record that it stands for is not sound
  pub bad-row : (v : Held) → sound_row v.cable.n v.cable.order v.row ≡ false → sound (setted v) ≡ false
  -- "each step on the row equals the step on the set": what a call leaves stands for what the rules leave of the record that was held, whatever record it is
  pub set-up : (choices : Choices) (slots : List ℕ) (own : ℕ) → setted (start_held choices slots own).stepped.node ≡ (start_of choices slots own).stepped.node
  pub slot : (bytes : List ℕ) (v : Held) (counts : Counts) → setted (slot_held bytes v counts).stepped.node ≡ (slot_of bytes (setted v) counts).stepped.node
  pub step : (received : Received) (v : Held) (counts : Counts) → setted (counted_held received v counts).stepped.node ≡ (counted_of received (setted v) counts).stepped.node
  pub off : (v : Held) → setted (off_held v).node ≡ (off_of (setted v)).node
  pub restart : (v : Held) → setted (restart_held v).node ≡ (restart_of (setted v)).node
  -- and a refused one leaves the record as it was held (the answers are those of the rules, so demand 1 gives their numbers)
  pub slot-refused : (bytes : List ℕ) (v : Held) (counts : Counts) → let r = (slot_held bytes v counts).stepped in Keeps (ending r.answer) v r.node
  pub step-refused : (received : Received) (v : Held) (counts : Counts) → let r = (counted_held received v counts).stepped in Keeps (ending r.answer) v r.node
  pub off-refused : (v : Held) → let r = off_held v in Keeps (ending r.answer) v r.node
  pub restart-refused : (v : Held) → let r = restart_held v in Keeps (ending r.answer) v r.node
  -- the same of the bench's calls: its ledger, counts, answer and bytes are those of the rules by definition
  pub call : CallStands
  pub call-refused : (c : Command) (slots : List ℕ) (room : ℕ) (ledger : Ledger) (counts : List Counts) (t : HeldTable)
      → let kept = kept_held c slots room ledger counts t in Keeps (of_outcome kept.reply.outcome) t kept.table
  -- demand 3's sequences of calls: set-up leaves what stands for the common start, and the calls after it what stands for the tables of the calls that are made
  pub start : (choices : Choices) (slots : List ℕ) (room : ℕ) (ledger : Ledger) (counts : List Counts) (t : HeldTable) → is_done (set_up_with choices slots counts (setted_all t)).answer ≡ true
      → setted_all (kept_held (command.SetUp choices) slots room ledger counts t).table ≡ (set_up_of (cable_with choices slots) (setted_all t)).table
  pub runs : (start : HeldTable) (ls : List Lent) → setted_all (held_lent start ls) ≡ table_after (setted_all start) (taken (setted_all start) ls)
  -- "The bench must show the same digits and the same bytes as the old layout did"
  pub shown : ShownAsBefore
