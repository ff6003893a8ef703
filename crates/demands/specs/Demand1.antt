-- Demand 1: every message, plan text, node record and sequence of calls ends in a result or a numbered refusal, and a refusal changes no record and no lent
-- byte. There is a clause for each call, over the definition that its contract cites and for all numbers, bytes, records, tables, ledgers and plans; so it holds of each
-- call of every sequence, whatever the calls before it left. What is printed of a plan text, its refused line included, is `printed` (plan_program's specs/Program), of a text of recorded messages `converted` (converter_text's specs/Recorded), and of a text of many plans `reported` (plan_report's specs/Report).
use Rattle.std.specs.Prelude.{ℕ, ◌≡◌, Bool, true, false, ◌||◌, List, [], ◌∷◌, eqb, length, Result, Err, Ok}
use Rattle.cover_light.specs.refusal.declared.Refusal.{Refusal}
use Rattle.cover_light.specs.refusal.Causes.{number_of}
use Rattle.cover_light.specs.cable.declared.Cable.{Cable}
use Rattle.cover_light.specs.cable.declared.Choices.{Choices}
use Rattle.cover_light.specs.ring.Answers.{sender_of, before_of, sponsored_of, decided_of}
use Rattle.cover_light.specs.node_reports.Reports.{Counts}
use Rattle.cover_light.specs.message.declared.Received.{Received}
use Rattle.cover_light.specs.message.Answers.{Written}
use Rattle.cover_light.specs.message.Message.{read_of, write_of}
use Rattle.cover_light.specs.message.TwoSections.{read_two_of, write_two_of}
use Rattle.converter_text.specs.converter.Converter.{to_three_of, to_two_of}
use Rattle.cover_light.specs.node_record.declared.Node.{Node}
use Rattle.cover_light.specs.node_record.declared.Held.{Held}
use Rattle.cover_light.specs.node.Held.{setted_of}
use Rattle.cover_light.specs.node.Calls.{Stepped, Counted, start_of, slot_of, counted_of, send_of, off_of, restart_of}
use Rattle.cover_light.specs.Light.{level_of, levels_of}
use Rattle.agreement.specs.bench.declared.Command.{Command}
use Rattle.agreement.specs.bench.declared.Command.TheVariants as command
use Rattle.agreement.specs.bench.declared.Outcome.{Outcome}
use Rattle.agreement.specs.bench.declared.Outcome.TheVariants as outcome
use Rattle.agreement.specs.bench.Table.{Table}
use Rattle.agreement.specs.bench.Ledger.{Ledger}
use Rattle.agreement.specs.bench.Kept.{kept_of, bytes_with}
use Rattle.plan_report.specs.bench_by_value.ByValue.{Rows, table_of, call_with}
use Rattle.plan_report.specs.plan_program.declared.Plan.{Plan}
use Rattle.plan_report.specs.plan_program.declared.Part.{Part}
use Rattle.plan_report.specs.plan_program.Calls.{Fed, fed_of, finished_of, printed_in}
use Rattle.converter_text.specs.declared.Recording.{Recording}
use Rattle.converter_text.specs.Calls as recorded
use Rattle.plan_report.specs.declared.Figures.{Figures}
use Rattle.plan_report.specs.declared.Added.{Added}
use Rattle.plan_report.specs.declared.Report.{Report}
use Rattle.plan_report.specs.Figures.{add_of}
use Rattle.plan_report.specs.Calls as reported

-- ---- how a call ends

-- In a result, or in a refusal.
pub data Ending : Type 0 where
  result : Ending
  refusal : Refusal → Ending

abbrev pub ending : {A : Type 0} → Result A Refusal → Ending
ending (Ok answer) = result
ending (Err cause) = refusal cause

abbrev pub of_outcome : Outcome → Ending
of_outcome outcome.Quiet = result
of_outcome (outcome.Slot slot sender fate list distance) = result
of_outcome (outcome.Refused cause) = refusal cause

-- ---- what is demanded of it

-- One of these numbers.
abbrev pub is_among : ℕ → List ℕ → Bool
is_among x [] = false
is_among x (y ∷ ys) = eqb x y || is_among x ys

-- "ends in a result or a numbered refusal": the cause's number ("Causes and their numbers") is one of these.
abbrev pub EndsBy : List ℕ → Ending → Type 0
EndsBy numbers result = Unit {0}
EndsBy numbers (refusal cause) = is_among (number_of cause) numbers ≡ true

-- "a refusal changes no record and no lent byte": they are after the call as they were before it.
abbrev pub Keeps : {A : Type 0} → Ending → A → A → Type 0
Keeps result before after = Unit {0}
Keeps (refusal cause) before after = after ≡ before

-- Both: of a call that writes into lent bytes, of one on a record, of one on a record and its counts of failure reports, of one on a table with a ledger, counts and lent bytes, of those on a plan text, on a text of recorded messages and on a text of many plans, and of adding to totals.
abbrev pub WritesBy : List ℕ → List ℕ → Written × List ℕ → Type 0
WritesBy numbers out r = EndsBy numbers (ending r.0) × Keeps (ending r.0) out r.1

abbrev pub StepsBy : List ℕ → Node → Stepped → Type 0
StepsBy numbers v r = EndsBy numbers (ending r.answer) × Keeps (ending r.answer) v r.node

abbrev pub CountsBy : List ℕ → Node → Counts → Counted → Type 0
CountsBy numbers v counts r = EndsBy numbers (ending r.stepped.answer) × Keeps {A = Node × Counts} (ending r.stepped.answer) (v, counts) (r.stepped.node, r.counts)

abbrev pub RunsBy : List ℕ → Outcome → Table × Ledger × List Counts × List ℕ → Table × Ledger × List Counts × List ℕ → Type 0
RunsBy numbers o before after = EndsBy numbers (of_outcome o) × Keeps (of_outcome o) before after

abbrev pub FeedsBy : List ℕ → Plan → Part → List ℕ → Fed → Type 0
FeedsBy numbers p part out f =
    EndsBy numbers (ending f.written) × Keeps {A = Plan × Part × List ℕ} (ending f.written) (p, part, out) (f.plan, f.part, f.out)

abbrev pub ConvertsBy : List ℕ → Recording → List ℕ → recorded.Fed → Type 0
ConvertsBy numbers r out f = EndsBy numbers (ending f.written) × Keeps {A = Recording × List ℕ} (ending f.written) (r, out) (f.recording, f.out)

abbrev pub ReportsBy : List ℕ → Report → List ℕ → reported.Fed → Type 0
ReportsBy numbers r out f = EndsBy numbers (ending f.written) × Keeps {A = Report × List ℕ} (ending f.written) (r, out) (f.report, f.out)

abbrev pub AddsBy : List ℕ → Figures → Added → Type 0
AddsBy numbers totals a = EndsBy numbers (ending a.answer) × Keeps (ending a.answer) totals a.totals

-- By which numbers a call of the bench may be refused, in the order of its tests.
abbrev pub numbers_for : Command → List ℕ
numbers_for (command.SetUp choices) = 1 ∷ 16 ∷ 2 ∷ 14 ∷ 17 ∷ 18 ∷ 4 ∷ []
numbers_for (command.Slot lost missed jobs) = 4 ∷ 3 ∷ 13 ∷ 5 ∷ 8 ∷ 9 ∷ []
numbers_for (command.Off a) = 4 ∷ 3 ∷ 13 ∷ []
numbers_for (command.Restart a) = 4 ∷ 3 ∷ 11 ∷ []
numbers_for (command.Look lost) = 4 ∷ []

-- A call of the bench by value: no row changes, nor what is lent.
abbrev pub RowsBy : ℕ → Command → List ℕ → Rows → Ledger → List Counts → List ℕ → Type 0
RowsBy n c slots rows ledger counts out =
    let r = call_with n c slots (length out) ledger counts rows in
    EndsBy (numbers_for c) (of_outcome r.0.outcome)
    × Keeps {A = Rows × Ledger × List Counts × List ℕ} (of_outcome r.0.outcome) (rows, ledger, counts, out) (r.0.rows, r.1, r.2, bytes_with c slots ledger counts (table_of n rows) out)

-- ---- the demand, call by call: by which numbers it may be refused, in the order of its tests

pub record Demand1 : Type 0 where
  -- the ring
  pub sender : (cable : Cable) (s : ℕ) → EndsBy (1 ∷ []) (ending (sender_of cable s))
  pub before : (cable : Cable) (set x j : ℕ) → EndsBy (1 ∷ 3 ∷ []) (ending (before_of cable set x j))
  pub sponsored : (cable : Cable) (set x j : ℕ) → EndsBy (1 ∷ 16 ∷ 2 ∷ 3 ∷ []) (ending (sponsored_of cable set x j))
  pub decided : (cable : Cable) (set x : ℕ) → EndsBy (1 ∷ 16 ∷ 2 ∷ 3 ∷ []) (ending (decided_of cable set x))
  -- the message; the reader writes to no byte
  pub read : (k m : ℕ) (bytes : List ℕ) → EndsBy (2 ∷ 14 ∷ 6 ∷ 7 ∷ 8 ∷ []) (ending (read_of k m bytes).reading)
  pub write : (k m acknowledgements : ℕ) (return_bit : Bool) (jobs : ℕ) (out : List ℕ)
      → WritesBy (2 ∷ 14 ∷ 8 ∷ 9 ∷ []) out (write_of k m acknowledgements return_bit jobs out)
  -- recorded messages: of two sections, brought to three, and taken back
  pub read-two : (k : ℕ) (bytes : List ℕ) → EndsBy (2 ∷ 6 ∷ 7 ∷ 8 ∷ []) (ending (read_two_of k bytes).reading)
  pub write_two : (k acknowledgements : ℕ) (return_bit : Bool) (out : List ℕ) → WritesBy (2 ∷ 8 ∷ 9 ∷ []) out (write_two_of k acknowledgements return_bit out)
  pub to-three : (k : ℕ) (bytes out : List ℕ) → WritesBy (2 ∷ 6 ∷ 7 ∷ 8 ∷ 9 ∷ []) out (to_three_of k bytes out)
  pub to-two : (k : ℕ) (bytes out : List ℕ) → WritesBy (2 ∷ 6 ∷ 7 ∷ 8 ∷ 15 ∷ 9 ∷ []) out (to_two_of k bytes out)
  -- the node record; set-up is given none, and sending returns none
  pub set-up : (choices : Choices) (slots : List ℕ) (own : ℕ) → EndsBy (1 ∷ 16 ∷ 2 ∷ 14 ∷ 17 ∷ 18 ∷ 3 ∷ []) (ending (start_of choices slots own).stepped.answer)
  pub slot : (bytes : List ℕ) (v : Node) (counts : Counts) → CountsBy (4 ∷ 5 ∷ []) v counts (slot_of bytes v counts)
  pub step : (received : Received) (v : Node) (counts : Counts) → CountsBy (4 ∷ 5 ∷ []) v counts (counted_of received v counts)
  pub send : (v : Node) (jobs : ℕ) (out : List ℕ) → WritesBy (4 ∷ 5 ∷ 8 ∷ 10 ∷ 9 ∷ []) out (send_of v jobs out)
  pub off : (v : Node) → StepsBy (4 ∷ []) v (off_of v)
  pub restart : (v : Node) → StepsBy (4 ∷ 11 ∷ []) v (restart_of v)
  -- a record as it is held, taken for the record of the rules
  pub as-set : (v : Held) → EndsBy (4 ∷ []) (ending (setted_of v))
  -- cover light (document 02, n): the level of a lamp, and all levels; `bases` are only read
  pub level : (v : Node) (bases : List ℕ) (lamp : ℕ) → EndsBy (4 ∷ 3 ∷ 20 ∷ []) (ending (level_of v bases lamp))
  pub levels : (v : Node) (bases out : List ℕ) → WritesBy (4 ∷ 20 ∷ 9 ∷ []) out (levels_of v bases out)
  -- the bench: set-up, slot, off, restart and a look; `slots` is the slot table that is lent, `out` are the lent bytes
  pub bench : (c : Command) (slots : List ℕ) (t : Table) (ledger : Ledger) (counts : List Counts) (out : List ℕ)
      → let kept = kept_of c slots (length out) ledger counts t in
      RunsBy (numbers_for c) kept.reply.outcome (t, ledger, counts, out) (kept.table, kept.ledger, kept.counts, bytes_with c slots ledger counts t out)
  -- the same by value: the table is the first n of 32 rows
  pub bench-by-value : (n : ℕ) (c : Command) (slots : List ℕ) (rows : Rows) (ledger : Ledger) (counts : List Counts) (out : List ℕ) → RowsBy n c slots rows ledger counts out
  -- plan texts: a whole one; a piece of one, where this part of the next line has come; and the end
  pub print-plan : (input out : List ℕ) → WritesBy (9 ∷ []) out (printed_in input out)
  pub feed : (p : Plan) (part : Part) (input out : List ℕ) → FeedsBy (4 ∷ 9 ∷ []) p part out (fed_of p part input out)
  pub finish : (p : Plan) (begun out : List ℕ) → WritesBy (9 ∷ []) out (finished_of p begun out)
  -- texts of recorded messages: a piece of one, and the end
  pub feed-recorded : (r : Recording) (input out : List ℕ) → ConvertsBy (9 ∷ []) r out (recorded.fed_of r input out)
  pub finish-recorded : (r : Recording) (out : List ℕ) → WritesBy (9 ∷ []) out (recorded.finished_of r out)
  -- texts of many plans: a piece of one, and the end; and the totals, where figures are added
  pub feed-reported : (r : Report) (input out : List ℕ) → ReportsBy (4 ∷ 9 ∷ []) r out (reported.fed_of r input out)
  pub finish-reported : (r : Report) (out : List ℕ) → WritesBy (9 ∷ []) out (reported.finished_of r out)
  pub add-figures : (totals figures : Figures) → AddsBy (19 ∷ []) totals (add_of totals figures)
