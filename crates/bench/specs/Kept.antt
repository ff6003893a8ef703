-- The calls with the ledger and the counts of failure reports that are lent beside the table (document 02, requests a and h): "In slot and off, a ledger whose length is not n, or with a count
-- above the slot count plus one: 13, just before 5." "A report count above the slot count, or not one array of counts per node in set-up or bench slot, gives 4". The other calls neither test nor change them.
use Rattle.std.specs.Prelude.{ℕ, ◌+◌, ◌≡◌, ◌⊎◌, Bool, List, eqb, length, Err, Ok}
use Rattle.refusal.specs.Causes.{cause}
use Rattle.cable.specs.nodeset.Sets.{within}
use Rattle.cable.specs.declared.Choices.{Choices}
use Rattle.cable.specs.Cable.{cable_with, may_set_up, node_number, fault_of}
use Rattle.node.specs.node_reports.Reports.{Counts, no_reports_at}
use Rattle.node.specs.Answers.{Answer}
use Rattle.bench.specs.declared.Command.{Command}
use Rattle.bench.specs.declared.Command.TheVariants as command
use Rattle.bench.specs.declared.Reply.{Reply}
use Rattle.bench.specs.Table.{Table, table_sound, node_count, slots_of}
use Rattle.bench.specs.Calls.{Called, if_passed, set_up_given, off_of}
use Rattle.bench.specs.Reports.{reports_fit, reports_after_slot}
use Rattle.bench.specs.Outcomes.{slot_given, called_of, ended_by, bytes_by}
use Rattle.bench.specs.Ledger.{Ledger, ledger_fits, ledger_after}

-- ---- set-up: 1, 16, 2, 14, 17, 18, 4, then what set-up without counts answers (4)

unfoldable pub set_up_with : Choices → List ℕ → List Counts → Table → Called
set_up_with choices slots counts t =
    let cable = cable_with choices slots in
    if_passed (may_set_up cable (length slots)) (fault_of cable (length slots)) t
    (if_passed (eqb (length counts) cable.n) 4 t
    (set_up_given choices slots t))

-- ---- slot: 4, 3, 13, then what the slot without them answers (5, 8 and 9)

unfoldable pub slot_with : Bool → ℕ → ℕ → ℕ → Ledger → List Counts → Table → Called
slot_with lost missed jobs room ledger counts t =
    if_passed (table_sound t) 4 t
    (if_passed (reports_fit t counts) 4 t
    (if_passed (within (node_count t) missed) 3 t
    (if_passed (ledger_fits (node_count t) (slots_of t) ledger) 13 t
    (slot_given lost missed jobs room t))))

-- ---- off: 4, 3 and 13

unfoldable pub off_with : ℕ → Ledger → Table → Called
off_with a ledger t =
    if_passed (table_sound t) 4 t
    (if_passed (node_number (node_count t) a) 3 t
    (if_passed (ledger_fits (node_count t) (slots_of t) ledger) 13 t
    (off_of a t)))

-- ---- each call

abbrev pub called_with : Command → List ℕ → ℕ → Ledger → List Counts → Table → Called
called_with (command.SetUp choices) slots room ledger counts t = set_up_with choices slots counts t
called_with (command.Off a) slots room ledger counts t = off_with a ledger t
called_with (command.Restart a) slots room ledger counts t = called_of (command.Restart a) slots room t
called_with (command.Slot lost missed jobs) slots room ledger counts t = slot_with lost missed jobs room ledger counts t
called_with (command.Look lost) slots room ledger counts t = called_of (command.Look lost) slots room t

-- With any ledger and any counts a call is the one without them, or it is refused by 13 or 4 and leaves the table.
abbrev pub OnlyRefuses : Type 0
OnlyRefuses =
    (c : Command) (slots : List ℕ) (room : ℕ) (ledger : Ledger) (counts : List Counts) (t : Table)
    → (called_with c slots room ledger counts t ≡ called_of c slots room t)
    ⊎ ((called_with c slots room ledger counts t ≡ record { table = t; answer = Err (cause 13) })
    ⊎ (called_with c slots room ledger counts t ≡ record { table = t; answer = Err (cause 4) }))

-- What a call that was made leaves; a refused one changes nothing.
abbrev pub if_done : {A : Type 0} → Answer → A → A → A
if_done (Ok _) after before = after
if_done (Err cause) after before = before

-- ---- the ledger

-- A leaving in a slot has that slot's number; "`off` counts as a leaving if the node was a member, dated with the slots done so far".
abbrev pub date_of : Command → Table → ℕ
date_of (command.SetUp choices) t = 0
date_of (command.Off a) t = slots_of t
date_of (command.Restart a) t = 0
date_of (command.Slot lost missed jobs) t = slots_of t + 1
date_of (command.Look lost) t = 0

-- Who left and who joined is entered.
abbrev pub ledger_with : Command → Table → Called → Ledger → Ledger
ledger_with (command.SetUp choices) before called ledger = ledger
ledger_with (command.Off a) before called ledger = if_done called.answer (ledger_after (date_of (command.Off a) before) before called.table ledger) ledger
ledger_with (command.Restart a) before called ledger = ledger
ledger_with (command.Slot lost missed jobs) before called ledger =
    if_done called.answer (ledger_after (date_of (command.Slot lost missed jobs) before) before called.table ledger) ledger
ledger_with (command.Look lost) before called ledger = ledger

-- ---- the counts: "only set-up clears them"

abbrev pub reports_with : Command → Table → Called → List Counts → List Counts
reports_with (command.SetUp choices) before called counts = if_done called.answer (no_reports_at (length counts)) counts
reports_with (command.Off a) before called counts = counts
reports_with (command.Restart a) before called counts = counts
reports_with (command.Slot lost missed jobs) before called counts = if_done called.answer (reports_after_slot lost missed jobs before counts) counts
reports_with (command.Look lost) before called counts = counts

-- ---- all of it

-- Table, ledger and counts after a call, and the answer.
pub record Kept : Type 0 where
  pub table : Table
  pub ledger : Ledger
  pub counts : List Counts
  pub reply : Reply

unfoldable pub kept_of : Command → List ℕ → ℕ → Ledger → List Counts → Table → Kept
kept_of c slots room ledger counts t =
    let called = called_with c slots room ledger counts t in
    record { table = called.table; ledger = ledger_with c t called ledger; counts = reports_with c t called counts; reply = (ended_by c t called).reply }

-- The lent bytes after a call.
abbrev pub bytes_with : Command → List ℕ → Ledger → List Counts → Table → List ℕ → List ℕ
bytes_with c slots ledger counts t out = bytes_by c t (called_with c slots (length out) ledger counts t) out
