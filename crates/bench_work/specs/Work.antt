-- Inner: what an order that was carried out leaves to tell, to enter in the ledger and to count.
use Rattle.std.specs.Prelude.{ℕ, Bool, true, false, cond, ◌&&◌, List, eqb, leb, length, take}
use Rattle.nodeset.specs.Sets.{without, minus}
use Rattle.cable.specs.declared.Cable.{Cable}
use Rattle.cable.specs.declared.Choices.{Choices}
use Rattle.cable.specs.Cable.{cable_with}
use Rattle.node_reports.specs.Reports.{Counts, no_reports_at, heard_by}
use Rattle.node_reports.specs.Inner.{greatest_of}
use Rattle.node_record.specs.declared.Node.{Node}
use Rattle.node_record.specs.Held.{setted}
use Rattle.bench_orders.specs.node_steps.Steps.{is_heard}
use Rattle.node_sending.specs.Sending.{jobs_sent}
use Rattle.bench.specs.declared.Command.{Command}
use Rattle.bench.specs.declared.Command.TheVariants as command
use Rattle.bench_orders.specs.declared.Order.{Order}
use Rattle.bench.specs.Held.{HeldTable}
use Rattle.bench.specs.Ledger.{Ledger}
use Rattle.ledger.specs.Entered.{entered, one_more}
use Rattle.bench_orders.specs.declared.Order.TheVariants as order
use Rattle.bench_orders.specs.declared.Beside.{Beside}
use Rattle.bench_orders.specs.declared.Errand.{Errand}
use Rattle.bench_orders.specs.declared.Turn.{Turn}
use Rattle.bench_orders.specs.declared.Survey.{Survey}
use Rattle.bench_notes.specs.declared.Notes.{Notes}
use Rattle.bench_orders.specs.Survey.{members_of}
use Rattle.bench_orders.specs.Orders.{carried_from, notes_of, reach_of}
use Rattle.bench_work.specs.declared.Work.{Work}

abbrev pub work_of : Errand → HeldTable → Work
work_of errand t = record {
  notes = notes_of errand t;
  members = members_of (take (reach_of (notes_of errand t)) (carried_from errand 0 t));
}

-- The date of what is entered of an order: the slots done so far; of a slot, its own number.
abbrev pub date_by : Order → ℕ → ℕ
date_by (order.Refuse cause) slots = slots
date_by order.Start slots = slots
date_by (order.Off a) slots = slots
date_by (order.Restart a) slots = slots
date_by (order.Slot turn) slots = one_more slots
date_by (order.Look done sender fate) slots = slots

-- The ledger after an order: who left and who joined is entered of an off and of a slot.
abbrev pub entered_by : Order → ℕ → Notes → Ledger → Ledger
entered_by (order.Refuse cause) slots m ledger = ledger
entered_by order.Start slots m ledger = ledger
entered_by (order.Off a) slots m ledger = entered (date_by (order.Off a) slots) m.moves.left m.moves.joined ledger
entered_by (order.Restart a) slots m ledger = ledger
entered_by (order.Slot turn) slots m ledger = entered (date_by (order.Slot turn) slots) m.moves.left m.moves.joined ledger
entered_by (order.Look done sender fate) slots m ledger = ledger

-- ---- the counts of failure reports

abbrev pub no_choices : Choices
no_choices = record { n = 0; k = 0; m = 0; lag = 0 }

-- Whether the counts lent fit what is asked, where there are so many arrays and this is the greatest count.
abbrev pub reports_fit_by : Command → Survey → ℕ → ℕ → Bool
reports_fit_by (command.SetUp choices) s arrays greatest = eqb arrays choices.n
reports_fit_by (command.Off a) s arrays greatest = true
reports_fit_by (command.Restart a) s arrays greatest = true
reports_fit_by (command.Slot lost missed jobs) s arrays greatest = eqb arrays s.cable.n && leb greatest s.slots
reports_fit_by (command.Look lost) s arrays greatest = true

-- The choices that set-up is asked for; those of no cable where nothing is set up.
abbrev pub choices_in : Command → Choices
choices_in (command.SetUp choices) = choices
choices_in (command.Off a) = no_choices
choices_in (command.Restart a) = no_choices
choices_in (command.Slot lost missed jobs) = no_choices
choices_in (command.Look lost) = no_choices

-- What is lent beside the table, where this cable is asked for, whose slot table was lent with so many places.
abbrev pub beside_with : Command → Survey → Bool → List Counts → Cable → ℕ → Beside
beside_with c s fits counts cable places = record {
  ledger = fits;
  reports = reports_fit_by c s (length counts) (greatest_of counts);
  cable = cable;
  places = places;
}

abbrev pub beside_by : Command → List ℕ → Survey → Bool → List Counts → Beside
beside_by c slots s fits counts = beside_with c s fits counts (cable_with (choices_in c) slots) (length slots)

-- The nodes that count the sender's report in a slot: those that list the sender and do not miss its message, which is heard.
abbrev pub hearers_in : Turn → ℕ → ℕ
hearers_in turn listers = cond (is_heard turn.heard) (without (minus listers turn.missed) turn.sender) 0

abbrev pub hearers_by : Order → ℕ → ℕ
hearers_by (order.Refuse cause) listers = 0
hearers_by order.Start listers = 0
hearers_by (order.Off a) listers = 0
hearers_by (order.Restart a) listers = 0
hearers_by (order.Slot turn) listers = hearers_in turn listers
hearers_by (order.Look done sender fate) listers = 0

-- The job byte that a command has the speaker send.
abbrev pub jobs_by : Command → Node → ℕ
jobs_by (command.SetUp choices) speaker = 0
jobs_by (command.Off a) speaker = 0
jobs_by (command.Restart a) speaker = 0
jobs_by (command.Slot lost missed jobs) speaker = jobs_sent jobs speaker
jobs_by (command.Look lost) speaker = 0

abbrev pub is_start : Order → Bool
is_start (order.Refuse cause) = false
is_start order.Start = true
is_start (order.Off a) = false
is_start (order.Restart a) = false
is_start (order.Slot turn) = false
is_start (order.Look done sender fate) = false

-- The counts after an order.
abbrev pub reported_by : Order → Command → Survey → List Counts → List Counts
reported_by o c s counts =
    let heard = heard_by (hearers_by o s.listers) s.sender (jobs_by c (setted s.speaker)) counts in
    cond (is_start o) (no_reports_at (length heard)) heard
