-- Document 01, "The bench program": what a line does to a plan's bench, and what there is to print of it. The bench is 32 rows, of which the first n are its
-- table; the calls are those of the bench (bench_by_value's specs/ByValue).
use Rattle.std.specs.Prelude.{ℕ, true, false, List, [], replicate, Err, Ok, Result}
use Rattle.refusal.specs.declared.Refusal.{Refusal}
use Rattle.node_record.specs.Held.{rowed}
use Rattle.node.specs.Calls.{no_node}
use Rattle.cable.specs.slot_table.Order.{numbers_from}
use Rattle.cable.specs.declared.Choices.{Choices}
use Rattle.bench.specs.declared.Command.{Command}
use Rattle.bench.specs.declared.Command.TheVariants as command
use Rattle.bench.specs.declared.Outcome.TheVariants as outcome
use Rattle.bench_by_value.specs.declared.Ran.{Ran}
use Rattle.bench_by_value.specs.ByValue.{Rows, call_of}
use Rattle.plan_line.specs.Plan.{Opening}
use Rattle.plan_line.specs.Plan.{Said}
use Rattle.plan_line.specs.declared.Line.TheVariants as lines
use Rattle.plan_line.specs.Plan.{opening_of, line_of}
use Rattle.plan_run.specs.declared.Opened.{Opened}

-- A call of the bench, or why the line is refused.
abbrev pub Act : Type 0
Act = Result Command Refusal

-- "Then `ok`, `lost`, `miss a b` .. each run a slot; `off a` and `on a` switch or restart a node, no slot". A slot takes: "message lost to all or not, and which
-- nodes miss it" ("The bench").
abbrev pub act_of : Said → Act
act_of (Ok lines.Ok) = Ok (command.Slot false 0 0)
act_of (Ok lines.Lost) = Ok (command.Slot true 0 0)
act_of (Ok (lines.Miss missed)) = Ok (command.Slot false missed 0)
act_of (Ok (lines.Off a)) = Ok (command.Off a)
act_of (Ok (lines.On a)) = Ok (command.Restart a)
act_of (Err cause) = Err cause

-- A line that is refused changes nothing.
abbrev pub refused : Rows → Refusal → Ran
refused rows cause = record { rows = rows; outcome = outcome.Refused cause; pairs = 0 }

-- The slot table that is lent with a command: to set-up "the plain table 1 to n" (document 02, k). (No other call looks at it.)
abbrev pub slots_for : Command → List ℕ
slots_for (command.SetUp choices) = numbers_from choices.n 1
slots_for (command.Off a) = []
slots_for (command.Restart a) = []
slots_for (command.Slot lost missed jobs) = []
slots_for (command.Look lost) = []

-- With room for all pairs.
abbrev pub ran_by : ℕ → Rows → Act → Ran
ran_by n rows (Ok c) = call_of n c (slots_for c) 64 rows
ran_by n rows (Err cause) = refused rows cause

unfoldable pub ran_of : ℕ → Rows → List ℕ → Ran
ran_of n rows line = ran_by n rows (act_of (line_of n line))

-- Before line one there is no node.
abbrev pub no_rows : Rows
no_rows = replicate 32 (rowed no_node)

-- The bench of a plan with n nodes.
abbrev pub opened_as : ℕ → Ran → Opened
opened_as n r = record { n = n; rows = r.rows; outcome = r.outcome }

-- "The bench program keeps its lines, with m = 0 and later lag 0 and the plain table" (document 02, h).
abbrev pub choices_of : ℕ → ℕ → Choices
choices_of n k = record { n = n; k = k; m = 0; lag = 0 }

-- "Line one: n, space, k."
abbrev pub opened_by : Opening → Opened
opened_by (Ok (n, k)) = opened_as n (ran_by n no_rows (Ok (command.SetUp (choices_of n k))))
opened_by (Err cause) = opened_as 0 (ran_by 0 no_rows (Err cause))

unfoldable pub opened_of : List ℕ → Opened
opened_of line = opened_by (opening_of line)
