-- A refused call of the bench leaves the table as it was held. Assumes nothing.
use Rattle.std.specs.Prelude.{Err, Ok}
use Prim.Native.Nat.{ℕ}
use mathlib.Core.Path.{refl}
use mathlib.Core.Bool.{Bool}
use mathlib.Core.List.{List}
use Rattle.cover_light.specs.node_reports.Reports.{Counts}
use Rattle.cover_light.specs.node.Answers.{Answer}
use Rattle.agreement.specs.bench.declared.Command.{Command}
use Rattle.agreement.specs.bench.declared.Command.TheVariants as command
use Rattle.agreement.specs.bench.Table.{Table}
use Rattle.agreement.specs.bench.Ledger.{Ledger}
use Rattle.agreement.specs.bench.Outcomes.{slot_outcome, quiet_outcome}
use Rattle.agreement.specs.bench.Kept.{if_done, called_with, kept_of}
use Rattle.agreement.specs.bench.Held.{HeldTable, setted_all, kept_held}
use Rattle.demands.specs.Demand1.{Keeps, of_outcome}

quiet-refused : (a : Answer) (t x : HeldTable) → Keeps (of_outcome (quiet_outcome a)) t (if_done a x t)
quiet-refused (Ok _) t x = tt
quiet-refused (Err cause) t x = refl

slot-refused : (lost : Bool) (before later : Table) (a : Answer) (t x : HeldTable) → Keeps (of_outcome (slot_outcome lost before later a)) t (if_done a x t)
slot-refused lost before later (Ok _) t x = tt
slot-refused lost before later (Err cause) t x = refl

pub refused-call : (c : Command) (slots : List ℕ) (room : ℕ) (ledger : Ledger) (counts : List Counts) (t : HeldTable)
    → let kept = kept_held c slots room ledger counts t in Keeps (of_outcome kept.reply.outcome) t kept.table
unfolding kept_held kept_of
refused-call (command.SetUp choices) slots room ledger counts t = quiet-refused (called_with (command.SetUp choices) slots room ledger counts (setted_all t)).answer t _
refused-call (command.Off a) slots room ledger counts t = quiet-refused (called_with (command.Off a) slots room ledger counts (setted_all t)).answer t _
refused-call (command.Restart a) slots room ledger counts t = quiet-refused (called_with (command.Restart a) slots room ledger counts (setted_all t)).answer t _
refused-call (command.Slot lost missed jobs) slots room ledger counts t = slot-refused lost _ _ (called_with (command.Slot lost missed jobs) slots room ledger counts (setted_all t)).answer t _
refused-call (command.Look lost) slots room ledger counts t = slot-refused lost _ _ (called_with (command.Look lost) slots room ledger counts (setted_all t)).answer t _
