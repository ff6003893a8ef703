-- Document 02, request l: "The bench must show the same digits and the same bytes as the old layout did." Each call on a table as it is held is, through the conversion, the call of specs/Kept on the table that
-- it stands for: one that is made leaves what holds the table of the rules, a refused one the table that came. Ledger, counts, answer and lent bytes are those of the rules.
use Rattle.std.specs.Prelude.{ℕ, ◌≡◌, List, map}
use Rattle.node.specs.node_reports.Reports.{Counts}
use Rattle.node.specs.node_record.declared.Held.{Held}
use Rattle.node.specs.node_record.Held.{rowed, setted}
use Rattle.bench.specs.declared.Command.{Command}
use Rattle.bench.specs.declared.Reply.{Reply}
use Rattle.bench.specs.Table.{Table}
use Rattle.bench.specs.Calls.{Called}
use Rattle.bench.specs.Ledger.{Ledger}
use Rattle.bench.specs.Kept.{called_with, kept_of, if_done}

-- The table as it is held.
abbrev pub HeldTable : Type 0
HeldTable = List Held

-- What holds a table of the rules.
abbrev pub rowed_all : Table → HeldTable
rowed_all t = map rowed t

-- The table that a held one stands for.
abbrev pub setted_all : HeldTable → Table
setted_all t = map setted t

-- What a call leaves, where t came.
abbrev pub held_by : HeldTable → Called → HeldTable
held_by t called = if_done called.answer (rowed_all called.table) t

-- Table, ledger and counts after a call, and the answer.
pub record KeptHeld : Type 0 where
  pub table : HeldTable
  pub ledger : Ledger
  pub counts : List Counts
  pub reply : Reply

unfoldable pub kept_held : Command → List ℕ → ℕ → Ledger → List Counts → HeldTable → KeptHeld
kept_held c slots room ledger counts t =
    let kept = kept_of c slots room ledger counts (setted_all t) in
    record { table = held_by t (called_with c slots room ledger counts (setted_all t)); ledger = kept.ledger; counts = kept.counts; reply = kept.reply }

-- What a call leaves stands for what the rules leave, whatever table is lent.
abbrev pub CallStands : Type 0
CallStands =
    (c : Command) (slots : List ℕ) (room : ℕ) (ledger : Ledger) (counts : List Counts) (t : HeldTable)
    → setted_all (kept_held c slots room ledger counts t).table ≡ (kept_of c slots room ledger counts (setted_all t)).table
