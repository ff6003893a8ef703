-- The bench's calls on 32 rows, the first n of which hold its table.
use Rattle.std.specs.Prelude.{ℕ, List, ◌++◌, take, drop}
use Rattle.node_record.specs.declared.Held.{Held}
use Rattle.bench.specs.node_reports.Reports.{Counts}
use Rattle.bench.specs.declared.Command.{Command}
use Rattle.bench.specs.declared.Reply.{Reply}
use Rattle.bench.specs.Table.{Table}
use Rattle.bench.specs.Outcomes.{called_of, ended_by}
use Rattle.bench.specs.Ledger.{Ledger}
use Rattle.bench.specs.Held.{HeldTable, setted_all, held_by, kept_held}
use Rattle.bench_by_value.specs.declared.Ran.{Ran}

abbrev pub Rows : Type 0
Rows = List Held

-- The table that the first n rows stand for.
abbrev pub table_of : ℕ → Rows → Table
table_of n rows = setted_all (take n rows)

-- The rows after a call that left this of the first n, and the answer.
abbrev pub ended : ℕ → Rows → HeldTable → Reply → Ran
ended n rows left reply = record { rows = left ++ drop n rows; outcome = reply.outcome; pairs = reply.pairs }

-- A call where so many bytes are lent for the pairs, and neither ledger nor counts are kept.
unfoldable pub call_of : ℕ → Command → List ℕ → ℕ → Rows → Ran
call_of n c slots room rows =
    let called = called_of c slots room (table_of n rows) in
    ended n rows (held_by (take n rows) called) (ended_by c (table_of n rows) called).reply

-- A call with a ledger and counts: the rows, the answer, and ledger and counts after it.
unfoldable pub call_with : ℕ → Command → List ℕ → ℕ → Ledger → List Counts → Rows → Ran × Ledger × List Counts
call_with n c slots room ledger counts rows =
    let k = kept_held c slots room ledger counts (take n rows) in
    (ended n rows k.table k.reply, k.ledger, k.counts)
