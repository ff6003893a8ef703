-- Sequences of bench calls that keep a ledger (document 02, request a), folded over the definition that the call's contract cites (bench's specs/Kept). A sequence of calls is a list with
-- THE LATEST FIRST.
use Rattle.std.specs.Prelude.{ℕ, ◌≡◌, Bool, cond, List, [], ◌∷◌, replicate}
use Rattle.bench.specs.node_reports.Reports.{Counts}
use Rattle.bench.specs.node.Calls.{is_done}
use Rattle.bench.specs.declared.Command.{Command}
use Rattle.bench.specs.declared.Command.TheVariants as command
use Rattle.bench.specs.Table.{Table}
use Rattle.bench.specs.Calls.{Called}
use Rattle.bench.specs.Ledger.{Ledger, figures}
use Rattle.bench.specs.Kept.{Kept, called_with, kept_of}
use Rattle.bench.specs.Runs.{Call, slot, off, restart, table_after}

-- A call, the counts of failure reports that are lent with it, the job byte that a slot's sender is given, and the slot table that is lent with it: any, as only set-up looks at it.
pub record Given : Type 0 where
  pub call : Call
  pub counts : List Counts
  pub jobs : ℕ
  pub slots : List ℕ

-- The command of a call, and how many bytes are lent with it for the pairs.
abbrev pub command_of : Call → ℕ → Command
command_of (slot lost missed room) jobs = command.Slot lost missed jobs
command_of (off a) jobs = command.Off a
command_of (restart a) jobs = command.Restart a

abbrev pub room_of : Call → ℕ
room_of (slot lost missed room) = room
room_of (off a) = 0
room_of (restart a) = 0

-- What a call makes of a table and a ledger.
abbrev pub commanded : Given → Command
commanded g = command_of g.call g.jobs

abbrev pub called_by : Given → Ledger → Table → Called
called_by g ledger t = called_with (commanded g) g.slots (room_of g.call) ledger g.counts t

abbrev pub kept_by : Given → Ledger → Table → Kept
kept_by g ledger t = kept_of (commanded g) g.slots (room_of g.call) ledger g.counts t

-- The calls with one more, if it is made: a refused one is no slot, and changes nothing.
abbrev pub with_made : Bool → Call → List Call → List Call
with_made made c cs = cond made (c ∷ cs) cs

-- A table and its ledger.
pub record Bench : Type 0 where
  pub table : Table
  pub ledger : Ledger

-- "any run of bench calls from set-up's table and a ledger of zeros, nobody else writing either"
abbrev pub zeros : ℕ → Ledger
zeros n = replicate n (figures 0 0 0)

module _ (start : Bench) where
  unfoldable pub bench_after : List Given → Bench
  bench_after [] = start
  bench_after (g ∷ gs) =
      let b = bench_after gs in
      let kept = kept_by g b.ledger b.table in
      record { table = kept.table; ledger = kept.ledger }

  -- The calls that are made.
  unfoldable pub made_of : List Given → List Call
  made_of [] = []
  made_of (g ∷ gs) = let b = bench_after gs in with_made (is_done (called_by g b.ledger b.table).answer) g.call (made_of gs)

-- ---- any ledger at each call

-- A call, and the ledger that is lent with it.
pub record Lent : Type 0 where
  pub given : Given
  pub ledger : Ledger

module _ (start : Table) where
  unfoldable pub table_lent : List Lent → Table
  table_lent [] = start
  table_lent (l ∷ ls) = (kept_by l.given l.ledger (table_lent ls)).table

  -- The calls that are made.
  unfoldable pub taken : List Lent → List Call
  taken [] = []
  taken (l ∷ ls) = with_made (is_done (called_by l.given l.ledger (table_lent ls)).answer) l.given.call (taken ls)

-- Whatever ledgers, counts, job bytes and slot tables are given, the tables are those of the calls that are made, without them: what is said of all sequences of these (demand 3, requests f and g) is said of the bench's calls.
abbrev pub AnyLent : Type 0
AnyLent = (start : Table) (ls : List Lent) → table_lent start ls ≡ table_after start (taken start ls)
