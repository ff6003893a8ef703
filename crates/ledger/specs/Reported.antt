-- "Each node keeps, for every node and every job, the number of reports heard from senders in its set as the slot begins, even if that message makes it leave; only set-up clears them" (document 02,
-- request h). The tally is told by the calls and their tables (bench's specs/Runs), not by the counts. A sequence of calls has THE LATEST FIRST.
use Rattle.std.specs.Prelude.{ℕ, ◌+◌, ◌-◌, ◌≤◌, ◌≡◌, ◌≢◌, Bool, true, false, cond, ◌&&◌, List, [], ◌∷◌, map, eqb, length, get_or}
use Rattle.bench.specs.refusal.Causes.{cause}
use Rattle.nodeset.specs.Sums.{num}
use Rattle.nodeset.specs.Sets.{has}
use Rattle.bench.specs.cable.declared.Cable.{Cable}
use Rattle.bench.specs.cable.Cable.{cable_fits}
use Rattle.bench.specs.node_reports.Reports.{Counts, no_reports_at}
use Rattle.bench.specs.node_sending.Sending.{jobs_sent}
use Rattle.bench.specs.node.Calls.{is_done, hears_report}
use Rattle.bench.specs.declared.Outcome.TheVariants.{Refused}
use Rattle.bench.specs.Table.{Table, record_of, speaker}
use Rattle.bench.specs.Calls.{set_up_of, heard_by}
use Rattle.bench.specs.Ledger.{Ledger}
use Rattle.bench.specs.Runs.{Call, slot, off, restart, table_after}
use Rattle.ledger.specs.Runs.{Given, called_by, kept_by}

-- ---- a run that keeps the counts

-- A call, the ledger and the slot table that are lent with it, and the job byte that a slot's sender is given.
pub record Asked : Type 0 where
  pub call : Call
  pub ledger : Ledger
  pub jobs : ℕ
  pub slots : List ℕ

abbrev pub with_counts : Asked → List Counts → Given
with_counts a counts = record { call = a.call; counts = counts; jobs = a.jobs; slots = a.slots }

-- A call that is made, and its job byte.
pub record Made : Type 0 where
  pub call : Call
  pub jobs : ℕ

abbrev pub calls_in : List Made → List Call
calls_in ms = map (λ (m : Made). m.call) ms

-- A table and its counts.
pub record Counting : Type 0 where
  pub table : Table
  pub counts : List Counts

module _ (start : Counting) where
  unfoldable pub counting_after : List Asked → Counting
  counting_after [] = start
  counting_after (a ∷ asks) =
      let b = counting_after asks in
      let kept = kept_by (with_counts a b.counts) a.ledger b.table in
      record { table = kept.table; counts = kept.counts }

  -- The calls that are made: a refused one changes nothing.
  unfoldable pub made_in : List Asked → List Made
  made_in [] = []
  made_in (a ∷ asks) =
      let b = counting_after asks in
      cond (is_done (called_by (with_counts a b.counts) a.ledger b.table).answer) (record { call = a.call; jobs = a.jobs } ∷ made_in asks) (made_in asks)

-- ---- the tally

-- Does node i hear a report of job j from node x in a call on a table?
abbrev pub reports : Call → ℕ → Table → ℕ → ℕ → ℕ → Bool
reports (slot lost missed room) jobs t i x j =
    eqb (speaker t) x && (hears_report (speaker t) (heard_by lost missed t i) (record_of t i) && has (jobs_sent jobs (record_of t (speaker t))) j)
reports (off a) jobs t i x j = false
reports (restart a) jobs t i x j = false

-- How often it did, over the calls that were made.
module _ (start : Table) where
  unfoldable pub times_reported : List Made → ℕ → ℕ → ℕ → ℕ
  times_reported [] i x j = 0
  times_reported (m ∷ ms) i x j = times_reported ms i x j + num (reports m.call m.jobs (table_after start (calls_in ms)) i x j)

-- ---- the claim

-- From set-up's table and counts, over the calls so far.
abbrev pub from_set_up : Cable → Table → List Asked → Counting
from_set_up cable start asks = counting_after (record { table = start; counts = no_reports_at cable.n }) asks

abbrev pub made_since : Cable → Table → List Asked → List Made
made_since cable start asks = made_in (record { table = start; counts = no_reports_at cable.n }) asks

-- The tables are those of the calls that are made, without counts; there is an array for each node, each count is its tally, and no call is refused by 4.
pub record Reported (cable : Cable) (start : Table) (asks : List Asked) : Type 0 where
  pub tables : (from_set_up cable start asks).table ≡ table_after start (calls_in (made_since cable start asks))
  pub size : length (from_set_up cable start asks).counts ≡ cable.n
  pub counts : (i x j : ℕ) → 1 ≤ i → i ≤ cable.n → 1 ≤ x → x ≤ 32 → 1 ≤ j → j ≤ 8
      → get_or (get_or (get_or (from_set_up cable start asks).counts (i - 1) []) (x - 1) []) (j - 1) 0 ≡ times_reported start (made_since cable start asks) i x j
  pub never-4 : (a : Asked)
      → let b = from_set_up cable start asks in
      (kept_by (with_counts a b.counts) a.ledger b.table).reply.outcome ≢ Refused (cause 4)

abbrev pub ReportsTally : Type 0
ReportsTally =
    (cable : Cable) → cable_fits cable ≡ true
    → (lent : Table) → length lent ≡ cable.n
    → (asks : List Asked) → Reported cable (set_up_of cable lent).table asks
