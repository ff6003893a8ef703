-- "Each figure must equal the tally over the whole history of slots and switchings" (document 02, request a). The tally is told by the calls and their tables (bench's specs/Runs), not by the ledger.
use Rattle.std.specs.Prelude.{ℕ, ◌+◌, ◌-◌, ◌≤◌, ◌≡◌, ◌≢◌, Bool, true, cond, List, [], ◌∷◌, length, get_or}
use Rattle.nodeset.specs.Sums.{num}
use Rattle.bench.specs.refusal.Causes.{cause}
use Rattle.bench.specs.cable.declared.Cable.{Cable}
use Rattle.bench.specs.cable.Cable.{cable_fits}
use Rattle.bench.specs.declared.Outcome.TheVariants.{Refused}
use Rattle.bench.specs.Table.{Table, record_of}
use Rattle.bench.specs.Calls.{set_up_of}
use Rattle.bench.specs.Ledger.{figures, is_leaving, is_joining}
use Rattle.bench.specs.Kept.{date_of}
use Rattle.bench.specs.Runs.{Call, call_of, table_after}
use Rattle.ledger.specs.Runs.{Bench, Given, command_of, kept_by, zeros, bench_after, made_of}

-- Does node i leave, or join, in a call on a table?
abbrev pub leaves : Call → Table → ℕ → Bool
leaves c t i = is_leaving (record_of t i).state (record_of (call_of c t).table i).state

abbrev pub joins : Call → Table → ℕ → Bool
joins c t i = is_joining (record_of t i).state (record_of (call_of c t).table i).state

-- Over the calls so far, THE LATEST FIRST.
module _ (start : Table) where
  -- how often it left
  unfoldable pub times_left : List Call → ℕ → ℕ
  times_left [] i = 0
  times_left (c ∷ cs) i = times_left cs i + num (leaves c (table_after start cs) i)

  -- how often it joined
  unfoldable pub times_joined : List Call → ℕ → ℕ
  times_joined [] i = 0
  times_joined (c ∷ cs) i = times_joined cs i + num (joins c (table_after start cs) i)

  -- "the slot of its last leaving (0 if never)"
  unfoldable pub last_leaving : List Call → ℕ → ℕ
  last_leaving [] i = 0
  last_leaving (c ∷ cs) i = cond (leaves c (table_after start cs) i) (date_of (command_of c 0) (table_after start cs)) (last_leaving cs i)

-- The table and the ledger after calls from a start and a ledger of zeros, and which of them are made.
abbrev pub from_zeros : Cable → Table → List Given → Bench
from_zeros cable start gs = bench_after (record { table = start; ledger = zeros cable.n }) gs

abbrev pub made_from : Cable → Table → List Given → List Call
made_from cable start gs = made_of (record { table = start; ledger = zeros cable.n }) gs

-- Over every sequence of calls from the common start and a ledger of zeros, whatever counts, job bytes and slot tables are given: the tables are those of the calls that are made, without a ledger, the ledger has an
-- entry for each node, each figure is its tally, and no call is refused by 13.
pub record Tallied (cable : Cable) (start : Table) (gs : List Given) : Type 0 where
  pub tables : (from_zeros cable start gs).table ≡ table_after start (made_from cable start gs)
  pub size : length (from_zeros cable start gs).ledger ≡ cable.n
  pub entries : (i : ℕ) → i ≤ cable.n → 1 ≤ i
      → get_or (from_zeros cable start gs).ledger (i - 1) []
      ≡ let cs = made_from cable start gs in figures (times_left start cs i) (times_joined start cs i) (last_leaving start cs i)
  pub never-13 : (g : Given)
      → let b = from_zeros cable start gs in
      (kept_by g b.ledger b.table).reply.outcome ≢ Refused (cause 13)

abbrev pub LedgerTallies : Type 0
LedgerTallies =
    (cable : Cable) → cable_fits cable ≡ true
    → (lent : Table) → length lent ≡ cable.n
    → (gs : List Given) → Tallied cable (set_up_of cable lent).table gs
