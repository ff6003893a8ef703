-- Request k: "For every other table the node records and the distance after each slot must equal those of the plain run with the nodes renamed in records and calls, the kept table aside. .. Changes within a
-- slot keep the order of c), so they match as a set only." The calls are any, and no premise is asked of them. A sequence of calls has THE LATEST FIRST.
use Rattle.std.specs.Prelude.{ℕ, zero, suc, ◌-◌, ◌≤◌, ◌≡◌, Bool, true, false, cond, ◌&&◌, ◌||◌, List, [], ◌∷◌, map, eqb, length, get_or}
use Rattle.ledger.specs.nodeset.Sets.{has, with_if, within}
use Rattle.ledger.specs.slot_table.Order.{node_at, place}
use Rattle.ledger.specs.cable.declared.Cable.{Cable}
use Rattle.ledger.specs.cable.Cable.{plain_cable, node_number, cable_fits}
use Rattle.ledger.specs.node_record.declared.Node.{Node}
use Rattle.ledger.specs.bench.Table.{Table, record_of}
use Rattle.ledger.specs.bench.Calls.{set_up_of, greatest}
use Rattle.ledger.specs.bench.Pairs.{Pair, pairs_in}
use Rattle.ledger.specs.bench.Ledger.{Figures}
use Rattle.ledger.specs.bench.Runs.{Call, slot, off, restart, call_of, table_after}
use Rattle.ledger.specs.Runs.{Given}
use Rattle.ledger.specs.Tallies.{from_zeros}
use Rattle.ledger.specs.Reported.{Asked, from_set_up}

-- The same cable with the plain table.
abbrev pub plain_of : Cable → Cable
plain_of cable = plain_cable (record { n = cable.n; k = cable.k; m = cable.m; lag = cable.lag })

-- ---- names

-- Node p of the plain run has the name of the node at place p. A number that is no node's stays.
unfoldable pub name_of : Cable → ℕ → ℕ
name_of cable p = cond (node_number cable.n p) (node_at cable.order p) p

-- The node with the name x is that of its place in the plain run.
unfoldable pub placed : Cable → ℕ → ℕ
placed cable x = cond (node_number cable.n x) (place cable.order x) x

-- Those of 1 to m whose other name is in a set.
unfoldable pub renamed_set : (ℕ → ℕ) → ℕ → ℕ → ℕ
renamed_set other zero set = 0
renamed_set other (suc m) set = with_if (has set (other (suc m))) (renamed_set other m set) (suc m)

-- ---- "renamed in records"

-- A record of the plain run, with its nodes named by the slot table, which it keeps in place of the plain one.
unfoldable pub renamed : Cable → Node → Node
renamed cable v = record {
  cable = record { n = v.cable.n; k = v.cable.k; m = v.cable.m; lag = v.cable.lag; order = cable.order };
  own = name_of cable v.own;
  slots = v.slots;
  state = v.state;
  set = renamed_set (placed cable) cable.n v.set;
  present = renamed_set (placed cable) cable.n v.present;
  returning = name_of cable v.returning;
  return_heard = v.return_heard;
  yes_heard = v.yes_heard;
  listening = record {
    done = v.listening.done;
    heard = renamed_set (placed cable) cable.n v.listening.heard;
    shortest = v.listening.shortest;
    return_seen = v.listening.return_seen;
    last = renamed_set (placed cable) cable.n v.listening.last;
  };
}

-- ---- "and calls"

-- The nodes that miss a message, as the plain run calls them. A set with a number that is no node's stays.
unfoldable pub missed_at : Cable → ℕ → ℕ
missed_at cable missed = cond (within cable.n missed) (renamed_set (name_of cable) cable.n missed) missed

-- A call of the run with the slot table, as the plain run gets it.
unfoldable pub call_at : Cable → Call → Call
call_at cable (slot lost missed room) = slot lost (missed_at cable missed) room
call_at cable (off a) = off (placed cable a)
call_at cable (restart a) = restart (placed cable a)

abbrev pub calls_at : Cable → List Call → List Call
calls_at cable cs = map (call_at cable) cs

-- ---- every sequence of calls

-- The table after calls from the common start that set-up makes of a lent table, and that of the plain run.
abbrev pub ran : Cable → Table → List Call → Table
ran cable lent cs = table_after (set_up_of cable lent).table cs

abbrev pub ran_plain : Cable → Table → List Call → Table
ran_plain cable lent cs = ran (plain_of cable) lent (calls_at cable cs)

-- A pair is told.
unfoldable pub is_told : ℕ → ℕ → List Pair → Bool
is_told x kind [] = false
is_told x kind (p ∷ ps) = (eqb p.0 x && eqb p.1 kind) || is_told x kind ps

-- ---- what is kept beside the table

-- The same calls for the plain run, with what is lent beside them.
abbrev pub given_at : Cable → List Given → List Given
given_at cable gs = map (λ (g : Given). record { call = call_at cable g.call; counts = g.counts; jobs = g.jobs; slots = g.slots }) gs

abbrev pub asked_at : Cable → List Asked → List Asked
asked_at cable asks = map (λ (a : Asked). record { call = call_at cable a.call; ledger = a.ledger; jobs = a.jobs; slots = a.slots }) asks

-- The figures of node x in the ledger of a run from the common start and a ledger of zeros.
abbrev pub figures_of : Cable → Table → List Given → ℕ → Figures
figures_of cable lent gs x = get_or (from_zeros cable (set_up_of cable lent).table gs).ledger (x - 1) []

-- How many reports of job j from node y node x has counted in a run from the common start.
abbrev pub count_of : Cable → Table → List Asked → ℕ → ℕ → ℕ → ℕ
count_of cable lent asks x y j = get_or (get_or (get_or (from_set_up cable (set_up_of cable lent).table asks).counts (x - 1) []) (y - 1) []) (j - 1) 0

-- ---- the claim

-- The runs with a slot table and the plain runs of the same calls, renamed.
pub record AsRenamed (cable : Cable) (lent other : Table) : Type 0 where
  -- "the node records"
  pub records : (cs : List Call) (x : ℕ) → node_number cable.n x ≡ true
      → record_of (ran cable lent cs) x ≡ renamed cable (record_of (ran_plain cable other cs) (place cable.order x))
  -- "and the distance"
  pub distances : (cs : List Call) → greatest cable.n (ran cable lent cs) ≡ greatest cable.n (ran_plain cable other cs)
  -- a call is refused alike
  pub answers : (c : Call) (cs : List Call) → (call_of c (ran cable lent cs)).answer ≡ (call_of (call_at cable c) (ran_plain cable other cs)).answer
  -- "they match as a set"
  pub changes : (c : Call) (cs : List Call) (x kind : ℕ) → node_number cable.n x ≡ true
      → is_told x kind (pairs_in (ran cable lent cs) (ran cable lent (c ∷ cs)))
      ≡ is_told (place cable.order x) kind (pairs_in (ran_plain cable other cs) (ran_plain cable other (c ∷ cs)))
  -- each node's figures in the ledger (request a), and its counts of failure reports (request h), are those of the node at its place
  pub ledgers : (gs : List Given) (x : ℕ) → node_number cable.n x ≡ true
      → figures_of cable lent gs x ≡ figures_of (plain_of cable) other (given_at cable gs) (place cable.order x)
  pub counts : (asks : List Asked) (x y j : ℕ) → node_number cable.n x ≡ true → node_number cable.n y ≡ true → 1 ≤ j → j ≤ 8
      → count_of cable lent asks x y j ≡ count_of (plain_of cable) other (asked_at cable asks) (place cable.order x) (place cable.order y) j

abbrev pub Renamed : Type 0
Renamed = (cable : Cable) → cable_fits cable ≡ true → (lent other : Table) → length lent ≡ cable.n → length other ≡ cable.n → AsRenamed cable lent other
