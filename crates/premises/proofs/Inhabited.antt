-- The premises of demand 3 are met, with lag 0 and with lag 1, with the plain slot table and with another, by a run in which a node fails, leaves, is restarted, knocks and joins again: the demand does not hold for want of runs.
-- Assumes nothing.
use Prim.Native.Nat.{ℕ, ◌≤◌}
use mathlib.Core.Path.{◌≡◌, refl, sym, ap, ◌∙◌}
use mathlib.Core.Bool.{true}
use mathlib.Core.List.{List, [], ◌∷◌, map, reverse}
use lib.Dec.{lit≤}
use lib.ListN.{replicate}
use Rattle.agreement.specs.cable.declared.Cable.{Cable}
use Rattle.agreement.specs.slot_table.Order.{plain}
use Rattle.agreement.specs.cable.Cable.{cable_fits}
use Rattle.agreement.specs.node_record.declared.Node.{Node}
use Rattle.agreement.specs.node_record.declared.State.{State}
use Rattle.agreement.specs.node_record.declared.State.TheVariants.{Member, Out}
use Rattle.agreement.specs.node_record.declared.Cause.TheVariants.{Unconfirmed}
use Rattle.agreement.specs.bench.Table.{Table}
use Rattle.agreement.specs.bench.Calls.{set_up_of}
use Rattle.agreement.specs.bench.Runs.{Call, table_after}
use Rattle.agreement.specs.Demand.{Premises, Claims, EverySequence}
use Rattle.agreement.proofs.bench.Computed.{computed}
use Rattle.agreement.proofs.bench.Places.{Placed}
use Rattle.agreement.proofs.bench.Runs.{start-placed}
use Rattle.agreement.proofs.Demanded.{demand3}
use Rattle.premises.specs.Plans.{departure, return}
use Rattle.premises.proofs.Tested.{each-lag, in_order, records, how-many, every, scan_by, all_tests, of_four, by-test, table-right}
use Rattle.premises.proofs.Needed.{the-four}
use Rattle.premises.proofs.Scan.{noted, Scan, scan, called}

-- state and set of each node
abbrev shown : Table → List (State × ℕ)
shown t = map {B = State × ℕ} (λ v. (v.state, v.set)) t

-- the slot tables of the runs: the plain one and 3, 1, 5, 2, 4, as they are kept
pub data Slots : Type 0 where
  plainly : Slots
  crossed : Slots

abbrev pub order_in : Slots → List ℕ
order_in plainly = in_order 5
order_in crossed = 3 ∷ 1 ∷ 5 ∷ 2 ∷ 4 ∷ 0 ∷ 0 ∷ 0 ∷ 0 ∷ 0 ∷ 0 ∷ 0 ∷ 0 ∷ 0 ∷ 0 ∷ 0 ∷ 0 ∷ 0 ∷ 0 ∷ 0 ∷ 0 ∷ 0 ∷ 0 ∷ 0 ∷ 0 ∷ 0 ∷ 0 ∷ 0 ∷ 0 ∷ 0 ∷ 0 ∷ 0 ∷ []

pub is_plain : order_in plainly ≡ plain 5
unfolding computed
is_plain = refl

-- the node at place 2, which fails
abbrev failing : Slots → ℕ
failing plainly = 2
failing crossed = 1

-- each table with each lag
each-run : (P : Slots → ℕ → Type 0) → P plainly 0 → P plainly 1 → P crossed 0 → P crossed 1 → (w : Slots) (lag : ℕ) → lag ≤ 1 → P w lag
each-run P a b c d plainly = each-lag (P plainly) a b
each-run P a b c d crossed = each-lag (P crossed) c d

-- whatever five records were lent
module _ (given : ℕ → Node) where
  abbrev cable : Slots → ℕ → Cable
  cable w lag = record { n = 5; k = 2; m = 0; lag = lag; order = order_in w }

  abbrev start : Slots → ℕ → Table
  start w lag = (set_up_of (cable w lag) (records given 5)).table

  abbrev scanned : Slots → ℕ → List Call → Scan
  scanned w lag plan = scan_by called (cable w lag) (start w lag) (reverse plan)

  fits : (w : Slots) (lag : ℕ) → lag ≤ 1 → cable_fits (cable w lag) ≡ true
  unfolding computed
  fits = each-run (λ w lag. cable_fits (cable w lag) ≡ true) refl refl refl refl

  begins : (w : Slots) (lag : ℕ) → lag ≤ 1 → Placed (cable w lag) 0 (start w lag)
  begins w lag h = start-placed (cable w lag) (fits w lag h) (records given 5) (how-many given 5)

  table_is : (w : Slots) (lag : ℕ) → lag ≤ 1 → (plan : List Call) → shown (table_after (start w lag) (reverse plan)) ≡ shown (scanned w lag plan).table
  table_is w lag h plan = ap shown (sym (table-right (cable w lag) (lit≤ tt) (start w lag) (begins w lag h) (reverse plan)))

  -- the node has left
  abbrev gone : Slots → List (State × ℕ)
  gone plainly = (Member, 0b11101) ∷ (Out Unconfirmed, 0) ∷ (Member, 0b11101) ∷ (Member, 0b11101) ∷ (Member, 0b11101) ∷ []
  gone crossed = (Out Unconfirmed, 0) ∷ replicate 4 (Member, 0b11110)

  departs : (w : Slots) (lag : ℕ) → lag ≤ 1 → shown (scanned w lag (departure lag)).table ≡ gone w
  unfolding computed scan records
  departs = each-run (λ w lag. shown (scanned w lag (departure lag)).table ≡ gone w) refl refl refl refl

  pub departed : (w : Slots) (lag : ℕ) → lag ≤ 1 → shown (table_after (start w lag) (reverse (departure lag))) ≡ gone w
  departed w lag h = table_is w lag h (departure lag) ∙ departs w lag h

  -- it has come back, and all along the premises were met
  abbrev Returns : Slots → ℕ → Type 0
  Returns w lag = shown (scanned w lag (return (failing w) lag)).table ≡ replicate 5 (Member, 0b11111)

  returns : (w : Slots) (lag : ℕ) → lag ≤ 1 → Returns w lag
  unfolding computed scan records
  returns = each-run Returns refl refl refl refl

  pub returned : (w : Slots) (lag : ℕ) → lag ≤ 1 → shown (table_after (start w lag) (reverse (return (failing w) lag))) ≡ replicate 5 (Member, 0b11111)
  returned w lag h = table_is w lag h (return (failing w) lag) ∙ returns w lag h

  abbrev Meets : Slots → ℕ → Type 0
  Meets w lag = all_tests (cable w lag) (scanned w lag (return (failing w) lag)) ≡ true

  meets : (w : Slots) (lag : ℕ) → lag ≤ 1 → Meets w lag
  unfolding computed every noted scan records
  meets = each-run Meets refl refl refl refl

  pub premises-met : (w : Slots) (lag : ℕ) → lag ≤ 1 → Premises (cable w lag) (start w lag) (reverse (return (failing w) lag))
  premises-met w lag h =
      let cs = reverse (return (failing w) lag) in
      the-four (cable w lag) (start w lag) cs (λ p. by-test (cable w lag) (lit≤ tt) (start w lag) (begins w lag h) cs p (of_four (cable w lag) (scan_by called (cable w lag) (start w lag) cs) (meets w lag h) p))

  -- so demand 3 speaks of it
  pub claims-follow : (w : Slots) (lag : ℕ) → lag ≤ 1 → Claims (cable w lag) (start w lag) (reverse (return (failing w) lag))
  unfolding EverySequence
  claims-follow w lag h = demand3 (cable w lag) (fits w lag h) (records given 5) (how-many given 5) (reverse (return (failing w) lag)) (premises-met w lag h)
