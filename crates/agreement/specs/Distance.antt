-- Demand 3 as the bench's call tells it, stated without a ledger (`OnlyRefuses`: with one it is told so, or 13): no distance between two lists (document 01, "The bench program": "the greatest distance between sets of two members").
use Rattle.std.specs.Prelude.{ℕ, ◌≡◌, Bool, true, List}
use Rattle.bench.specs.cable.declared.Cable.{Cable}
use Rattle.bench.specs.node.Calls.{is_done}
use Rattle.bench.specs.declared.Command.TheVariants as command
use Rattle.bench.specs.declared.Outcome.{Outcome}
use Rattle.bench.specs.declared.Outcome.TheVariants as outcome
use Rattle.bench.specs.Table.{Table}
use Rattle.bench.specs.Outcomes.{ended_of, called_of}
use Rattle.bench.specs.Runs.{Call, slot, off, restart, table_after}
use Rattle.agreement.specs.Demand.{AtEach, AfterEach, Premises, EverySequence}

-- The outcome tells of a table, and that no two lists in it differ.
abbrev pub NoDistance : Outcome → Type 0
NoDistance (outcome.Slot number sender fate list distance) = distance ≡ 0
NoDistance outcome.Quiet = ⊥
NoDistance (outcome.Refused cause) = ⊥

module _ (cable : Cable) (start : Table) where
  -- A look after the calls so far, whatever it is asked and lent, tells so.
  abbrev pub LookTells : List Call → Type 0
  LookTells cs = (lost : Bool) (slots : List ℕ) (room : ℕ) → NoDistance (ended_of (command.Look lost) slots room (table_after start cs)).reply.outcome

  -- So does the call c, made after the calls cs, if it is a slot that runs, whatever job byte its sender is given and whatever slot table is lent.
  abbrev pub SlotTells : Call → List Call → Type 0
  SlotTells (slot lost missed room) cs =
      (jobs : ℕ) (slots : List ℕ) → is_done (called_of (command.Slot lost missed jobs) slots room (table_after start cs)).answer ≡ true
      → NoDistance (ended_of (command.Slot lost missed jobs) slots room (table_after start cs)).reply.outcome
  SlotTells (off a) cs = Unit {0}
  SlotTells (restart a) cs = Unit {0}

  pub record CallsTell (cs : List Call) : Type 0 where
    pub looks : AfterEach LookTells cs
    pub slots : AtEach SlotTells cs

-- Over every sequence of calls that keeps the premises of demand 3.
abbrev pub NoDistanceTold : Type 0
NoDistanceTold = EverySequence Premises CallsTell
