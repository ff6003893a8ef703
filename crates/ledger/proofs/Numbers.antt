-- By which number a call is refused, and by which it is not. Assumes nothing.
use Rattle.std.specs.Prelude.{Err, Ok}
use Prim.Native.Nat.{ℕ}
use mathlib.Core.Path.{◌≡◌, refl}
use mathlib.Core.Logic.{◌≢◌}
use mathlib.Core.Bool.{Bool, true, false}
use lib.Dec.{eqb}
use borrow.Author.Tests.{eqb-false}
use Rattle.bench.specs.refusal.Causes.{cause, number_of}
use Rattle.bench.specs.node.Answers.{Answer}
use Rattle.bench.specs.declared.Command.{Command}
use Rattle.bench.specs.declared.Command.TheVariants as command
use Rattle.bench.specs.declared.Outcome.{Outcome}
use Rattle.bench.specs.declared.Outcome.TheVariants as outcome
use Rattle.bench.specs.Table.{Table}
use Rattle.bench.specs.Calls.{Called, if_passed}
use Rattle.bench.specs.Outcomes.{outcome_of}

-- the number of a refusal, 0 for none
abbrev pub number_in : Answer → ℕ
number_in (Ok _) = 0
number_in (Err r) = number_of r

abbrev pub number_told : Outcome → ℕ
number_told outcome.Quiet = 0
number_told (outcome.Slot s sender fate list distance) = 0
number_told (outcome.Refused r) = number_of r

-- what is told of a call has its refusal
pub told-number : (c : Command) (t : Table) (called : Called) → number_told (outcome_of c t called) ≡ number_in called.answer
told-number c t called = go c called.answer
  where
    go : (k : Command) (a : Answer) → number_told (outcome_of k t (record { table = called.table; answer = a })) ≡ number_in a
    go (command.SetUp cable) (Ok _) = refl
    go (command.Off a) (Ok _) = refl
    go (command.Restart a) (Ok _) = refl
    go (command.Slot lost missed jobs) (Ok _) = refl
    go (command.Look lost) (Ok _) = refl
    go (command.SetUp cable) (Err r) = refl
    go (command.Off a) (Err r) = refl
    go (command.Restart a) (Err r) = refl
    go (command.Slot lost missed jobs) (Err r) = refl
    go (command.Look lost) (Err r) = refl

-- a test that refuses by another number
pub unless : (n : ℕ) (b : Bool) (number : ℕ) (t : Table) (called : Called) → eqb (number_of (cause number)) n ≡ false → number_in called.answer ≢ n → number_in (if_passed b number t called).answer ≢ n
unless n true number t called p q = q
unless n false number t called p q = eqb-false (number_of (cause number)) n p
