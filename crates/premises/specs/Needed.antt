-- What it means that each premise of demand 3 is needed, whatever the lag: a run that breaks it alone, and a claim with it; and that one clause more is needed where nothing is to differ from the
-- rule before request f.
use Rattle.std.specs.Prelude.{ℕ, suc, ◌-◌, ◌≤◌, ◌≡◌, true, List, length}
use Rattle.agreement.specs.nodeset.Sums.{sum, num}
use Rattle.agreement.specs.cable.declared.Cable.{Cable}
use Rattle.agreement.specs.cable.Cable.{cable_fits}
use Rattle.agreement.specs.bench.Table.{Table}
use Rattle.agreement.specs.bench.Calls.{set_up_of}
use Rattle.agreement.specs.bench.Runs.{Call, table_after, entry_on}
use Rattle.agreement.specs.Demand.{AtEach, AfterEach, KeepsListOn, HearEverythingOn, PremisesOn, Claims, EverySequence}
use Rattle.agreement.specs.Repeated.{run_before}

-- ---- the premises, one by one (the fields of Premises, agreement's specs/Demand)

pub data Premise : Type 0 where
  few-failures : Premise
  one_outside : Premise
  list-kept : Premise
  all-heard : Premise

abbrev pub HoldsOn : Premise → Cable → (List Call → Table) → List Call → Type 0
HoldsOn few-failures cable run cs = (a : ℕ) → sum (λ u. (entry_on run cs u).failures) (suc a) cable.n ≤ cable.k - 1
HoldsOn one_outside cable run cs = (a : ℕ) → sum (λ u. num (entry_on run cs u).outside) (suc a) cable.n ≤ 1
HoldsOn list-kept cable run cs = AtEach (KeepsListOn cable run) cs
HoldsOn all-heard cable run cs = AtEach (HearEverythingOn cable run) cs

abbrev pub Holds : Premise → Cable → Table → List Call → Type 0
Holds p cable start cs = HoldsOn p cable (table_after start) cs

abbrev pub Others : Premise → Cable → Table → List Call → Type 0
Others few-failures cable start cs = Holds one_outside cable start cs × Holds list-kept cable start cs × Holds all-heard cable start cs
Others one_outside cable start cs = Holds few-failures cable start cs × Holds list-kept cable start cs × Holds all-heard cable start cs
Others list-kept cable start cs = Holds few-failures cable start cs × Holds one_outside cable start cs × Holds all-heard cable start cs
Others all-heard cable start cs = Holds few-failures cable start cs × Holds one_outside cable start cs × Holds list-kept cable start cs

-- ---- a run that breaks just this premise, and with it this claim of the table that it ends in

pub record Bites (p : Premise) (Claim : Cable → Table → List Call → Type 0) (cable : Cable) (lent : Table) (cs : List Call) : Type 0 where
  pub fits : cable_fits cable ≡ true
  pub one_each : length lent ≡ cable.n
  pub others : Others p cable (set_up_of cable lent).table cs
  pub broken : Holds p cable (set_up_of cable lent).table cs → ⊥
  pub fails : Claim cable (set_up_of cable lent).table cs → ⊥

-- What is assumed, on the cables with this lag.
abbrev pub WithLag : ℕ → (Cable → Table → List Call → Type 0) → Cable → Table → List Call → Type 0
WithLag lag assumed cable start cs = (cable.lag ≡ lag) × assumed cable start cs

-- Demand 3 with the premises but this one, for one lag.
abbrev pub Without : ℕ → Premise → Type 0
Without lag p = EverySequence (WithLag lag (Others p)) Claims

-- Each is needed, with lag 0 and with lag 1: without it the demand is false.
abbrev pub EachNeeded : Type 0
EachNeeded = (lag : ℕ) → lag ≤ 1 → (p : Premise) → Without lag p → ⊥

-- And so is the clause of `NothingDiffers` (agreement's specs/Repeated) on the members between a departure and a joining: without it something differs.
abbrev pub BetweenNeeded : Type 0
BetweenNeeded =
    (lag : ℕ) → lag ≤ 1
    → EverySequence
    (WithLag lag (λ cable start cs. PremisesOn cable (run_before start) cs))
    (λ cable start cs. AfterEach (λ before. table_after start before ≡ run_before start before) cs)
    → ⊥
