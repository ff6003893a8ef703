-- Document 02, request n, with demand 3: over every sequence of calls that keeps the premises all member-state nodes work out the same levels from the same bases, after each call.
use Rattle.std.specs.Prelude.{ℕ, ◌≡◌, true, List, Ok}
use Rattle.cover_light.specs.cable.declared.Cable.{Cable}
use Rattle.cover_light.specs.cable.Cable.{node_number}
use Rattle.agreement.specs.bench.Table.{Table, record_of}
use Rattle.agreement.specs.bench.Runs.{Call, table_after}
use Rattle.agreement.specs.Demand.{AfterEach, MemberAt, Premises, EverySequence}
use Rattle.cover_light.specs.Light.{worked, bases_fit, level_of, levels_of}

module _ (cable : Cable) (start : Table) where
  open cable use {n}

  -- After the calls so far:
  pub record SameLight (cs : List Call) : Type 0 where
    -- any two answer alike for every lamp
    pub level : (i j : ℕ) → MemberAt n (table_after start cs) i → MemberAt n (table_after start cs) j
        → (bases : List ℕ) (lamp : ℕ) → level_of (record_of (table_after start cs) i) bases lamp ≡ level_of (record_of (table_after start cs) j) bases lamp
    -- and write the same bytes
    pub levels : (i j : ℕ) → MemberAt n (table_after start cs) i → MemberAt n (table_after start cs) j
        → (bases out : List ℕ) → levels_of (record_of (table_after start cs) i) bases out ≡ levels_of (record_of (table_after start cs) j) bases out
    -- and a lamp of the cable, with bases that fit, is not refused: each works it out
    pub worked-out : (i : ℕ) → MemberAt n (table_after start cs) i → (bases : List ℕ) (lamp : ℕ) → node_number n lamp ≡ true → bases_fit n bases ≡ true
        → let v = record_of (table_after start cs) i in level_of v bases lamp ≡ Ok (worked v.set bases lamp)

  abbrev pub SameLightThroughout : List Call → Type 0
  SameLightThroughout cs = AfterEach SameLight cs

-- Over every sequence of calls that keeps the premises of demand 3.
abbrev pub LightAgrees : Type 0
LightAgrees = EverySequence Premises SameLightThroughout
