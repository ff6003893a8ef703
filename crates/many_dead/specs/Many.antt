-- Request g: "From a common start let the only failures be nodes that fall silent for good, in any number, with nothing lost or missed and no restart. Let at least two
-- nodes stay on." A sequence of calls has THE LATEST FIRST.
use Rattle.std.specs.Prelude.{ℕ, ◌+◌, ◌-◌, ◌≤◌, ◌<◌, ◌≡◌, ◌≢◌, true, false, List}
use Rattle.agreement.specs.nodeset.Sets.{has}
use Rattle.agreement.specs.cable.declared.Cable.{Cable}
use Rattle.agreement.specs.ring.Ring.{sender}
use Rattle.agreement.specs.node.Calls.{is_done}
use Rattle.agreement.specs.node_record.States.{is_member}
use Rattle.agreement.specs.bench.Table.{Table, record_of, slots_of}
use Rattle.agreement.specs.bench.Calls.{transmits}
use Rattle.agreement.specs.bench.Runs.{Call, slot, off, restart, call_of, is_slot, misses, table_after, entry_on}
use Rattle.agreement.specs.Demand.{AtEach, AfterEach, EverySequence}

-- ---- what is assumed

-- "Nothing lost or missed and no restart": a message that is sent is not lost, and no member-state node misses it; no restart is taken.
abbrev pub Undisturbed : ℕ → Call → Table → Type 0
Undisturbed n (slot lost missed room) t =
    is_slot (slot lost missed room) t ≡ true → transmits t ≡ true
    → (lost ≡ false) × ((i : ℕ) → 1 ≤ i → i ≤ n → misses lost missed t i ≡ false)
Undisturbed n (off a) t = Unit {0}
Undisturbed n (restart a) t = is_done (call_of (restart a) t).answer ≡ false

-- "Fall silent for good" is `off`, in any number. (`run` gives the table after any of the calls.)
abbrev pub OnlyOffs : Cable → (List Call → Table) → List Call → Type 0
OnlyOffs cable run cs = AtEach (λ c before. Undisturbed cable.n c (run before)) cs

-- The call does not switch node i off.
abbrev pub Spares : ℕ → Call → Type 0
Spares i (slot lost missed room) = Unit {0}
Spares i (off a) = a ≢ i
Spares i (restart a) = Unit {0}

-- Node i stays on.
pub record StaysOn (n i : ℕ) (cs : List Call) : Type 0 where
  pub pos : 1 ≤ i
  pub le : i ≤ n
  pub on : AtEach (λ c before. Spares i c) cs

-- "Let at least two nodes stay on."
pub record TwoStayOn (n : ℕ) (cs : List Call) : Type 0 where
  pub a : ℕ
  pub b : ℕ
  pub first : StaysOn n a cs
  pub second : StaysOn n b cs
  pub two : a ≢ b

-- ---- what is claimed of the table after the calls

module _ (cable : Cable) (run : List Call → Table) where
  open cable use {n}

  abbrev held : List Call → ℕ → ℕ
  held cs i = (record_of (run cs) i).set

  pub record Survives (cs : List Call) : Type 0 where
    -- "the lists of those that stay on are equal at every slot's end"
    pub equal : (i j : ℕ) → StaysOn n i cs → StaysOn n j cs → held cs i ≡ held cs j
    -- "none of them leaves"
    pub remain : (i : ℕ) → StaysOn n i cs → is_member (record_of (run cs) i).state ≡ true
    pub listed : (i j : ℕ) → StaysOn n i cs → StaysOn n j cs → has (held cs i) j ≡ true
    -- "each silent node is off all those lists after its first silent slot": up to the end of that slot it is on them
    pub not-before : (x : ℕ) → 1 ≤ x → x ≤ n
        → ((s : ℕ) → 1 ≤ s → s < slots_of (run cs) → sender cable s ≡ x → (entry_on run cs s).sent ≡ true)
        → (i : ℕ) → StaysOn n i cs → has (held cs i) x ≡ true
    -- "and before its next slot would come, if the run goes on that far": slot s was silent, and n - 1 slots ran after it
    pub gone : (s : ℕ) → 1 ≤ s → s + (n - 1) ≤ slots_of (run cs) → (entry_on run cs s).sent ≡ false
        → (i : ℕ) → StaysOn n i cs → has (held cs i) (sender cable s) ≡ false

-- ---- the request

-- For every cable and whatever table of n records was lent to set-up, where `run_of` gives the table after calls from a start: at the start and after each call. "The k + 1
-- premise is dropped here."
abbrev pub ManyDeadFor : (Table → List Call → Table) → Type 0
ManyDeadFor run_of =
    EverySequence
    (λ cable start cs. OnlyOffs cable (run_of start) cs × TwoStayOn cable.n cs)
    (λ cable start cs. AfterEach (Survives cable (run_of start)) cs)

-- The calls as they are.
abbrev pub ManyDead : Type 0
ManyDead = ManyDeadFor table_after
