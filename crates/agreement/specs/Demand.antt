-- Demand 3 (document 01, "The bench"): over every sequence of calls that keeps the premises the lists agree after each call, and a listed node whose slot was
-- lost or silent leaves them at its deciding slot. A sequence of calls has THE LATEST FIRST: in c ∷ cs the calls before c are cs.
use Rattle.std.specs.Prelude.{ℕ, zero, suc, ◌+◌, ◌-◌, ◌≤◌, ◌≡◌, ◌≢◌, Bool, true, false, cond, ◌&&◌, ◌||◌, List, [], ◌∷◌, eqb, leb, length}
use Rattle.bench.specs.nodeset.Sums.{sum, num}
use Rattle.bench.specs.nodeset.Sets.{has, size, distance}
use Rattle.bench.specs.slot_table.Order.{node_at, place}
use Rattle.bench.specs.cable.declared.Cable.{Cable}
use Rattle.bench.specs.cable.Cable.{cable_fits}
use Rattle.bench.specs.ring.Ring.{sender}
use Rattle.bench.specs.node_record.States.{is_member, is_out}
use Rattle.bench.specs.Table.{Table, record_of, slots_of, speaker}
use Rattle.bench.specs.Calls.{transmits, set_up_of}
use Rattle.bench.specs.Runs as runs
use Rattle.bench.specs.Runs.{Call, slot, off, restart, is_slot, list_of, Entry}

-- ---- over a whole sequence

-- What is said of a call and of the calls before it holds of each call of a sequence.
unfoldable pub AtEach : (Call → List Call → Type 0) → List Call → Type 0
AtEach P [] = Unit {0}
AtEach P (c ∷ cs) = AtEach P cs × P c cs

-- What is said of the calls so far holds at the start of a sequence and after each call of it: "The rules here .. give a table after each call".
abbrev pub AfterEach : (List Call → Type 0) → List Call → Type 0
AfterEach P cs = P [] × AtEach (λ c before. P (c ∷ before)) cs

-- ---- of a table

-- ""Hears everything" binds a returning node from each restart until its own record is in the member state or out .. and lost messages do not count against it":
-- nobody who is listening, following or knocking is named where a message is sent and not lost. "A sender .. is unaffected by being named."
abbrev pub AllHear : ℕ → Call → Table → Type 0
AllHear n (slot lost missed room) t =
    transmits t ≡ true → lost ≡ false
    → (i : ℕ) → 1 ≤ i → i ≤ n → i ≢ speaker t → has missed i ≡ true
    → (is_member (record_of t i).state || is_out (record_of t i).state) ≡ true
AllHear n (off a) t = Unit {0}
AllHear n (restart a) t = Unit {0}

-- The place whose slot comes just after that of place p.
unfoldable pub next : ℕ → ℕ → ℕ
next n p = cond (eqb p n) 1 (p + 1)

-- The j-th member met from place p onwards, in at most `left` slots; 0 where there is none.
unfoldable pub onwards : ℕ → Cable → ℕ → ℕ → ℕ → ℕ
onwards zero cable set p j = 0
onwards (suc left) cable set p j =
    let q = next cable.n p in
    let x = node_at cable.order q in
    cond (has set x && eqb j 1) x (onwards left cable set q (j - num (has set x)))

-- "The k-th member after that node, round the ring": the j-th. (With j + 1 members it is another node.)
abbrev pub member_after : Cable → ℕ → ℕ → ℕ → ℕ
member_after cable set x j = onwards cable.n cable set (place cable.order x) j

abbrev pub MemberAt : ℕ → Table → ℕ → Type 0
MemberAt n t i = (1 ≤ i) × (i ≤ n) × (is_member (record_of t i).state ≡ true)

-- On the lists of all member-state nodes, and off them all.
abbrev pub OnAll : ℕ → Table → ℕ → Type 0
OnAll n t x = (i : ℕ) → MemberAt n t i → has (record_of t i).set x ≡ true

abbrev pub OffAll : ℕ → Table → ℕ → Type 0
OffAll n t x = (i : ℕ) → MemberAt n t i → has (record_of t i).set x ≡ false

-- ---- the premises, of a run that gives the table after any of the calls

module _ (cable : Cable) (run : List Call → Table) where
  open cable use {n, k, lag}

  -- What slot u was among the calls.
  abbrev entry_at : List Call → ℕ → Entry
  entry_at cs u = runs.entry_on run cs u

  -- "It keeps k + 1 members if there is such a node and its set holds that many as each slot begins and as it ends", "plus the lag" (document 02, j). (Where there is none
  -- the list is empty.)
  unfoldable pub KeepsListOn : Call → List Call → Type 0
  KeepsListOn c cs = is_slot c (run cs) ≡ true → (k + (1 + lag) ≤ size n (list_of (run cs))) × (k + (1 + lag) ≤ size n (list_of (run (c ∷ cs))))

  -- "Hears everything", in each slot.
  unfoldable pub HearEverythingOn : Call → List Call → Type 0
  HearEverythingOn c cs = is_slot c (run cs) ≡ true → AllHear n c (run cs)

  -- "Any n slots in a row" are the slots a + 1 to a + n, for each a: "all the slots where fewer than n have run", since in a slot that did not run nothing fails.
  pub record PremisesOn (cs : List Call) : Type 0 where
    -- at most k - 1 failures in any n slots in a row
    pub few-failures : (a : ℕ) → sum (λ u. (entry_at cs u).failures) (suc a) n ≤ k - 1
    -- at most one transmission from outside the list in any n slots in a row
    pub one_outside : (a : ℕ) → sum (λ u. num (entry_at cs u).outside) (suc a) n ≤ 1
    pub list-kept : AtEach KeepsListOn cs
    pub all-heard : AtEach HearEverythingOn cs

-- ---- of the calls from a start

module _ (cable : Cable) (start : Table) where
  open cable use {n, k, lag}

  -- The table after the calls, and what slot u was among them.
  abbrev table_after : List Call → Table
  table_after cs = runs.table_after start cs

  abbrev entry : List Call → ℕ → Entry
  entry cs u = runs.entry start cs u

  -- The premises of demand 3, on the tables that the calls leave.
  abbrev pub KeepsList : Call → List Call → Type 0
  KeepsList c cs = KeepsListOn cable (runs.table_after start) c cs

  abbrev pub HearEverything : Call → List Call → Type 0
  HearEverything c cs = HearEverythingOn cable (runs.table_after start) c cs

  abbrev pub Premises : List Call → Type 0
  Premises cs = PremisesOn cable (runs.table_after start) cs

  -- ---- the deciding slot

  -- Is the call c, made after the calls cs, a slot after slot s "whose sender is the k-th member after that node, round the ring, on the list as that slot
  -- begins"? With a lag "leaving falls at the (k + lag)-th member after" (j). That node is the sender of s.
  unfoldable pub is_deciding : ℕ → Call → List Call → Bool
  is_deciding s c cs =
      is_slot c (table_after cs)
      && (leb s (slots_of (table_after cs))
      && eqb (member_after cable (list_of (table_after cs)) (sender cable s) (k + lag)) (speaker (table_after cs)))

  -- "Its deciding slot is the first" such: has it been?
  unfoldable pub deciding_ran : ℕ → List Call → Bool
  deciding_ran s [] = false
  deciding_ran s (c ∷ cs) = deciding_ran s cs || is_deciding s c cs

  -- ---- the claims

  -- "A listed node's lost or silent slot s": slot s has run, its sender was on the list, and no message was sent and not lost.
  abbrev pub LostOrSilent : ℕ → List Call → Type 0
  LostOrSilent s cs = (1 ≤ s) × (s ≤ slots_of (table_after cs)) × ((entry cs s).listed ≡ true) × ((entry cs s).sent ≡ false)

  -- All lists of member-state nodes are equal: the distance of any two is zero.
  abbrev pub Agree : List Call → Type 0
  Agree cs =
      (i j : ℕ) → MemberAt n (table_after cs) i → MemberAt n (table_after cs) j
      → distance n (record_of (table_after cs) i).set (record_of (table_after cs) j).set ≡ 0

  -- "Until the deciding slot ends, or the calls do, the node is on all those lists": while the deciding slot has not been.
  abbrev pub Stays : List Call → Type 0
  Stays cs = (s : ℕ) → LostOrSilent s cs → deciding_ran s cs ≡ false → OnAll n (table_after cs) (sender cable s)

  -- "At the end of it, off them all": the call c is the deciding slot, and there was none among the calls cs before it.
  abbrev pub Leaves : Call → List Call → Type 0
  Leaves c cs =
      (s : ℕ) → LostOrSilent s cs → deciding_ran s cs ≡ false → is_deciding s c cs ≡ true
      → OffAll n (table_after (c ∷ cs)) (sender cable s)

  -- "If n - 1 slots ran after s, it is one of them."
  abbrev pub InTime : List Call → Type 0
  InTime cs = (s : ℕ) → LostOrSilent s cs → s + (n - 1) ≤ slots_of (table_after cs) → deciding_ran s cs ≡ true

  -- "This is a single claim about the whole sequence of calls, not one for each call."
  pub record Claims (cs : List Call) : Type 0 where
    pub agree : AfterEach Agree cs
    pub stays : AfterEach Stays cs
    pub leaves : AtEach Leaves cs
    pub in-time : AfterEach InTime cs

-- ---- demand 3

-- For every cable ("n from 3 to 32", "k is from 2 to n - 1" less the lag, a lag of 0 or 1, "shown once for both lags", any slot table: "agreement .. must hold for every table", document 02, k) and whatever table of n records was lent to set-up: every sequence of calls from there that keeps
-- what is assumed has what is claimed.
unfoldable pub EverySequence : (assumed claimed : Cable → Table → List Call → Type 0) → Type 0
EverySequence assumed claimed =
    (cable : Cable) → cable_fits cable ≡ true
    → (lent : Table) → length lent ≡ cable.n
    → (cs : List Call) → assumed cable (set_up_of cable lent).table cs → claimed cable (set_up_of cable lent).table cs

abbrev pub Demand3 : Type 0
Demand3 = EverySequence Premises Claims
