-- What the premises of demand 3 ask of a run, gathered call by call, so that it can be computed: each table is made once. Assumes nothing.
use Prim.Native.Nat.{ℕ, ◌+◌, ◌≤◌}
use mathlib.Core.Path.{◌≡◌, refl, sym, ap, ◌∙◌}
use mathlib.Core.Bool.{Bool, true, false, cond, not, ◌&&◌, ◌||◌}
use mathlib.Core.List.{List, [], ◌∷◌}
use lib.Dec.{eqb}
use Rattle.agreement.specs.nodeset.Sums.{num}
use Rattle.agreement.proofs.nodeset.Tests.{by_cases, chosen, otherwise}
use Rattle.agreement.specs.cable.declared.Cable.{Cable}
use Rattle.agreement.specs.cable.Cable.{node_number}
use Rattle.agreement.specs.bench.Table.{Table, slots_of, node_count, table_sound}
use Rattle.agreement.specs.bench.Calls.{table_after_slot, table_after_off, table_after_restart}
use Rattle.agreement.specs.bench.Runs.{Call, slot, off, restart, call_of, table_after, is_slot, Entry, new_entry, entry_on}
use Rattle.agreement.proofs.bench.Places.{Placed}
use Rattle.agreement.proofs.bench.Accepted.{slot_runs, is-slot, slot-done, slot-refused, off-done, off-refused, restarts, restart-done, restart-refused, off-no-slot, restart-no-slot}
use Rattle.agreement.proofs.bench.Runs.{slots_next, never-unsound}
use Rattle.agreement.specs.Repeated.{call_by, rule_before, run_before}
use Rattle.agreement.proofs.Before.{before-none, before-one, before-next}

-- ---- what is gathered

-- slots and a number of each, the latest first; 0 for a slot that is not there
abbrev pub Notes : Type 0
Notes = List (ℕ × ℕ)

unfoldable pub noted : Notes → ℕ → ℕ
noted [] u = 0
noted (note ∷ notes) u = cond (eqb u note.0) note.1 (noted notes u)

pub record Scan : Type 0 where
  pub table : Table
  pub failures : Notes
  pub outside : Notes
  pub kept : Bool  -- the list was kept in each slot
  pub heard : Bool  -- and every returning node heard it

-- a test of a slot, by the table as it begins and as it ends
abbrev pub SlotTest : Type 0
SlotTest = Call → Table → Table → Bool

-- the call c took the table of s to t; was it a slot?
abbrev pub scanned : SlotTest → SlotTest → Call → Scan → Bool → Table → Scan
scanned keeps hears c s true t = record {
  table = t;
  failures = (slots_of s.table + 1, (new_entry c s.table).failures) ∷ s.failures;
  outside = (slots_of s.table + 1, num (new_entry c s.table).outside) ∷ s.outside;
  kept = s.kept && keeps c s.table t;
  heard = s.heard && hears c s.table t;
}
scanned keeps hears c s false t = record { table = t; failures = s.failures; outside = s.outside; kept = s.kept; heard = s.heard }

-- how a call goes: is it a slot that runs, and the table that it leaves
pub record Way : Type 0 where
  pub runs : Call → Table → Bool
  pub leaves : Call → Table → Table

unfoldable pub scan : Way → SlotTest → SlotTest → Table → List Call → Scan
scan way keeps hears start [] = record { table = start; failures = []; outside = []; kept = true; heard = true }
scan way keeps hears start (c ∷ cs) =
    let s = scan way keeps hears start cs in
    scanned keeps hears c s (way.runs c s.table) (way.leaves c s.table)

-- ---- and what it tells

-- the tables that calls leave, one by one, and how many slots they count
pub record Run : Type 0 where
  pub way : Way
  pub start : Table
  pub run : List Call → Table
  pub first : run [] ≡ start
  pub then : (c : Call) (cs : List Call) → run (c ∷ cs) ≡ way.leaves c (run cs)
  pub slots : (c : Call) (cs : List Call) → way.runs c (run cs) ≡ is_slot c (run cs)
  pub next : (c : Call) (cs : List Call) → slots_of (run (c ∷ cs)) ≡ slots_of (run cs) + num (is_slot c (run cs))

-- a test at each slot of a run
unfoldable pub at_slots : SlotTest → (List Call → Table) → List Call → Bool
at_slots f run [] = true
at_slots f run (c ∷ cs) = at_slots f run cs && (not (is_slot c (run cs)) || f c (run cs) (run (c ∷ cs)))

pub record Right (keeps hears : SlotTest) (run : List Call → Table) (cs : List Call) (s : Scan) : Type 0 where
  pub table_is : s.table ≡ run cs
  pub failures-are : (u : ℕ) → noted s.failures u ≡ (entry_on run cs u).failures
  pub outside-are : (u : ℕ) → noted s.outside u ≡ num (entry_on run cs u).outside
  pub kept-is : s.kept ≡ at_slots keeps run cs
  pub heard-is : s.heard ≡ at_slots hears run cs

-- what is asked of the chosen entry
of-chosen : (f : Entry → ℕ) (b : Bool) (x y : Entry) → cond b (f x) (f y) ≡ f (cond b x y)
of-chosen f true x y = refl
of-chosen f false x y = refl

and-true : (b : Bool) → b ≡ (b && true)
and-true true = refl
and-true false = refl

module _ (keeps hears : SlotTest) (R : Run) (c : Call) (cs : List Call) (s : Scan) (r : Right keeps hears R.run cs s) where
  open R use {way, run, then}

  abbrev T : Table
  T = run cs

  abbrev is-next : ℕ → Bool
  is-next u = eqb u (slots_of T + 1)

  abbrev step : Call → Table → Table
  step = way.leaves

  same-slot : (b : Bool) → way.runs c s.table ≡ b → b ≡ is_slot c T
  same-slot b e = sym e ∙ ap (way.runs c) r.table_is ∙ R.slots c cs

  -- the notes of a slot
  note : (f : Entry → ℕ) (notes : Notes) → ((u : ℕ) → noted notes u ≡ f (entry_on run cs u)) → true ≡ is_slot c T → (u : ℕ)
      → noted ((slots_of s.table + 1, f (new_entry c s.table)) ∷ notes) u ≡ f (entry_on run (c ∷ cs) u)
  unfolding noted entry_on
  note f notes h e u =
      ap (λ (t : Table). cond (eqb u (slots_of t + 1)) (f (new_entry c t)) (noted notes u)) r.table_is
      ∙ ap (λ (y : ℕ). cond (is-next u) (f (new_entry c T)) y) (h u)
      ∙ of-chosen f (is-next u) (new_entry c T) (entry_on run cs u)
      ∙ ap (λ (b : Bool). f (cond (b && is-next u) (new_entry c T) (entry_on run cs u))) e

  -- no notes of a call that is no slot
  no_note : (f : Entry → ℕ) (notes : Notes) → ((u : ℕ) → noted notes u ≡ f (entry_on run cs u)) → false ≡ is_slot c T → (u : ℕ) → noted notes u ≡ f (entry_on run (c ∷ cs) u)
  unfolding entry_on
  no_note f notes h e u = h u ∙ ap (λ (b : Bool). f (cond (b && is-next u) (new_entry c T) (entry_on run cs u))) e

  tested : (f : SlotTest) (b : Bool) → b ≡ at_slots f run cs → true ≡ is_slot c T → (b && f c s.table (step c s.table)) ≡ at_slots f run (c ∷ cs)
  unfolding at_slots
  tested f b h e =
      ap (λ (t : Table). b && f c t (step c t)) r.table_is
      ∙ ap (λ (x : Bool). x && f c T (step c T)) h
      ∙ ap (λ (x : Bool). at_slots f run cs && (not x || f c T (step c T))) e
      ∙ ap (λ (t : Table). at_slots f run cs && (not (is_slot c T) || f c T t)) (sym (then c cs))

  untested : (f : SlotTest) (b : Bool) → b ≡ at_slots f run cs → false ≡ is_slot c T → b ≡ at_slots f run (c ∷ cs)
  unfolding at_slots
  untested f b h e = h ∙ and-true (at_slots f run cs) ∙ ap (λ (x : Bool). at_slots f run cs && (not x || f c T (run (c ∷ cs)))) e

  next-right : (b : Bool) → way.runs c s.table ≡ b → Right keeps hears run (c ∷ cs) (scanned keeps hears c s b (step c s.table))
  next-right true e =
      let z = same-slot true e in
      record {
        table_is = ap (step c) r.table_is ∙ sym (then c cs);
        failures-are = note (λ x. x.failures) s.failures r.failures-are z;
        outside-are = note (λ x. num x.outside) s.outside r.outside-are z;
        kept-is = tested keeps s.kept r.kept-is z;
        heard-is = tested hears s.heard r.heard-is z;
      }
  next-right false e =
      let z = same-slot false e in
      record {
        table_is = ap (step c) r.table_is ∙ sym (then c cs);
        failures-are = no_note (λ x. x.failures) s.failures r.failures-are z;
        outside-are = no_note (λ x. num x.outside) s.outside r.outside-are z;
        kept-is = untested keeps s.kept r.kept-is z;
        heard-is = untested hears s.heard r.heard-is z;
      }

pub scan-right : (keeps hears : SlotTest) (R : Run) (cs : List Call) → Right keeps hears R.run cs (scan R.way keeps hears R.start cs)
unfolding scan noted entry_on at_slots
scan-right keeps hears R [] = record { table_is = sym R.first; failures-are = λ u. refl; outside-are = λ u. refl; kept-is = refl; heard-is = refl }
scan-right keeps hears R (c ∷ cs) =
    let s = scan R.way keeps hears R.start cs in
    next-right keeps hears R c cs s (scan-right keeps hears R cs) (R.way.runs c s.table) refl

-- ---- the runs

pub after_none : (start : Table) → table_after start [] ≡ start
unfolding table_after
after_none start = refl

pub after_one : (start : Table) (c : Call) (cs : List Call) → table_after start (c ∷ cs) ≡ (call_of c (table_after start cs)).table
unfolding table_after
after_one start c cs = refl

-- a call on a table that is sound: its other tests, and what it leaves
abbrev pub called : Way
called = record { runs = runs; leaves = leaves }
  where
    runs : Call → Table → Bool
    runs (slot lost missed room) t = slot_runs missed room t
    runs (off a) t = false
    runs (restart a) t = false

    leaves : Call → Table → Table
    leaves (slot lost missed room) t = cond (slot_runs missed room t) (table_after_slot lost missed t) t
    leaves (off a) t = cond (node_number (node_count t) a) (table_after_off a t) t
    leaves (restart a) t = cond (restarts a t) (table_after_restart a t) t

pub called-runs : (c : Call) (t : Table) → table_sound t ≡ true → called.runs c t ≡ is_slot c t
called-runs (slot lost missed room) t e = sym (is-slot lost missed room t e)
called-runs (off a) t e = sym (off-no-slot a t)
called-runs (restart a) t e = sym (restart-no-slot a t)

pub called-leaves : (c : Call) (t : Table) → table_sound t ≡ true → (call_of c t).table ≡ called.leaves c t
called-leaves (slot lost missed room) t e =
    by_cases (slot_runs missed room t)
    (λ p. slot-done lost missed room t (is-slot lost missed room t e ∙ p) ∙ sym (chosen _ _ p))
    (λ p. slot-refused lost missed room t (is-slot lost missed room t e ∙ p) ∙ sym (otherwise _ _ p))
called-leaves (off a) t e =
    by_cases (node_number (node_count t) a) (λ p. off-done a t e p ∙ sym (chosen _ _ p)) (λ p. off-refused a t e p ∙ sym (otherwise _ _ p))
called-leaves (restart a) t e =
    by_cases (restarts a t) (λ p. restart-done a t e p ∙ sym (chosen _ _ p)) (λ p. restart-refused a t e p ∙ sym (otherwise _ _ p))

-- of the calls as they are: no table of theirs is unsound
abbrev pub calls : (cable : Cable) → 1 ≤ cable.n → (start : Table) → Placed cable 0 start → Run
calls cable pos start begins = record {
  way = called;
  start = start;
  run = table_after start;
  first = after_none start;
  then = λ c cs. after_one start c cs ∙ called-leaves c (table_after start cs) (never-unsound cable pos start begins cs);
  slots = λ c cs. called-runs c (table_after start cs) (never-unsound cable pos start begins cs);
  next = slots_next cable pos start begins;
}

-- and of the rule before request f
abbrev pub called_before : Way
called_before = record { runs = is_slot; leaves = call_by rule_before }

abbrev pub calls-before : Table → Run
calls-before start = record { way = called_before; start = start; run = run_before start; first = before-none start; then = before-one start; slots = λ c cs. refl; next = before-next start }
