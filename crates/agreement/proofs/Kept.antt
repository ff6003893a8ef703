-- Each call of a run that keeps the premises keeps the invariant of the table. Assumes nothing.
use Prim.Native.Nat.{ℕ, suc, ◌+◌, ◌-◌, ◌≤◌}
use mathlib.Core.Path.{◌≡◌, sym, ap, ◌∙◌, subst}
use mathlib.Core.Bool.{Bool, true, false}
use mathlib.Core.List.{List, [], ◌∷◌}
use native.Mathlib.Omega.{arith}
use lib.ListN.{length}
use Rattle.bench.specs.nodeset.Sums.{sum, num}
use Rattle.bench.specs.nodeset.Sets.{full}
use Rattle.bench.proofs.nodeset.Tests.{by_cases, both, chosen}
use Rattle.bench.specs.cable.declared.Cable.{Cable}
use Rattle.bench.specs.cable.Cable.{node_number, cable_fits}
use Rattle.bench.proofs.cable.Ranges.{ring-size, fitting}
use Rattle.bench.specs.node_record.declared.Cause.TheVariants.{SwitchedOff}
use Rattle.bench.specs.node.Calls.{Stepped}
use Rattle.bench.specs.node.Calls as node
use Rattle.bench.specs.Table.{Table, table_sound, node_count, slots_of}
use Rattle.bench.specs.Calls.{set_up_of, table_after_slot}
use Rattle.bench.specs.Runs.{Call, slot, off, restart, table_after, is_slot, entry}
use Rattle.agreement.specs.Demand.{HearEverythingOn, KeepsListOn, AtEach, KeepsList, HearEverything}
use Rattle.agreement.proofs.Past.{past_of, past}
use Rattle.agreement.proofs.History.{World, num-is, num-isnt}
use Rattle.bench.proofs.Places.{Placed, slots-of-placed}
use Rattle.bench.proofs.Accepted.{slot-done, slot-refused, off-done, off-refused, off-no-slot, restarts, restart-done, restart-refused, restart-no-slot}
use Rattle.bench.proofs.Runs.{start-table, start-placed, below-limit, placed-run, never-unsound, slots_next}
use Rattle.agreement.proofs.Entries.{world}
use Rattle.agreement.proofs.Beginnings.{Beginning, shorter, past-here}
use Rattle.agreement.proofs.Tables.{TableInv, off-keeps, restart-keeps, start-keeps}
use Rattle.agreement.proofs.Slots.{slot-keeps}

-- calls from a common start with few failures and few transmissions from outside the list
pub record Given : Type 0 where
  pub cable : Cable
  pub fits : cable_fits cable ≡ true
  pub lent : Table
  pub one_each : length lent ≡ cable.n
  pub all : List Call
  pub few-failures : (a : ℕ) → sum (λ u. (entry (set_up_of cable lent).table all u).failures) (suc a) cable.n ≤ cable.k - 1
  pub one_outside : (a : ℕ) → sum (λ u. num (entry (set_up_of cable lent).table all u).outside) (suc a) cable.n ≤ 1

module _ (G : Given) where
  open G use {cable, fits, lent, one_each, all, few-failures, one_outside}
  open cable use {n}

  -- the common start
  abbrev pub start : Table
  start = (set_up_of cable lent).table

  pub begins : Placed cable 0 start
  begins = start-placed cable fits lent one_each

  abbrev pub W : World
  W = world cable fits start begins all few-failures one_outside

  pub pos : 1 ≤ n
  pos = omega (arith, ring-size n (fitting cable fits).ring)

  placed : (cs : List Call) → Placed cable (slots_of (table_after start cs)) (table_after start cs)
  placed = placed-run cable pos start begins

  sound-table : (cs : List Call) → table_sound (table_after start cs) ≡ true
  sound-table = never-unsound cable pos start begins

  moved : (N N' L : ℕ) (t t' : Table) → N' ≡ N → t' ≡ t → TableInv W N L t → TableInv W N' L t'
  moved N N' L t t' a b inv = subst (λ (x : ℕ). TableInv W x L t') (sym a) (subst (λ (y : Table). TableInv W N L y) (sym b) inv)

  -- the table after the calls cs
  abbrev pub Run : List Call → Type 0
  Run cs = (L : ℕ) × TableInv W (slots_of (table_after start cs) + n) L (table_after start cs)

  pub none_yet : slots_of (table_after start []) ≡ 0
  unfolding table_after
  none_yet = slots-of-placed cable 0 start pos begins

  first : Run []
  unfolding table_after
  first = (full n, moved n _ (full n) _ _ (omega (arith, none_yet)) (start-table cable fits lent one_each) (start-keeps W lent one_each))

  -- a slot that is accepted
  pub slot-table : (lost : Bool) (missed room : ℕ) (cs : List Call) → is_slot (slot lost missed room) (table_after start cs) ≡ true → table_after start (slot lost missed room ∷ cs) ≡ table_after_slot lost missed (table_after start cs)
  unfolding table_after
  slot-table lost missed room cs e = slot-done lost missed room (table_after start cs) e

  refused-table : (lost : Bool) (missed room : ℕ) (cs : List Call) → is_slot (slot lost missed room) (table_after start cs) ≡ false → table_after start (slot lost missed room ∷ cs) ≡ table_after start cs
  unfolding table_after
  refused-table lost missed room cs e = slot-refused lost missed room (table_after start cs) e

  pub past-at : (lost : Bool) (missed room : ℕ) (cs : List Call) → Beginning all (slot lost missed room ∷ cs) → is_slot (slot lost missed room) (table_after start cs) ≡ true
      → W.E (suc (slots_of (table_after start cs) + n)) ≡ past_of lost missed (table_after start cs)
  past-at lost missed room cs b e =
      let z : suc (slots_of (table_after start cs) + n) - n ≡ slots_of (table_after start cs) + 1 = omega arith in
      ap (past start all) z ∙ past-here cable pos start begins all (slot lost missed room) cs b e

  slot-case : (lost : Bool) (missed room : ℕ) (cs : List Call) → Beginning all (slot lost missed room ∷ cs) → KeepsList cable start (slot lost missed room) cs → HearEverything cable start (slot lost missed room) cs
      → is_slot (slot lost missed room) (table_after start cs) ≡ true → Run cs → Run (slot lost missed room ∷ cs)
  unfolding KeepsListOn HearEverythingOn
  slot-case lost missed room cs b kl he e r = go (slot-keeps W (slots_of (table_after start cs) + n) r.0 (table_after start cs) lost missed r.1 (past-at lost missed room cs b e) (kl e).0 (he e)
      (λ i h l. ((placed cs).at i h l).is-sound) (below-limit cable _ _ pos (placed cs) lost missed room e) (rw (← tb) (kl e).1))
    where
      tb : table_after start (slot lost missed room ∷ cs) ≡ table_after_slot lost missed (table_after start cs)
      tb = slot-table lost missed room cs e

      go : (L' : ℕ) × TableInv W (suc (slots_of (table_after start cs) + n)) L' (table_after_slot lost missed (table_after start cs)) → Run (slot lost missed room ∷ cs)
      go x = (x.0, moved _ _ x.0 _ _ (omega (arith, slots_next cable pos start begins (slot lost missed room) cs, num-is e)) tb x.1)

  -- a call that is no slot
  other-case : (c : Call) (cs : List Call) → is_slot c (table_after start cs) ≡ false → (t : Table) → table_after start (c ∷ cs) ≡ t → (L : ℕ) → TableInv W (slots_of (table_after start cs) + n) L t → Run (c ∷ cs)
  other-case c cs e t tb L inv = (L, moved _ _ L _ _ (omega (arith, slots_next cable pos start begins c cs, num-isnt e)) tb inv)

  off-case : (a : ℕ) (cs : List Call) → Run cs → Run (off a ∷ cs)
  unfolding table_after node.off_of
  off-case a cs r = by_cases (node_number (node_count (table_after start cs)) a)
      (λ e. other-case (off a) cs (off-no-slot a (table_after start cs)) _ (off-done a (table_after start cs) (sound-table cs) e) r.0
      (off-keeps W _ r.0 (table_after start cs) r.1 a SwitchedOff (λ v. (node.off_of v).node) (λ h l. ap (λ (x : Stepped). x.node) (chosen _ _ ((placed cs).at a h l).is-sound))))
      (λ e. other-case (off a) cs (off-no-slot a (table_after start cs)) (table_after start cs) (off-refused a (table_after start cs) (sound-table cs) e) r.0 r.1)

  restart-case : (a : ℕ) (cs : List Call) → Run cs → Run (restart a ∷ cs)
  unfolding table_after node.restart_of
  restart-case a cs r = by_cases (restarts a (table_after start cs))
      (λ e. other-case (restart a) cs (restart-no-slot a (table_after start cs)) _ (restart-done a (table_after start cs) (sound-table cs) e) r.0
      (restart-keeps W _ r.0 (table_after start cs) r.1 a (λ v. (node.restart_of v).node)
      (λ h l. ap (λ (x : Stepped). x.node) (chosen _ _ ((placed cs).at a h l).is-sound ∙ chosen _ _ (both (node_number (node_count (table_after start cs)) a) _ e).1))))
      (λ e. other-case (restart a) cs (restart-no-slot a (table_after start cs)) (table_after start cs) (restart-refused a (table_after start cs) (sound-table cs) e) r.0 r.1)

  call-case : (c : Call) (cs : List Call) → Beginning all (c ∷ cs) → KeepsList cable start c cs → HearEverything cable start c cs → Run cs → Run (c ∷ cs)
  call-case (slot lost missed room) cs b kl he r = by_cases (is_slot (slot lost missed room) (table_after start cs))
      (λ e. slot-case lost missed room cs b kl he e r)
      (λ e. other-case (slot lost missed room) cs e (table_after start cs) (refused-table lost missed room cs e) r.0 r.1)
  call-case (off a) cs b kl he r = off-case a cs r
  call-case (restart a) cs b kl he r = restart-case a cs r

  pub run : (cs : List Call) → Beginning all cs → AtEach (KeepsList cable start) cs → AtEach (HearEverything cable start) cs → Run cs
  unfolding AtEach
  run [] b kl he = first
  run (c ∷ cs) b kl he = call-case c cs b kl.1 he.1 (run cs (shorter b) kl.0 he.0)
