-- No table of a run is refused as unsound: from the common start on every record stays sound and in its place, and only slots that run are counted.
-- Assumes nothing.
use Prim.Native.Nat.{ℕ, ◌+◌, ◌≤◌, ◌<◌}
use mathlib.Core.Path.{◌≡◌, refl, sym, ap, ◌∙◌}
use mathlib.Core.Bool.{Bool, true, cond, ◌&&◌, ◌||◌}
use mathlib.Core.List.{List, [], ◌∷◌}
use native.Mathlib.Omega.{arith}
use native.Mathlib.Nat.{add-zero}
use lib.Dec.{eqb, leb, ltb}
use lib.ListN.{length}
use borrow.Author.Tests.{le-leb, ltb-true}
use Rattle.cable.specs.nodeset.Sums.{num}
use Rattle.cable.specs.nodeset.Sets.{has, within}
use Rattle.cable.proofs.nodeset.Tests.{by_cases, both, all}
use Rattle.cable.specs.declared.Cable.{Cable}
use Rattle.cable.specs.Cable.{node_number, cable_fits}
use Rattle.cable.proofs.Ranges.{fitting}
use Rattle.node.specs.message.Answers.{Reading}
use Rattle.node.specs.node_record.declared.Node.{Node}
use Rattle.node.specs.node_record.Soundness.{limit, sound}
use Rattle.node.specs.node_changes.Changes.{starting}
use Rattle.node.proofs.node_changes.Sound.{starting-sound}
use Rattle.node.specs.Calls as node
use Rattle.node.proofs.Sound.{step-sound, off-sound, restart-sound}
use Rattle.bench.specs.Table.{Table, record_of, each, table_sound, node_count, slots_of}
use Rattle.bench.specs.Calls.{start_table, set_up_of, unheard, spoken, heard_by, table_after_slot, table_after_off, table_after_restart}
use Rattle.bench.specs.Runs.{Call, slot, off, restart, call_of, table_after, is_slot}
use Rattle.bench.proofs.Choices.{choose}
use Rattle.bench.proofs.Places.{length-each, record-each, InPlace, Placed, placed-sound, slots-of-placed}
use Rattle.bench.proofs.Counted.{Numbers, step-numbers, off-same, restart-same}
use Rattle.bench.proofs.Accepted.{start_is, slot_runs, is-slot, slot-done, slot-refused, off-done, off-refused, restarts, restart-done, restart-refused, off-no-slot, restart-no-slot}

-- ---- what is heard in a slot, and the records of the table that a call leaves

-- "A lost message is heard by nobody, named or not", and no message by a node that misses it; the others hear what is sent
pub heard-unless : (lost : Bool) (missed : ℕ) (t : Table) (i : ℕ) → heard_by lost missed t i ≡ cond (lost || has missed i) unheard (spoken t)
unfolding heard_by
heard-unless lost missed t i = refl

pub after-slot-record : (lost : Bool) (missed : ℕ) (t : Table) (i : ℕ) → 1 ≤ i → i ≤ length t
    → record_of (table_after_slot lost missed t) i ≡ (node.step_of (heard_by lost missed t i) (record_of t i)).node
unfolding table_after_slot
after-slot-record lost missed t i h l = record-each (λ i v. (node.step_of (heard_by lost missed t i) v).node) t i h l

pub after-slot-length : (lost : Bool) (missed : ℕ) (t : Table) → length (table_after_slot lost missed t) ≡ length t
unfolding table_after_slot
after-slot-length lost missed t = length-each (λ i v. (node.step_of (heard_by lost missed t i) v).node) t

pub after-off-record : (a : ℕ) (t : Table) (i : ℕ) → 1 ≤ i → i ≤ length t → record_of (table_after_off a t) i ≡ cond (eqb i a) (node.off_of (record_of t i)).node (record_of t i)
after-off-record a t i h l = record-each (λ i v. cond (eqb i a) (node.off_of v).node v) t i h l

pub after-restart-record : (a : ℕ) (t : Table) (i : ℕ) → 1 ≤ i → i ≤ length t → record_of (table_after_restart a t) i ≡ cond (eqb i a) (node.restart_of (record_of t i)).node (record_of t i)
after-restart-record a t i h l = record-each (λ i v. cond (eqb i a) (node.restart_of v).node v) t i h l

-- ---- each call keeps every record sound and in its place

in-place-by : (cable : Cable) (slots slots' i : ℕ) (v w : Node) → InPlace cable slots i v → sound w ≡ true → Numbers v.cable v.own slots' w → InPlace cable slots' i w
in-place-by cable slots slots' i v w p e q = record {
  is-sound = e;
  cable-is = q.cable-is ∙ p.cable-is;
  slots-is = q.slots-is;
  own_is = q.own_is ∙ p.own_is;
}

module _ (cable : Cable) (slots : ℕ) (t : Table) (pos : 1 ≤ cable.n) (P : Placed cable slots t) where
  pub in-order : table_sound t ≡ true
  in-order = placed-sound cable slots t pos P

  -- the slot count that the slot call tests
  slots-are : slots_of t ≡ slots
  slots-are = slots-of-placed cable slots t pos P

  placed-slot : (lost : Bool) (missed : ℕ) → slots < limit → Placed cable (slots + 1) (table_after_slot lost missed t)
  placed-slot lost missed l = record { length-is = after-slot-length lost missed t ∙ P.length-is; at = at }
    where
      at : (i : ℕ) → 1 ≤ i → i ≤ cable.n → InPlace cable (slots + 1) i (record_of (table_after_slot lost missed t) i)
      at i h m = rw (after-slot-record lost missed t i h (omega (arith, P.length-is))) (go (record_of t i) (P.at i h m) (heard_by lost missed t i))
        where
          go : (v : Node) → InPlace cable slots i v → (r : Reading) → InPlace cable (slots + 1) i (node.step_of r v).node
          go v p r =
              let q : Numbers v.cable v.own (v.slots + 1) (node.step_of r v).node = step-numbers r v p.is-sound (omega (arith, p.slots-is)) in
              let z : v.slots + 1 ≡ slots + 1 = omega (arith, p.slots-is) in
              in-place-by cable slots (slots + 1) i v (node.step_of r v).node p (step-sound r v p.is-sound) (record { cable-is = q.cable-is; own_is = q.own_is; slots-is = q.slots-is ∙ z })

  -- one record is made anew, and counts no slot
  placed_one : (a : ℕ) (f : Node → Node) → ((v : Node) → sound v ≡ true → sound (f v) ≡ true) → ((v : Node) → Numbers v.cable v.own v.slots (f v))
      → Placed cable slots (each (λ i v. cond (eqb i a) (f v) v) t)
  placed_one a f s q = record { length-is = length-each (λ i v. cond (eqb i a) (f v) v) t ∙ P.length-is; at = at }
    where
      at : (i : ℕ) → 1 ≤ i → i ≤ cable.n → InPlace cable slots i (record_of (each (λ i v. cond (eqb i a) (f v) v) t) i)
      at i h m = rw (record-each (λ i v. cond (eqb i a) (f v) v) t i h (omega (arith, P.length-is))) (go (record_of t i) (P.at i h m))
        where
          go : (v : Node) → InPlace cable slots i v → InPlace cable slots i (cond (eqb i a) (f v) v)
          go v p =
              choose (λ (w : Node). InPlace cable slots i w) (eqb i a) (f v) v
              (λ _. in-place-by cable slots slots i v (f v) p (s v p.is-sound) (record { cable-is = (q v).cable-is; own_is = (q v).own_is; slots-is = (q v).slots-is ∙ p.slots-is }))
              (λ _. p)

  -- a slot that runs is below the limit
  pub below-limit : (lost : Bool) (missed room : ℕ) → is_slot (slot lost missed room) t ≡ true → slots < limit
  below-limit lost missed room e =
      let r : slot_runs missed room t ≡ true = sym (is-slot lost missed room t in-order) ∙ e in
      let b : ltb (slots_of t) limit ≡ true = (both (ltb (slots_of t) limit) (leb 64 room) (both (within (node_count t) missed) (ltb (slots_of t) limit && leb 64 room) r).1).0 in
      omega (arith, ltb-true (slots_of t) limit b, slots-are)

  pub placed-call : (c : Call) → Placed cable (slots + num (is_slot c t)) (call_of c t).table
  placed-call (slot lost missed room) =
      by_cases (is_slot (slot lost missed room) t)
      (λ e. rw (e, slot-done lost missed room t e) (placed-slot lost missed (below-limit lost missed room e)))
      (λ e. rw (e, slot-refused lost missed room t e, add-zero slots) P)
  placed-call (off a) =
      rw (off-no-slot a t, add-zero slots) (by_cases (node_number (node_count t) a)
      (λ e. rw (off-done a t in-order e) (placed_one a (λ v. (node.off_of v).node) off-sound off-same))
      (λ e. rw (off-refused a t in-order e) P))
  placed-call (restart a) =
      rw (restart-no-slot a t, add-zero slots) (by_cases (restarts a t)
      (λ e. rw (restart-done a t in-order e) (placed_one a (λ v. (node.restart_of v).node) restart-sound restart-same))
      (λ e. rw (restart-refused a t in-order e) P))

-- ---- the common start

module _ (cable : Cable) (fits : cable_fits cable ≡ true) (lent : Table) (one_each : length lent ≡ cable.n) where
  pub start-table : (set_up_of cable lent).table ≡ start_table cable lent
  start-table = start_is cable lent (fitting cable fits) one_each

  pub start-record : (i : ℕ) → 1 ≤ i → i ≤ cable.n → record_of (set_up_of cable lent).table i ≡ starting cable i
  start-record i h l = ap (λ (t : Table). record_of t i) start-table ∙ record-each (λ i v. starting cable i) lent i h (omega (arith, one_each))

  pub start-placed : Placed cable 0 (set_up_of cable lent).table
  start-placed = record {
    length-is = ap length start-table ∙ length-each (λ i v. starting cable i) lent ∙ one_each;
    at = λ i h l. rw (start-record i h l) (record {
      is-sound = starting-sound cable i (fitting cable fits) (all (le-leb 1 i h) (le-leb i cable.n l));
      cable-is = refl;
      slots-is = refl;
      own_is = refl;
    });
  }

-- ---- a run

module _ (cable : Cable) (pos : 1 ≤ cable.n) (start : Table) (begins : Placed cable 0 start) where
  placed-somehow : (cs : List Call) → (slots : ℕ) × Placed cable slots (table_after start cs)
  unfolding table_after
  placed-somehow [] = (0, begins)
  placed-somehow (c ∷ cs) = go (placed-somehow cs)
    where
      go : ((slots : ℕ) × Placed cable slots (table_after start cs)) → (slots : ℕ) × Placed cable slots (call_of c (table_after start cs)).table
      go (slots, p) = (slots + num (is_slot c (table_after start cs)), placed-call cable slots (table_after start cs) pos p c)

  pub placed-run : (cs : List Call) → Placed cable (slots_of (table_after start cs)) (table_after start cs)
  placed-run cs = go (placed-somehow cs)
    where
      go : ((slots : ℕ) × Placed cable slots (table_after start cs)) → Placed cable (slots_of (table_after start cs)) (table_after start cs)
      go (slots, p) = rw (slots-of-placed cable slots (table_after start cs) pos p) p

  pub never-unsound : (cs : List Call) → table_sound (table_after start cs) ≡ true
  never-unsound cs = placed-sound cable (slots_of (table_after start cs)) (table_after start cs) pos (placed-run cs)

  pub run_length : (cs : List Call) → length (table_after start cs) ≡ cable.n
  run_length cs = (placed-run cs).length-is

  pub slots_next : (c : Call) (cs : List Call) → slots_of (table_after start (c ∷ cs)) ≡ slots_of (table_after start cs) + num (is_slot c (table_after start cs))
  unfolding table_after
  slots_next c cs = slots-of-placed cable _ (call_of c (table_after start cs)).table pos (placed-call cable (slots_of (table_after start cs)) (table_after start cs) pos (placed-run cs) c)
