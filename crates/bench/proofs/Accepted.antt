-- Which calls on a sound table are refused, and what table each call leaves (specs/Calls). Assumes nothing.
use Prim.Native.Nat.{ℕ}
use mathlib.Core.Path.{◌≡◌, refl, ap, ◌∙◌}
use mathlib.Core.Bool.{Bool, true, false, ◌&&◌, true≢false, false≢true}
use lib.Dec.{eqb, leb, ltb}
use lib.ListN.{length}
use borrow.Author.Tests.{eq-eqb}
use Rattle.cable.specs.nodeset.Sets.{within}
use Rattle.cable.specs.declared.Cable.{Cable}
use Rattle.cable.specs.Cable.{cable_fits, node_number, fault_of}
use Rattle.cable.proofs.Ranges.{Fits, fits_by}
use Rattle.node.specs.Calls.{is_done}
use Rattle.node.specs.node_record.States.{is_out}
use Rattle.node.specs.node_record.Soundness.{limit}
use Rattle.bench.specs.Table.{Table, record_of, table_sound, node_count, slots_of}
use Rattle.bench.specs.Calls.{Called, done, if_passed, start_table, set_up_of, table_after_slot, slot_of, table_after_off, off_of, table_after_restart, restart_of}
use Rattle.bench.specs.Runs.{slot, off, restart, call_of, is_slot}

-- ---- tests in a row

-- a call on table t leaves x where it is done, and t where it is refused
record Leaves (t x : Table) (c : Called) : Type 0 where
  pub where-done : is_done c.answer ≡ true → c.table ≡ x
  pub where-refused : is_done c.answer ≡ false → c.table ≡ t

leaves-done : (t x : Table) → Leaves t x (done x)
leaves-done t x = record { where-done = λ _. refl; where-refused = λ e. absurd (true≢false e) }

leaves-if : (b : Bool) (number : ℕ) (t x : Table) (c : Called) → Leaves t x c → Leaves t x (if_passed b number t c)
leaves-if true number t x c l = l
leaves-if false number t x c l = record { where-done = λ e. absurd (false≢true e); where-refused = λ _. refl }

done-if : (b : Bool) (number : ℕ) (t : Table) (c : Called) → is_done (if_passed b number t c).answer ≡ (b && is_done c.answer)
done-if true number t c = refl
done-if false number t c = refl

-- the first test holds
done-past : (b : Bool) (number : ℕ) (t : Table) (c : Called) → b ≡ true → is_done (if_passed b number t c).answer ≡ is_done c.answer
done-past b number t c e = done-if b number t c ∙ ap (λ (x : Bool). x && is_done c.answer) e

-- the last test
done-only : (b : Bool) (number : ℕ) (t x : Table) → is_done (if_passed b number t (done x)).answer ≡ b
done-only true number t x = refl
done-only false number t x = refl

-- ---- set-up

pub start_is : (cable : Cable) (t : Table) → Fits cable → length t ≡ cable.n → (set_up_of cable t).table ≡ start_table cable t
unfolding set_up_of
start_is cable t f e =
    let n = cable.n in
    let x : Table = start_table cable t in
    let c₁ : Called = if_passed (eqb (length t) n) 4 t (done x) in
    (leaves-if (cable_fits cable) (fault_of cable n) t x c₁ (leaves-if (eqb (length t) n) 4 t x (done x) (leaves-done t x))).where-done
    (done-past (cable_fits cable) (fault_of cable n) t c₁ (fits_by cable f) ∙ done-past (eqb (length t) n) 4 t (done x) (eq-eqb (length t) n e))

-- ---- slot

-- no test but that of the table itself fails
abbrev pub slot_runs : ℕ → ℕ → Table → Bool
slot_runs missed room t = within (node_count t) missed && (ltb (slots_of t) limit && leb 64 room)

module _ (lost : Bool) (missed room : ℕ) (t : Table) where
  abbrev long : Called
  long = if_passed (leb 64 room) 9 t (done (table_after_slot lost missed t))

  abbrev few : Called
  few = if_passed (ltb (slots_of t) limit) 5 t long

  abbrev named : Called
  named = if_passed (within (node_count t) missed) 3 t few

  slot-leaves : Leaves t (table_after_slot lost missed t) (slot_of lost missed room t)
  unfolding slot_of
  slot-leaves =
      let x : Table = table_after_slot lost missed t in
      leaves-if (table_sound t) 4 t x named
      (leaves-if (within (node_count t) missed) 3 t x few
      (leaves-if (ltb (slots_of t) limit) 5 t x long
      (leaves-if (leb 64 room) 9 t x (done x) (leaves-done t x))))

  pub is-slot : table_sound t ≡ true → is_slot (slot lost missed room) t ≡ slot_runs missed room t
  unfolding is_slot slot_of
  is-slot e =
      done-past (table_sound t) 4 t named e
      ∙ done-if (within (node_count t) missed) 3 t few
      ∙ ap (λ (b : Bool). within (node_count t) missed && b)
      (done-if (ltb (slots_of t) limit) 5 t long ∙ ap (λ (b : Bool). ltb (slots_of t) limit && b) (done-only (leb 64 room) 9 t (table_after_slot lost missed t)))

  pub slot-done : is_slot (slot lost missed room) t ≡ true → (call_of (slot lost missed room) t).table ≡ table_after_slot lost missed t
  unfolding is_slot call_of
  slot-done e = slot-leaves.where-done e

  pub slot-refused : is_slot (slot lost missed room) t ≡ false → (call_of (slot lost missed room) t).table ≡ t
  unfolding is_slot call_of
  slot-refused e = slot-leaves.where-refused e

-- ---- off and restart, on a sound table

-- the node is one of the ring, and out
abbrev pub restarts : ℕ → Table → Bool
restarts a t = node_number (node_count t) a && is_out (record_of t a).state

module _ (a : ℕ) (t : Table) (in-order : table_sound t ≡ true) where
  off-leaves : Leaves t (table_after_off a t) (off_of a t)
  unfolding off_of
  off-leaves =
      let x : Table = table_after_off a t in
      leaves-if (table_sound t) 4 t x (if_passed (node_number (node_count t) a) 3 t (done x)) (leaves-if (node_number (node_count t) a) 3 t x (done x) (leaves-done t x))

  is-off : is_done (off_of a t).answer ≡ node_number (node_count t) a
  unfolding off_of
  is-off = done-past (table_sound t) 4 t (if_passed (node_number (node_count t) a) 3 t (done (table_after_off a t))) in-order ∙ done-only (node_number (node_count t) a) 3 t (table_after_off a t)

  pub off-done : node_number (node_count t) a ≡ true → (call_of (off a) t).table ≡ table_after_off a t
  unfolding call_of
  off-done e = off-leaves.where-done (is-off ∙ e)

  pub off-refused : node_number (node_count t) a ≡ false → (call_of (off a) t).table ≡ t
  unfolding call_of
  off-refused e = off-leaves.where-refused (is-off ∙ e)

  abbrev out : Called
  out = if_passed (is_out (record_of t a).state) 11 t (done (table_after_restart a t))

  restart-leaves : Leaves t (table_after_restart a t) (restart_of a t)
  unfolding restart_of
  restart-leaves =
      let x : Table = table_after_restart a t in
      leaves-if (table_sound t) 4 t x (if_passed (node_number (node_count t) a) 3 t out)
      (leaves-if (node_number (node_count t) a) 3 t x out (leaves-if (is_out (record_of t a).state) 11 t x (done x) (leaves-done t x)))

  is-restart : is_done (restart_of a t).answer ≡ restarts a t
  unfolding restart_of
  is-restart =
      done-past (table_sound t) 4 t (if_passed (node_number (node_count t) a) 3 t out) in-order
      ∙ done-if (node_number (node_count t) a) 3 t out
      ∙ ap (λ (b : Bool). node_number (node_count t) a && b) (done-only (is_out (record_of t a).state) 11 t (table_after_restart a t))

  pub restart-done : restarts a t ≡ true → (call_of (restart a) t).table ≡ table_after_restart a t
  unfolding call_of
  restart-done e = restart-leaves.where-done (is-restart ∙ e)

  pub restart-refused : restarts a t ≡ false → (call_of (restart a) t).table ≡ t
  unfolding call_of
  restart-refused e = restart-leaves.where-refused (is-restart ∙ e)

-- they are no slots
pub off-no-slot : (a : ℕ) (t : Table) → is_slot (off a) t ≡ false
unfolding is_slot
off-no-slot a t = refl

pub restart-no-slot : (a : ℕ) (t : Table) → is_slot (restart a) t ≡ false
unfolding is_slot
restart-no-slot a t = refl
