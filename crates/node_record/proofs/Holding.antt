-- A held record stands for one of the rules (specs/Held): conversion each way loses nothing for sound records (`node-back`, `held_back`), and what the code asks of a held record is whether the
-- record that it stands for is sound (`held-sound`). Assumes nothing.
use Prim.Native.Nat.{ℕ, ◌<◌, ◌^◌}
use mathlib.Core.Path.{◌≡◌, refl, sym, ap, ap₂, subst, ◌∙◌}
use mathlib.Core.Bool.{Bool, true, false, not, ◌&&◌, ◌||◌}
use mathlib.Core.List.{List}
use lib.Dec.{eqb, leb}
use borrow.Author.Tests.{eqb-true, eqb-false, eq-eqb, ne_eqb, ltb-true}
use Rattle.nodeset.specs.Sets.{has, within, subset, size}
use Rattle.nodeset.proofs.Tests.{by_cases, both, chosen}
use Rattle.nodeset.proofs.Counts.{size_none, size-zero}
use Rattle.cable.specs.slot_table.Order.{is_kept}
use Rattle.cable.specs.declared.Cable.{Cable}
use Rattle.cable.specs.Cable.{cable_fits}
use Rattle.cable.proofs.Ranges.{fitting}
use Rattle.row.specs.declared.Row.{Row}
use Rattle.row.specs.Rows.{as_row, sound_row, nodes_in, as_set}
use Rattle.row.specs.Inner.{has_row, same_row}
use Rattle.row_laws.proofs.Laws.{has-row, size-row, nodes-row, set_back, row_back, set-within, same-row}
use Rattle.node_record.specs.declared.Node.{Node}
use Rattle.node_record.specs.declared.Held.{Held}
use Rattle.node_record.specs.States.{is_member, is_listening, is_following, is_knocking, is_out}
use Rattle.node_record.specs.Soundness.{implies, exactly, numbers_sound, sets_sound, knock_sound, heard_sound, yes_sound, window_sound, sound}
use Rattle.node_record.specs.Held.{rowed, setted}
use Rattle.node_record.specs.Inner.{sets_held, sound_held}
use Rattle.node_record.proofs.Facts.{clauses}

-- ---- conversion

abbrev with-set : ℕ → Node → Node
with-set s v = record { cable = v.cable; own = v.own; slots = v.slots; state = v.state; set = s; present = v.present; returning = v.returning; return_heard = v.return_heard; yes_heard = v.yes_heard; listening = v.listening }

abbrev with-row : Row → Held → Held
with-row r v = record { cable = v.cable; own = v.own; slots = v.slots; state = v.state; row = r; present = v.present; returning = v.returning; return_heard = v.return_heard; yes_heard = v.yes_heard; listening = v.listening }

-- of a record on a cable that fits, whose set holds only its nodes
pub set-kept : (v : Node) → is_kept v.cable.n v.cable.order ≡ true → v.set < 2 ^ v.cable.n → setted (rowed v) ≡ v
set-kept v kept small = ap (λ (s : ℕ). with-set s v) (set_back v.cable.n v.cable.order kept v.set small)

pub row_kept : (v : Held) → is_kept v.cable.n v.cable.order ≡ true → sound_row v.cable.n v.cable.order v.row ≡ true → rowed (setted v) ≡ v
row_kept v kept good = ap (λ (r : Row). with-row r v) (row_back v.cable.n v.cable.order kept v.row good)

-- the set of a sound record holds only its nodes
pub set-small : (v : Node) → sound v ≡ true → v.set < 2 ^ v.cable.n
set-small v good = ltb-true v.set (2 ^ v.cable.n) (both (within v.cable.n v.set) _ (clauses v good).sets).0

pub node-back : (v : Node) → sound v ≡ true → setted (rowed v) ≡ v
node-back v good = set-kept v (clauses v good).choices.order (set-small v good)

pub held_back : (v : Held) → sound (setted v) ≡ true → rowed (setted v) ≡ v
held_back v good =
    let c = clauses (setted v) good in
    let n = v.cable.n in
    let order = v.cable.order in
    row_kept v c.choices.order (sym (set-within n order c.choices.order v.row) ∙ (both (within n (as_set n order v.row)) _ c.sets).0)

-- ---- what is read from the row of a sound record is what the rules read from its set

pub row_has : (v : Node) (x : ℕ) → sound v ≡ true → has_row (rowed v).row x ≡ has v.set x
row_has v x good = has-row v.cable.n v.cable.order (clauses v good).choices.order v.set x (set-small v good)

pub row-nodes : (v : Node) → sound v ≡ true → nodes_in (rowed v).row ≡ v.set
row-nodes v good = nodes-row v.cable.n v.cable.order (clauses v good).choices.order v.set (set-small v good)

-- of two records on one cable
pub rows_same : (v w : Node) → sound v ≡ true → sound w ≡ true → w.cable ≡ v.cable → same_row (rowed v).row (rowed w).row ≡ eqb v.set w.set
rows_same v w good fine on =
    ap (λ (c : Cable). same_row (rowed v).row (as_row c.order w.set)) on
    ∙ same-row v.cable.n v.cable.order (clauses v good).choices.order v.set w.set (set-small v good) (subst (λ (c : Cable). w.set < 2 ^ c.n) on (set-small w fine))

-- ---- soundness

-- of a record whose row is that of a set, the clauses are those of the set
module _ (v : Held) (kept : is_kept v.cable.n v.cable.order ≡ true) (good : sound_row v.cable.n v.cable.order v.row ≡ true) where
  abbrev n : ℕ
  n = v.cable.n

  abbrev order : List ℕ
  order = v.cable.order

  abbrev s : ℕ
  s = as_set n order v.row

  small : s < 2 ^ n
  small = ltb-true s (2 ^ n) (set-within n order kept v.row ∙ good)

  row_is : v.row ≡ as_row order s
  row_is = sym (row_back n order kept v.row good)

  has-is : (x : ℕ) → has_row v.row x ≡ has s x
  has-is x = ap (λ (r : Row). has_row r x) row_is ∙ has-row n order kept s x small

  count-is : v.row.length ≡ size n s
  count-is = ap (λ (r : Row). r.length) row_is ∙ size-row n order kept s

  none_is : eqb v.row.length 0 ≡ eqb s 0
  none_is =
      by_cases (eqb s 0)
      (λ e. eq-eqb v.row.length 0 (count-is ∙ ap (size n) (eqb-true s 0 e) ∙ size_none n) ∙ sym e)
      (λ e. ne_eqb v.row.length 0 (λ z. eqb-false s 0 e (size-zero n s small (sym count-is ∙ z))) ∙ sym e)

  nodes-are : nodes_in v.row ≡ s
  unfolding as_set
  nodes-are = sym (chosen (nodes_in v.row) _ good)

  sets-are : sets_held v ≡ sets_sound (setted v)
  sets-are =
      ap₂ (λ (a : Bool) (x : ℕ). a && (within n v.present && subset v.present x)) (sym (set-within n order kept v.row)) nodes-are

  clauses-are : sound_held v ≡ sound (setted v)
  unfolding sound_held sound
  clauses-are =
      ap (λ (b : Bool). numbers_sound (setted v) && b)
      (ap₂ ◌&&◌ sets-are
      (ap₂ ◌&&◌ (ap (λ (b : Bool). leb v.returning n && not b) (has-is v.returning))
      (ap₂ ◌&&◌ (ap (exactly (is_member v.state)) (has-is v.own))
      (ap (λ (b : Bool). knock_sound (setted v) && b)
      (ap₂ ◌&&◌ (ap (λ (b : Bool). implies (is_listening v.state || is_out v.state) (b && (eqb v.present 0 && eqb v.returning 0))) none_is)
      (ap (λ (m : ℕ). heard_sound (setted v) && (yes_sound (setted v) && (window_sound (setted v) && implies (is_following v.state || is_knocking v.state) (leb 2 m)))) count-is))))))

-- a test that fails makes both no
numbers-fail : (v : Held) → numbers_sound (setted v) ≡ false → sound_held v ≡ sound (setted v)
unfolding sound_held sound
numbers-fail v bad = rw bad refl

sets-fail : (v : Held) → sets_held v ≡ false → sets_sound (setted v) ≡ false → sound_held v ≡ sound (setted v)
unfolding sound_held sound
sets-fail v bad worse = rw (bad, worse) refl

first-fails : {a : Bool} (b : Bool) → a ≡ false → (a && b) ≡ false
first-fails b e = rw e refl

pub held-sound : (v : Held) → sound_held v ≡ sound (setted v)
held-sound v = by_cases (numbers_sound (setted v)) (λ fits. numbered fits) (λ bad. numbers-fail v bad)
  where
    n : ℕ
    n = v.cable.n

    order : List ℕ
    order = v.cable.order

    numbered : numbers_sound (setted v) ≡ true → sound_held v ≡ sound (setted v)
    numbered fits =
        let kept = (fitting v.cable (both (cable_fits v.cable) _ fits).0).order in
        by_cases (sound_row n order v.row)
        (λ good. clauses-are v kept good)
        (λ bad. sets-fail v (first-fails _ bad) (first-fails _ (set-within n order kept v.row ∙ bad)))
