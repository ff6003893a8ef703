-- Laws of tables (specs/Table): a table made anew record by record, and what its soundness says of the record at each place. Assumes nothing.
use Prim.Native.Nat.{ℕ, zero, suc, ◌+◌, ◌-◌, ◌≤◌, ◌<◌}
use mathlib.Core.Path.{◌≡◌, refl, sym, ap, ap₂, ◌∙◌}
use mathlib.Core.Bool.{true, ◌&&◌, true≢false}
use mathlib.Core.List.{[], ◌∷◌}
use native.Mathlib.Omega.{arith}
use native.Mathlib.Nat.{add-zero}
use lib.Dec.{eqb}
use lib.ListN.{length, get_or}
use borrow.Author.Tests.{eqb-true, eq-eqb}
use Rattle.cable.proofs.nodeset.Tests.{both, all}
use Rattle.cable.specs.declared.Cable.{Cable}
use Rattle.cable.specs.Cable.{same_cable}
use Rattle.cable.proofs.slot_table.Places.{kept-length}
use Rattle.cable.proofs.Cables.{same-is, is_same}
use Rattle.node.proofs.node_record.Facts.{clauses}
use Rattle.node.specs.node_record.declared.Node.{Node}
use Rattle.node.specs.node_record.Soundness.{sound}
use Rattle.node.specs.Calls.{no_node}
use Rattle.bench.specs.Table.{Table, record_of, each_from, each, in_place, placed_from, table_sound, slots_of}

-- ---- a table made anew

length_from : (f : ℕ → Node → Node) (i : ℕ) (t : Table) → length (each_from f i t) ≡ length t
unfolding each_from
length_from f i [] = refl
length_from f i (v ∷ t) = ap suc (length_from f (suc i) t)

pub length-each : (f : ℕ → Node → Node) (t : Table) → length (each f t) ≡ length t
length-each f t = length_from f 1 t

pub record-from : (f : ℕ → Node → Node) (i j : ℕ) (t : Table) → j < length t → get_or (each_from f i t) j no_node ≡ f (i + j) (get_or t j no_node)
unfolding each_from
record-from f i j [] h = absurd (elim h [ ])
record-from f i zero (v ∷ t) h = ap (λ (x : ℕ). f x v) (sym (add-zero i))
record-from f i (suc j) (v ∷ t) h =
    let z : suc i + j ≡ i + suc j = omega arith in
    record-from f (suc i) j t (omega arith) ∙ ap (λ (x : ℕ). f x (get_or t j no_node)) z

pub record-each : (f : ℕ → Node → Node) (t : Table) (i : ℕ) → 1 ≤ i → i ≤ length t → record_of (each f t) i ≡ f i (record_of t i)
unfolding record_of
record-each f t i h l =
    let z : 1 + (i - 1) ≡ i = omega arith in
    record-from f 1 (i - 1) t (omega arith) ∙ ap (λ (x : ℕ). f x (get_or t (i - 1) no_node)) z

-- ---- a record in its place

pub record InPlace (cable : Cable) (slots i : ℕ) (v : Node) : Type 0 where
  pub is-sound : sound v ≡ true
  pub cable-is : v.cable ≡ cable
  pub slots-is : v.slots ≡ slots
  pub own_is : v.own ≡ i

pub in-place : (cable : Cable) (slots i : ℕ) (v : Node) → in_place cable slots i v ≡ true → InPlace cable slots i v
in-place cable slots i v e =
    let c₁ = both (sound v) (same_cable v.cable cable && (eqb v.slots slots && eqb v.own i)) e in
    let c₂ = both (same_cable v.cable cable) (eqb v.slots slots && eqb v.own i) c₁.1 in
    let c₃ = both (eqb v.slots slots) (eqb v.own i) c₂.1 in
    record {
      is-sound = c₁.0;
      cable-is = same-is v.cable cable (kept-length v.cable.n v.cable.order (clauses v c₁.0).choices.order) c₂.0;
      slots-is = eqb-true v.slots slots c₃.0;
      own_is = eqb-true v.own i c₃.1;
    }

place-by : (cable : Cable) (slots i : ℕ) (v : Node) → InPlace cable slots i v → in_place cable slots i v ≡ true
place-by cable slots i v p =
    all p.is-sound (all (is_same v.cable cable p.cable-is) (all (eq-eqb v.slots slots p.slots-is) (eq-eqb v.own i p.own_is)))

from_place : (cable : Cable) (slots i j : ℕ) (t : Table) → placed_from cable slots i t ≡ true → j < length t → InPlace cable slots (i + j) (get_or t j no_node)
unfolding placed_from
from_place cable slots i j [] e h = absurd (elim h [ ])
from_place cable slots i zero (v ∷ t) e h =
    let p : InPlace cable slots i v = in-place cable slots i v (both (in_place cable slots i v) (placed_from cable slots (suc i) t) e).0 in
    rw (add-zero i) p
from_place cable slots i (suc j) (v ∷ t) e h =
    let z : i + suc j ≡ suc i + j = omega arith in
    rw z (from_place cable slots (suc i) j t (both (in_place cable slots i v) (placed_from cable slots (suc i) t) e).1 (omega arith))

to-places : (cable : Cable) (slots i : ℕ) (t : Table) → ((j : ℕ) → j < length t → InPlace cable slots (i + j) (get_or t j no_node)) → placed_from cable slots i t ≡ true
unfolding placed_from
to-places cable slots i [] p = refl
to-places cable slots i (v ∷ t) p =
    let first : InPlace cable slots i v = rw (add-zero i) at (p 0 (omega arith)) in
    all (place-by cable slots i v first) (to-places cable slots (suc i) t (λ j h. let z : suc i + j ≡ i + suc j = omega arith in rw z (p (suc j) (omega arith))))

-- ---- a sound table

-- a table of n records, each in its place
pub record Placed (cable : Cable) (slots : ℕ) (t : Table) : Type 0 where
  pub length-is : length t ≡ cable.n
  pub at : (i : ℕ) → 1 ≤ i → i ≤ cable.n → InPlace cable slots i (record_of t i)

pub sound-placed : (t : Table) → table_sound t ≡ true → Placed (record_of t 1).cable (slots_of t) t
unfolding table_sound record_of slots_of
sound-placed [] e = absurd (true≢false (sym e))
sound-placed (v ∷ t) e = record { length-is = sym y; at = at }
  where
    c : (eqb v.cable.n (suc (length t)) ≡ true) × (placed_from v.cable v.slots 1 (v ∷ t) ≡ true)
    c = both (eqb v.cable.n (suc (length t))) (placed_from v.cable v.slots 1 (v ∷ t)) e

    y : v.cable.n ≡ suc (length t)
    y = eqb-true v.cable.n (suc (length t)) c.0

    at : (i : ℕ) → 1 ≤ i → i ≤ v.cable.n → InPlace v.cable v.slots i (get_or (v ∷ t) (i - 1) no_node)
    at i h l =
        let z : 1 + (i - 1) ≡ i = omega arith in
        rw z at (from_place v.cable v.slots 1 (i - 1) (v ∷ t) c.1 (omega (arith, y)))

pub placed-sound : (cable : Cable) (slots : ℕ) (t : Table) → 1 ≤ cable.n → Placed cable slots t → table_sound t ≡ true
unfolding table_sound record_of
placed-sound cable slots [] h p = let z : ⊥ = omega (arith, p.length-is) in absurd z
placed-sound cable slots (v ∷ t) h p =
    all (eq-eqb v.cable.n (suc (length t)) (ap (λ (c : Cable). c.n) first.cable-is ∙ sym p.length-is))
    (ap₂ (λ (c : Cable) (n : ℕ). placed_from c n 1 (v ∷ t)) first.cable-is first.slots-is ∙ to-places cable slots 1 (v ∷ t) each_in)
  where
    first : InPlace cable slots 1 v
    first = p.at 1 (omega arith) h

    each_in : (j : ℕ) → j < suc (length t) → InPlace cable slots (1 + j) (get_or (v ∷ t) j no_node)
    each_in j l = let z : 1 + j - 1 ≡ j = omega arith in rw z at (p.at (1 + j) (omega arith) (omega (arith, p.length-is)))

pub slots-of-placed : (cable : Cable) (slots : ℕ) (t : Table) → 1 ≤ cable.n → Placed cable slots t → slots_of t ≡ slots
unfolding slots_of
slots-of-placed cable slots t h p = (p.at 1 (omega arith) h).slots-is
