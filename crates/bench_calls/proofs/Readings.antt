-- What is gathered of the members of a held table is their greatest distance in the table that it stands for (bench's specs/Calls): each member's set is compared with those of the members before it, which gives
-- every two once. Assumes nothing.
use Prim.Native.Nat.{ℕ, zero, suc, ◌+◌, ◌<◌, ◌≤◌, max}
use mathlib.Core.Path.{◌≡◌, refl, sym, ap, ap₂, subst, ◌∙◌}
use mathlib.Core.Bool.{Bool, true, false, cond, ◌&&◌}
use mathlib.Core.List.{List, [], ◌∷◌}
use native.Mathlib.Omega.{arith}
use native.Mathlib.Numerals.{add-one}
use lib.Dec.{ltb}
use lib.ListN.{length, get_or, set, replicate, length-set, length-replicate}
use borrow.Author.Tests.{lt-ltb}
use Rattle.node_record.specs.nodeset.Sets.{distance}
use Rattle.node_record.proofs.nodeset.Tests.{by_cases}
use Rattle.node_record.specs.cable.declared.Cable.{Cable}
use Rattle.node_record.proofs.cable.Ranges.{ring-size}
use Rattle.node_record.specs.row.Rows.{nodes_in}
use Rattle.node_record.specs.declared.Held.{Held}
use Rattle.node_record.specs.Soundness.{sound}
use Rattle.node_record.specs.Held.{setted}
use Rattle.node_record.specs.States.{is_member}
use Rattle.bench_orders.specs.declared.Members.{Members}
use Rattle.bench.specs.Table.{Table, record_of, placed_from, table_sound, slots_of}
use Rattle.bench.specs.Calls.{farthest, greatest}
use Rattle.bench.specs.Held.{HeldTable, setted_all}
use Rattle.bench.proofs.Standing.{length-setted}
use Rattle.bench.proofs.node.Holding.{set-held}
use Rattle.bench_orders.specs.Survey.{fold_from, far_from, member_seen, gathered, no_members, members_of}
use Rattle.bench_calls.proofs.Surveys.{placed, said}

set_other : (l : List ℕ) (c y j d : ℕ) → j < c → get_or (set l c y) j d ≡ get_or l j d
set_other [] c y j d h = refl
set_other (x ∷ l) zero y j d h = absurd (let q : ⊥ = omega (arith, h) in q)
set_other (x ∷ l) (suc c) y zero d h = refl
set_other (x ∷ l) (suc c) y (suc j) d h = set_other l c y j d (omega (arith, h))

set_same : (l : List ℕ) (c y d : ℕ) → c < length l → get_or (set l c y) c d ≡ y
set_same [] c y d h = absurd (let q : ⊥ = omega (arith, h) in q)
set_same (x ∷ l) zero y d h = refl
set_same (x ∷ l) (suc c) y d h = set_same l c y d (omega (arith, h))

-- a set that is stored later does not count
far-kept : (n x c y : ℕ) (sets : List ℕ) (j : ℕ) → j ≤ c → far_from n x (set sets c y) j ≡ far_from n x sets j
unfolding far_from
far-kept n x c y sets zero l = refl
far-kept n x c y sets (suc j) l = ap₂ max (far-kept n x c y sets j (omega (arith, l))) (ap (λ (s : ℕ). distance n s x) (set_other sets c y j 0 l))

far-push : (n x c y : ℕ) (sets : List ℕ) → c < length sets → far_from n x (set sets c y) (c + 1) ≡ max (far_from n x sets c) (distance n y x)
unfolding far_from
far-push n x c y sets l =
    ap (far_from n x (set sets c y)) (add-one c)
    ∙ ap₂ max (far-kept n x c y sets c (omega arith)) (ap (λ (s : ℕ). distance n s x) (set_same sets c y 0 l))

-- the greatest distance of the members of a table from the first c sets
abbrev cross_of : ℕ → List ℕ → ℕ → Table → ℕ
cross_of n sets c [] = 0
cross_of n sets c (v ∷ t) = max (cond (is_member v.state) (far_from n v.set sets c) 0) (cross_of n sets c t)

four : (a b c d : ℕ) → max (max a b) (max c d) ≡ max (max a c) (max b d)
four a b c d = omega arith

cross-push : (n c y : ℕ) (sets : List ℕ) (t : Table) → c < length sets → cross_of n (set sets c y) (c + 1) t ≡ max (cross_of n sets c t) (farthest n y t)
unfolding farthest
cross-push n c y sets [] l = refl
cross-push n c y sets (v ∷ t) l =
    ap₂ max (go (is_member v.state)) (cross-push n c y sets t l)
    ∙ four (cond (is_member v.state) (far_from n v.set sets c) 0) (cond (is_member v.state) (distance n y v.set) 0) (cross_of n sets c t) (farthest n y t)
  where
    go : (b : Bool) → cond b (far_from n v.set (set sets c y) (c + 1)) 0 ≡ max (cond b (far_from n v.set sets c) 0) (cond b (distance n y v.set) 0)
    go true = far-push n v.set c y sets l
    go false = refl

cross-none : (n : ℕ) (sets : List ℕ) (t : Table) → cross_of n sets 0 t ≡ 0
unfolding far_from
cross-none n sets [] = refl
cross-none n sets (v ∷ t) = ap₂ max (go (is_member v.state)) (cross-none n sets t)
  where
    go : (b : Bool) → ◌≡◌ {A = ℕ} (cond b 0 0) 0
    go true = refl
    go false = refl

-- ---- what one record adds

-- what is gathered from the rest, where c sets are there already
abbrev Gathers : ℕ → Members → ℕ → HeldTable → Type 0
Gathers n m i t = (fold_from gathered m i t).greatest ≡ max m.greatest (max (cross_of n m.sets m.count (setted_all t)) (greatest n (setted_all t)))

grouped : (a b c : ℕ) → max (max a b) c ≡ max a (max b c)
grouped a b c = omega arith

pushed-max : (g f c t w : ℕ) → max (max g f) (max (max c t) w) ≡ max g (max (max f c) (max t w))
pushed-max g f c t w =
    grouped g f (max (max c t) w) ∙ ap (max g) (ap (max f) (grouped c t w) ∙ sym (grouped f c (max t w)))

passed-max : (g c w : ℕ) → max g (max c w) ≡ max g (max (max 0 c) (max 0 w))
passed-max g c w = omega arith

one-record : (n : ℕ) (m : Members) (i : ℕ) (v : Held) (t : HeldTable) → sound (setted v) ≡ true → v.cable.n ≡ n → m.count < 32 → length m.sets ≡ 32
    → ((m' : Members) → m'.count ≤ m.count + 1 → length m'.sets ≡ 32 → Gathers n m' (suc i) t) → Gathers n m i (v ∷ t)
unfolding fold_from greatest gathered
one-record n m i v t good e l h ih = by_cases (is_member v.state) member other
  where
    u : Table
    u = setted_all t

    set-of : ℕ
    set-of = (setted v).set

    Goal : Bool → Type 0
    Goal b = (fold_from gathered (cond (b && ltb m.count 32) (member_seen v.cable.n m (nodes_in v.row)) m) (suc i) t).greatest
        ≡ max m.greatest (max (max (cond b (far_from n set-of m.sets m.count) 0) (cross_of n m.sets m.count u)) (max (cond b (farthest n set-of u) 0) (greatest n u)))

    in_list : Goal true
    in_list =
        ap₂ (λ (b : Bool) (x : ℕ). (fold_from gathered (cond b (member_seen v.cable.n m x) m) (suc i) t).greatest) (lt-ltb m.count 32 l) (set-held v good)
        ∙ ih (member_seen v.cable.n m set-of) (omega arith) (length-set m.sets m.count set-of ∙ h)
        ∙ ap₂ (λ (k x : ℕ). max (max m.greatest (far_from k set-of m.sets m.count)) (max x (greatest n u))) e (cross-push n m.count set-of m.sets u (omega (arith, l, h)))
        ∙ pushed-max m.greatest (far_from n set-of m.sets m.count) (cross_of n m.sets m.count u) (farthest n set-of u) (greatest n u)

    not_in : Goal false
    not_in = ih m (omega arith) h ∙ passed-max m.greatest (cross_of n m.sets m.count u) (greatest n u)

    member : is_member v.state ≡ true → Gathers n m i (v ∷ t)
    member b = subst Goal (sym b) in_list

    other : is_member v.state ≡ false → Gathers n m i (v ∷ t)
    other b = subst Goal (sym b) not_in

-- ---- the whole table

gathers : (cable : Cable) (slots : ℕ) (m : Members) (i : ℕ) (t : HeldTable) → placed_from cable slots (suc i) (setted_all t) ≡ true → m.count ≤ i → length m.sets ≡ 32 → i + length t ≤ 32 → Gathers cable.n m i t
unfolding fold_from greatest
gathers cable slots m i [] e l h r = omega arith
gathers cable slots m i (v ∷ t) e l h r =
    let p = placed cable slots (suc i) v t e in
    one-record cable.n m i v t p.good (ap (λ (c : Cable). c.n) p.cable-of) (omega (arith, l, r)) h
    (λ m' l' h'. gathers cable slots m' (suc i) t p.rest (omega (arith, l, l')) h' (omega (arith, r)))

placed-distance : (cable : Cable) (slots : ℕ) (t : HeldTable) → placed_from cable slots 1 (setted_all t) ≡ true → length t ≤ 32 → (members_of t).greatest ≡ greatest cable.n (setted_all t)
unfolding members_of no_members
placed-distance cable slots t e r =
    let u = setted_all t in
    gathers cable slots no_members 0 t e (omega arith) (length-replicate {A = ℕ} 32 0) (omega (arith, r))
    ∙ ap (λ (x : ℕ). max 0 (max x (greatest cable.n u))) (cross-none cable.n (replicate 32 0) u) ∙ least (greatest cable.n u)
  where
    least : (x : ℕ) → max 0 (max 0 x) ≡ x
    least x = omega arith

pub of-sound : (t : HeldTable) → table_sound (setted_all t) ≡ true → (members_of t).greatest ≡ greatest (length (setted_all t)) (setted_all t)
of-sound t e =
    let s = said t e in
    let u = setted_all t in
    placed-distance (record_of u 1).cable (slots_of u) t s.rows (omega (arith, (ring-size (length u) s.ring).1, length-setted t)) ∙ ap (λ (n : ℕ). greatest n u) s.count
