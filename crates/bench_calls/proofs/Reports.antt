-- What `carry_out` notes (bench_notes' specs/Notes), put in order, is what bench's specs/Pairs asks of a slot: the pairs of the nodes that left, then all others, and the bytes after them as
-- they were; and no other call tells pairs. Assumes nothing.
use Prim.Native.Nat.{ℕ, zero, suc, ◌+◌, ◌*◌, ◌<◌, ◌≤◌, min}
use mathlib.Core.Path.{◌≡◌, refl, sym, ap, ap₂, subst, ◌∙◌}
use mathlib.Core.Bool.{Bool, true, false, cond, not, ◌&&◌}
use mathlib.Core.List.{List, [], ◌∷◌, ◌++◌, append_assoc, append-nil}
use native.Mathlib.Omega.{arith}
use native.Mathlib.Numerals.{add-one}
use lib.Dec.{eqb, leb, ltb}
use lib.ListN.{length, get_or, set, take, drop, length-set, length-replicate, length-append, take-append-drop}
use lib.Seq.{get_or-take, take-length}
use borrow.Author.Tests.{leb-true, le-leb, lt-ltb}
use Rattle.bench.specs.refusal.declared.Refusal.{Refusal}
use Rattle.bench.specs.refusal.declared.Refusal.TheVariants.{NodeNumber, Unsound, SlotLimit, OutputShort, NotOut, LedgerUnfit, SpareBit}
use Rattle.bench.specs.refusal.Causes.{cause}
use Rattle.node_record.specs.nodeset.Sets.{has, within}
use Rattle.node_record.proofs.nodeset.Tests.{by_cases, all, chosen}
use Rattle.node_record.specs.cable.declared.Choices.{Choices}
use Rattle.node_record.specs.cable.declared.Cable.{Cable}
use Rattle.node_record.specs.cable.Cable.{may_set_up, node_number, fault_of}
use Rattle.node_record.proofs.cable.Ranges.{ring-size}
use Rattle.bench_orders.specs.message.Message.{jobs_within}
use Rattle.bench_orders.specs.declared.Beside.{Beside}
use Rattle.node_record.specs.declared.Held.{Held}
use Rattle.node_record.specs.declared.State.{State}
use Rattle.node_record.specs.Soundness.{limit}
use Rattle.bench.specs.declared.Command.{Command}
use Rattle.bench.specs.declared.Command.TheVariants as command
use Rattle.bench_orders.specs.declared.Order.{Order}
use Rattle.bench_orders.specs.declared.Order.TheVariants as order
use Rattle.bench_orders.specs.declared.Errand.{Errand}
use Rattle.bench_orders.specs.bench_notes.declared.Pairs.{Pairs}
use Rattle.bench_orders.specs.bench_notes.declared.Notes.{Notes}
use Rattle.bench.specs.Table.{Table, record_of, placed_from, table_sound, slots_of}
use Rattle.bench.specs.Held.{HeldTable, setted_all}
use Rattle.bench.proofs.Standing.{length-setted}
use Rattle.bench.specs.Calls.{Called}
use Rattle.bench.specs.Outcomes.{pairs_of, bytes_by}
use Rattle.bench.specs.Pairs.{same_state, kind_from, Pair, pair_bytes, leaves, changes_else, group_from, pairs_in, pairs_told, slot_bytes}
use Rattle.bench_orders.specs.Survey.{fold_from, map_from, survey_of, fine_table}
use Rattle.bench_orders.specs.bench_notes.Notes.{pushed, with_pair, no_pairs, in_group, with_one, grouped_to, ordered, noticed, no_notes}
use Rattle.bench_orders.specs.Orders.{if_good, fate_by, turn_of, order_for, carried, noticed_from, notes_of, pairs_by, bytes_told, puts, written_by}
use Rattle.bench_work.proofs.Puts.{all-put}
use Rattle.bench_calls.proofs.Surveys.{placed, fine-table, said}
use Rattle.bench_calls.proofs.Works.{called_fit, sent_on, called_by, called-by}

-- ---- bytes

stored : (l : List ℕ) (j a b : ℕ) → suc j < length l → take (suc (suc j)) (set (set l j a) (suc j) b) ≡ take j l ++ (a ∷ b ∷ [])
stored [] j a b h = absurd (let q : ⊥ = omega (arith, h) in q)
stored (x ∷ []) zero a b h = absurd (let q : ⊥ = omega (arith, h) in q)
stored (x ∷ y ∷ l) zero a b h = refl
stored (x ∷ l) (suc j) a b h = ap {B = List ℕ} (λ r. x ∷ r) (stored l j a b (omega (arith, h)))

-- no pair is no byte
none_written : (b out : List ℕ) → puts b (bytes_told 0 (length out)) out ≡ out
unfolding puts
none_written b out = ap (λ (j : ℕ). puts b j out) (go (leb 0 32 && leb 64 (length out)))
  where
    go : (c : Bool) → cond c (0 * 2) 0 ≡ 0
    go true = refl
    go false = refl

-- ---- the pairs of an order, in rising order of nodes

abbrev same : Errand → ℕ → Held → Bool
same o i v = same_state v.state (carried o i v).state

abbrev kind : Errand → ℕ → Held → ℕ
kind o i v = kind_from v.state (carried o i v).state

abbrev changes_of : Errand → ℕ → HeldTable → List Pair
changes_of o i [] = []
changes_of o i (v ∷ t) = cond (same o i v) (changes_of o (suc i) t) ((v.own, kind o i v) ∷ changes_of o (suc i) t)

few : (o : Errand) (i : ℕ) (t : HeldTable) → length (changes_of o i t) ≤ length t
few o i [] = omega arith
few o i (v ∷ t) = go (few o (suc i) t) (same o i v)
  where
    go : length (changes_of o (suc i) t) ≤ length t → (b : Bool) → length (cond b (changes_of o (suc i) t) ((v.own, kind o i v) ∷ changes_of o (suc i) t)) ≤ suc (length t)
    go h true = omega (arith, h)
    go h false = omega (arith, h)

-- the notes' part of the pairs
abbrev noted_from : Errand → Pairs → ℕ → HeldTable → Pairs
noted_from o p i t = fold_from (λ p i v. with_pair p v (carried o i v)) p i t

told_part : (o : Errand) (m : Notes) (i : ℕ) (t : HeldTable) → (noticed_from o m i t).pairs ≡ noted_from o m.pairs i t
unfolding fold_from noticed
told_part o m i [] = refl
told_part o m i (v ∷ t) = told_part o (noticed m v (carried o i v)) (suc i) t

-- what is noted of the records from index i on
pub record Noted (p r : Pairs) (ps : List Pair) : Type 0 where
  pub count : r.count ≡ p.count + length ps
  pub size : length r.bytes ≡ 64
  pub bytes : take (r.count * 2) r.bytes ≡ take (p.count * 2) p.bytes ++ pair_bytes ps

double : (c : ℕ) → (c + 1) * 2 ≡ suc (suc (c * 2))
double c = omega arith

push-bytes : (p : Pairs) (x k : ℕ) → p.count < 32 → length p.bytes ≡ 64 → take ((pushed p x k).count * 2) (pushed p x k).bytes ≡ take (p.count * 2) p.bytes ++ (x ∷ k ∷ [])
push-bytes p x k l h =
    ap₂ (λ (m j : ℕ). take m (set (set p.bytes (p.count * 2) x) j k)) (double p.count) (add-one (p.count * 2))
    ∙ stored p.bytes (p.count * 2) x k (omega (arith, l, h))

push-size : (p : Pairs) (x k : ℕ) → length p.bytes ≡ 64 → length (pushed p x k).bytes ≡ 64
push-size p x k h = length-set (set p.bytes (p.count * 2) x) (p.count * 2 + 1) k ∙ length-set p.bytes (p.count * 2) x ∙ h

notes : (cable : Cable) (slots : ℕ) (o : Errand) (p : Pairs) (i : ℕ) (t : HeldTable) → placed_from cable slots (suc i) (setted_all t) ≡ true → p.count ≤ i → i + length t ≤ 32 → length p.bytes ≡ 64
    → Noted p (noted_from o p i t) (changes_of o i t)
unfolding fold_from with_pair pair_bytes
notes cable slots o p i [] e l m h = record { count = omega arith; size = h; bytes = sym (append-nil (take (p.count * 2) p.bytes)) }
notes cable slots o p i (v ∷ t) e l m h =
    let rest = (placed cable slots (suc i) v t e).rest in
    let ih : After = λ p' l' h'. notes cable slots o p' (suc i) t rest l' (omega (arith, m)) h' in
    by_cases (same o i v) (λ b. subst Goal (sym b) (ih p (omega (arith, l)) h)) (λ b. subst Goal (sym b) (changes ih))
  where
    q : Pairs
    q = pushed p v.own (kind o i v)

    Goal : Bool → Type 0
    Goal b = Noted p (noted_from o (cond b p (cond (ltb p.count 32 && leb v.own 32) q p)) (suc i) t) (cond b (changes_of o (suc i) t) ((v.own, kind o i v) ∷ changes_of o (suc i) t))

    own_is : v.own ≡ suc i
    own_is = (placed cable slots (suc i) v t e).own

    After : Type 0
    After = (p' : Pairs) → p'.count ≤ suc i → length p'.bytes ≡ 64 → Noted p' (noted_from o p' (suc i) t) (changes_of o (suc i) t)

    test : (ltb p.count 32 && leb v.own 32) ≡ true
    test = all (lt-ltb p.count 32 (omega (arith, l, m))) (le-leb v.own 32 (omega (arith, own_is, m)))

    with_it : Noted q (noted_from o q (suc i) t) (changes_of o (suc i) t) → Noted p (noted_from o q (suc i) t) ((v.own, kind o i v) ∷ changes_of o (suc i) t)
    with_it later = record {
      count = let c = later.count in omega (arith, c);
      size = later.size;
      bytes = later.bytes ∙ ap (λ (x : List ℕ). x ++ pair_bytes (changes_of o (suc i) t)) (push-bytes p v.own (kind o i v) (omega (arith, l, m)) h)
          ∙ append_assoc (take (p.count * 2) p.bytes) (v.own ∷ kind o i v ∷ []) (pair_bytes (changes_of o (suc i) t));
    }

    changes : After → Goal false
    changes ih = subst (λ (b : Bool). Noted p (noted_from o (cond b q p) (suc i) t) ((v.own, kind o i v) ∷ changes_of o (suc i) t)) (sym test) (with_it (ih q (omega (arith, l)) (push-size p v.own (kind o i v) h)))

-- ---- the pairs in their order

-- the pairs of a group
abbrev group_of : Bool → List Pair → List Pair
group_of left [] = []
group_of left (p ∷ ps) = cond (in_group left p.1) (p ∷ group_of left ps) (group_of left ps)

bytes-append : (ps qs : List Pair) → pair_bytes (ps ++ qs) ≡ pair_bytes ps ++ pair_bytes qs
unfolding pair_bytes
bytes-append [] qs = refl
bytes-append (p ∷ ps) qs = ap {B = List ℕ} (λ r. p.0 ∷ p.1 ∷ r) (bytes-append ps qs)

bytes-length : (ps : List Pair) → length (pair_bytes ps) ≡ 2 * length ps
unfolding pair_bytes
bytes-length [] = refl
bytes-length (p ∷ ps) = omega (arith, bytes-length ps)

-- what is noted after what was
both-noted : (p q r : Pairs) (ps qs : List Pair) → Noted p q ps → Noted q r qs → Noted p r (ps ++ qs)
both-noted p q r ps qs a b = record {
  count = omega (arith, a.count, b.count, length-append ps qs);
  size = b.size;
  bytes = b.bytes ∙ ap (λ (l : List ℕ). l ++ pair_bytes qs) a.bytes ∙ append_assoc (take (p.count * 2) p.bytes) (pair_bytes ps) (pair_bytes qs) ∙ ap (λ (l : List ℕ). take (p.count * 2) p.bytes ++ l) (sym (bytes-append ps qs));
}

none-noted : (p : Pairs) → length p.bytes ≡ 64 → Noted p p []
unfolding pair_bytes
none-noted p h = record { count = omega arith; size = h; bytes = sym (append-nil (take (p.count * 2) p.bytes)) }

one-noted : (p : Pairs) (x k : ℕ) → p.count < 32 → length p.bytes ≡ 64 → Noted p (pushed p x k) ((x, k) ∷ [])
unfolding pair_bytes
one-noted p x k l h = record { count = omega arith; size = push-size p x k h; bytes = push-bytes p x k l h }

-- the pair that stands at a place of the bytes
pair-at : (ps : List Pair) (j : ℕ) → j < length ps → (get_or (pair_bytes ps) (j * 2) 0 ≡ (get_or ps j (0, 0)).0) × (get_or (pair_bytes ps) (j * 2 + 1) 0 ≡ (get_or ps j (0, 0)).1)
unfolding pair_bytes
pair-at [] j h = absurd (let q : ⊥ = omega (arith, h) in q)
pair-at (p ∷ ps) zero h = (refl, refl)
pair-at (p ∷ ps) (suc j) h =
    let r = pair-at ps j (omega (arith, h)) in
    let y : suc j * 2 ≡ suc (suc (j * 2)) = omega arith in
    let z : suc j * 2 + 1 ≡ suc (suc (j * 2 + 1)) = omega arith in
    (ap (λ (i : ℕ). get_or (p.0 ∷ p.1 ∷ pair_bytes ps) i 0) y ∙ r.0, ap (λ (i : ℕ). get_or (p.0 ∷ p.1 ∷ pair_bytes ps) i 0) z ∙ r.1)

group-append : (left : Bool) (ps qs : List Pair) → group_of left (ps ++ qs) ≡ group_of left ps ++ group_of left qs
group-append left [] qs = refl
group-append left (p ∷ ps) qs = go (in_group left p.1) (group-append left ps qs)
  where
    go : (b : Bool) → group_of left (ps ++ qs) ≡ group_of left ps ++ group_of left qs → cond b (p ∷ group_of left (ps ++ qs)) (group_of left (ps ++ qs)) ≡ cond b (p ∷ group_of left ps) (group_of left ps) ++ group_of left qs
    go true h = ap {B = List Pair} (λ r. p ∷ r) h
    go false h = h

group-few : (left : Bool) (ps : List Pair) → length (group_of left ps) ≤ length ps
group-few left [] = omega arith
group-few left (p ∷ ps) = go (in_group left p.1) (group-few left ps)
  where
    go : (b : Bool) → length (group_of left ps) ≤ length ps → length (cond b (p ∷ group_of left ps) (group_of left ps)) ≤ suc (length ps)
    go true h = omega (arith, h)
    go false h = omega (arith, h)

-- the two groups are all
groups-all : (ps : List Pair) → length (group_of true ps ++ group_of false ps) ≡ length ps
groups-all ps = length-append (group_of true ps) (group_of false ps) ∙ count ps
  where
    count : (qs : List Pair) → length (group_of true qs) + length (group_of false qs) ≡ length qs
    count [] = refl
    count (q ∷ qs) = go (eqb q.1 1) (count qs)
      where
        go : (b : Bool) → length (group_of true qs) + length (group_of false qs) ≡ length qs
            → length (cond b (q ∷ group_of true qs) (group_of true qs)) + length (cond (not b) (q ∷ group_of false qs) (group_of false qs)) ≡ suc (length qs)
        go true h = omega (arith, h)
        go false h = omega (arith, h)

take_more : (ps : List Pair) (j : ℕ) → j < length ps → take (suc j) ps ≡ take j ps ++ (get_or ps j (0, 0) ∷ [])
take_more [] j h = absurd (let q : ⊥ = omega (arith, h) in q)
take_more (p ∷ ps) zero h = refl
take_more (p ∷ ps) (suc j) h = ap {B = List Pair} (λ r. p ∷ r) (take_more ps j (omega (arith, h)))

-- the pairs of a group, of the first j noted, are added
module _ (left : Bool) (bytes : List ℕ) (ps : List Pair) (are : take (length ps * 2) bytes ≡ pair_bytes ps) (p : Pairs) (size : length p.bytes ≡ 64) (room : p.count + length (group_of left ps) ≤ 32) where
  read : (i : ℕ) → i < length ps * 2 → get_or bytes i 0 ≡ get_or (pair_bytes ps) i 0
  read i h = sym (get_or-take (length ps * 2) bytes i 0 h) ∙ ap (λ (l : List ℕ). get_or l i 0) are

  few-so-far : (j : ℕ) → length (group_of left (take j ps)) ≤ length (group_of left ps)
  few-so-far j =
      let whole = ap (λ (l : List Pair). length (group_of left l)) (sym (take-append-drop j ps)) ∙ ap length (group-append left (take j ps) (drop j ps)) ∙ length-append (group_of left (take j ps)) (group_of left (drop j ps)) in
      omega (arith, whole)

  group-noted : (j : ℕ) → j ≤ length ps → Noted p (grouped_to left bytes j p) (group_of left (take j ps))
  unfolding grouped_to with_one
  group-noted zero h = none-noted p size
  group-noted (suc j) h =
      let q = grouped_to left bytes j p in
      let so_far = group-noted j (omega (arith, h)) in
      let it = get_or ps j (0, 0) in
      let at = pair-at ps j h in
      let x-is : get_or bytes (j * 2) 0 ≡ it.0 = read (j * 2) (omega (arith, h)) ∙ at.0 in
      let k-is : get_or bytes (j * 2 + 1) 0 ≡ it.1 = read (j * 2 + 1) (omega (arith, h)) ∙ at.1 in
      subst (λ (x : ℕ). Noted p (with_one left q x (get_or bytes (j * 2 + 1) 0)) (group_of left (take (suc j) ps))) (sym x-is)
      (subst (λ (k : ℕ). Noted p (with_one left q it.0 k) (group_of left (take (suc j) ps))) (sym k-is)
      (subst (λ (l : List Pair). Noted p (with_one left q it.0 it.1) (group_of left l)) (sym (take_more ps j h))
      (subst (Noted p (with_one left q it.0 it.1)) (sym (group-append left (take j ps) (it ∷ [])))
      (one q it so_far (few-so-far (suc j)) (ap (λ (l : List Pair). length (group_of left l)) (take_more ps j h) ∙ ap length (group-append left (take j ps) (it ∷ [])) ∙ length-append (group_of left (take j ps)) (group_of left (it ∷ [])))))))
    where
      one : (q : Pairs) (it : Pair) → Noted p q (group_of left (take j ps)) → length (group_of left (take (suc j) ps)) ≤ length (group_of left ps)
          → length (group_of left (take (suc j) ps)) ≡ length (group_of left (take j ps)) + length (group_of left (it ∷ []))
          → Noted p (with_one left q it.0 it.1) (group_of left (take j ps) ++ group_of left (it ∷ []))
      one q it n l m =
          by_cases (in_group left it.1)
          (λ b.
          let below : q.count < 32 = omega (arith, n.count, l, m, room, ap (λ (d : Bool). length (cond d (it ∷ []) [])) b) in
          rw (b, lt-ltb q.count 32 below) (both-noted p q (pushed q it.0 it.1) (group_of left (take j ps)) (it ∷ []) n (one-noted q it.0 it.1 below n.size)))
          (λ b. rw b (subst (Noted p q) (sym (append-nil (group_of left (take j ps)))) n))

-- ---- the groups of the changes are those of the two tables

module _ (cable : Cable) (slots : ℕ) (o : Errand) (left : Bool) (group : State → State → Bool)
    (says : (a b : State) → group a b ≡ (not (same_state a b) && in_group left (kind_from a b))) where
  group-is : (i : ℕ) (t : HeldTable) → placed_from cable slots (suc i) (setted_all t) ≡ true → group_of left (changes_of o i t) ≡ group_from group (suc i) (setted_all t) (setted_all (map_from (carried o) i t))
  unfolding group_from map_from
  group-is i [] e = refl
  group-is i (v ∷ t) e =
      let p = placed cable slots (suc i) v t e in
      first (same o i v)
      ∙ ap (λ (l : List Pair). cond (not (same o i v) && in_group left (kind o i v)) ((v.own, kind o i v) ∷ l) l) (group-is (suc i) t p.rest)
      ∙ ap₂ (λ (b : Bool) (x : ℕ). cond b ((x, kind o i v) ∷ rest) rest) (sym (says v.state (carried o i v).state)) p.own
    where
      rest : List Pair
      rest = group_from group (suc (suc i)) (setted_all t) (setted_all (map_from (carried o) (suc i) t))

      more : List Pair
      more = group_of left (changes_of o (suc i) t)

      first : (b : Bool) → group_of left (cond b (changes_of o (suc i) t) ((v.own, kind o i v) ∷ changes_of o (suc i) t)) ≡ cond (not b && in_group left (kind o i v)) ((v.own, kind o i v) ∷ more) more
      first true = refl
      first false = refl

-- ---- the whole table

abbrev after : Errand → HeldTable → Table
after o t = setted_all (map_from (carried o) 0 t)

pairs-are : (cable : Cable) (slots : ℕ) (o : Errand) (t : HeldTable) → placed_from cable slots 1 (setted_all t) ≡ true
    → group_of true (changes_of o 0 t) ++ group_of false (changes_of o 0 t) ≡ pairs_in (setted_all t) (after o t)
unfolding pairs_in
pairs-are cable slots o t e =
    ap₂ ◌++◌ (group-is cable slots o true leaves (λ a b. refl) 0 t e) (group-is cable slots o false changes_else (λ a b. refl) 0 t e)

abbrev noted_of : Errand → HeldTable → Pairs
noted_of o t = (notes_of o t).pairs

noted-is : (o : Errand) (t : HeldTable) → noted_of o t ≡ noted_from o no_pairs 0 t
unfolding notes_of no_notes
noted-is o t = told_part o no_notes 0 t

abbrev written : Pairs → List ℕ → List ℕ
written p out = puts (ordered p).bytes (bytes_told p.count (length out)) out

no-pairs-size : length no_pairs.bytes ≡ 64
unfolding no_pairs
no-pairs-size = length-replicate {A = ℕ} 64 0

no-pairs-count : no_pairs.count ≡ 0
unfolding no_pairs
no-pairs-count = refl

ordered-noted : (p : Pairs) (ps : List Pair) → Noted no_pairs p ps → length ps ≤ 32 → Noted no_pairs (ordered p) (group_of true ps ++ group_of false ps)
unfolding ordered
ordered-noted p ps n few =
    let none = no-pairs-count in
    let count-is : p.count ≡ length ps = omega (arith, n.count, none) in
    let most : min p.count 32 ≡ length ps = omega (arith, count-is, few) in
    let are : take (length ps * 2) p.bytes ≡ pair_bytes ps =
    ap (λ (j : ℕ). take (j * 2) p.bytes) (sym count-is) ∙ n.bytes ∙ ap (λ (j : ℕ). take (j * 2) no_pairs.bytes ++ pair_bytes ps) none in
    let all_of : take (length ps) ps ≡ ps = take-length ps in
    let left-ones : Noted no_pairs (grouped_to true p.bytes (length ps) no_pairs) (group_of true ps) =
    subst (λ (l : List Pair). Noted no_pairs (grouped_to true p.bytes (length ps) no_pairs) (group_of true l)) all_of
    (group-noted true p.bytes ps are no_pairs no-pairs-size (omega (arith, none, few, group-few true ps)) (length ps) (omega arith)) in
    let q = grouped_to true p.bytes (length ps) no_pairs in
    let all-few = groups-all ps ∙ refl in
    let others : Noted q (grouped_to false p.bytes (length ps) q) (group_of false ps) =
    subst (λ (l : List Pair). Noted q (grouped_to false p.bytes (length ps) q) (group_of false l)) all_of
    (group-noted false p.bytes ps are q left-ones.size (omega (arith, left-ones.count, none, few, groups-all ps, length-append (group_of true ps) (group_of false ps))) (length ps) (omega arith)) in
    subst (λ (m : ℕ). Noted no_pairs (grouped_to false p.bytes m (grouped_to true p.bytes m no_pairs)) (group_of true ps ++ group_of false ps)) (sym most)
    (both-noted no_pairs q (grouped_to false p.bytes (length ps) q) (group_of true ps) (group_of false ps) left-ones others)

done-told : (o : Errand) (t : HeldTable) (out : List ℕ) → (table_sound (setted_all t) ≡ true) × (64 ≤ length out)
    → ((noted_of o t).count ≡ length (pairs_in (setted_all t) (after o t))) × (written (noted_of o t) out ≡ (pair_bytes (pairs_in (setted_all t) (after o t)) ++ drop (length (pair_bytes (pairs_in (setted_all t) (after o t)))) out))
done-told o t out (sound, room) =
    let s = said t sound in
    let u = setted_all t in
    let cable = (record_of u 1).cable in
    let slots = slots_of u in
    let most : length t ≤ 32 = omega (arith, (ring-size (length u) s.ring).1, length-setted t) in
    let ps = changes_of o 0 t in
    let all_noted : Noted no_pairs (noted_of o t) ps = rw (noted-is o t) (notes cable slots o no_pairs 0 t s.rows (omega (arith, no-pairs-count)) (omega (arith, most)) no-pairs-size) in
    let h = few o 0 t in
    let r = ordered (noted_of o t) in
    let qs = pairs_in (setted_all t) (after o t) in
    let in-order : Noted no_pairs r qs = subst (Noted no_pairs r) (pairs-are cable slots o t s.rows) (ordered-noted (noted_of o t) ps all_noted (omega (arith, h, most))) in
    let number : length ps ≡ length qs = sym (groups-all ps) ∙ ap length (pairs-are cable slots o t s.rows) in
    let count-is : (noted_of o t).count ≡ length qs = omega (arith, all_noted.count, no-pairs-count, number) in
    let here : r.count ≡ (noted_of o t).count = omega (arith, in-order.count, no-pairs-count, count-is) in
    let at_most : (noted_of o t).count ≤ 32 = omega (arith, h, most, count-is, number) in
    let test : (leb (noted_of o t).count 32 && leb 64 (length out)) ≡ true = all (le-leb (noted_of o t).count 32 at_most) (le-leb 64 (length out) room) in
    let end_is : cond (leb (noted_of o t).count 32 && leb 64 (length out)) ((noted_of o t).count * 2) 0 ≡ r.count * 2 = chosen ((noted_of o t).count * 2) 0 test ∙ ap (λ (c : ℕ). c * 2) (sym here) in
    let twice : r.count * 2 ≡ length (pair_bytes qs) = omega (arith, here, count-is, bytes-length qs) in (
      count-is,
      ap (λ (j : ℕ). puts r.bytes j out) end_is ∙ all-put r.bytes out (r.count * 2) (omega (arith, at_most, here, in-order.size)) (omega (arith, at_most, here, room))
          ∙ ap₂ ◌++◌ (in-order.bytes ∙ ap (λ (j : ℕ). take (j * 2) no_pairs.bytes ++ pair_bytes qs) no-pairs-count) (ap (λ (j : ℕ). drop j out) twice),
    )

-- ---- a slot: its pairs are those of its changes

-- the answer and the bytes of an order that a slot gives
abbrev SlotTold : Beside → Order → HeldTable → List ℕ → Type 0
SlotTold fits o t out = let m = notes_of (sent_on fits o t) t in (pairs_by o m ≡ pairs_told (setted_all t) (called_by fits o t)) × (written_by o m out ≡ slot_bytes (setted_all t) (called_by fits o t) out)

told-if : (fits : Beside) (b : Bool) (cause : Refusal) (o : Order) (t : HeldTable) (out : List ℕ) → (b ≡ true → SlotTold fits o t out) → SlotTold fits (if_good b cause o) t out
told-if fits true cause o t out h = h refl
told-if fits false cause o t out h = (refl, none_written (ordered (notes_of (sent_on fits (order.Refuse cause) t) t).pairs).bytes out)

pub slot-told : (lost : Bool) (missed jobs : ℕ) (fits : Beside) (t : HeldTable) (out : List ℕ) → SlotTold fits (order_for (command.Slot lost missed jobs) (length out) fits t) t out
unfolding order_for
slot-told lost missed jobs fits t out =
    told-if fits (fine_table (survey_of t) (length t)) Unsound _ t out (λ ok.
    told-if fits fits.reports Unsound _ t out (λ _.
    told-if fits (within (survey_of t).cable.n missed) NodeNumber _ t out (λ h.
    told-if fits fits.ledger LedgerUnfit _ t out (λ _.
    told-if fits (ltb (survey_of t).slots limit) SlotLimit _ t out (λ l.
    told-if fits (jobs_within (survey_of t).cable.m jobs) SpareBit _ t out (λ _.
    told-if fits (leb 64 (length out)) OutputShort (order.Slot (turn_of lost missed (survey_of t))) t out (λ r.
    done-told (sent_on fits (order.Slot (turn_of lost missed (survey_of t))) t) t out (sym (fine-table t) ∙ ok, leb-true 64 (length out) r))))))))

-- ---- the other calls: no pairs

abbrev Silent : Order → Type 0
Silent o = (m : Notes) → pairs_by o m ≡ 0

silent-if : (b : Bool) (cause : Refusal) (o : Order) → Silent o → Silent (if_good b cause o)
silent-if true cause o h m = h m
silent-if false cause o h m = refl

silent-written : (c : Command) (fits : Beside) (t : HeldTable) (out : List ℕ) → let o = order_for c (length out) fits t in Silent o → written_by o (notes_of (sent_on fits o t) t) out ≡ out
silent-written c fits t out h =
    let m = notes_of (sent_on fits (order_for c (length out) fits t) t) t in
    ap (λ (k : ℕ). puts (ordered m.pairs).bytes (bytes_told k (length out)) out) (h m) ∙ none_written (ordered m.pairs).bytes out

set-up-silent : (choices : Choices) (room : ℕ) (fits : Beside) (t : HeldTable) → Silent (order_for (command.SetUp choices) room fits t)
unfolding order_for
set-up-silent choices room fits t =
    silent-if (may_set_up fits.cable fits.places) (cause (fault_of fits.cable fits.places)) _
    (silent-if fits.reports Unsound _
    (silent-if (eqb (length t) fits.cable.n) Unsound order.Start (λ m. refl)))

off-silent : (a room : ℕ) (fits : Beside) (t : HeldTable) → Silent (order_for (command.Off a) room fits t)
unfolding order_for
off-silent a room fits t =
    silent-if (fine_table (survey_of t) (length t)) Unsound _ (silent-if (node_number (survey_of t).cable.n a) NodeNumber _ (silent-if fits.ledger LedgerUnfit (order.Off a) (λ m. refl)))

restart-silent : (a room : ℕ) (fits : Beside) (t : HeldTable) → Silent (order_for (command.Restart a) room fits t)
unfolding order_for
restart-silent a room fits t =
    silent-if (fine_table (survey_of t) (length t)) Unsound _ (silent-if (node_number (survey_of t).cable.n a) NodeNumber _ (silent-if (has (survey_of t).out a) NotOut (order.Restart a) (λ m. refl)))

look-silent : (lost : Bool) (room : ℕ) (fits : Beside) (t : HeldTable) → Silent (order_for (command.Look lost) room fits t)
unfolding order_for
look-silent lost room fits t = silent-if (fine_table (survey_of t) (length t)) Unsound (order.Look (survey_of t).slots (survey_of t).sender (fate_by lost (survey_of t).speaker)) (λ m. refl)

-- ---- each call

pub pairs-told : (c : Command) (fits : Beside) (t : HeldTable) (out : List ℕ) → let o = order_for c (length out) fits t in pairs_by o (notes_of (sent_on fits o t) t) ≡ pairs_of c (setted_all t) (called_by fits o t)
pairs-told (command.SetUp choices) fits t out = set-up-silent choices (length out) fits t _
pairs-told (command.Off a) fits t out = off-silent a (length out) fits t _
pairs-told (command.Restart a) fits t out = restart-silent a (length out) fits t _
pairs-told (command.Slot lost missed jobs) fits t out = (slot-told lost missed jobs fits t out).0
pairs-told (command.Look lost) fits t out = look-silent lost (length out) fits t _

pub bytes-told : (c : Command) (fits : Beside) (t : HeldTable) (out : List ℕ) → let o = order_for c (length out) fits t in written_by o (notes_of (sent_on fits o t) t) out ≡ bytes_by c (setted_all t) (called_fit c (length out) fits (setted_all t)) out
bytes-told (command.SetUp choices) fits t out = silent-written (command.SetUp choices) fits t out (set-up-silent choices (length out) fits t)
bytes-told (command.Off a) fits t out = silent-written (command.Off a) fits t out (off-silent a (length out) fits t)
bytes-told (command.Restart a) fits t out = silent-written (command.Restart a) fits t out (restart-silent a (length out) fits t)
bytes-told (command.Slot lost missed jobs) fits t out =
    (slot-told lost missed jobs fits t out).1 ∙ ap (λ (called : Called). slot_bytes (setted_all t) called out) (called-by (command.Slot lost missed jobs) (length out) fits t)
bytes-told (command.Look lost) fits t out = silent-written (command.Look lost) fits t out (look-silent lost (length out) fits t)
