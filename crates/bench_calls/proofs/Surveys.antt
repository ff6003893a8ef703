-- What the survey of a held table (bench_orders' specs/Survey) says of the table that it stands for, in the words of bench's specs/Table and specs/Calls: whether it is sound, and of a sound table n, slots,
-- the next sender and its record, and which nodes are out. Each part of the survey is its own fold. Assumes nothing.
use Prim.Native.Nat.{ℕ, zero, suc, ◌+◌, ◌-◌, ◌<◌, ◌≤◌}
use mathlib.Core.Path.{◌≡◌, refl, sym, ap, ap₂, subst, ◌∙◌}
use mathlib.Core.Bool.{Bool, true, false, cond, ◌&&◌, and_assoc, and_comm, true≢false}
use mathlib.Core.List.{[], ◌∷◌}
use native.Mathlib.Numerals.{add-one}
use native.Mathlib.Omega.{arith}
use lib.Dec.{eqb}
use lib.ListN.{length, get_or}
use borrow.Author.Tests.{eqb-true, eqb-false, eq-eqb, ne_eqb, leb-true}
use Rattle.node_record.specs.nodeset.Sets.{has, with, with_if}
use Rattle.node_record.proofs.nodeset.Tests.{by_cases, both, chosen, otherwise}
use Rattle.node_record.proofs.nodeset.Bits.{has-none}
use Rattle.node_record.proofs.nodeset.Laws.{has-with, has-with-other}
use Rattle.node_record.specs.cable.declared.Cable.{Cable}
use Rattle.node_record.specs.cable.Cable.{ring_size, node_number}
use Rattle.bench_orders.specs.ring.Ring.{sender}
use Rattle.node_record.proofs.cable.Ranges.{ring-size, node-number}
use Rattle.node_record.proofs.ring_laws.Senders.{turns-of, sender-range}
use Rattle.node_record.specs.row.Inner.{has_row}
use Rattle.bench.specs.Reports.{jobs_on}
use Rattle.node_record.specs.declared.Node.{Node}
use Rattle.node_record.specs.declared.Held.{Held}
use Rattle.node_record.specs.States.{is_out}
use Rattle.node_record.specs.Soundness.{sound, limit}
use Rattle.node_record.specs.Held.{rowed, setted}
use Rattle.node_record.proofs.Facts.{clauses}
use Rattle.node_record.proofs.Holding.{held_back, row_has}
use Rattle.bench.specs.node.Calls.{no_node}
use Rattle.bench_orders.specs.declared.Survey.{Survey}
use Rattle.bench.specs.Table.{Table, record_of, in_place, placed_from, table_sound, slots_of, speaker}
use Rattle.bench.specs.Held.{HeldTable, setted_all}
use Rattle.bench.proofs.Places.{in-place, sound-placed}
use Rattle.bench.proofs.Standing.{length-setted}
use Rattle.bench_orders.specs.Survey.{no_held, fold_from, node_in, sender_after, begun, seen, surveyed, unseen, survey_of, fine_table}

-- ---- the first record begins the survey, and then each is only seen

no_zero : (i : ℕ) → eqb (suc i) 0 ≡ false
no_zero i = ne_eqb (suc i) 0 (λ e. omega (arith, e))

seen-later : (s : Survey) (i : ℕ) (t : HeldTable) → fold_from surveyed s (suc i) t ≡ fold_from seen s (suc i) t
unfolding fold_from surveyed
seen-later s i [] = refl
seen-later s i (v ∷ t) =
    ap (λ (c : Survey). fold_from surveyed (seen c (suc i) v) (suc (suc i)) t) (otherwise (begun true v) s (no_zero i))
    ∙ seen-later (seen s (suc i) v) (suc i) t

abbrev looked : Held → HeldTable → Survey
looked v t = fold_from seen (begun true v) 0 (v ∷ t)

survey-is : (v : Held) (t : HeldTable) → survey_of (v ∷ t) ≡ looked v t
unfolding fold_from surveyed survey_of unseen
survey-is v t = seen-later (seen (begun true v) 0 v) 0 t

-- ---- the parts of the survey

fine-is : (s : Survey) (i : ℕ) (t : HeldTable) → (fold_from seen s i t).fine ≡ (s.fine && placed_from s.cable s.slots (suc i) (setted_all t))
unfolding fold_from placed_from
fine-is s i [] = sym (and_comm s.fine true)
fine-is s i (v ∷ t) =
    fine-is (seen s i v) (suc i) t
    ∙ ap (λ (j : ℕ). (s.fine && in_place s.cable s.slots j (setted v)) && placed_from s.cable s.slots (suc (suc i)) (setted_all t)) (add-one i)
    ∙ and_assoc s.fine (in_place s.cable s.slots (suc i) (setted v)) (placed_from s.cable s.slots (suc (suc i)) (setted_all t))

cable-is : (s : Survey) (i : ℕ) (t : HeldTable) → (fold_from seen s i t).cable ≡ s.cable
unfolding fold_from
cable-is s i [] = refl
cable-is s i (v ∷ t) = cable-is (seen s i v) (suc i) t

slots-is : (s : Survey) (i : ℕ) (t : HeldTable) → (fold_from seen s i t).slots ≡ s.slots
unfolding fold_from
slots-is s i [] = refl
slots-is s i (v ∷ t) = slots-is (seen s i v) (suc i) t

sender-is : (s : Survey) (i : ℕ) (t : HeldTable) → (fold_from seen s i t).sender ≡ s.sender
unfolding fold_from
sender-is s i [] = refl
sender-is s i (v ∷ t) = sender-is (seen s i v) (suc i) t

-- what the last record of node x gives
module _ {X : Type 0} (g : Held → X) where
  abbrev found : ℕ → X → HeldTable → X
  found x d [] = d
  found x d (v ∷ t) = found x (cond (eqb v.own x) (g v) d) t

speaker-is : (s : Survey) (i : ℕ) (t : HeldTable) → (fold_from seen s i t).speaker ≡ found (λ v. v) s.sender s.speaker t
unfolding fold_from
speaker-is s i [] = refl
speaker-is s i (v ∷ t) = speaker-is (seen s i v) (suc i) t

-- the nodes of which a test holds, with those of a table
abbrev noted_from : (Held → Bool) → ℕ → HeldTable → ℕ
noted_from g nodes [] = nodes
noted_from g nodes (v ∷ t) = noted_from g (with_if (g v) nodes v.own) t

out-is : (s : Survey) (i : ℕ) (t : HeldTable) → (fold_from seen s i t).out ≡ noted_from (λ v. is_out v.state) s.out t
unfolding fold_from
out-is s i [] = refl
out-is s i (v ∷ t) = out-is (seen s i v) (suc i) t

listers-is : (s : Survey) (i : ℕ) (t : HeldTable) → (fold_from seen s i t).listers ≡ noted_from (λ v. has_row v.row s.sender) s.listers t
unfolding fold_from
listers-is s i [] = refl
listers-is s i (v ∷ t) = listers-is (seen s i v) (suc i) t

-- ---- records in their places

-- the first of a table's records in its place, and the rest in theirs
pub record Placed (cable : Cable) (slots i : ℕ) (v : Held) (t : HeldTable) : Type 0 where
  pub good : sound (setted v) ≡ true
  pub back : rowed (setted v) ≡ v
  pub cable-of : v.cable ≡ cable
  pub slot : v.slots ≡ slots
  pub own : v.own ≡ i
  pub rest : placed_from cable slots (suc i) (setted_all t) ≡ true

pub placed : (cable : Cable) (slots i : ℕ) (v : Held) (t : HeldTable) → placed_from cable slots i (setted_all (v ∷ t)) ≡ true → Placed cable slots i v t
unfolding placed_from
placed cable slots i v t e =
    let a = both (in_place cable slots i (setted v)) (placed_from cable slots (suc i) (setted_all t)) e in
    let p = in-place cable slots i (setted v) a.0 in
    record { good = p.is-sound; back = held_back v p.is-sound; cable-of = p.cable-is; slot = p.slots-is; own = p.own_is; rest = a.1 }

module _ {X : Type 0} (g : Held → X) (cable : Cable) (slots : ℕ) where
  not_found : (i x : ℕ) (d : X) (t : HeldTable) → placed_from cable slots i (setted_all t) ≡ true → x < i → found g x d t ≡ d
  not_found i x d [] e l = refl
  not_found i x d (v ∷ t) e l =
      let p = placed cable slots i v t e in
      ap (λ (c : X). found g x c t) (otherwise (g v) d (ne_eqb v.own x (λ h. omega (arith, h, l, p.own))))
      ∙ not_found (suc i) x d t p.rest (omega (arith, l))

  found-at : (i x : ℕ) (d : X) (e : Held) (t : HeldTable) → placed_from cable slots i (setted_all t) ≡ true → i ≤ x → x < i + length t → found g x d t ≡ g (get_or t (x - i) e)
  found-at i x d e [] h l m = absurd (let q : ⊥ = omega (arith, l, m) in q)
  found-at i x d e (v ∷ t) h l m =
      let p = placed cable slots i v t h in
      by_cases (eqb i x)
      (λ q. let is : i ≡ x = eqb-true i x q in
      ap (λ (c : X). found g x c t) (chosen (g v) d (eq-eqb v.own x (omega (arith, is, p.own))))
      ∙ not_found (suc i) x (g v) t p.rest (omega (arith, is))
      ∙ ap (λ (j : ℕ). g (get_or (v ∷ t) j e)) (let z : 0 ≡ x - i = omega (arith, is) in z))
      (λ q. let not : i ≡ x → ⊥ = eqb-false i x q in
      ap (λ (c : X). found g x c t) (otherwise (g v) d (ne_eqb v.own x (λ f. not (omega (arith, f, p.own)))))
      ∙ found-at (suc i) x d e t p.rest (omega (arith, l, not)) (omega (arith, m))
      ∙ ap (λ (j : ℕ). g (get_or (v ∷ t) j e)) (let z : suc (x - suc i) ≡ x - i = omega (arith, l, not) in z))

-- of whom a test holds
pub noted-own : (b : Bool) (nodes x y : ℕ) → y ≡ x → 1 ≤ x → x ≤ 32 → has nodes x ≡ false → has (with_if b nodes y) x ≡ b
noted-own true nodes x y own low high none = ap (λ (z : ℕ). has (with nodes z) x) own ∙ has-with nodes x low high
noted-own false nodes x y own low high none = none

module _ (g : Held → Bool) (cable : Cable) (slots : ℕ) where
  noted_other : (b : Bool) (nodes x y : ℕ) → (y ≡ x → ⊥) → has (with_if b nodes y) x ≡ has nodes x
  noted_other true nodes x y h = has-with-other nodes y x h
  noted_other false nodes x y h = refl

  noted-before : (i x nodes : ℕ) (t : HeldTable) → placed_from cable slots i (setted_all t) ≡ true → x < i → has (noted_from g nodes t) x ≡ has nodes x
  noted-before i x nodes [] e l = refl
  noted-before i x nodes (v ∷ t) e l =
      let p = placed cable slots i v t e in
      noted-before (suc i) x (with_if (g v) nodes v.own) t p.rest (omega (arith, l)) ∙ noted_other (g v) nodes x v.own (λ h. omega (arith, h, l, p.own))

  noted-at : (i x nodes : ℕ) (t : HeldTable) → placed_from cable slots i (setted_all t) ≡ true → 1 ≤ i → i ≤ x → x < i + length t → x ≤ 32 → has nodes x ≡ false → has (noted_from g nodes t) x ≡ g (get_or t (x - i) no_held)
  noted-at i x nodes [] e one l m top none = absurd (let q : ⊥ = omega (arith, l, m) in q)
  noted-at i x nodes (v ∷ t) e one l m top none =
      let p = placed cable slots i v t e in
      by_cases (eqb i x)
      (λ q. let is : i ≡ x = eqb-true i x q in
      noted-before (suc i) x (with_if (g v) nodes v.own) t p.rest (omega (arith, is)) ∙ noted-own (g v) nodes x v.own (omega (arith, is, p.own)) (omega (arith, one, is)) top none
      ∙ ap (λ (j : ℕ). g (get_or (v ∷ t) j no_held)) (let z : 0 ≡ x - i = omega (arith, is) in z))
      (λ q. let not : i ≡ x → ⊥ = eqb-false i x q in
      noted-at (suc i) x (with_if (g v) nodes v.own) t p.rest (omega arith) (omega (arith, l, not)) (omega (arith, m)) top (noted_other (g v) nodes x v.own (λ f. not (omega (arith, f, p.own))) ∙ none)
      ∙ ap (λ (j : ℕ). g (get_or (v ∷ t) j no_held)) (let z : suc (x - suc i) ≡ x - i = omega (arith, l, not) in z))

-- what stands in a place holds the record of the table that it stands for
pub held_at : (cable : Cable) (slots i j : ℕ) (t : HeldTable) → placed_from cable slots i (setted_all t) ≡ true → j < length t → get_or t j no_held ≡ rowed (get_or (setted_all t) j no_node)
held_at cable slots i j [] e h = absurd (elim h [ ])
held_at cable slots i zero (v ∷ t) e h = sym (placed cable slots i v t e).back
held_at cable slots i (suc j) (v ∷ t) e h = held_at cable slots (suc i) j t (placed cable slots i v t e).rest (omega arith)

-- ---- a table and its survey

pub fine-table : (t : HeldTable) → fine_table (survey_of t) (length t) ≡ table_sound (setted_all t)
unfolding table_sound survey_of fold_from unseen
fine-table [] = refl
fine-table (v ∷ t) =
    ap (λ (s : Survey). fine_table s (suc (length t))) (survey-is v t)
    ∙ ap₂ (λ (f : Bool) (c : Cable). f && eqb c.n (suc (length t))) (fine-is (begun true v) 0 (v ∷ t)) (cable-is (begun true v) 0 (v ∷ t))
    ∙ and_comm (placed_from v.cable v.slots 1 (setted_all (v ∷ t))) (eqb v.cable.n (suc (length t)))
    ∙ ap (λ (m : ℕ). eqb v.cable.n (suc m) && placed_from v.cable v.slots 1 (setted_all (v ∷ t))) (sym (length-setted t))

-- what the survey of a held table says of the sound table u that it stands for
pub record Said (t : HeldTable) (u : Table) : Type 0 where
  pub ring : ring_size (length u) ≡ true
  pub count : (record_of u 1).cable.n ≡ length u
  pub rows : placed_from (record_of u 1).cable (slots_of u) 1 u ≡ true
  pub bounded : slots_of u ≤ limit
  pub n : (survey_of t).cable.n ≡ length u
  pub jobs : (survey_of t).cable.m ≡ jobs_on u
  pub slots : (survey_of t).slots ≡ slots_of u
  pub sender : (survey_of t).sender ≡ speaker u
  pub spoken : (survey_of t).speaker ≡ rowed (record_of u (speaker u))
  pub out : (a : ℕ) → node_number (length u) a ≡ true → has (survey_of t).out a ≡ is_out (record_of u a).state
  pub listers : (a : ℕ) → node_number (length u) a ≡ true → has (survey_of t).listers a ≡ has (record_of u a).set (speaker u)

-- the sender of a record of a ring
pub sender-after : (v : Held) → ring_size v.cable.n ≡ true → sender_after v ≡ sender v.cable (v.slots + 1)
unfolding sender_after
sender-after v e = ap node_in (chosen _ _ e)

-- a node of the table is found in its place
there : {X : Type 0} (g : Held → X) (cable : Cable) (slots x : ℕ) (d : X) (t : HeldTable) → placed_from cable slots 1 (setted_all t) ≡ true → 1 ≤ x → x ≤ length t → found g x d t ≡ g (rowed (record_of (setted_all t) x))
unfolding record_of
there g cable slots x d t h l m =
    found-at g cable slots 1 x d no_held t h l (omega (arith, m)) ∙ ap g (held_at cable slots 1 (x - 1) t h (omega (arith, l, m)))

noted-there : (g : Held → Bool) (cable : Cable) (slots x : ℕ) (t : HeldTable) → placed_from cable slots 1 (setted_all t) ≡ true → 1 ≤ x → x ≤ length t → x ≤ 32 → has (noted_from g 0 t) x ≡ g (rowed (record_of (setted_all t) x))
unfolding record_of
noted-there g cable slots x t h l m top =
    noted-at g cable slots 1 x 0 t h (omega arith) l (omega (arith, m)) top (has-none x) ∙ ap g (held_at cable slots 1 (x - 1) t h (omega (arith, l, m)))

first-is : (v : Node) (t : Table) → record_of (v ∷ t) 1 ≡ v
unfolding record_of
first-is v t = refl

pub said : (t : HeldTable) → table_sound (setted_all t) ≡ true → Said t (setted_all t)
unfolding table_sound slots_of speaker jobs_on
said [] e = absurd (true≢false (sym e))
said (v ∷ t) e =
    let u : Table = setted_all (v ∷ t) in
    let long = length-setted t in
    let c = both (eqb v.cable.n (length u)) (placed_from v.cable v.slots 1 u) e in
    let n-is : v.cable.n ≡ length u = eqb-true v.cable.n (length u) c.0 in
    let p = placed v.cable v.slots 1 v t c.1 in
    let ring-v : ring_size v.cable.n ≡ true = (clauses (setted v) p.good).choices.ring in
    let range = sender-range v.cable (turns-of v.cable (clauses (setted v) p.good).choices) (v.slots + 1) in
    let first = first-is (setted v) (setted_all t) in
    let noted : (g : Held → Bool) (a : ℕ) → node_number (length u) a ≡ true → has (noted_from g 0 (v ∷ t)) a ≡ g (rowed (record_of u a))
    = λ g a h. let m = node-number (length u) a h in
    noted-there g v.cable v.slots a (v ∷ t) c.1 m.0 (omega (arith, m.1, long)) (omega (arith, m.1, (ring-size v.cable.n ring-v).1, n-is)) in
    let speaks : sender v.cable (v.slots + 1) ≡ sender (record_of u 1).cable ((record_of u 1).slots + 1) = ap (λ (w : Node). sender w.cable (w.slots + 1)) (sym first) in
    let next : sender_after v ≡ sender (record_of u 1).cable ((record_of u 1).slots + 1) = sender-after v ring-v ∙ speaks in
    let sound-at : (a : ℕ) → node_number (length u) a ≡ true → sound (record_of u a) ≡ true
    = λ a h. let m = node-number (length u) a h in let q = sound-placed u e in (q.at a m.0 (omega (arith, m.1, q.length-is))).is-sound in
    record {
      ring = subst (λ (m : ℕ). ring_size m ≡ true) n-is ring-v;
      count = ap (λ (w : Node). w.cable.n) first ∙ n-is;
      rows = subst (λ (w : Node). placed_from w.cable w.slots 1 u ≡ true) (sym first) c.1;
      bounded = omega (arith, leb-true v.slots limit (clauses (setted v) p.good).slots, ap (λ (w : Node). w.slots) first);
      n = ap (λ (s : Survey). s.cable.n) (survey-is v t) ∙ ap (λ (c : Cable). c.n) (cable-is (begun true v) 0 (v ∷ t)) ∙ n-is;
      jobs = ap (λ (s : Survey). s.cable.m) (survey-is v t) ∙ ap (λ (c : Cable). c.m) (cable-is (begun true v) 0 (v ∷ t)) ∙ sym (ap (λ (w : Node). w.cable.m) first);
      slots = ap (λ (s : Survey). s.slots) (survey-is v t) ∙ slots-is (begun true v) 0 (v ∷ t) ∙ sym (ap (λ (w : Node). w.slots) first);
      sender = ap (λ (s : Survey). s.sender) (survey-is v t) ∙ sender-is (begun true v) 0 (v ∷ t) ∙ next;
      spoken = ap (λ (s : Survey). s.speaker) (survey-is v t) ∙ speaker-is (begun true v) 0 (v ∷ t)
          ∙ there (λ w. w) v.cable v.slots (sender_after v) v (v ∷ t) c.1 (omega (arith, range.0, sender-after v ring-v)) (omega (arith, range.1, sender-after v ring-v, n-is, long))
          ∙ ap (λ (x : ℕ). rowed (record_of u x)) next;
      out = λ a h.
          ap (λ (s : Survey). has s.out a) (survey-is v t) ∙ ap (λ (x : ℕ). has x a) (out-is (begun true v) 0 (v ∷ t)) ∙ noted (λ w. is_out w.state) a h;
      listers = λ a h.
          ap (λ (s : Survey). has s.listers a) (survey-is v t) ∙ ap (λ (x : ℕ). has x a) (listers-is (begun true v) 0 (v ∷ t)) ∙ noted (λ w. has_row w.row (sender_after v)) a h
          ∙ row_has (record_of u a) (sender_after v) (sound-at a h) ∙ ap (has (record_of u a).set) next;
    }
