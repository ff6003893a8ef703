-- What each call leaves and answers (bench's specs/Outcomes) is what its order leaves, through the conversion, and what is noted of it (bench_notes' specs/Notes). Of a slot and of a look: what was noted is the list of the
-- table afterwards, and where all members hold that list the greatest distance is 0, so that only other tables are looked through for it. Assumes nothing.
use Rattle.std.specs.Prelude.{None, Some}
use Prim.Native.Nat.{ℕ, suc, ◌+◌, ◌≤◌, max, min}
use mathlib.Core.Path.{◌≡◌, refl, sym, ap, ap₂, subst, ◌∙◌}
use mathlib.Core.Bool.{Bool, true, false, cond, ◌&&◌, and_assoc, and_comm}
use mathlib.Core.List.{List, [], ◌∷◌}
use native.Mathlib.Omega.{arith}
use lib.Dec.{eqb, leb, ltb}
use lib.ListN.{length, take}
use lib.Seq.{take_all}
use borrow.Author.Tests.{eqb-true, ltb-true}
use Rattle.bench.specs.refusal.declared.Refusal.{Refusal}
use Rattle.bench.specs.refusal.declared.Refusal.TheVariants.{NodeNumber, Unsound, SlotLimit, OutputShort, NotOut, LedgerUnfit, SpareBit}
use Rattle.bench.specs.refusal.Causes.{cause}
use Rattle.node_record.specs.nodeset.Sets.{has, within, distance}
use Rattle.node_record.specs.nodeset.Sums.{num}
use Rattle.node_record.proofs.nodeset.Tests.{by_cases, both, all, chosen, otherwise}
use Rattle.node_record.proofs.nodeset.Counts.{distance-same}
use Rattle.node_record.specs.cable.Cable.{may_set_up, node_number, fault_of}
use Rattle.node_record.proofs.cable.Ranges.{ring-size}
use Rattle.node_record.specs.cable.declared.Choices.{Choices}
use Rattle.bench_orders.specs.message.Message.{jobs_within}
use Rattle.bench_orders.specs.declared.Beside.{Beside}
use Rattle.node_record.specs.row.declared.Row.{Row}
use Rattle.node_record.specs.row.Rows.{row_for, nodes_in}
use Rattle.node_record.specs.row.Inner.{same_row}
use Rattle.node_record.specs.declared.Held.{Held}
use Rattle.node_record.specs.Held.{rowed, setted}
use Rattle.node_record.specs.Soundness.{sound}
use Rattle.node_record.proofs.Holding.{held_back, rows_same}
use Rattle.bench.proofs.node.Holding.{set-held}
use Rattle.node_record.specs.States.{is_member}
use Rattle.node_record.specs.Soundness.{limit}
use Rattle.bench.specs.declared.Command.{Command}
use Rattle.bench.specs.declared.Command.TheVariants as command
use Rattle.bench.specs.Answers.{Listed}
use Rattle.bench.specs.declared.Fate.{Fate}
use Rattle.bench.specs.declared.Outcome.{Outcome}
use Rattle.bench.specs.declared.Outcome.TheVariants as outcome
use Rattle.bench_orders.specs.declared.Order.{Order}
use Rattle.bench_orders.specs.declared.Order.TheVariants as order
use Rattle.bench_orders.specs.declared.Errand.{Errand}
use Rattle.bench_orders.specs.bench_notes.declared.Lists.{Lists}
use Rattle.bench_orders.specs.bench_notes.declared.Notes.{Notes}
use Rattle.node_record.specs.cable.declared.Cable.{Cable}
use Rattle.bench.specs.declared.Reply.{Reply}
use Rattle.bench.specs.Table.{Table, record_of, placed_from, table_sound, slots_of, speaker}
use Rattle.bench.specs.Held.{HeldTable, setted_all, held_by}
use Rattle.bench.specs.Calls.{list_in, farthest, greatest, fate_of, transmits, table_after_slot}
use Rattle.bench.specs.Runs.{slot, call_of, is_slot}
use Rattle.bench.specs.Calls.{Called}
use Rattle.bench.specs.Outcomes.{slot_outcome, quiet_outcome, outcome_of, ended_by}
use Rattle.bench.proofs.Places.{Placed, sound-placed, slots-of-placed}
use Rattle.bench.proofs.Accepted.{is-slot, slot-done}
use Rattle.bench.proofs.Runs.{placed-call}
use Rattle.bench.proofs.Standing.{length-setted, table_kept, call-sound}
use Rattle.bench_orders.specs.Survey.{fold_from, map_from, survey_of, fine_table, no_members, members_of}
use Rattle.bench_orders.specs.bench_notes.Notes.{list_with, lists_with, no_lists, noticed, no_notes}
use Rattle.bench_orders.specs.Orders.{if_good, fate_by, turn_of, order_for, carried, carried_from, noticed_from, notes_of, answer_to, reach_of, outcome_by, reply_by}
use Rattle.bench_calls.proofs.Surveys.{Placed as At, placed, fine-table, said}
use Rattle.bench_calls.proofs.Works.{called_fit, HeldCall, sent_on, called_by, slot-table, look-table, ran-by, called-by}
use Rattle.bench_calls.proofs.Readings.{of-sound}
use Rattle.bench_calls.proofs.Reports.{pairs-told}

-- ---- the list that is noted

abbrev list-after : Listed → HeldTable → Listed
list-after l [] = l
list-after l (v ∷ t) = list-after (list_with l v) t

list-stays : (set : ℕ) (t : HeldTable) → list-after (Some set) t ≡ Some set
list-stays set [] = refl
list-stays set (v ∷ t) = list-stays set t

list-found : (cable : Cable) (slots i : ℕ) (t : HeldTable) → placed_from cable slots i (setted_all t) ≡ true → list-after None t ≡ list_in (setted_all t)
unfolding list_in
list-found cable slots i [] rows = refl
list-found cable slots i (v ∷ t) rows =
    let p = placed cable slots i v t rows in
    let nodes = nodes_in v.row in
    let set-of = (setted v).set in
    let u = setted_all t in
    by_cases (is_member v.state)
    (λ e.
    ap (λ (l : Listed). list-after l t) (chosen (Some nodes) None e) ∙ list-stays nodes t
    ∙ ap Some (set-held v p.good) ∙ sym (chosen (Some set-of) (list_in u) e))
    (λ e. ap (λ (l : Listed). list-after l t) (otherwise (Some nodes) None e) ∙ list-found cable slots (suc i) t p.rest ∙ sym (otherwise (Some set-of) (list_in u) e))

abbrev lists_from : Lists → HeldTable → Lists
lists_from s [] = s
lists_from s (v ∷ t) = lists_from (lists_with s v) t

-- the notes' part of it, over the records after the order
lists-part : (o : Errand) (m : Notes) (i : ℕ) (t : HeldTable) → (noticed_from o m i t).lists ≡ lists_from m.lists (map_from (carried o) i t)
unfolding fold_from noticed map_from
lists-part o m i [] = refl
lists-part o m i (v ∷ t) = lists-part o (noticed m v (carried o i v)) (suc i) t

lists-list : (s : Lists) (t : HeldTable) → (lists_from s t).list ≡ list-after s.list t
unfolding lists_with
lists-list s [] = refl
lists-list s (v ∷ t) = lists-list (lists_with s v) t

-- ---- whether all members hold it

abbrev holds_at : Row → Held → Bool
holds_at row v = cond (is_member v.state) (same_row row v.row) true

abbrev holds : Row → HeldTable → Bool
holds row [] = true
holds row (v ∷ t) = holds_at row v && holds row t

abbrev listing : ℕ → Row → Bool → Lists
listing x row b = record { list = Some x; row = row; same = b }

same-held : (b : Bool) (x : ℕ) (row : Row) (t : HeldTable) → (lists_from (listing x row b) t).same ≡ (b && holds row t)
unfolding lists_with
same-held b x row [] = sym (and_comm b true)
same-held b x row (v ∷ t) = same-held (b && holds_at row v) x row t ∙ and_assoc b (holds_at row v) (holds row t)

-- a member that holds the row of a sound record on the cable is at no distance from its set
module _ (cable : Cable) (slots : ℕ) (w : Held) (good : sound (setted w) ≡ true) (on : w.cable ≡ cable) where
  abbrev x : ℕ
  x = (setted w).set

  same_set : (i : ℕ) (v : Held) (t : HeldTable) → At cable slots i v t → same_row w.row v.row ≡ eqb x (setted v).set
  same_set i v t p =
      ap₂ (λ (a b : Held). same_row a.row b.row) (sym (held_back w good)) (sym p.back)
      ∙ rows_same (setted w) (setted v) good p.good (p.cable-of ∙ sym on)

  -- where a figure is 0 of the set itself, it is 0 of a set that is the same
  held_none : (f : ℕ → ℕ) (i : ℕ) (v : Held) (t : HeldTable) → At cable slots i v t → holds_at w.row v ≡ true → f x ≡ 0 → cond (is_member v.state) (f (setted v).set) 0 ≡ 0
  held_none f i v t p = go (is_member v.state)
    where
      go : (b : Bool) → cond b (same_row w.row v.row) true ≡ true → f x ≡ 0 → cond b (f (setted v).set) 0 ≡ 0
      go true e none = ap f (sym (eqb-true x (setted v).set (sym (same_set i v t p) ∙ e))) ∙ none
      go false e none = refl

  held-far : (n i : ℕ) (t : HeldTable) → placed_from cable slots i (setted_all t) ≡ true → holds w.row t ≡ true → farthest n x (setted_all t) ≡ 0
  unfolding farthest
  held-far n i [] rows e = refl
  held-far n i (v ∷ t) rows e =
      let h = both (holds_at w.row v) (holds w.row t) e in
      let p = placed cable slots i v t rows in
      ap₂ max (held_none (distance n x) i v t p h.0 (distance-same n x)) (held-far n (suc i) t p.rest h.1)

  held-greatest : (n i : ℕ) (t : HeldTable) → placed_from cable slots i (setted_all t) ≡ true → holds w.row t ≡ true → greatest n (setted_all t) ≡ 0
  unfolding greatest
  held-greatest n i [] rows e = refl
  held-greatest n i (v ∷ t) rows e =
      let h = both (holds_at w.row v) (holds w.row t) e in
      let p = placed cable slots i v t rows in
      ap₂ max (held_none (λ y. farthest n y (setted_all t)) i v t p h.0 (held-far n (suc i) t p.rest h.1)) (held-greatest n (suc i) t p.rest h.1)

same_none : (cable : Cable) (slots n i : ℕ) (t : HeldTable) → placed_from cable slots i (setted_all t) ≡ true → (lists_from no_lists t).same ≡ true → greatest n (setted_all t) ≡ 0
unfolding greatest lists_with
same_none cable slots n i [] rows e = refl
same_none cable slots n i (v ∷ t) rows e = go (is_member v.state) (same_none cable slots n (suc i) t p.rest) e
  where
    p : At cable slots i v t
    p = placed cable slots i v t rows

    u : Table
    u = setted_all t

    set-of : ℕ
    set-of = (setted v).set

    first : Bool → Lists
    first b = record { list = cond b (Some (nodes_in v.row)) None; row = cond b v.row (row_for []); same = true }

    go : (b : Bool) → ((lists_from no_lists t).same ≡ true → greatest n u ≡ 0) → (lists_from (first b) t).same ≡ true → max (cond b (farthest n set-of u) 0) (greatest n u) ≡ 0
    go true ih e =
        let h = sym (same-held true (nodes_in v.row) v.row t) ∙ e in
        ap₂ max (held-far cable slots v p.good p.cable-of n (suc i) t p.rest h) (held-greatest cable slots v p.good p.cable-of n (suc i) t p.rest h)
    go false ih e = ap (max 0) (ih e)

-- ---- what is told of the table that an order leaves, if that is sound

-- the distance that is looked for
abbrev apart_by : Errand → HeldTable → ℕ
apart_by o t = (members_of (take (reach_of (notes_of o t)) (carried_from o 0 t))).greatest

no-members : (t : HeldTable) → (members_of (take 0 t)).greatest ≡ 0
unfolding members_of no_members fold_from
no-members [] = refl
no-members (v ∷ t) = refl

-- 32 records are all of a sound table
all-taken : (t : HeldTable) → table_sound (setted_all t) ≡ true → take 32 t ≡ t
all-taken t ok =
    let most = (ring-size (length (setted_all t)) (said t ok).ring).1 in
    take_all 32 t (omega (arith, most, length-setted t))

abbrev apart_in : Table → ℕ
apart_in u = greatest (length u) u

reached : (b : Bool) (t : HeldTable) → table_sound (setted_all t) ≡ true → (b ≡ true → apart_in (setted_all t) ≡ 0) → (members_of (take (cond b 0 32) t)).greatest ≡ apart_in (setted_all t)
reached true t ok h = no-members t ∙ sym (h refl)
reached false t ok h = ap (λ (w : HeldTable). (members_of w).greatest) (all-taken t ok) ∙ of-sound t ok

module _ (o : Errand) (t : HeldTable) (ok : table_sound (setted_all (carried_from o 0 t)) ≡ true) where
  abbrev left : HeldTable
  left = carried_from o 0 t

  abbrev stood : Table
  stood = setted_all left

  seen-is : (notes_of o t).lists ≡ lists_from no_lists left
  unfolding notes_of no_notes
  seen-is = lists-part o no_notes 0 t

  list-is : (notes_of o t).lists.list ≡ list_in stood
  list-is =
      ap (λ (s : Lists). s.list) seen-is ∙ lists-list no_lists left ∙ list-found (record_of stood 1).cable (slots_of stood) 1 left (said left ok).rows

  apart-is : apart_by o t ≡ apart_in stood
  apart-is =
      reached (notes_of o t).lists.same left ok
      (λ e. same_none (record_of stood 1).cable (slots_of stood) (length stood) 1 left (said left ok).rows (sym (ap (λ (s : Lists). s.same) seen-is) ∙ e))

fate-read : (lost : Bool) (u : Table) → fate_by lost (rowed (record_of u (speaker u))) ≡ fate_of lost u
unfolding fate_of transmits
fate-read lost u = refl

-- a slot's figures, part by part
figures : {a a' b b' e e' : ℕ} {f f' : Fate} {l l' : Listed} → a ≡ a' → b ≡ b' → f ≡ f' → l ≡ l' → e ≡ e' → outcome.Slot a b f l e ≡ outcome.Slot a' b' f' l' e'
figures {a} {a'} {b} {b'} {e} {e'} {f} {f'} {l} {l'} p q r s u =
    ap₂ (λ (x y : ℕ). outcome.Slot x y f l e) p q ∙ ap₂ (λ (x : Fate) (y : Listed). outcome.Slot a' b' x y e) r s ∙ ap (λ (x : ℕ). outcome.Slot a' b' f' l' x) u

-- ---- a slot, refused or not

abbrev Ends : Beside → Bool → HeldTable → Order → Type 0
Ends fits lost t o = let e = sent_on fits o t in outcome_by o (notes_of e t).lists.list (apart_by e t) ≡ slot_outcome lost (setted_all t) (setted_all (carried_from e 0 t)) (answer_to o)

ends-if : (fits : Beside) (lost : Bool) (t : HeldTable) (b : Bool) (cause : Refusal) (o : Order) → (b ≡ true → Ends fits lost t o) → Ends fits lost t (if_good b cause o)
ends-if fits lost t true cause o h = h refl
ends-if fits lost t false cause o h = refl

module _ (beside : Beside) (lost : Bool) (missed room : ℕ) (t : HeldTable) (ok : table_sound (setted_all t) ≡ true) (named : within (length (setted_all t)) missed ≡ true) (below : ltb (slots_of (setted_all t)) limit ≡ true) (fits : leb 64 room ≡ true) where
  abbrev u : Table
  u = setted_all t

  abbrev ran : Errand
  ran = sent_on beside (order.Slot (turn_of lost missed (survey_of t))) t

  abbrev after : Table
  after = setted_all (carried_from ran 0 t)

  runs : is_slot (slot lost missed room) u ≡ true
  runs = is-slot lost missed room u ok ∙ all named (all below fits)

  sound-after : table_sound (table_after_slot lost missed u) ≡ true
  sound-after = subst (λ (x : Table). table_sound x ≡ true) (slot-done lost missed room u runs) (call-sound (slot lost missed room) u ok)

  table_is : after ≡ table_after_slot lost missed u
  table_is = ap setted_all (slot-table lost missed beside t ok (ltb-true (slots_of u) limit below)) ∙ table_kept (table_after_slot lost missed u) sound-after

  pos : 1 ≤ (record_of u 1).cable.n
  pos = let r = (ring-size (length u) (said t ok).ring).0 in omega (arith, r, (said t ok).count)

  placed-after : Placed (record_of u 1).cable (slots_of u + 1) after
  placed-after =
      let p = placed-call (record_of u 1).cable (slots_of u) u pos (sound-placed u ok) (slot lost missed room) in
      subst (λ (x : Table). Placed (record_of u 1).cable (slots_of u + 1) x) (slot-done lost missed room u runs ∙ sym table_is)
      (subst (λ (b : Bool). Placed (record_of u 1).cable (slots_of u + num b) (call_of (slot lost missed room) u).table) runs p)

  slot-ran : Ends beside lost t (order.Slot (turn_of lost missed (survey_of t)))
  slot-ran =
      let s = said t ok in
      let good : table_sound after ≡ true = ap table_sound table_is ∙ sound-after in
      figures (ap (λ (m : ℕ). m + 1) s.slots ∙ sym (slots-of-placed (record_of u 1).cable (slots_of u + 1) after pos placed-after)) s.sender
      (ap (fate_by lost) s.spoken ∙ fate-read lost u) (list-is ran t good) (apart-is ran t good)

slot-ends : (lost : Bool) (missed jobs room : ℕ) (fits : Beside) (t : HeldTable) → Ends fits lost t (order_for (command.Slot lost missed jobs) room fits t)
unfolding order_for
slot-ends lost missed jobs room fits t =
    ends-if fits lost t (fine_table (survey_of t) (length t)) Unsound _ (λ fine.
    let ok = sym (fine-table t) ∙ fine in
    let s = said t ok in
    ends-if fits lost t fits.reports Unsound _ (λ _.
    ends-if fits lost t (within (survey_of t).cable.n missed) NodeNumber _ (λ h.
    ends-if fits lost t fits.ledger LedgerUnfit _ (λ _.
    ends-if fits lost t (ltb (survey_of t).slots limit) SlotLimit _ (λ l.
    ends-if fits lost t (jobs_within (survey_of t).cable.m jobs) SpareBit _ (λ _.
    ends-if fits lost t (leb 64 room) OutputShort (order.Slot (turn_of lost missed (survey_of t))) (λ r.
    slot-ran fits lost missed room t ok (sym (ap (λ (m : ℕ). within m missed) s.n) ∙ h) (sym (ap (λ (m : ℕ). ltb m limit) s.slots) ∙ l) r)))))))

-- ---- a look: the table is as it was

look-ends : (lost : Bool) (room : ℕ) (fits : Beside) (t : HeldTable) → Ends fits lost t (order_for (command.Look lost) room fits t)
unfolding order_for
look-ends lost room fits t =
    ends-if fits lost t (fine_table (survey_of t) (length t)) Unsound looking.order (λ fine.
    let ok = sym (fine-table t) ∙ fine in
    let s = said t ok in
    let same : setted_all (carried_from looking 0 t) ≡ setted_all t = ap setted_all (look-table (survey_of t).slots (survey_of t).sender (fate_by lost (survey_of t).speaker) (survey_of t) fits t) in
    let good = ap table_sound same ∙ ok in
    figures (s.slots ∙ ap slots_of (sym same)) s.sender (ap (fate_by lost) s.spoken ∙ fate-read lost (setted_all t)) (list-is looking t good) (apart-is looking t good))
  where
    looking : Errand
    looking = sent_on fits (order.Look (survey_of t).slots (survey_of t).sender (fate_by lost (survey_of t).speaker)) t

-- ---- a call of which nothing is printed but its refusal

abbrev Quiet : Order → Type 0
Quiet o = (list : Listed) (apart : ℕ) → outcome_by o list apart ≡ quiet_outcome (answer_to o)

quiet_if : (b : Bool) (cause : Refusal) (o : Order) → Quiet o → Quiet (if_good b cause o)
quiet_if true cause o h list apart = h list apart
quiet_if false cause o h list apart = refl

set-up-quiet : (choices : Choices) (room : ℕ) (fits : Beside) (t : HeldTable) → Quiet (order_for (command.SetUp choices) room fits t)
unfolding order_for
set-up-quiet choices room fits t =
    quiet_if (may_set_up fits.cable fits.places) (cause (fault_of fits.cable fits.places)) _
    (quiet_if fits.reports Unsound _
    (quiet_if (eqb (length t) fits.cable.n) Unsound order.Start (λ list apart. refl)))

off-quiet : (a room : ℕ) (fits : Beside) (t : HeldTable) → Quiet (order_for (command.Off a) room fits t)
unfolding order_for
off-quiet a room fits t =
    quiet_if (fine_table (survey_of t) (length t)) Unsound _ (quiet_if (node_number (survey_of t).cable.n a) NodeNumber _ (quiet_if fits.ledger LedgerUnfit (order.Off a) (λ list apart. refl)))

restart-quiet : (a room : ℕ) (fits : Beside) (t : HeldTable) → Quiet (order_for (command.Restart a) room fits t)
unfolding order_for
restart-quiet a room fits t =
    quiet_if (fine_table (survey_of t) (length t)) Unsound _ (quiet_if (node_number (survey_of t).cable.n a) NodeNumber _ (quiet_if (has (survey_of t).out a) NotOut (order.Restart a) (λ list apart. refl)))

-- ---- each call

outcome-told : (c : Command) (room : ℕ) (fits : Beside) (t : HeldTable)
    → let o = order_for c room fits t in let e = sent_on fits o t in outcome_by o (notes_of e t).lists.list (apart_by e t) ≡ outcome_of c (setted_all t) (called_by fits o t)
outcome-told (command.SetUp choices) room fits t = set-up-quiet choices room fits t _ _
outcome-told (command.Off a) room fits t = off-quiet a room fits t _ _
outcome-told (command.Restart a) room fits t = restart-quiet a room fits t _ _
outcome-told (command.Slot lost missed jobs) room fits t = slot-ends lost missed jobs room fits t
outcome-told (command.Look lost) room fits t = look-ends lost room fits t

-- what an errand leaves, and what is answered
pub record HeldEnd : Type 0 where
  pub table : HeldTable
  pub reply : Reply

abbrev pub done-by : Errand → HeldTable → HeldEnd
done-by e t = record { table = carried_from e 0 t; reply = reply_by e.order (notes_of e t) (members_of (take (reach_of (notes_of e t)) (carried_from e 0 t))) }

-- what a call leaves, through the conversion, and what is answered
abbrev pub ended-by : Command → HeldTable → Called → HeldEnd
ended-by c t called = record { table = held_by t called; reply = (ended_by c (setted_all t) called).reply }

pub is-ended : (c : Command) (fits : Beside) (t : HeldTable) (out : List ℕ) → done-by (sent_on fits (order_for c (length out) fits t) t) t ≡ ended-by c t (called_fit c (length out) fits (setted_all t))
is-ended c fits t out =
    let u = setted_all t in
    let o = order_for c (length out) fits t in
    ap₂ (λ (x : Outcome) (y : ℕ). record { table = carried_from (sent_on fits o t) 0 t; reply = record { outcome = x; pairs = y } }) (outcome-told c (length out) fits t) (pairs-told c fits t out)
    ∙ ap₂ (λ (x : HeldCall) (y : Called). record { table = x.table; reply = (ended_by c u y).reply }) (ran-by c (length out) fits t) (called-by c (length out) fits t)
