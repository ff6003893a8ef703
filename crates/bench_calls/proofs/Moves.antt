-- Who left and who joined, as it is noted while an order is carried out on a sound table, are the leavers and the joiners of the two tables (ledger's specs/Entered). Assumes nothing.
use Prim.Native.Nat.{ℕ, suc, ◌+◌, ◌-◌, ◌<◌}
use mathlib.Core.Path.{◌≡◌, refl, ap, ap₂, ◌∙◌}
use mathlib.Core.Bool.{Bool, true, false, cond, false≢true, true≢false}
use mathlib.Core.List.{[], ◌∷◌}
use native.Mathlib.Omega.{arith}
use lib.ListN.{length, get_or}
use Rattle.node_record.specs.nodeset.Sets.{with_if}
use Rattle.node_record.proofs.nodeset.Tests.{by_cases}
use Rattle.node_record.specs.cable.declared.Cable.{Cable}
use Rattle.node_record.specs.declared.Node.{Node}
use Rattle.node_record.specs.declared.Held.{Held}
use Rattle.node_record.specs.Held.{setted}
use Rattle.node_record.specs.declared.State.{State}
use Rattle.node_record.specs.declared.State.TheVariants.{Member, Listening, Following, Knocking, Out}
use Rattle.node_record.specs.States.{is_member}
use Rattle.bench.specs.node.Calls.{no_node}
use Rattle.bench.specs.Table.{Table, record_of, placed_from, slots_of, table_sound}
use Rattle.bench.specs.Pairs.{same_state}
use Rattle.bench.specs.Ledger.{is_leaving, is_joining}
use Rattle.bench_work.specs.ledger.Entered.{nodes_where, leavers, joiners}
use Rattle.bench_orders.specs.declared.Errand.{Errand}
use Rattle.bench_orders.specs.bench_notes.declared.Moves.{Moves}
use Rattle.bench_orders.specs.bench_notes.declared.Notes.{Notes}
use Rattle.bench.specs.Held.{HeldTable, setted_all}
use Rattle.bench.proofs.Standing.{length-setted}
use Rattle.bench_orders.specs.Survey.{fold_from, map_from}
use Rattle.bench_orders.specs.bench_notes.Notes.{moves_with, noticed, no_notes}
use Rattle.bench_orders.specs.Orders.{carried, carried_from, noticed_from, notes_of}
use Rattle.bench_calls.proofs.Surveys.{placed, said}

-- ---- one record

-- members have one state, and no other node has it
both-members : (a b : State) → is_member a ≡ true → is_member b ≡ true → same_state a b ≡ true
both-members a b e f = rw (e, f) refl

first_alone : (a b : State) → is_member a ≡ true → is_member b ≡ false → same_state a b ≡ false
first_alone Member b e f = rw f refl
first_alone Listening b e f = absurd (false≢true e)
first_alone Following b e f = absurd (false≢true e)
first_alone Knocking b e f = absurd (false≢true e)
first_alone (Out cause) b e f = absurd (false≢true e)

second-alone : (a b : State) → is_member a ≡ false → is_member b ≡ true → same_state a b ≡ false
second-alone Member b e f = absurd (true≢false e)
second-alone Listening Member e f = refl
second-alone Following Member e f = refl
second-alone Knocking Member e f = refl
second-alone (Out cause) Member e f = refl
second-alone Listening Listening e f = absurd (false≢true f)
second-alone Following Listening e f = absurd (false≢true f)
second-alone Knocking Listening e f = absurd (false≢true f)
second-alone (Out cause) Listening e f = absurd (false≢true f)
second-alone Listening Following e f = absurd (false≢true f)
second-alone Following Following e f = absurd (false≢true f)
second-alone Knocking Following e f = absurd (false≢true f)
second-alone (Out cause) Following e f = absurd (false≢true f)
second-alone Listening Knocking e f = absurd (false≢true f)
second-alone Following Knocking e f = absurd (false≢true f)
second-alone Knocking Knocking e f = absurd (false≢true f)
second-alone (Out cause) Knocking e f = absurd (false≢true f)
second-alone Listening (Out other) e f = absurd (false≢true f)
second-alone Following (Out other) e f = absurd (false≢true f)
second-alone Knocking (Out other) e f = absurd (false≢true f)
second-alone (Out cause) (Out other) e f = absurd (false≢true f)

abbrev moves : ℕ → ℕ → Moves
moves left joined = record { left = left; joined = joined }

-- where the states differ, a member before is one that left, and a member afterwards one that joined
one-moved : (a b : State) (l j own : ℕ)
    → cond (same_state a b) (moves l j) (moves (with_if (is_member a) l own) (with_if (is_member b) j own)) ≡ moves (with_if (is_leaving a b) l own) (with_if (is_joining a b) j own)
one-moved a b l j own =
    by_cases (is_member a)
    (λ p. by_cases (is_member b) (λ q. rw (both-members a b p q, p, q) refl) (λ q. rw (first_alone a b p q, p, q) refl))
    (λ p. by_cases (is_member b) (λ q. rw (second-alone a b p q, p, q) refl) (λ q. nobody p q (same_state a b)))
  where
    nobody : is_member a ≡ false → is_member b ≡ false → (s : Bool)
        → cond s (moves l j) (moves (with_if (is_member a) l own) (with_if (is_member b) j own)) ≡ moves (with_if (is_leaving a b) l own) (with_if (is_joining a b) j own)
    nobody p q true = rw (p, q) refl
    nobody p q false = rw (p, q) refl

-- ---- the records one after the other

abbrev moves_from : Errand → Moves → ℕ → HeldTable → Moves
moves_from o m i t = fold_from (λ m i v. moves_with m v (carried o i v)) m i t

moves-part : (o : Errand) (m : Notes) (i : ℕ) (t : HeldTable) → (noticed_from o m i t).moves ≡ moves_from o m.moves i t
unfolding fold_from noticed
moves-part o m i [] = refl
moves-part o m i (v ∷ t) = moves-part o (noticed m v (carried o i v)) (suc i) t

module _ (whole after : Table) where
  abbrev leaving : ℕ → Bool
  leaving i = is_leaving (record_of whole i).state (record_of after i).state

  abbrev joining : ℕ → Bool
  joining i = is_joining (record_of whole i).state (record_of after i).state

  -- who moved of the nodes 1 to i
  abbrev up_to : ℕ → Moves
  up_to i = moves (nodes_where leaving i) (nodes_where joining i)

  -- the record at index i of a table
  at-index : (u : Table) (i : ℕ) → get_or u i no_node ≡ record_of u (suc i)
  unfolding record_of
  at-index u i = let z : i ≡ suc i - 1 = omega arith in ap (λ (j : ℕ). get_or u j no_node) z

  next : (o : Errand) (i : ℕ) (v : Held) → setted v ≡ get_or whole i no_node → setted (carried o i v) ≡ get_or after i no_node → v.own ≡ suc i → moves_with (up_to i) v (carried o i v) ≡ up_to (suc i)
  unfolding moves_with nodes_where
  next o i v is becomes own =
      let a = v.state in
      let b = (carried o i v).state in
      let a-is : a ≡ (record_of whole (suc i)).state = ap (λ (w : Node). w.state) (is ∙ at-index whole i) in
      let b-is : b ≡ (record_of after (suc i)).state = ap (λ (w : Node). w.state) (becomes ∙ at-index after i) in
      one-moved a b (nodes_where leaving i) (nodes_where joining i) v.own
      ∙ ap₂ (λ (x : State) (own : ℕ). moves (with_if (is_leaving x b) (nodes_where leaving i) own) (with_if (is_joining x b) (nodes_where joining i) own)) a-is own
      ∙ ap (λ (y : State). moves (with_if (is_leaving (record_of whole (suc i)).state y) (nodes_where leaving i) (suc i)) (with_if (is_joining (record_of whole (suc i)).state y) (nodes_where joining i) (suc i))) b-is

  -- the records of t stand from index i on
  moved-from : (o : Errand) (cable : Cable) (slots i : ℕ) (t : HeldTable) → placed_from cable slots (suc i) (setted_all t) ≡ true → ((j : ℕ) → j < length t → get_or (setted_all t) j no_node ≡ get_or whole (i + j) no_node)
      → ((j : ℕ) → j < length t → get_or (setted_all (map_from (carried o) i t)) j no_node ≡ get_or after (i + j) no_node) → i + length t ≡ length whole → moves_from o (up_to i) i t ≡ up_to (length whole)
  unfolding fold_from map_from
  moved-from o cable slots i [] rows is becomes size = let z : i ≡ length whole = omega arith in ap up_to z
  moved-from o cable slots i (v ∷ t) rows is becomes size =
      let p = placed cable slots (suc i) v t rows in
      let first : i + 0 ≡ i = omega arith in
      let later : (u : Table) (j : ℕ) → get_or u (i + suc j) no_node ≡ get_or u (suc i + j) no_node = λ u j. let z : i + suc j ≡ suc i + j = omega arith in ap (λ (k : ℕ). get_or u k no_node) z in
      ap (λ (m : Moves). moves_from o m (suc i) t)
      (next o i v (is 0 (omega arith) ∙ ap (λ (j : ℕ). get_or whole j no_node) first) (becomes 0 (omega arith) ∙ ap (λ (j : ℕ). get_or after j no_node) first) p.own)
      ∙ moved-from o cable slots (suc i) t p.rest (λ j h. is (suc j) (omega (arith, h)) ∙ later whole j) (λ j h. becomes (suc j) (omega (arith, h)) ∙ later after j) (omega arith)

pub moved : (o : Errand) (t : HeldTable) → table_sound (setted_all t) ≡ true
    → let after = setted_all (carried_from o 0 t) in (notes_of o t).moves ≡ moves (leavers (setted_all t) after) (joiners (setted_all t) after)
unfolding notes_of no_notes nodes_where
moved o t ok =
    let u = setted_all t in
    let after = setted_all (carried_from o 0 t) in
    let z : (j : ℕ) → j ≡ 0 + j = λ j. omega arith in
    let size : 0 + length t ≡ length u = omega (arith, length-setted t) in
    moves-part o no_notes 0 t
    ∙ moved-from u after o (record_of u 1).cable (slots_of u) 0 t (said t ok).rows (λ j h. ap (λ (k : ℕ). get_or u k no_node) (z j)) (λ j h. ap (λ (k : ℕ). get_or after k no_node) (z j)) size
