-- An order carried out (bench_orders' specs/Orders) is, through the conversion, the call that asked for it (bench's specs/Calls): off, restart, set-up and slot. The survey decides as the table does
-- (`Surveys.antt`), and in a sound table a record's own number is its place. In a slot each record goes by the digest of the speaker's row,
-- or what it finds by itself (node_slot's proofs/Holding). Assumes nothing.
use Rattle.std.specs.Prelude.{Err, Ok}
use Prim.Native.Nat.{ℕ, suc, ◌+◌, ◌-◌, ◌<◌, ◌≤◌, ◌^◌}
use mathlib.Core.Path.{◌≡◌, refl, sym, ap, ap₂, subst, ◌∙◌}
use mathlib.Core.Bool.{Bool, true, false, cond, ◌||◌}
use mathlib.Core.List.{List, [], ◌∷◌}
use native.Mathlib.Omega.{arith}
use native.Mathlib.Numerals.{add-one}
use lib.Dec.{eqb, leb, ltb}
use lib.ListN.{length, get_or}
use borrow.Author.Tests.{eqb-true, ltb-true, lt-ltb}
use Rattle.bench.specs.refusal.declared.Refusal.{Refusal}
use Rattle.bench.specs.refusal.Causes.{cause}
use Rattle.node_record.specs.nodeset.Sets.{has, within}
use Rattle.node_record.proofs.nodeset.Tests.{by_cases, both, chosen}
use Rattle.node_record.specs.cable.declared.Cable.{Cable}
use Rattle.node_record.specs.cable.declared.Choices.{Choices}
use Rattle.node_record.specs.cable.Cable.{ring_size, cable_with, cable_fits, may_set_up, node_number, fault_of}
use Rattle.bench_orders.specs.ring.Ring.{sender}
use Rattle.node_record.proofs.cable.Ranges.{ring-size, fitting, node-number}
use Rattle.node_record.proofs.ring_laws.Senders.{turns-of, sender-range}
use Rattle.bench.specs.Reports.{jobs_on}
use Rattle.bench_orders.specs.message.Message.{jobs_within}
use Rattle.bench_orders.specs.message.Answers.{Reading}
use Rattle.node_record.specs.declared.Node.{Node}
use Rattle.node_record.specs.declared.Held.{Held}
use Rattle.node_record.specs.declared.Cause.TheVariants.{SwitchedOff}
use Rattle.node_record.specs.States.{is_out}
use Rattle.node_record.specs.Soundness.{sound, limit}
use Rattle.node_record.specs.Held.{rowed, setted}
use Rattle.node_record.proofs.Facts.{clauses}
use Rattle.node_record.proofs.Holding.{set-small}
use Rattle.bench_orders.specs.node_changes.Changes.{starting, out_for, fresh, numbered}
use Rattle.bench_orders.specs.node_changes.Held as held
use Rattle.bench_orders.proofs.node_changes.Holding.{starting-held, out-held, listening-held, either_held}
use Rattle.bench_orders.specs.node_steps.Steps.{is_heard}
use Rattle.bench_orders.specs.node_steps.declared.Digest.{Digest}
use Rattle.bench_orders.specs.node_steps.Held.{digest_of}
use Rattle.bench_orders.specs.node_sending.Sending.{sends, return_sent}
use Rattle.bench_orders.specs.node_sending.Sending as rules
use Rattle.bench_orders.proofs.node_sending.Holding.{bits-held}
use Rattle.bench_orders.specs.node_slot.Held.{after_by}
use Rattle.bench_orders.proofs.node_slot.Digests.{heard-told, sound-own, sound-marks}
use Rattle.bench_orders.proofs.node_slot.Holding.{after-held}
use Rattle.bench.specs.node.Answers.{Answer}
use Rattle.bench.specs.node.Calls as node
use Rattle.bench.specs.node.Calls.{Stepped, no_node}
use Rattle.bench.proofs.node.Holding.{good_of}
use Rattle.bench.specs.declared.Command.{Command}
use Rattle.bench.specs.declared.Command.TheVariants as command
use Rattle.bench.specs.declared.Fate.{Fate}
use Rattle.bench.specs.Table.{Table, each_from, placed_from, table_sound, node_count, slots_of, record_of, speaker}
use Rattle.bench.specs.Calls as bench
use Rattle.bench.specs.Calls.{Called, done, if_passed, set_up_of, set_up_given, start_table, off_of, table_after_off, restart_of, table_after_restart, slot_of, heard_by, spoken, transmits, unheard, look_of}
use Rattle.bench.specs.Outcomes.{called_of, slot_given}
use Rattle.bench.specs.Held.{HeldTable, rowed_all, setted_all, held_by}
use Rattle.bench.proofs.Places.{InPlace, sound-placed}
use Rattle.bench.proofs.Counted.{step-done}
use Rattle.bench.proofs.Standing.{length-setted, table-back, Keeps, keeps-if, set-up-keeps, off-keeps, restart-keeps, given-keeps, look-keeps, SoundIfMade, made-if, some-node, set-up-made, off-made, restart-made, slot-made, look-made, stands}
use Rattle.bench_orders.specs.declared.Beside.{Beside}
use Rattle.bench_orders.specs.declared.Errand.{Errand}
use Rattle.bench_orders.specs.declared.Order.{Order}
use Rattle.bench_orders.specs.declared.Order.TheVariants as order
use Rattle.bench_orders.specs.declared.Turn.{Turn}
use Rattle.bench_orders.specs.declared.Survey.{Survey}
use Rattle.bench_orders.specs.Survey.{map_from, survey_of, fine_table}
use Rattle.bench_orders.specs.Orders.{if_good, spoken_by, digest_for, digest_in, turn_of, order_for, heard_at, step_at, errand_of, carried_by, carried, carried_from, fate_by, answer_to, all_fit}
use Rattle.bench_work.specs.Work.{choices_in}
use Rattle.bench_calls.proofs.Surveys.{Placed, placed, fine-table, Said, said}
use Rattle.bench_orders.specs.message.Answers.{heard_with}

-- ---- each record

-- an order that leaves each record as it is leaves the table
kept_table : (e : Errand) → ((i : ℕ) (v : Held) → carried e i v ≡ v) → (i : ℕ) (t : HeldTable) → carried_from e i t ≡ t
unfolding map_from
kept_table e h i [] = refl
kept_table e h i (v ∷ t) = ap₂ {C = HeldTable} (λ w r. w ∷ r) (h i v) (kept_table e h (suc i) t)

pub refused-table : (cause : Refusal) (s : Survey) (fits : Beside) (t : HeldTable) → carried_from (errand_of (order.Refuse cause) s fits) 0 t ≡ t
unfolding carried_by
refused-table cause s fits t = kept_table (errand_of (order.Refuse cause) s fits) (λ i v. refl) 0 t

pub look-table : (slots sender : ℕ) (fate : Fate) (s : Survey) (fits : Beside) (t : HeldTable) → carried_from (errand_of (order.Look slots sender fate) s fits) 0 t ≡ t
unfolding carried_by
look-table slots sender fate s fits t = kept_table (errand_of (order.Look slots sender fate) s fits) (λ i v. refl) 0 t

-- what is made of a held table holds what is made of the table that it stands for, where this is so of each record in its place
by-own : (cable : Cable) (slots : ℕ) (w : ℕ → Node) (f : ℕ → Held → Held) (g : ℕ → Node → Node)
    → ((j : ℕ) (v : Held) (u : HeldTable) → Placed cable slots (suc j) v u → setted v ≡ w j → f j v ≡ rowed (g (suc j) (setted v)))
    → (i : ℕ) (t : HeldTable) → placed_from cable slots (suc i) (setted_all t) ≡ true → ((j : ℕ) → j < length t → get_or (setted_all t) j no_node ≡ w (i + j)) → map_from f i t ≡ rowed_all (each_from g (suc i) (setted_all t))
unfolding map_from each_from
by-own cable slots w f g h i [] e is = refl
by-own cable slots w f g h i (v ∷ t) e is =
    let p = placed cable slots (suc i) v t e in
    let first : i + 0 ≡ i = omega arith in
    ap₂ {C = HeldTable} (λ x r. x ∷ r) (h i v t p (is 0 (omega arith) ∙ ap w first))
    (by-own cable slots w f g h (suc i) t p.rest (λ j l. let z : i + suc j ≡ suc i + j = omega arith in is (suc j) (omega (arith, l)) ∙ ap w z))

by-record : (cable : Cable) (slots : ℕ) (f : ℕ → Held → Held) (g : ℕ → Node → Node) (t : HeldTable) → placed_from cable slots 1 (setted_all t) ≡ true
    → ((j : ℕ) (v : Held) (u : HeldTable) → Placed cable slots (suc j) v u → setted v ≡ record_of (setted_all t) (suc j) → f j v ≡ rowed (g (suc j) (setted v))) → map_from f 0 t ≡ rowed_all (each_from g 1 (setted_all t))
unfolding record_of
by-record cable slots f g t rows h =
    by-own cable slots (λ j. get_or (setted_all t) (suc j - 1) no_node) f g h 0 t rows
    (λ j l. let z : j ≡ suc (0 + j) - 1 = omega arith in ap (λ (x : ℕ). get_or (setted_all t) x no_node) z)

-- where it goes by the place, of 32 at most
by_place : (f : ℕ → Held → Held) (g : ℕ → Node → Node) → ((j : ℕ) (v : Held) → j < 32 → f j v ≡ rowed (g (suc j) (setted v))) → (i : ℕ) (t : HeldTable) → i + length t ≤ 32 → map_from f i t ≡ rowed_all (each_from g (suc i) (setted_all t))
unfolding map_from each_from
by_place f g h i [] l = refl
by_place f g h i (v ∷ t) l = ap₂ {C = HeldTable} (λ w r. w ∷ r) (h i v (omega (arith, l))) (by_place f g h (suc i) t (omega (arith, l)))

-- ---- an order carried out

-- the call that a command asks for, where what is lent beside the table fits or not
abbrev pub called_fit : Command → ℕ → Beside → Table → Called
called_fit (command.SetUp choices) room fits t =
    if_passed (may_set_up fits.cable fits.places) (fault_of fits.cable fits.places) t (if_passed fits.reports 4 t (set_up_of fits.cable t))
called_fit (command.Off a) room fits t = if_passed (table_sound t) 4 t (if_passed (node_number (node_count t) a) 3 t (if_passed fits.ledger 13 t (off_of a t)))
called_fit (command.Restart a) room fits t = restart_of a t
called_fit (command.Slot lost missed jobs) room fits t =
    if_passed (table_sound t) 4 t (if_passed fits.reports 4 t (if_passed (within (node_count t) missed) 3 t (if_passed fits.ledger 13 t (slot_given lost missed jobs room t))))
called_fit (command.Look lost) room fits t = look_of t

-- what it leaves of a held table, and what is answered
pub record HeldCall : Type 0 where
  pub table : HeldTable
  pub answer : Answer

abbrev pub held_call : HeldTable → Called → HeldCall
held_call t called = record { table = held_by t called; answer = called.answer }

-- the errand of an order on a table, and what comes of it
abbrev pub sent_on : Beside → Order → HeldTable → Errand
sent_on fits o t = errand_of o (survey_of t) fits

abbrev pub ran_by : Beside → Order → HeldTable → HeldCall
ran_by fits o t = record { table = carried_from (sent_on fits o t) 0 t; answer = answer_to o }

-- the same of the table that it stands for
abbrev pub called_by : Beside → Order → HeldTable → Called
called_by fits o t = record { table = setted_all (carried_from (sent_on fits o t) 0 t); answer = answer_to o }

refuses : (number : ℕ) (fits : Beside) (t : HeldTable) (u : Table) → ran_by fits (order.Refuse (cause number)) t ≡ held_call t (if_passed false number u (done u))
refuses number fits t u = ap (λ (x : HeldTable). record { table = x; answer = Err (cause number) }) (refused-table (cause number) (survey_of t) fits t)

-- one test after the other
passes : {b b' : Bool} (fits : Beside) (number : ℕ) (o : Order) (t : HeldTable) (u : Table) (c : Called) → b ≡ b' → (b' ≡ true → ran_by fits o t ≡ held_call t c) → ran_by fits (if_good b (cause number) o) t ≡ held_call t (if_passed b' number u c)
passes {b} {b'} fits number o t u c e h = ap (λ (d : Bool). ran_by fits (if_good d (cause number) o) t) e ∙ go b' h
  where
    go : (d : Bool) → (d ≡ true → ran_by fits o t ≡ held_call t c) → ran_by fits (if_good d (cause number) o) t ≡ held_call t (if_passed d number u c)
    go true k = k refl
    go false k = refuses number fits t u

-- an order that is carried out
ran : (fits : Beside) (o : Order) (t : HeldTable) (x : Table) → answer_to o ≡ Ok tt → carried_from (sent_on fits o t) 0 t ≡ rowed_all x → ran_by fits o t ≡ held_call t (done x)
ran fits o t x a e = ap₂ (λ (w : HeldTable) (b : Answer). record { table = w; answer = b }) e a

off-node : (v : Node) → sound v ≡ true → out_for SwitchedOff v ≡ (node.off_of v).node
unfolding node.off_of
off-node v e = rw e

-- a step on the held record of a node, or none
either-at : (b : Bool) (v : Held) (f : Held → Held) (g : Node → Node) → rowed (setted v) ≡ v → f (rowed (setted v)) ≡ rowed (g (setted v)) → cond b (f v) v ≡ rowed (cond b (g (setted v)) (setted v))
either-at b v f g back step = ap (λ (w : Held). cond b (f w) w) (sym back) ∙ either_held b (g (setted v)) (setted v) step refl

off-called : (a room : ℕ) (fits : Beside) (t : HeldTable) → ran_by fits (order_for (command.Off a) room fits t) t ≡ held_call t (called_fit (command.Off a) room fits (setted_all t))
unfolding order_for off_of carried_by
off-called a room fits t =
    passes fits 4 _ t u _ (fine-table t) (λ ok.
    let s = said t ok in
    passes fits 3 _ t u _ (ap (λ (m : ℕ). node_number m a) s.n) (λ h.
    passes {b = fits.ledger} fits 13 (order.Off a) t u _ refl (λ _. ran fits (order.Off a) t (table_after_off a u) refl (tables s.rows) ∙ ap (held_call t) (opened ok h))))
  where
    u : Table
    u = setted_all t

    opened : table_sound u ≡ true → node_number (node_count u) a ≡ true → done (table_after_off a u) ≡ off_of a u
    opened ok h = rw (ok, h) refl

    tables : placed_from (record_of u 1).cable (slots_of u) 1 u ≡ true → carried_from (sent_on fits (order.Off a) t) 0 t ≡ rowed_all (table_after_off a u)
    tables rows =
        by-record (record_of u 1).cable (slots_of u) (carried (sent_on fits (order.Off a) t)) (λ i v. cond (eqb i a) (node.off_of v).node v) t rows
        (λ j v r p is.
        ap (λ (i : ℕ). cond (eqb i a) (held.out_for SwitchedOff v) v) p.own
        ∙ either-at (eqb (suc j) a) v (held.out_for SwitchedOff) (λ w. (node.off_of w).node) p.back (out-held SwitchedOff (setted v) ∙ ap rowed (off-node (setted v) p.good)))

restart-node : (v : Node) → sound v ≡ true → is_out v.state ≡ true → fresh v ≡ (node.restart_of v).node
unfolding node.restart_of
restart-node v e out = rw (e, out)

restart-called : (a room : ℕ) (fits : Beside) (t : HeldTable) → ran_by fits (order_for (command.Restart a) room fits t) t ≡ held_call t (restart_of a (setted_all t))
unfolding order_for restart_of carried_by
restart-called a room fits t =
    passes fits 4 _ t u _ (fine-table t) (λ ok.
    let s = said t ok in
    passes fits 3 _ t u _ (ap (λ (m : ℕ). node_number m a) s.n) (λ h.
    passes fits 11 (order.Restart a) t u _ (s.out a h) (λ out. ran fits (order.Restart a) t (table_after_restart a u) refl (tables s.rows out))))
  where
    u : Table
    u = setted_all t

    one : (j : ℕ) (v : Node) → sound v ≡ true → is_out (record_of u a).state ≡ true → v ≡ record_of u (suc j) → cond (eqb (suc j) a) (fresh v) v ≡ cond (eqb (suc j) a) (node.restart_of v).node v
    one j v good out is =
        by_cases (eqb (suc j) a)
        (λ e. let z : suc j ≡ a = eqb-true (suc j) a e in
        ap (λ (w : Node). cond (eqb (suc j) a) w v) (restart-node v good (ap (λ (w : Node). is_out w.state) (is ∙ ap (record_of u) z) ∙ out)))
        (λ e. rw e)

    tables : placed_from (record_of u 1).cable (slots_of u) 1 u ≡ true → is_out (record_of u a).state ≡ true → carried_from (sent_on fits (order.Restart a) t) 0 t ≡ rowed_all (table_after_restart a u)
    tables rows out =
        by-record (record_of u 1).cable (slots_of u) (carried (sent_on fits (order.Restart a) t)) (λ i v. cond (eqb i a) (node.restart_of v).node v) t rows
        (λ j v r p is.
        ap (λ (i : ℕ). cond (eqb i a) (held.fresh v) v) p.own
        ∙ either-at (eqb (suc j) a) v held.fresh fresh p.back (listening-held 0 (setted v))
        ∙ ap rowed (one j (setted v) p.good out is))

set-up-called : (choices : Choices) (room : ℕ) (fits : Beside) (t : HeldTable)
    → ran_by fits (order_for (command.SetUp choices) room fits t) t ≡ held_call t (called_fit (command.SetUp choices) room fits (setted_all t))
unfolding order_for set_up_of carried_by
set-up-called choices room fits t =
    passes {b = may_set_up cable places} fits (fault_of cable places) _ t u _ refl (λ may.
    let fit = (both (cable_fits cable) (eqb places cable.n) may).0 in
    passes {b = fits.reports} fits 4 _ t u _ refl (λ _.
    passes {b = eqb (length t) cable.n} fits 4 order.Start t u _ (ap (λ (m : ℕ). eqb m cable.n) (sym (length-setted t)))
    (λ size. ran fits order.Start t (start_table cable u) refl (tables fit size)) ∙ ap (held_call t) (opened fit)))
  where
    u : Table
    u = setted_all t

    cable : Cable
    cable = fits.cable

    places : ℕ
    places = fits.places

    opened : cable_fits cable ≡ true → if_passed (eqb (length u) cable.n) 4 u (done (start_table cable u)) ≡ set_up_of cable u
    opened a = rw a refl

    at_most : ring_size cable.n ≡ true → eqb (length u) cable.n ≡ true → 0 + length t ≤ 32
    at_most ring size = let r = (ring-size cable.n ring).1 in let e = eqb-true (length u) cable.n size in omega (arith, r, e, length-setted t)

    tables : cable_fits cable ≡ true → eqb (length u) cable.n ≡ true → carried_from (sent_on fits order.Start t) 0 t ≡ rowed_all (start_table cable u)
    tables fit size =
        let c = fitting cable fit in
        by_place (carried (sent_on fits order.Start t)) (λ i v. starting cable i)
        (λ j v l. ap (held.starting cable) (chosen (j + 1) 0 (lt-ltb j 32 l) ∙ add-one j) ∙ starting-held cable (suc j)) 0 t (at_most c.ring size)

-- ---- a slot

-- what the speaker says, by its row, is what the rules say
pub spoken-held : (lost : Bool) (v : Node) → sound v ≡ true → spoken_by lost (rowed v) ≡ cond lost unheard (cond (sends v) (heard_with (rules.bits_sent v) (return_sent v)) unheard)
spoken-held lost v good =
    let c = clauses v good in
    let own = node-number v.cable.n v.own c.own in
    ap (λ (b : ℕ). cond lost unheard (cond (sends v) (heard_with b (return_sent v)) unheard)) (bits-held v c.choices.order own.0 own.1)

-- what a node hears of it
pub hears : (lost : Bool) (missed : ℕ) (u : Table) (i : ℕ) (said' : Held) → sound (record_of u (speaker u)) ≡ true → said' ≡ rowed (record_of u (speaker u)) → cond (has missed i) unheard (spoken_by lost said') ≡ heard_by lost missed u i
unfolding heard_by spoken transmits
hears lost missed u i v good e =
    ap (λ (w : Held). cond (has missed i) unheard (spoken_by lost w)) e
    ∙ ap (λ (r : Reading). cond (has missed i) unheard r) (spoken-held lost (record_of u (speaker u)) good)
    ∙ go lost (has missed i)
  where
    sp : Node
    sp = record_of u (speaker u)

    go : (l m : Bool) → cond m unheard (cond l unheard (cond (sends sp) (heard_with (rules.bits_sent sp) (return_sent sp)) unheard)) ≡ cond (l || m) unheard (spoken u)
    go true true = refl
    go true false = refl
    go false true = refl
    go false false = refl

-- the digest that the records are given is that of the speaker's row
digest-in : (lost : Bool) (missed : ℕ) (s : Survey) → digest_in (turn_of lost missed s) s.speaker.row ≡ digest_for lost s
unfolding digest_of
digest-in lost missed s = refl

-- the speaker of a sound table
pub speaks : (u : Table) → table_sound u ≡ true → InPlace (record_of u 1).cable (slots_of u) (speaker u) (record_of u (speaker u))
unfolding speaker
speaks u ok =
    let p = sound-placed u ok in
    let some : 1 ≤ (record_of u 1).cable.n = some-node u ok in
    let cable = (record_of u 1).cable in
    let first = p.at 1 (omega arith) some in
    let r = sender-range cable (turns-of cable (clauses (record_of u 1) first.is-sound).choices) (slots_of u + 1) in
    p.at (sender cable (slots_of u + 1)) r.0 r.1

-- a record in its place does in a slot what the node call does
module _ (lost : Bool) (missed : ℕ) (t : HeldTable) (ok : table_sound (setted_all t) ≡ true) (below : slots_of (setted_all t) < limit) where
  abbrev u : Table
  u = setted_all t

  abbrev survey : Survey
  survey = survey_of t

  abbrev turn : Turn
  turn = turn_of lost missed survey

  -- the speaker's record, and what it says
  abbrev sp : Node
  sp = record_of u (speaker u)

  -- what a node that hears so much makes of the slot, where x is the speaker
  abbrev steps : Held → ℕ → Reading → Held → Held
  steps x s told v = after_by (digest_of s (spoken_by lost x) x.cable x.row) s told v

  step_is : (j : ℕ) (v : Held) (r : HeldTable) → Placed (record_of u 1).cable (slots_of u) (suc j) v r → step_at turn survey.speaker.row v ≡ rowed (node.step_of (heard_by lost missed u (suc j)) (setted v)).node
  unfolding speaker
  step_is j v r p =
      let s = said t ok in
      let h = speaks u ok in
      let w = setted v in
      let on : w.cable ≡ sp.cable = p.cable-of ∙ sym h.cable-is in
      let range = sender-range w.cable (turns-of w.cable (clauses w p.good).choices) (w.slots + 1) in
      let heard = heard_by lost missed u (suc j) in
      ap (λ (d : Digest). after_by d turn.sender (heard_at turn v) (held.numbered turn.slot v)) (digest-in lost missed survey)
      ∙ ap₂ (λ (x : Held) (told : Reading). steps x survey.sender told (held.numbered (survey.slots + 1) v)) s.spoken (heard-at s h)
      ∙ ap₂ (λ (x m : ℕ). steps (rowed sp) x heard (held.numbered m v)) sender-at slot_at
      ∙ ap (λ (x : Held). steps (rowed sp) (sender w.cable (w.slots + 1)) heard (held.numbered (w.slots + 1) x)) (sym p.back)
      ∙ after-held (sender w.cable (w.slots + 1)) (spoken_by lost (rowed sp)) heard sp.cable sp.set (numbered (w.slots + 1) w) (told_is s h) on (sound-own w p.good) (sound-marks w p.good)
      (good_of w (sender w.cable (w.slots + 1)) (w.slots + 1) p.good range.0 range.1) (small s h) (set-small w p.good)
      ∙ sym (ap (λ (d : Stepped). rowed d.node) (step-done heard w p.good (omega (arith, below, p.slot))))
    where
      slot_at : survey.slots + 1 ≡ v.slots + 1
      slot_at = ap (λ (m : ℕ). m + 1) ((said t ok).slots ∙ sym p.slot)

      sender-at : survey.sender ≡ sender v.cable (v.slots + 1)
      sender-at = (said t ok).sender ∙ ap₂ (λ (c : Cable) (x : ℕ). sender c (x + 1)) (sym p.cable-of) (sym p.slot)

      heard-at : Said t u → InPlace (record_of u 1).cable (slots_of u) (speaker u) sp → heard_at turn v ≡ heard_by lost missed u (suc j)
      heard-at s h = ap (λ (i : ℕ). cond (has missed i) unheard turn.heard) p.own ∙ hears lost missed u (suc j) survey.speaker h.is-sound s.spoken

      -- who hears a message hears what the speaker says
      told_is : Said t u → InPlace (record_of u 1).cable (slots_of u) (speaker u) sp → is_heard (heard_by lost missed u (suc j)) ≡ true → heard_by lost missed u (suc j) ≡ spoken_by lost (rowed sp)
      told_is s h =
          subst (λ (r : Reading). is_heard r ≡ true → r ≡ spoken_by lost (rowed sp)) (hears lost missed u (suc j) (rowed sp) h.is-sound refl)
          (heard-told (has missed (suc j)) (spoken_by lost (rowed sp)) (spoken_by lost (rowed sp)) (λ _. refl))

      small : Said t u → InPlace (record_of u 1).cable (slots_of u) (speaker u) sp → sp.set < 2 ^ v.cable.n
      small s h = subst (λ (c : Cable). sp.set < 2 ^ c.n) (h.cable-is ∙ sym p.cable-of) (set-small sp h.is-sound)

pub slot-table : (lost : Bool) (missed : ℕ) (fits : Beside) (t : HeldTable) → table_sound (setted_all t) ≡ true → slots_of (setted_all t) < limit
    → carried_from (sent_on fits (order.Slot (turn_of lost missed (survey_of t))) t) 0 t ≡ rowed_all (bench.table_after_slot lost missed (setted_all t))
unfolding carried_by bench.table_after_slot
slot-table lost missed fits t ok below =
    let u = setted_all t in
    by-record (record_of u 1).cable (slots_of u) (carried (sent_on fits (order.Slot (turn_of lost missed (survey_of t))) t)) (λ i v. (node.step_of (heard_by lost missed u i) v).node) t (said t ok).rows
    (λ j v r p is. step_is lost missed t ok below j v r p)

slot-called : (lost : Bool) (missed jobs room : ℕ) (fits : Beside) (t : HeldTable)
    → ran_by fits (order_for (command.Slot lost missed jobs) room fits t) t ≡ held_call t (called_fit (command.Slot lost missed jobs) room fits (setted_all t))
unfolding order_for slot_of slot_given
slot-called lost missed jobs room fits t =
    passes fits 4 _ t u _ (fine-table t) (λ ok.
    let s = said t ok in
    passes {b = fits.reports} fits 4 _ t u _ refl (λ _.
    passes fits 3 _ t u _ (ap (λ (m : ℕ). within m missed) s.n) (λ h.
    passes {b = fits.ledger} fits 13 _ t u _ refl (λ _.
    passes fits 5 _ t u _ (ap (λ (m : ℕ). ltb m limit) s.slots) (λ l.
    passes fits 8 _ t u _ (ap (λ (m : ℕ). jobs_within m jobs) s.jobs) (λ j.
    passes {b = leb 64 room} fits 9 turned t u _ refl (λ r. ran fits turned t (bench.table_after_slot lost missed u) refl (slot-table lost missed fits t ok (ltb-true (slots_of u) limit l))) ∙ ap (held_call t) (opened ok h l)))
    ∙ ap (held_call t) (given ok h)))))
  where
    u : Table
    u = setted_all t

    turned : Order
    turned = order.Slot (turn_of lost missed (survey_of t))

    opened : table_sound u ≡ true → within (node_count u) missed ≡ true → ltb (slots_of u) limit ≡ true → if_passed (leb 64 room) 9 u (done (bench.table_after_slot lost missed u)) ≡ slot_of lost missed room u
    opened ok h l = rw (ok, h, l) refl

    given : table_sound u ≡ true → within (node_count u) missed ≡ true
        → if_passed (ltb (slots_of u) limit) 5 u (if_passed (jobs_within (jobs_on u) jobs) 8 u (slot_of lost missed room u)) ≡ slot_given lost missed jobs room u
    given ok h = rw (ok, h) refl

look-called : (lost : Bool) (room : ℕ) (fits : Beside) (t : HeldTable) → ran_by fits (order_for (command.Look lost) room fits t) t ≡ held_call t (look_of (setted_all t))
unfolding order_for look_of
look-called lost room fits t =
    passes {b = fine_table (survey_of t) (length t)} fits 4 looking t (setted_all t) _ (fine-table t)
    (λ ok. ran fits looking t (setted_all t) refl (look-table (survey_of t).slots (survey_of t).sender (fate_by lost (survey_of t).speaker) (survey_of t) fits t ∙ sym (table-back t ok)))
  where
    looking : Order
    looking = order.Look (survey_of t).slots (survey_of t).sender (fate_by lost (survey_of t).speaker)

-- ---- the call that a command asks for

-- of the held table
pub ran-by : (c : Command) (room : ℕ) (fits : Beside) (t : HeldTable) → ran_by fits (order_for c room fits t) t ≡ held_call t (called_fit c room fits (setted_all t))
ran-by (command.SetUp choices) room fits t = set-up-called choices room fits t
ran-by (command.Off a) room fits t = off-called a room fits t
ran-by (command.Restart a) room fits t = restart-called a room fits t
ran-by (command.Slot lost missed jobs) room fits t = slot-called lost missed jobs room fits t
ran-by (command.Look lost) room fits t = look-called lost room fits t

-- a refused one leaves the table, one that is made a sound table
fit-keeps : (c : Command) (room : ℕ) (fits : Beside) (u : Table) → Keeps u (called_fit c room fits u)
fit-keeps (command.SetUp choices) room fits u = keeps-if (may_set_up fits.cable fits.places) _ u _ (keeps-if fits.reports 4 u _ (set-up-keeps fits.cable u))
fit-keeps (command.Off a) room fits u = keeps-if (table_sound u) 4 u _ (keeps-if (node_number (node_count u) a) 3 u _ (keeps-if fits.ledger 13 u _ (off-keeps a u)))
fit-keeps (command.Restart a) room fits u = restart-keeps a u
fit-keeps (command.Slot lost missed jobs) room fits u =
    keeps-if (table_sound u) 4 u _ (keeps-if fits.reports 4 u _ (keeps-if (within (node_count u) missed) 3 u _ (keeps-if fits.ledger 13 u _ (given-keeps lost missed jobs room u))))
fit-keeps (command.Look lost) room fits u = look-keeps u

fit-made : (c : Command) (room : ℕ) (fits : Beside) (u : Table) → SoundIfMade (called_fit c room fits u)
fit-made (command.SetUp choices) room fits u = made-if (may_set_up fits.cable fits.places) _ u _ (λ _. made-if fits.reports 4 u _ (λ _. set-up-made fits.cable u))
fit-made (command.Off a) room fits u = made-if (table_sound u) 4 u _ (λ ok. made-if (node_number (node_count u) a) 3 u _ (λ _. made-if fits.ledger 13 u _ (λ _. off-made a u ok)))
fit-made (command.Restart a) room fits u = restart-made a u
fit-made (command.Slot lost missed jobs) room fits u =
    made-if (table_sound u) 4 u _ (λ ok. made-if fits.reports 4 u _ (λ _. made-if (within (node_count u) missed) 3 u _ (λ _. made-if fits.ledger 13 u _ (λ _. slot-made lost missed jobs room u ok))))
fit-made (command.Look lost) room fits u = look-made u

-- of the table that it stands for
pub called-by : (c : Command) (room : ℕ) (fits : Beside) (t : HeldTable) → called_by fits (order_for c room fits t) t ≡ called_fit c room fits (setted_all t)
called-by c room fits t =
    let u = setted_all t in
    ap (λ (x : HeldCall). record { table = setted_all x.table; answer = x.answer }) (ran-by c room fits t)
    ∙ ap (λ (x : Table). record { table = x; answer = (called_fit c room fits u).answer }) (stands t (called_fit c room fits u) (fit-keeps c room fits u) (fit-made c room fits u))

-- where all that is lent fits, the call is the one without ledger and counts
pub called-fitting : (c : Command) (slots : List ℕ) (room : ℕ) (t : Table) → called_fit c room (all_fit (cable_with (choices_in c) slots) (length slots)) t ≡ called_of c slots room t
unfolding set_up_given slot_given off_of
called-fitting (command.SetUp choices) slots room t = refl
called-fitting (command.Off a) slots room t = by_cases (table_sound t) (λ e. by_cases (node_number (node_count t) a) (λ h. rw (e, h) refl) (λ h. rw (e, h) refl)) (λ e. rw e refl)
called-fitting (command.Restart a) slots room t = refl
called-fitting (command.Slot lost missed jobs) slots room t = by_cases (table_sound t) (λ e. by_cases (within (node_count t) missed) (λ h. rw (e, h) refl) (λ h. rw (e, h) refl)) (λ e. rw e refl)
called-fitting (command.Look lost) slots room t = refl
