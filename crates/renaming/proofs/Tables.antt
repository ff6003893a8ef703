-- Tables of a run with a slot table and of the plain run, renamed: from the two common starts on, node by node, the one is the other renamed, and each call is refused alike.
-- Assumes of the cable that its choices are in range.
use Prim.Native.Nat.{ℕ, ◌+◌, ◌≤◌}
use mathlib.Core.Path.{◌≡◌, refl, sym, ap, ap₂, ◌∙◌, subst}
use mathlib.Core.Bool.{Bool, true, false, cond, ◌||◌}
use mathlib.Core.List.{List, [], ◌∷◌}
use native.Mathlib.Omega.{arith}
use lib.Dec.{eqb, leb, ltb}
use lib.ListN.{length}
use Rattle.ledger.specs.nodeset.Sets.{within}
use Rattle.ledger.specs.cable.declared.Cable.{Cable}
use Rattle.ledger.specs.cable.Cable.{node_number, cable_fits}
use Rattle.ledger.specs.ring.Ring.{sender}
use Rattle.ledger.proofs.cable.Ranges.{fitting, ring-size, node-number}
use Rattle.ledger.specs.message.Answers.{Reading}
use Rattle.ledger.specs.node_record.declared.Node.{Node}
use Rattle.ledger.specs.node_record.States.{is_out}
use Rattle.ledger.specs.node_record.Soundness.{sound, limit}
use Rattle.ledger.specs.node_sending.Sending.{sends, bits_sent, return_sent}
use Rattle.ledger.specs.node.Calls.{Stepped}
use Rattle.ledger.specs.node.Calls as node
use Rattle.ledger.specs.bench.Table.{Table, record_of, each, table_sound, node_count, slots_of, speaker}
use Rattle.ledger.specs.bench.Calls.{Called, if_passed, set_up_of, transmits, unheard, spoken, heard_by, table_after_slot, slot_of, off_of, restart_of}
use Rattle.ledger.specs.bench.Runs.{Call, slot, off, restart, call_of, table_after}
use Rattle.ledger.proofs.bench.Places.{record-each, InPlace, Placed, placed-sound}
use Rattle.ledger.proofs.bench.Runs.{after-slot-record, start-record, start-placed, placed-run}
use Rattle.renaming.specs.Renamed.{plain_of, name_of, placed, renamed, missed_at, call_at, calls_at, ran, ran_plain}
use Rattle.renaming.proofs.Names.{cond-by, plain_fits, name-range, placed-range, name-placed, placed-number, eqb-name, has-missed, within-missed, sender-name, plain-sender}
use Rattle.renaming.proofs.Records.{renamed_plain, renamed_stepped, starting-renamed, sends-renamed, return-renamed, bits-renamed, step-renamed, off-renamed, restart-renamed}
use Rattle.ledger.specs.message.Answers.{heard_with}

speaker-is : (cable : Cable) (t : Table) → 1 ≤ cable.n → Placed cable (slots_of t) t → speaker t ≡ sender cable (slots_of t + 1)
unfolding speaker
speaker-is cable t pos P = ap (λ (c : Cable). sender c (slots_of t + 1)) (P.at 1 (omega arith) pos).cable-is

module _ (cable : Cable) (fits : cable_fits cable ≡ true) where
  open cable use {n}

  abbrev plainly : Cable
  plainly = plain_of cable

  pub some : 1 ≤ n
  some = omega (arith, (ring-size n (fitting cable fits).ring).0)

  -- node by node, the table of the plain run renamed
  abbrev pub Its : Table → Table → Type 0
  Its t u = (p : ℕ) → 1 ≤ p → p ≤ n → record_of t (name_of cable p) ≡ renamed_plain cable (record_of u p)

  -- so it is of two tables whose records are in their places
  pub record Same (t u : Table) : Type 0 where
    pub here : Placed cable (slots_of t) t
    pub there : Placed plainly (slots_of u) u
    pub its : Its t u

  -- and of two calls' tables, with the same answer
  pub record Alike (c d : Called) : Type 0 where
    pub tables : Its c.table d.table
    pub answers : c.answer ≡ d.answer

  alike-if : (b : Bool) {b' : Bool} (number : ℕ) (t u : Table) (c d : Called) → b ≡ b' → Its t u → (b ≡ true → Alike c d) → Alike (if_passed b number t c) (if_passed b' number u d)
  alike-if b number t u c d e i k = subst (λ (x : Bool). Alike (if_passed b number t c) (if_passed x number u d)) e (go b k)
    where
      go : (b : Bool) → (b ≡ true → Alike c d) → Alike (if_passed b number t c) (if_passed b number u d)
      go true k = k refl
      go false k = record { tables = i; answers = refl }

  module _ (t u : Table) (S : Same t u) where
    -- a record of the plain run is sound and on the plain cable
    plain-record : (p : ℕ) → 1 ≤ p → p ≤ n → InPlace plainly (slots_of u) p (record_of u p)
    plain-record p h l = S.there.at p h l

    -- by the nodes of the run with the slot table
    pub by-node : (x : ℕ) → 1 ≤ x → x ≤ n → record_of t x ≡ renamed_plain cable (record_of u (placed cable x))
    by-node x h l = let r = placed-range cable fits x h l in ap (record_of t) (sym (name-placed cable fits x)) ∙ S.its (placed cable x) r.0 r.1

    pub slots_same : slots_of t ≡ slots_of u
    unfolding renamed
    slots_same =
        let r = name-range cable fits 1 (omega arith) some in
        sym (S.here.at (name_of cable 1) r.0 r.1).slots-is ∙ ap (λ (v : Node). v.slots) (S.its 1 (omega arith) some) ∙ (plain-record 1 (omega arith) some).slots-is

    -- ---- what is heard in a slot

    -- the sender, by both names
    pub speaker-range : (1 ≤ speaker u) × (speaker u ≤ n)
    speaker-range = let r = plain-sender cable fits (slots_of u + 1) in let e = speaker-is plainly u some S.there in (omega arith, omega arith)

    pub speaker-same : speaker t ≡ name_of cable (speaker u)
    speaker-same =
        speaker-is cable t some S.here
        ∙ ap (λ (s : ℕ). sender cable (s + 1)) slots_same
        ∙ sender-name cable fits (slots_of u + 1)
        ∙ ap (name_of cable) (sym (speaker-is plainly u some S.there))

    pub speaks : record_of t (speaker t) ≡ renamed_plain cable (record_of u (speaker u))
    speaks = ap (record_of t) speaker-same ∙ S.its (speaker u) speaker-range.0 speaker-range.1

    spoken-same : spoken t ≡ spoken u
    unfolding spoken transmits
    spoken-same =
        let w : Node = record_of u (speaker u) in
        let P = plain-record (speaker u) speaker-range.0 speaker-range.1 in
        ap (λ (v : Node). cond (sends v) (heard_with (bits_sent v) (return_sent v)) unheard) speaks
        ∙ ap (λ (b : Bool). cond b (heard_with (bits_sent (renamed_plain cable w)) (return_sent (renamed_plain cable w))) unheard) (sends-renamed cable fits w)
        ∙ ap₂ (λ (bits : ℕ) (b : Bool). cond (sends w) (heard_with bits b) unheard) (bits-renamed cable fits w P.cable-is P.is-sound) (return-renamed cable fits w)

    pub heard-same : (lost : Bool) (missed p : ℕ) → within n missed ≡ true → 1 ≤ p → p ≤ n → heard_by lost missed t (name_of cable p) ≡ heard_by lost (missed_at cable missed) u p
    unfolding heard_by
    heard-same lost missed p e h l =
        ap₂ (λ (b : Bool) (r : Reading). cond (lost || b) unheard r) (sym (has-missed cable fits missed p e h l)) spoken-same

    -- ---- the tables that the calls leave

    slot-its : (lost : Bool) (missed : ℕ) → within n missed ≡ true → Its (table_after_slot lost missed t) (table_after_slot lost (missed_at cable missed) u)
    slot-its lost missed e p h l =
        let r = name-range cable fits p h l in
        let P = plain-record p h l in
        after-slot-record lost missed t (name_of cable p) r.0 (omega (arith, r.1, S.here.length-is))
        ∙ ap₂ (λ (heard : Reading) (v : Node). (node.step_of heard v).node) (heard-same lost missed p e h l) (S.its p h l)
        ∙ ap (λ (x : Stepped). x.node) (step-renamed cable fits (heard_by lost (missed_at cable missed) u p) (record_of u p) P.cable-is P.is-sound)
        ∙ sym (ap (renamed_plain cable) (after-slot-record lost (missed_at cable missed) u p h (omega (arith, S.there.length-is))))

    -- one record is made anew
    one-its : (a : ℕ) (f : Node → Stepped) → ((v : Node) → v.cable ≡ plainly → sound v ≡ true → f (renamed_plain cable v) ≡ renamed_stepped cable (f v))
        → Its (each (λ i v. cond (eqb i a) (f v).node v) t) (each (λ i v. cond (eqb i (placed cable a)) (f v).node v) u)
    one-its a f k p h l =
        let r = name-range cable fits p h l in
        let P = plain-record p h l in
        let w : Node = record_of u p in
        let e : eqb (name_of cable p) a ≡ eqb p (placed cable a) = ap (eqb (name_of cable p)) (sym (name-placed cable fits a)) ∙ eqb-name cable fits p (placed cable a) in
        record-each (λ i v. cond (eqb i a) (f v).node v) t (name_of cable p) r.0 (omega (arith, r.1, S.here.length-is))
        ∙ ap (λ (v : Node). cond (eqb (name_of cable p) a) (f v).node v) (S.its p h l)
        ∙ cond-by (renamed_plain cable) (eqb p (placed cable a)) (f w).node w e (ap (λ (x : Stepped). x.node) (k w P.cable-is P.is-sound)) refl
        ∙ sym (ap (renamed_plain cable) (record-each (λ i v. cond (eqb i (placed cable a)) (f v).node v) u p h (omega (arith, S.there.length-is))))

    -- ---- the tests of the calls

    pub sounds : table_sound t ≡ table_sound u
    sounds = placed-sound cable (slots_of t) t some S.here ∙ sym (placed-sound plainly (slots_of u) u some S.there)

    pub numbers : (a : ℕ) → node_number (node_count t) a ≡ node_number (node_count u) (placed cable a)
    numbers a =
        ap (λ (m : ℕ). node_number m a) S.here.length-is ∙ sym (placed-number cable fits a) ∙ ap (λ (m : ℕ). node_number m (placed cable a)) (sym S.there.length-is)

    outs : (a : ℕ) → node_number (node_count t) a ≡ true → is_out (record_of t a).state ≡ is_out (record_of u (placed cable a)).state
    unfolding renamed
    outs a e =
        let r = node-number (node_count t) a e in
        ap (λ (v : Node). is_out v.state) (by-node a r.0 (omega (arith, r.1, S.here.length-is)))

    pub withins : (missed : ℕ) → within (node_count t) missed ≡ within (node_count u) (missed_at cable missed)
    withins missed =
        ap (λ (m : ℕ). within m missed) S.here.length-is
        ∙ sym (within-missed cable fits missed)
        ∙ ap (λ (m : ℕ). within m (missed_at cable missed)) (sym S.there.length-is)

    pub call-alike : (c : Call) → Alike (call_of c t) (call_of (call_at cable c) u)
    unfolding call_of call_at slot_of off_of restart_of
    call-alike (slot lost missed room) =
        alike-if (table_sound t) 4 t u _ _ sounds S.its (λ _.
        alike-if (within (node_count t) missed) 3 t u _ _ (withins missed) S.its (λ w.
        alike-if (ltb (slots_of t) limit) 5 t u _ _ (ap (λ (s : ℕ). ltb s limit) slots_same) S.its (λ _.
        alike-if (leb 64 room) 9 t u _ _ refl S.its (λ _.
        record { tables = slot-its lost missed (ap (λ (m : ℕ). within m missed) (sym S.here.length-is) ∙ w); answers = refl }))))
    call-alike (off a) =
        alike-if (table_sound t) 4 t u _ _ sounds S.its (λ _.
        alike-if (node_number (node_count t) a) 3 t u _ _ (numbers a) S.its (λ _.
        record { tables = one-its a node.off_of (off-renamed cable fits); answers = refl }))
    call-alike (restart a) =
        alike-if (table_sound t) 4 t u _ _ sounds S.its (λ _.
        alike-if (node_number (node_count t) a) 3 t u _ _ (numbers a) S.its (λ e.
        alike-if (is_out (record_of t a).state) 11 t u _ _ (outs a e) S.its (λ _.
        record { tables = one-its a node.restart_of (restart-renamed cable fits); answers = refl })))

  -- ---- the runs

  module _ (lent other : Table) (one_each : length lent ≡ n) (one-too : length other ≡ n) where
    start-its : Its (set_up_of cable lent).table (set_up_of plainly other).table
    start-its p h l =
        let r = name-range cable fits p h l in
        start-record cable fits lent one_each (name_of cable p) r.0 r.1
        ∙ starting-renamed cable fits p
        ∙ sym (ap (renamed_plain cable) (start-record plainly (plain_fits cable fits) other one-too p h l))

    run-with : (cs : List Call) → Its (ran cable lent cs) (ran_plain cable other cs) → Same (ran cable lent cs) (ran_plain cable other cs)
    run-with cs i = record {
      here = placed-run cable some (set_up_of cable lent).table (start-placed cable fits lent one_each) cs;
      there = placed-run plainly some (set_up_of plainly other).table (start-placed plainly (plain_fits cable fits) other one-too) (calls_at cable cs);
      its = i;
    }

    run-its : (cs : List Call) → Its (ran cable lent cs) (ran_plain cable other cs)
    unfolding table_after
    run-its [] = start-its
    run-its (c ∷ cs) = (call-alike (ran cable lent cs) (ran_plain cable other cs) (run-with cs (run-its cs)) c).tables

    pub run-same : (cs : List Call) → Same (ran cable lent cs) (ran_plain cable other cs)
    run-same cs = run-with cs (run-its cs)
