-- At a node: a message that no new check refuses is read as the one without its last section is, the calls leave and answer the same but for m, and what is sent is the same but for the section (specs/Without). Assumes nothing.
use Prim.Native.Nat.{ℕ, ◌-◌, ◌^◌}
use mathlib.Core.Path.{◌≡◌, refl, sym, ap, ap₂, ◌∙◌}
use mathlib.Core.Bool.{Bool, true, false, cond, not, ◌&&◌}
use mathlib.Core.List.{List, ◌++◌}
use native.Mathlib.Omega.{arith}
use native.Mathlib.Decide.{ℕ_discrete}
use lib.Dec.{eqb, leb, ltb}
use lib.ListN.{length, get_or, take, drop, length-drop, take-append-drop}
use lib.Pow.{pow_pos}
use lib.Seq.{length-take-le, take_at, take-append-le, drop-append-le}
use borrow.Author.Tests.{eq-eqb, ne_eqb, eqb-true, le-leb, lt-ltb}
use Rattle.ledger.proofs.nodeset.Tests.{both, all, chosen, or_else, or_right}
use Rattle.ledger.specs.cable.declared.Choices.{Choices}
use Rattle.ledger.specs.cable.declared.Cable.{Cable}
use Rattle.ledger.specs.cable.Cable.{cable_with, job_count, node_number, fault_of}
use Rattle.ledger.specs.node_reports.Reports.{Counts, counts_within}
use Rattle.ledger.specs.message.Answers.{Reading}
use Rattle.ledger.specs.message.declared.Received.{Received}
use Rattle.ledger.specs.message.Message.{Outcome, bits_in, if_read, if_written, in_range, job_section, jobs_within, length_of, length_one, length_two, message_of, part_one, part_three, part_two, read_of, said_by, section_in, two_sections, write_of, wrote}
use Rattle.ledger.specs.message.TwoSections.{absent, read_two_of}
use Rattle.ledger.proofs.message.Parts.{length-two}
use Rattle.ledger.proofs.message.RoundTrip.{length-message, passed-all, put_all}
use Rattle.ledger.specs.node_record.declared.Node.{Node}
use Rattle.ledger.specs.node_record.States.{is_member}
use Rattle.ledger.specs.node_record.Soundness.{limit}
use Rattle.ledger.specs.ring.Ring.{sender}
use Rattle.ledger.specs.node_changes.Changes.{starting}
use Rattle.ledger.specs.node_sending.Sending.{bits_sent, return_sent, jobs_sent}
use Rattle.ledger.specs.node.Calls.{Counted, done, refused, no_node, set_up_of, start_of, step_of, counted_of, slot_of, its_turn, unsent, send_of}
use Rattle.ledger.proofs.node.Sent.{sent-by}
use Rattle.without_jobs.specs.Without.{without_jobs, choices_without, forget, forget_stepped, without_section, section_right, SameAtNode}
use Rattle.without_jobs.proofs.Records.{answers-alike, may-same, fault-same, record-sound, step_same, off-same, restart-same, bits-sent}
use Rattle.ledger.specs.message.Answers.{heard_with}

-- ---- one test after the other

-- what is heard of two messages is the same where the same test comes first
reading-if : (t : Bool) {u : Bool} (number : ℕ) (x y : Received) → t ≡ u → (t ≡ true → x.reading ≡ y.reading) → (if_read t number x).reading ≡ (if_read u number y).reading
reading-if t number x y e h = go t h ∙ ap (λ (b : Bool). (if_read b number y).reading) e
  where
    go : (b : Bool) → (b ≡ true → x.reading ≡ y.reading) → (if_read b number x).reading ≡ (if_read b number y).reading
    go true h = h refl
    go false h = refl

-- a right section says nothing of what is heard
said_same : (k m : ℕ) (one two three : List ℕ) → (section_in m three).counted ≡ true → (section_in m three).clear ≡ true
    → (said_by (section_in k one) (section_in 1 two) (section_in m three)).reading ≡ (said_by (section_in k one) (section_in 1 two) absent).reading
unfolding said_by
said_same k m one two three counted clear =
    reading-if _ 7 _ _ (ap (λ (b : Bool). (section_in k one).counted && ((section_in 1 two).counted && b)) counted) (λ _.
    reading-if _ 8 _ _ (ap (λ (b : Bool). (section_in k one).clear && ((section_in 1 two).clear && b)) clear) (λ _. refl))

-- ---- the message without its last two bytes

length_without : (bytes : List ℕ) → length (without_section bytes) ≡ length bytes - 2
length_without bytes = length-take-le (length bytes - 2) bytes (omega arith)

length-test : (k : ℕ) (bytes : List ℕ) → eqb (length bytes) (length_of k) ≡ eqb (length (without_section bytes)) (length_two k)
length-test k bytes = go (ℕ_discrete (length bytes) (length_of k))
  where
    go : Dec (length bytes ≡ length_of k) → eqb (length bytes) (length_of k) ≡ eqb (length (without_section bytes)) (length_two k)
    go (yes e) = eq-eqb (length bytes) (length_of k) e ∙ sym (eq-eqb (length (without_section bytes)) (length_two k) (omega (arith, length_without bytes)))
    go (no e) = ne_eqb (length bytes) (length_of k) e ∙ sym (ne_eqb (length (without_section bytes)) (length_two k) (λ f. e (omega (arith, length_without bytes))))

module _ (k : ℕ) (bytes : List ℕ) (long : length bytes ≡ length_of k) where
  -- the bytes that are left away
  rest : List ℕ
  rest = drop (length bytes - 2) bytes

  whole : without_section bytes ++ rest ≡ bytes
  unfolding rest
  whole = take-append-drop (length bytes - 2) bytes

  one-stays : part_one k bytes ≡ part_one k (without_section bytes)
  one-stays = ap (part_one k) (sym whole) ∙ take-append-le (length_one k) (without_section bytes) rest (omega (arith, length_without bytes))

  two-stays : part_two k bytes ≡ part_two k (without_section bytes)
  two-stays =
      ap (part_two k) (sym whole)
      ∙ ap (take 2) (drop-append-le (length_one k) (without_section bytes) rest (omega (arith, length_without bytes)))
      ∙ take-append-le 2 (drop (length_one k) (without_section bytes)) rest (omega (arith, length_without bytes, length-drop (length_one k) (without_section bytes)))

-- ---- reading

read_same : (k m : ℕ) (bytes : List ℕ) → section_right k m bytes ≡ true → (read_of k m bytes).reading ≡ (read_two_of k (without_section bytes)).reading
unfolding read_of read_two_of
read_same k m bytes e =
    let r = both (job_count m) _ e in
    let three = section_in m (part_three k bytes) in
    let two = without_section bytes in
    let said = said_by (section_in k (part_one k bytes)) (section_in 1 (part_two k bytes)) three in
    let said' = said_by (section_in k (part_one k two)) (section_in 1 (part_two k two)) absent in
    let sized = if_read (eqb (length bytes) (length_of k)) 6 said in
    reading-if (in_range k) 2 (if_read (job_count m) 14 sized) (if_read (eqb (length two) (length_two k)) 6 said') refl (λ _.
    ap (λ (b : Bool). (if_read b 14 sized).reading) r.0
    ∙ reading-if (eqb (length bytes) (length_of k)) 6 said said' (length-test k bytes) (λ t.
    let long = eqb-true (length bytes) (length_of k) t in
    let right = both three.counted three.clear (or_else (not (eqb (length bytes) (length_of k))) _ r.1 (ap not t)) in
    ap₂ (λ (a b : List ℕ). (said_by (section_in k a) (section_in 1 b) three).reading) (one-stays k bytes long) (two-stays k bytes long)
    ∙ said_same k m (part_one k two) (part_two k two) (part_three k bytes) right.0 right.1))

heard-right : (k m : ℕ) (bytes : List ℕ) (a : ℕ) (b : Bool) → (read_of k m bytes).reading ≡ heard_with a b → section_right k m bytes ≡ true
heard-right k m bytes a b e =
    let p = passed-all k m a b (read_of k m bytes).jobs bytes (ap (λ (r : Reading). record { reading = r; jobs = (read_of k m bytes).jobs }) e) in
    all (le-leb m 8 p.few)
    (or_right (not (eqb (length bytes) (length_of k))) _ (all (eq-eqb (get_or (part_three k bytes) 0 0) m p.count-three) (lt-ltb (bits_in (part_three k bytes)) (2 ^ m) p.clear-three)))

-- ---- the slot of a node

slots_same : (bytes : List ℕ) (v : Node) (counts : Counts) → section_right v.cable.k v.cable.m bytes ≡ true → counts_within v.slots counts ≡ true
    → forget_stepped (slot_of bytes v counts).stepped ≡ step_of (read_two_of v.cable.k (without_section bytes)).reading (forget v)
unfolding counted_of
slots_same bytes v counts right within =
    let heard = (read_of v.cable.k v.cable.m bytes).reading in
    ap (λ (c : Counted). forget_stepped c.stepped) (chosen _ _ within)
    ∙ sym (step_same v (both (job_count v.cable.m) _ right).0 heard)
    ∙ ap (λ (r : Reading). step_of r (forget v)) (read_same v.cable.k v.cable.m bytes right)

-- ---- set-up

module _ (cable : Cable) (few : job_count cable.m ≡ true) (places : ℕ) where
  set-up-same : (own : ℕ) → set_up_of (without_jobs cable) places own ≡ forget_stepped (set_up_of cable places own)
  unfolding forget set_up_of
  set-up-same own =
      answers-alike (cond (node_number cable.n own) (done (starting cable own)) (refused 3 no_node)) (refused (fault_of cable places) no_node) (may-same cable few places)
      (answers-alike {b = node_number cable.n own} (done (starting cable own)) (refused 3 no_node) refl refl refl)
      (ap (λ (number : ℕ). refused number no_node) (fault-same cable few places))

set-ups-same : (choices : Choices) (slots : List ℕ) (own : ℕ) → job_count choices.m ≡ true → forget_stepped (start_of choices slots own).stepped ≡ (start_of (choices_without choices) slots own).stepped
set-ups-same choices slots own few = sym (set-up-same (cable_with choices slots) few (length slots) own)

-- ---- the answer of sending

-- of two outcomes with the same answers, by the same test
answer-if : {b b' : Bool} (x y x' y' : Outcome) → b ≡ b' → x.0 ≡ x'.0 → y.0 ≡ y'.0 → (cond b x y).0 ≡ (cond b' x' y').0
answer-if {b = b} x y x' y' e p q = go b ∙ ap (λ (c : Bool). (cond c x' y').0) e
  where
    go : (c : Bool) → (cond c x y).0 ≡ (cond c x' y').0
    go true = p
    go false = q

answer-tested : {b b' : Bool} (number : ℕ) (out : List ℕ) (x x' : Outcome) → b ≡ b' → x.0 ≡ x'.0 → (if_written b number out x).0 ≡ (if_written b' number out x').0
answer-tested {b = b} number out x x' e p = go b ∙ ap (λ (c : Bool). (if_written c number out x').0) e
  where
    go : (c : Bool) → (if_written c number out x).0 ≡ (if_written c number out x').0
    go true = p
    go false = refl

writes-alike : (k m a : ℕ) (b : Bool) (jobs : ℕ) (out : List ℕ) → job_count m ≡ true → jobs_within m jobs ≡ true → (write_of k m a b jobs out).0 ≡ (write_of k 0 a b 0 out).0
unfolding write_of
writes-alike k m a b jobs out few within =
    let long = leb (length_of k) (length out) in
    let x = if_written long 9 out (wrote (length_of k), message_of k m a b jobs ++ drop (length_of k) out) in
    let x' = if_written long 9 out (wrote (length_of k), message_of k 0 a b 0 ++ drop (length_of k) out) in
    answer-tested {b = in_range k} 2 out _ _ refl
    (answer-tested 14 out _ (if_written (ltb a (2 ^ k) && true) 8 out x') few
    (answer-tested 8 out x x' (ap (λ (c : Bool). ltb a (2 ^ k) && c) within)
    (answer-tested {b = long} 9 out _ _ refl refl)))

-- no job past m is sent, where none is given
jobs-within : (m jobs : ℕ) (member : Bool) → jobs_within m jobs ≡ true → jobs_within m (cond member jobs 0) ≡ true
jobs-within m jobs true h = h
jobs-within m jobs false h = lt-ltb 0 (2 ^ m) (pow_pos m)

no-jobs : (member : Bool) → ◌≡◌ {A = ℕ} 0 (cond member 0 0)
no-jobs true = refl
no-jobs false = refl

sends-alike : (v : Node) (jobs : ℕ) (out : List ℕ) → job_count v.cable.m ≡ true → jobs_within v.cable.m jobs ≡ true → (send_of v jobs out).0 ≡ (send_of (forget v) 0 out).0
unfolding forget send_of sender
sends-alike v jobs out few within =
    let k = v.cable.k in
    let written =
    writes-alike k v.cable.m (bits_sent v) (return_sent v) (jobs_sent jobs v) out few (jobs-within v.cable.m jobs (is_member v.state) within)
    ∙ ap₂ (λ (bits j : ℕ). (write_of k 0 bits (return_sent v) j out).0) (sym (bits-sent v)) (no-jobs (is_member v.state)) in
    answer-if _ _ _ _ (sym (record-sound v few))
    (answer-if {b = leb limit v.slots} _ _ _ _ refl refl
    (answer-if _ _ (cond (its_turn (forget v)) (write_of k 0 (bits_sent (forget v)) (return_sent v) (jobs_sent 0 v) out) (unsent 10 out)) (unsent 8 out) within
    (answer-if {b = its_turn v} _ _ _ _ refl written refl)
    refl))
    refl

-- ---- the bytes that are sent

sends-same : (v : Node) (jobs : ℕ) (out : List ℕ) (count : ℕ) (after : List ℕ) → send_of v jobs out ≡ (wrote count, after)
    → without_section (take count after) ≡ two_sections v.cable.k (bits_sent (forget v)) (return_sent (forget v))
unfolding forget message_of
sends-same v jobs out count after e =
    let k = v.cable.k in
    let m = v.cable.m in
    let a = bits_sent v in
    let b = return_sent v in
    let j = jobs_sent jobs v in
    let p = put_all k m a b j out count after (sent-by v jobs out count after e).1 in
    let long = length-message k m a b j in
    let sent : take count after ≡ message_of k m a b j = ap (take count) (sym p.left) ∙ take_at (message_of k m a b j) (drop (length_of k) out) count (long ∙ p.told) in
    ap without_section sent
    ∙ take_at (two_sections k a b) (job_section m j) (length (message_of k m a b j) - 2) (omega (arith, length-two k a b, long))
    ∙ ap (λ (bits : ℕ). two_sections k bits b) (sym (bits-sent v))

pub same-at-node : SameAtNode
same-at-node = record {
  reads = read_same;
  heard = heard-right;
  slots = slots_same;
  set-ups = set-ups-same;
  offs = λ v few. sym (off-same v few);
  restarts = λ v few. sym (restart-same v few);
  sends-alike = sends-alike;
  sends = sends-same;
}
