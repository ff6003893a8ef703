-- Request i: both directions from the laws of a form (`Form`) and of a conversion between two (`Turns`), so that each direction is an instance of one proof.
-- Assumes nothing.
use Rattle.std.specs.Prelude.{Err, Ok}
use Prim.Native.Nat.{ℕ, ◌≤◌, ◌^◌}
use mathlib.Core.Path.{◌≡◌, refl, sym, ap, ◌∙◌}
use mathlib.Core.List.{List, ◌++◌}
use mathlib.Core.Bool.{Bool, true, false, ◌&&◌}
use native.Mathlib.Omega.{arith}
use lib.ListN.{length, take, drop, length-append, length-drop}
use lib.Seq.{take_at, drop_at}
use lib.Dec.{eqb, leb, ltb}
use borrow.Author.Tests.{eqb-true, eq-eqb, leb-true}
use Rattle.message.specs.cable.Cable.{job_count}
use Rattle.message.specs.Answers.{Reading}
use Rattle.message.specs.declared.Received.{Received}
use Rattle.message.specs.Message.{AreBytes, Outcome, heard, if_written, in_range, jobs_within, length_of, length_two, message_of, read_of, two_sections, write_of, wrote}
use Rattle.message.specs.TwoSections.{read_two_of, write_two_of}
use Rattle.message.proofs.Parts.{length-two}
use Rattle.message.proofs.RoundTrip.{InRange, heard-range, length-message, message-read, passed-all, put_all, put-passed, puts, read-written}
use Rattle.message.proofs.TwoSections.{puts-two, read-two-written, two-range, two-read}
use Rattle.converter.specs.Converter.{job_count_in, read_any_of, to_three_of, to_two_of, written_on}
use Rattle.converter.specs.ThereAndBack.{Conversion, Converts, Leaves, Reader, ThereAndBack, read_three}
use Rattle.converter.proofs.Any.{any-few, standing}

-- ---- a form of messages with no jobs: its reader, its bytes and their number

record Form (read : Reader) (made : ℕ → ℕ → Bool → List ℕ) (size : ℕ → ℕ) : Type 0 where
  long : (k a : ℕ) (b : Bool) → length (made k a b) ≡ size k
  ranged : (k a : ℕ) (b : Bool) (bytes : List ℕ) → read k bytes ≡ heard a b 0 → InRange k 0 a 0
  reads : (k a : ℕ) (b : Bool) → InRange k 0 a 0 → read k (made k a b) ≡ heard a b 0
  is : (k a : ℕ) (b : Bool) (bytes : List ℕ) → AreBytes bytes → read k bytes ≡ heard a b 0 → bytes ≡ made k a b

abbrev pub made_three : ℕ → ℕ → Bool → List ℕ
made_three k a b = message_of k 0 a b 0

form-two : Form read_two_of two_sections (λ k. length_two k)
form-two = record {
  long = length-two;
  ranged = λ k a b bytes e. two-range k a b 0 bytes e;
  reads = read-two-written;
  is = λ k a b bytes h e. two-read k a b 0 bytes h e;
}

form-three : Form read_three made_three (λ k. length_of k)
form-three = record {
  long = λ k a b. length-message k 0 a b 0;
  ranged = λ k a b bytes e. heard-range k 0 a b 0 bytes e;
  reads = λ k a b r. read-written k 0 a b 0 r.low r.high r.few r.within r.counted;
  is = λ k a b bytes h e. message-read k 0 a b 0 bytes h e;
}

-- ---- a conversion from what is read to those bytes

-- what was heard where bytes were written
pub record Heard (read : Reader) (made : ℕ → ℕ → Bool → List ℕ) (size : ℕ → ℕ) (k : ℕ) (bytes out : List ℕ) (count : ℕ) (after : List ℕ) : Type 0 where
  pub a : ℕ
  pub b : Bool
  pub said : read k bytes ≡ heard a b 0
  pub told : size k ≡ count
  pub left : made k a b ++ drop (size k) out ≡ after

pub record Turns (read : Reader) (made : ℕ → ℕ → Bool → List ℕ) (size : ℕ → ℕ) (turn : Conversion) : Type 0 where
  pub gives : (k : ℕ) (bytes out : List ℕ) (count : ℕ) (after : List ℕ) → turn k bytes out ≡ (wrote count, after) → Heard read made size k bytes out count after
  pub takes : (k a : ℕ) (b : Bool) (bytes out : List ℕ) → read k bytes ≡ heard a b 0 → size k ≤ length out → turn k bytes out ≡ (wrote (size k), made k a b ++ drop (size k) out)
  pub leaves : (k : ℕ) (bytes out : List ℕ) → Leaves out (turn k bytes out).0 (turn k bytes out).1

-- ---- there and back

module _ {read_from read_to : Reader} {made_from made_to : ℕ → ℕ → Bool → List ℕ} {size_from size_to : ℕ → ℕ} {there back : Conversion} (from : Form read_from made_from size_from) (to : Form read_to made_to size_to) (on : Turns read_from made_to size_to there) (home : Turns read_to made_from size_from back) where
  -- what was written is read as what was heard
  read-on : (k : ℕ) (bytes out : List ℕ) (count : ℕ) (after : List ℕ) → (h : Heard read_from made_to size_to k bytes out count after) → read_to k (take count after) ≡ heard h.a h.b 0
  read-on k bytes out count after h =
      let front : take count after ≡ made_to k h.a h.b =
      ap (take count) (sym h.left) ∙ take_at (made_to k h.a h.b) (drop (size_to k) out) count (to.long k h.a h.b ∙ h.told) in
      ap (read_to k) front ∙ to.reads k h.a h.b (from.ranged k h.a h.b bytes h.said)

  returned : (k : ℕ) (bytes out : List ℕ) (count : ℕ) (after lent : List ℕ) → AreBytes bytes → there k bytes out ≡ (wrote count, after) → length bytes ≤ length lent
      → back k (take count after) lent ≡ (wrote (length bytes), bytes ++ drop (length bytes) lent)
  returned k bytes out count after lent are e room =
      let h = on.gives k bytes out count after e in
      let same = from.is k h.a h.b bytes are h.said in
      let long : length bytes ≡ size_from k = ap length same ∙ from.long k h.a h.b in
      home.takes k h.a h.b (take count after) lent (read-on k bytes out count after h) (omega arith)
      ∙ ap (λ (l : List ℕ). (wrote (size_from k), l ++ drop (size_from k) lent)) (sym same)
      ∙ ap (λ (n : ℕ). (wrote n, bytes ++ drop n lent)) (sym long)

  turned : Converts read_from read_to size_to there back
  turned = record {
    accepts = λ k a b bytes out e room. ap (λ (o : Outcome). o.0) (on.takes k a b bytes out e room);
    returns = returned;
    same = λ k bytes out count after e. let h = on.gives k bytes out count after e in read-on k bytes out count after h ∙ sym h.said;
    leaves = on.leaves;
  }

-- ---- what comes of a reading

-- what was heard where bytes were written
record WrittenOn (received : Received) (on : ℕ → Bool → Outcome) (count : ℕ) (after : List ℕ) : Type 0 where
  a : ℕ
  b : Bool
  said : received ≡ heard a b received.jobs
  wrote : on a b ≡ (wrote count, after)

written-on : (received : Received) (out : List ℕ) (on : ℕ → Bool → Outcome) (count : ℕ) (after : List ℕ)
    → written_on received.reading out on ≡ (wrote count, after) → WrittenOn received on count after
written-on received out on count after e = go received.reading refl e
  where
    go : (r : Reading) → received.reading ≡ r → written_on r out on ≡ (wrote count, after) → WrittenOn received on count after
    go (Ok h) is w = record { a = h.acknowledgements; b = h.return_bit; said = ap (λ (r : Reading). record { reading = r; jobs = received.jobs }) is; wrote = w }
    go (Err cause) is w =
        let answers = ap (λ (o : Outcome). o.0) w in
        let z : ◌≡◌ {A = ℕ} 0 1 = cc in
        absurd (omega arith)

-- a message with no jobs has no job bit
no-job : (k a j : ℕ) → InRange k 0 a j → j ≡ 0
no-job k a j r = omega (arith, r.counted)

leaves-if : (t : Bool) (number : ℕ) (out : List ℕ) (outcome : Outcome) → (t ≡ true → Leaves out outcome.0 outcome.1)
    → Leaves out (if_written t number out outcome).0 (if_written t number out outcome).1
leaves-if true number out outcome h = h refl
leaves-if false number out outcome h = refl

leaves-made : (made out : List ℕ) (size : ℕ) → length made ≡ size → size ≤ length out → Leaves out (wrote size) (made ++ drop size out)
leaves-made made out size long room =
    (omega (arith, length-append made (drop size out), length-drop size out), drop_at made (drop size out) size long)

leaves-on : (r : Reading) (out : List ℕ) (on : ℕ → Bool → Outcome) → ((a : ℕ) (b : Bool) → Leaves out (on a b).0 (on a b).1)
    → Leaves out (written_on r out on).0 (written_on r out on).1
leaves-on (Ok said) out on h = h said.acknowledgements said.return_bit
leaves-on (Err cause) out on h = refl

-- ---- to three sections

three-leaves : (k a : ℕ) (b : Bool) (out : List ℕ) → Leaves out (write_of k 0 a b 0 out).0 (write_of k 0 a b 0 out).1
unfolding write_of
three-leaves k a b out =
    leaves-if (in_range k) 2 out _ (λ _.
    leaves-if (ltb a (2 ^ k) && jobs_within 0 0) 8 out _ (λ _.
    leaves-if (leb (length_of k) (length out)) 9 out _ (λ t.
    leaves-made (message_of k 0 a b 0) out (length_of k) (length-message k 0 a b 0) (leb-true (length_of k) (length out) t))))

pub turns-three : Turns read_two_of made_three (λ k. length_of k) to_three_of
unfolding to_three_of
turns-three = record { gives = gives; takes = takes; leaves = λ k bytes out. leaves-on (read_two_of k bytes).reading out _ (λ a b. three-leaves k a b out) }
  where
    gives : (k : ℕ) (bytes out : List ℕ) (count : ℕ) (after : List ℕ) → to_three_of k bytes out ≡ (wrote count, after) → Heard read_two_of made_three (λ k. length_of k) k bytes out count after
    gives k bytes out count after e =
        let w = written-on (read_two_of k bytes) out _ count after e in
        let p = put_all k 0 w.a w.b 0 out count after w.wrote in
        let none = no-job k w.a _ (two-range k w.a w.b _ bytes w.said) in
        record { a = w.a; b = w.b; said = w.said ∙ ap (heard w.a w.b) none; told = p.told; left = p.left }

    takes : (k a : ℕ) (b : Bool) (bytes out : List ℕ) → read_two_of k bytes ≡ heard a b 0 → length_of k ≤ length out
        → to_three_of k bytes out ≡ (wrote (length_of k), message_of k 0 a b 0 ++ drop (length_of k) out)
    takes k a b bytes out e room =
        ap (λ (r : Received). written_on r.reading out (λ (x : ℕ) (c : Bool). write_of k 0 x c 0 out)) e ∙ puts k 0 a b 0 out (two-range k a b 0 bytes e) room

-- ---- and back to two

two-leaves : (k a : ℕ) (b : Bool) (out : List ℕ) → Leaves out (write_two_of k a b out).0 (write_two_of k a b out).1
unfolding write_two_of
two-leaves k a b out =
    leaves-if (in_range k) 2 out _ (λ _.
    leaves-if (ltb a (2 ^ k)) 8 out _ (λ _.
    leaves-if (leb (length_two k) (length out)) 9 out _ (λ t.
    leaves-made (two_sections k a b) out (length_two k) (length-two k a b) (leb-true (length_two k) (length out) t))))

-- what the writer of two sections wrote
put_two : (k a : ℕ) (b : Bool) (out : List ℕ) (count : ℕ) (after : List ℕ) → write_two_of k a b out ≡ (wrote count, after)
    → (length_two k ≡ count) × (two_sections k a b ++ drop (length_two k) out ≡ after)
unfolding write_two_of
put_two k a b out count after e =
    let p1 = put-passed (in_range k) 2 out _ count after e in
    let p2 = put-passed (ltb a (2 ^ k)) 8 out _ count after p1.1 in
    let p3 = put-passed (leb (length_two k) (length out)) 9 out _ count after p2.1 in
    let answer : wrote (length_two k) ≡ wrote count = ap (λ (o : Outcome). o.0) p3.1 in
    (cc answer, ap (λ (o : Outcome). o.1) p3.1)

-- with no jobs the message is read as one with no jobs
any_none : (k : ℕ) (bytes : List ℕ) → job_count_in bytes ≡ 0 → read_any_of k bytes ≡ read_of k 0 bytes
any_none k bytes none = sym (any-few k bytes (ap job_count none)) ∙ ap (λ (m : ℕ). read_of k m bytes) none

pub turns-two : Turns read_three two_sections (λ k. length_two k) to_two_of
unfolding to_two_of
turns-two = record {
  gives = gives;
  takes = takes;
  leaves = λ k bytes out. leaves-on (read_any_of k bytes).reading out _ (λ a b. leaves-if (eqb (job_count_in bytes) 0) 15 out _ (λ _. two-leaves k a b out));
}
  where
    gives : (k : ℕ) (bytes out : List ℕ) (count : ℕ) (after : List ℕ) → to_two_of k bytes out ≡ (wrote count, after) → Heard read_three two_sections (λ k. length_two k) k bytes out count after
    gives k bytes out count after e =
        let w = written-on (read_any_of k bytes) out _ count after e in
        let p = put-passed (eqb (job_count_in bytes) 0) 15 out _ count after w.wrote in
        let q = put_two k w.a w.b out count after p.1 in
        let said = sym (any_none k bytes (eqb-true (job_count_in bytes) 0 p.0)) ∙ w.said in
        let none = no-job k w.a _ (heard-range k 0 w.a w.b _ bytes said) in
        record { a = w.a; b = w.b; said = said ∙ ap (heard w.a w.b) none; told = q.0; left = q.1 }

    takes : (k a : ℕ) (b : Bool) (bytes out : List ℕ) → read_of k 0 bytes ≡ heard a b 0 → length_two k ≤ length out
        → to_two_of k bytes out ≡ (wrote (length_two k), two_sections k a b ++ drop (length_two k) out)
    takes k a b bytes out e room =
        let p = passed-all k 0 a b 0 bytes e in
        let none : job_count_in bytes ≡ 0 = sym (standing k bytes p.sized) ∙ p.count-three in
        ap (λ (r : Received). written_on r.reading out (λ (x : ℕ) (c : Bool). if_written (eqb (job_count_in bytes) 0) 15 out (write_two_of k x c out))) (any_none k bytes none ∙ e)
        ∙ ap (λ (t : Bool). if_written t 15 out (write_two_of k a b out)) (eq-eqb (job_count_in bytes) 0 none)
        ∙ puts-two k a b out (heard-range k 0 a b 0 bytes e) room

pub there_and_back : ThereAndBack
there_and_back = record { from-two = turned form-two form-three turns-three turns-two; from-three = turned form-three form-two turns-two turns-three }
