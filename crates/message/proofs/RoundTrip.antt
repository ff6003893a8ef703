-- What is written is read back, and each readable message is the one that is written for what it reads as: for every k from 2 to 31 and m from 0 to 8 at once,
-- from one law for any section (`found`, `rebuilt`). Assumes nothing.
use Rattle.std.specs.Prelude.{Ok, Err}
use Prim.Native.Nat.{ℕ, ◌+◌, ◌*◌, ◌%◌, ◌^◌, ◌≤◌, ◌<◌}
use mathlib.Core.Path.{◌≡◌, refl, sym, ap, ap₂, ◌∙◌}
use mathlib.Core.List.{List, [], ◌∷◌, ◌++◌, append_assoc}
use mathlib.Core.Bool.{Bool, true, false, cond, ◌&&◌}
use native.Mathlib.Omega.{arith}
use native.Mathlib.Nat.{lt_of_lt_of_le, min-le_left, min-le_right}
use lib.ListN.{length, get_or, take, drop, length-append, length-drop, length-take, take-append-drop}
use lib.Seq.{length-take-le, take_all, take_at, drop_at, drop-drop, get_or-take}
use lib.Dec.{eqb, ltb, leb}
use lib.Pow.{pow_mono}
use borrow.Author.Tests.{eq-eqb, lt-ltb, ltb-true, le-leb, leb-true, eqb-true, eqb-false}
use Rattle.cable.specs.Cable.{job_count}
use Rattle.message.specs.declared.Received.{Received}
use Rattle.message.specs.declared.Section.{Section}
use Rattle.message.specs.Message.{AreBytes, Outcome, acknowledgement_section, bits_in, bytes_for, bytes_of, heard, if_read, if_written, in_range, job_section, length_of, length_one, length_two, little, message_of, part_one, part_three, part_two, read_of, return_section, said_by, two_sections, section_in, section_of, write_of}
use Rattle.message.proofs.Bytes.{bytes-tail, bytes_drop, little-bytes_of, bytes_of-little}
use Rattle.message.proofs.Parts.{length-section, length-two}
use Rattle.message.proofs.Tests.{both, bit-small, in-range}
use Rattle.message.specs.Answers.{Reading, heard_with}

-- ---- one section

-- A section that is written holds its count, no spare bit and its bits.
pub found : (count size bits : ℕ) → bits < 2 ^ count → count ≤ 8 * size
    → section_in count (section_of count size bits) ≡ record { counted = true; clear = true; bits = bits }
found count size bits h fits =
    let back : little (bytes_of size bits) ≡ bits = little-bytes_of size bits (lt_of_lt_of_le h (pow_mono fits)) in
    simp (back, eq-eqb count count refl, lt-ltb bits (2 ^ count) h)

-- A section that holds its count is the one that is written for its bits.
pub rebuilt : (count size : ℕ) (part : List ℕ) → length part ≡ 1 + size → AreBytes part → get_or part 0 0 ≡ count → part ≡ section_of count size (bits_in part)
rebuilt count size [] long h is = absurd (omega arith)
rebuilt count size (x ∷ rest) long h is =
    let n : length rest ≡ size = omega arith in
    ap (λ (y : ℕ). y ∷ rest) is
    ∙ ap (λ (l : List ℕ). count ∷ l) (sym (bytes_of-little rest (bytes-tail x rest h)) ∙ ap (λ (m : ℕ). bytes_of m (little rest)) n)

-- ---- the message

pub length-message : (k m a : ℕ) (b : Bool) (j : ℕ) → length (message_of k m a b j) ≡ length_of k
unfolding message_of
length-message k m a b j = omega (arith, length-append (two_sections k a b) (job_section m j), length-two k a b, length-section m 1 j)

first_part : (k m a : ℕ) (b : Bool) (j : ℕ) → part_one k (message_of k m a b j) ≡ acknowledgement_section k a
unfolding message_of two_sections
first_part k m a b j =
    ap (take (length_one k)) (append_assoc (acknowledgement_section k a) (return_section b) (job_section m j))
    ∙ take_at (acknowledgement_section k a) (return_section b ++ job_section m j) (length_one k) (length-section k (bytes_for k) a)

second-part : (k m a : ℕ) (b : Bool) (j : ℕ) → part_two k (message_of k m a b j) ≡ return_section b
unfolding message_of two_sections bytes_of
second-part k m a b j =
    ap (λ (l : List ℕ). take 2 (drop (length_one k) l)) (append_assoc (acknowledgement_section k a) (return_section b) (job_section m j))
    ∙ ap (take 2) (drop_at (acknowledgement_section k a) (return_section b ++ job_section m j) (length_one k) (length-section k (bytes_for k) a))

third-part : (k m a : ℕ) (b : Bool) (j : ℕ) → part_three k (message_of k m a b j) ≡ job_section m j
unfolding message_of bytes_of
third-part k m a b j = ap (take 2) (drop_at (two_sections k a b) (job_section m j) (length_two k) (length-two k a b))

bit-back : (b : Bool) → eqb (cond b 1 0 % 2) 1 ≡ b
bit-back true = refl
bit-back false = refl

-- a section without fault that holds the bits
abbrev right : ℕ → Section
right bits = record { counted = true; clear = true; bits = bits }

said-right : (a : ℕ) (b : Bool) (j : ℕ) → j < 256 → said_by (right a) (right (cond b 1 0)) (right j) ≡ heard a b j
unfolding said_by
said-right a b j h = let whole : j % 256 ≡ j = omega arith in ap₂ (heard a) (bit-back b) whole

-- m jobs fit a byte
pub jobs-fit : (m j : ℕ) → m ≤ 8 → j < 2 ^ m → j < 256
jobs-fit m j h l = lt_of_lt_of_le l (pow_mono h)

-- What is written is read back.
pub read-written : (k m a : ℕ) (b : Bool) (j : ℕ) → 2 ≤ k → k ≤ 31 → m ≤ 8 → a < 2 ^ k → j < 2 ^ m → read_of k m (message_of k m a b j) ≡ heard a b j
unfolding read_of
read-written k m a b j low high few h l =
    let bytes = message_of k m a b j in
    let one : section_in k (part_one k bytes) ≡ right a = ap (section_in k) (first_part k m a b j) ∙ found k (bytes_for k) a h (omega arith) in
    let two : section_in 1 (part_two k bytes) ≡ right (cond b 1 0) = ap (section_in 1) (second-part k m a b j) ∙ found 1 1 (cond b 1 0) (bit-small b) (omega arith) in
    let three : section_in m (part_three k bytes) ≡ right j = ap (section_in m) (third-part k m a b j) ∙ found m 1 j l (omega arith) in
    simp (le-leb 2 k low, le-leb k 31 high, le-leb m 8 few, eq-eqb (length bytes) (length_of k) (length-message k m a b j))
    (ap (λ (s : Section). said_by s (section_in 1 (part_two k bytes)) (section_in m (part_three k bytes))) one
    ∙ ap (λ (s : Section). said_by (right a) s (section_in m (part_three k bytes))) two
    ∙ ap (said_by (right a) (right (cond b 1 0))) three
    ∙ said-right a b j (jobs-fit m j few l))

-- what passes a test of the reader
passed : (t : Bool) (number : ℕ) (answer : Received) (a : ℕ) (b : Bool) (j : ℕ) → if_read t number answer ≡ heard a b j → (t ≡ true) × (answer ≡ heard a b j)
passed true number answer a b j e = (refl, e)
passed false number answer a b j e =
    let readings = ap (λ (r : Received). r.reading) e in
    let z : ◌≡◌ {A = ℕ} 0 1 = cc in
    absurd (omega arith)

-- the tests that a readable message passes
pub record Passed (k m : ℕ) (bytes : List ℕ) (a : ℕ) (b : Bool) (j : ℕ) : Type 0 where
  pub low : 2 ≤ k
  pub high : k ≤ 31
  pub few : m ≤ 8
  pub sized : length bytes ≡ length_of k
  pub count-one : get_or (part_one k bytes) 0 0 ≡ k
  pub count-two : get_or (part_two k bytes) 0 0 ≡ 1
  pub count-three : get_or (part_three k bytes) 0 0 ≡ m
  pub clear-one : bits_in (part_one k bytes) < 2 ^ k
  pub clear-two : bits_in (part_two k bytes) < 2 ^ 1
  pub clear-three : bits_in (part_three k bytes) < 2 ^ m
  pub one : bits_in (part_one k bytes) ≡ a
  pub two : eqb (bits_in (part_two k bytes) % 2) 1 ≡ b
  pub three : bits_in (part_three k bytes) ≡ j

-- what a reading says, of none where nothing is heard
abbrev pub bits_of : Reading → ℕ
bits_of (Ok h) = h.acknowledgements
bits_of (Err c) = 0

abbrev pub bit_of : Reading → Bool
bit_of (Ok h) = h.return_bit
bit_of (Err c) = false

pub passed-all : (k m a : ℕ) (b : Bool) (j : ℕ) (bytes : List ℕ) → read_of k m bytes ≡ heard a b j → Passed k m bytes a b j
unfolding read_of said_by
passed-all k m a b j bytes e =
    let p1 = passed _ _ _ a b j e in
    let p2 = passed _ _ _ a b j p1.1 in
    let p3 = passed _ _ _ a b j p2.1 in
    let p4 = passed _ _ _ a b j p3.1 in
    let p5 = passed _ _ _ a b j p4.1 in
    let r = in-range k p1.0 in
    let few = leb-true m 8 p2.0 in
    let c₁ = both (eqb (get_or (part_one k bytes) 0 0) k) _ p4.0 in
    let c₂ = both (eqb (get_or (part_two k bytes) 0 0) 1) _ c₁.1 in
    let d₁ = both (ltb (bits_in (part_one k bytes)) (2 ^ k)) _ p5.0 in
    let d₂ = both (ltb (bits_in (part_two k bytes)) (2 ^ 1)) _ d₁.1 in
    let last : heard (bits_in (part_one k bytes)) (eqb (bits_in (part_two k bytes) % 2) 1) (bits_in (part_three k bytes) % 256) ≡ heard a b j = p5.1 in
    let said : heard_with (bits_in (part_one k bytes)) (eqb (bits_in (part_two k bytes) % 2) 1) ≡ heard_with a b = ap (λ (r : Received). r.reading) last in
    let jobs : bits_in (part_three k bytes) % 256 ≡ j = ap (λ (r : Received). r.jobs) last in
    let clear = ltb-true (bits_in (part_three k bytes)) (2 ^ m) d₂.1 in
    let byte = jobs-fit m (bits_in (part_three k bytes)) few clear in
    record {
      low = r.0;
      high = r.1;
      few = few;
      sized = eqb-true (length bytes) (length_of k) p3.0;
      count-one = eqb-true (get_or (part_one k bytes) 0 0) k c₁.0;
      count-two = eqb-true (get_or (part_two k bytes) 0 0) 1 c₂.0;
      count-three = eqb-true (get_or (part_three k bytes) 0 0) m c₂.1;
      clear-one = ltb-true (bits_in (part_one k bytes)) (2 ^ k) d₁.0;
      clear-two = ltb-true (bits_in (part_two k bytes)) (2 ^ 1) d₂.0;
      clear-three = clear;
      one = ap bits_of said;
      two = ap bit_of said;
      three = omega arith;
    }

-- What is heard is in range: k is 2 to 31, m is 0 to 8, no acknowledgement is past k and no job past m.
pub record InRange (k m a j : ℕ) : Type 0 where
  pub low : 2 ≤ k
  pub high : k ≤ 31
  pub few : m ≤ 8
  pub within : a < 2 ^ k
  pub counted : j < 2 ^ m

pub heard-range : (k m a : ℕ) (b : Bool) (j : ℕ) (bytes : List ℕ) → read_of k m bytes ≡ heard a b j → InRange k m a j
heard-range k m a b j bytes e =
    let p = passed-all k m a b j bytes e in
    record { low = p.low; high = p.high; few = p.few; within = rw (sym p.one) p.clear-one; counted = rw (sym p.three) p.clear-three }

pub bytes_take : (n : ℕ) (l : List ℕ) → AreBytes l → AreBytes (take n l)
bytes_take n l h i below =
    let short = length-take n l in
    let near : i < n = omega (arith, min-le_left n (length l)) in
    let inside : i < length l = omega (arith, min-le_right n (length l)) in
    rw get_or-take (h i inside)

bit_is : (x : ℕ) (b : Bool) → x < 2 ^ 1 → eqb (x % 2) 1 ≡ b → x ≡ cond b 1 0
bit_is x true small e = let o : x % 2 ≡ 1 = eqb-true (x % 2) 1 e in omega arith
bit_is x false small e = let o : x % 2 ≡ 1 → ⊥ = eqb-false (x % 2) 1 e in omega arith

-- the sections of a readable message are those that are written
one-is : (k m a : ℕ) (b : Bool) (j : ℕ) (bytes : List ℕ) → AreBytes bytes → Passed k m bytes a b j → part_one k bytes ≡ acknowledgement_section k a
one-is k m a b j bytes h p =
    let long = length-take-le (length_one k) bytes (omega (arith, p.sized)) in
    rebuilt k (bytes_for k) (part_one k bytes) long (bytes_take (length_one k) bytes h) p.count-one ∙ ap (section_of k (bytes_for k)) p.one

-- a section of one byte that holds its count
byte-is : (count start : ℕ) (bytes : List ℕ) → AreBytes bytes → start + 2 ≤ length bytes → get_or (take 2 (drop start bytes)) 0 0 ≡ count
    → take 2 (drop start bytes) ≡ section_of count 1 (bits_in (take 2 (drop start bytes)))
byte-is count start bytes h room is =
    let long = length-take-le 2 (drop start bytes) (omega (arith, length-drop start bytes)) in
    rebuilt count 1 (take 2 (drop start bytes)) long (bytes_take 2 (drop start bytes) (bytes_drop start bytes h)) is

two_is : (k m a : ℕ) (b : Bool) (j : ℕ) (bytes : List ℕ) → AreBytes bytes → Passed k m bytes a b j → part_two k bytes ≡ return_section b
two_is k m a b j bytes h p =
    byte-is 1 (length_one k) bytes h (omega (arith, p.sized)) p.count-two ∙ ap (section_of 1 1) (bit_is (bits_in (part_two k bytes)) b p.clear-two p.two)

three-is : (k m a : ℕ) (b : Bool) (j : ℕ) (bytes : List ℕ) → AreBytes bytes → Passed k m bytes a b j → drop (length_two k) bytes ≡ job_section m j
three-is k m a b j bytes h p =
    let rest = drop (length_two k) bytes in
    let all : take 2 rest ≡ rest = take_all 2 rest (omega (arith, length-drop (length_two k) bytes, p.sized)) in
    sym all ∙ byte-is m (length_two k) bytes h (omega (arith, p.sized)) p.count-three ∙ ap (section_of m 1) p.three

-- Readable bytes are the message of what they read as.
pub message-read : (k m a : ℕ) (b : Bool) (j : ℕ) (bytes : List ℕ) → AreBytes bytes → read_of k m bytes ≡ heard a b j → bytes ≡ message_of k m a b j
unfolding message_of two_sections
message-read k m a b j bytes h e =
    let p = passed-all k m a b j bytes e in
    sym (take-append-drop (length_one k) bytes)
    ∙ ap (λ (l : List ℕ). l ++ drop (length_one k) bytes) (one-is k m a b j bytes h p)
    ∙ ap (λ (l : List ℕ). acknowledgement_section k a ++ l) (sym (take-append-drop 2 (drop (length_one k) bytes)))
    ∙ ap (λ (l : List ℕ). acknowledgement_section k a ++ (l ++ drop 2 (drop (length_one k) bytes))) (two_is k m a b j bytes h p)
    ∙ ap (λ (l : List ℕ). acknowledgement_section k a ++ (return_section b ++ l)) (drop-drop 2 (length_one k) bytes ∙ three-is k m a b j bytes h p)
    ∙ sym (append_assoc (acknowledgement_section k a) (return_section b) (job_section m j))

-- ---- what the writer does

-- what passes a test of the writer
pub put-passed : (t : Bool) (number : ℕ) (out : List ℕ) (outcome : Outcome) (n : ℕ) (after : List ℕ)
    → if_written t number out outcome ≡ (Ok n, after) → (t ≡ true) × (outcome ≡ (Ok n, after))
put-passed true number out outcome n after e = (refl, e)
put-passed false number out outcome n after e =
    let answers = ap (λ (o : Outcome). o.0) e in
    let z : ◌≡◌ {A = ℕ} 0 1 = cc in
    absurd (omega arith)

-- what holds where bytes were written
pub record Put (k m a : ℕ) (b : Bool) (j : ℕ) (out : List ℕ) (n : ℕ) (after : List ℕ) : Type 0 where
  pub ranged : InRange k m a j
  pub told : length_of k ≡ n
  pub left : message_of k m a b j ++ drop (length_of k) out ≡ after

pub put_all : (k m a : ℕ) (b : Bool) (j : ℕ) (out : List ℕ) (n : ℕ) (after : List ℕ) → write_of k m a b j out ≡ (Ok n, after) → Put k m a b j out n after
unfolding write_of
put_all k m a b j out n after e =
    let p1 = put-passed (in_range k) 2 out _ n after e in
    let p2 = put-passed (job_count m) 14 out _ n after p1.1 in
    let p3 = put-passed (ltb a (2 ^ k) && ltb j (2 ^ m)) 8 out _ n after p2.1 in
    let p4 = put-passed (leb (length_of k) (length out)) 9 out _ n after p3.1 in
    let r = in-range k p1.0 in
    let w = both (ltb a (2 ^ k)) (ltb j (2 ^ m)) p3.0 in
    let answer : Ok (length_of k) ≡ Ok n = ap (λ (o : Outcome). o.0) p4.1 in
    record {
      ranged = record { low = r.0; high = r.1; few = leb-true m 8 p2.0; within = ltb-true a (2 ^ k) w.0; counted = ltb-true j (2 ^ m) w.1 };
      told = cc answer;
      left = ap (λ (o : Outcome). o.1) p4.1;
    }

-- The writer is not refused where all is in range and there is room.
pub puts : (k m a : ℕ) (b : Bool) (j : ℕ) (out : List ℕ) → InRange k m a j → length_of k ≤ length out
    → write_of k m a b j out ≡ (Ok (length_of k), message_of k m a b j ++ drop (length_of k) out)
unfolding write_of
puts k m a b j out r room =
    simp (le-leb 2 k r.low, le-leb k 31 r.high, le-leb m 8 r.few, lt-ltb a (2 ^ k) r.within, lt-ltb j (2 ^ m) r.counted, le-leb (length_of k) (length out) room)

-- Each readable message is the one that the writer writes for what it reads as, where there is room; what stood after it stands there still.
pub written_read : (k m a : ℕ) (b : Bool) (j : ℕ) (bytes out : List ℕ) → AreBytes bytes → read_of k m bytes ≡ heard a b j → length bytes ≤ length out
    → write_of k m a b j out ≡ (Ok (length bytes), bytes ++ drop (length bytes) out)
written_read k m a b j bytes out h e room =
    let long : length bytes ≡ length_of k = (passed-all k m a b j bytes e).sized in
    let is = message-read k m a b j bytes h e in
    let wrote = puts k m a b j out (heard-range k m a b j bytes e) (omega arith) in
    cc

-- What the writer leaves in the lent bytes is read back.
pub read_back : (k m a : ℕ) (b : Bool) (j : ℕ) (out : List ℕ) (n : ℕ) (after : List ℕ) → write_of k m a b j out ≡ (Ok n, after) → read_of k m (take n after) ≡ heard a b j
read_back k m a b j out n after e =
    let p = put_all k m a b j out n after e in
    let r = p.ranged in
    let front = take_at (message_of k m a b j) (drop (length_of k) out) n (length-message k m a b j ∙ p.told) in
    ap (λ (l : List ℕ). read_of k m (take n l)) (sym p.left) ∙ ap (read_of k m) front ∙ read-written k m a b j r.low r.high r.few r.within r.counted
