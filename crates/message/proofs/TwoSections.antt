-- Laws of messages of two sections, each from the one of three: with 00 00 added they read as a message for no jobs (`with_none`). Assumes nothing.
use Prim.Native.Nat.{ℕ, zero, suc, ◌+◌, ◌^◌, ◌≤◌}
use mathlib.Core.Path.{◌≡◌, refl, sym, ap, ◌∙◌}
use mathlib.Core.List.{List, [], ◌∷◌, ◌++◌}
use mathlib.Core.Bool.{Bool, true, false}
use native.Mathlib.Omega.{arith}
use native.Mathlib.Decide.{ℕ_discrete}
use lib.ListN.{length, take, drop, length-append, length-drop}
use lib.Seq.{take_all, take_at, drop_at, take-append-le, drop-append-le}
use lib.Dec.{eqb}
use borrow.Author.Tests.{eq-eqb, ne_eqb, eqb-true, lt-ltb, le-leb}
use Rattle.message.specs.declared.Received.{Received}
use Rattle.message.specs.Message.{AreBytes, bytes_of, heard, if_read, in_range, job_section, length_of, length_one, length_two, message_of, part_one, part_three, part_two, read_of, said_by, section_in, two_sections, wrote}
use Rattle.message.specs.TwoSections.{absent, read_two_of, write_two_of}
use Rattle.message.proofs.Parts.{length-section, length-two}
use Rattle.message.proofs.Bytes.{bytes-tail}
use Rattle.message.proofs.RoundTrip.{InRange, found, heard-range, message-read, passed-all, read-written}

-- the section of no jobs
abbrev pub none : List ℕ
none = job_section 0 0

-- ---- reading

if-same : (t u : Bool) (number : ℕ) (x y : Received) → t ≡ u → (t ≡ true → x ≡ y) → if_read t number x ≡ if_read u number y
if-same true u number x y e h = h refl ∙ ap (λ (w : Bool). if_read w number y) e
if-same false u number x y e h = ap (λ (w : Bool). if_read w number y) e

length_none : (bytes : List ℕ) → length (bytes ++ none) ≡ length bytes + 2
length_none bytes = omega (arith, length-append bytes none, length-section 0 1 0)

length-test : (k : ℕ) (bytes : List ℕ) → eqb (length bytes) (length_two k) ≡ eqb (length (bytes ++ none)) (length_of k)
length-test k bytes = go (ℕ_discrete (length bytes) (length_two k))
  where
    go : Dec (length bytes ≡ length_two k) → eqb (length bytes) (length_two k) ≡ eqb (length (bytes ++ none)) (length_of k)
    go (yes e) = eq-eqb (length bytes) (length_two k) e ∙ sym (eq-eqb (length (bytes ++ none)) (length_of k) (omega (arith, length_none bytes)))
    go (no e) = ne_eqb (length bytes) (length_two k) e ∙ sym (ne_eqb (length (bytes ++ none)) (length_of k) (λ f. e (omega (arith, length_none bytes))))

-- the sections stand where they stood, and then that of no jobs
one-stays : (k : ℕ) (bytes : List ℕ) → length bytes ≡ length_two k → part_one k (bytes ++ none) ≡ part_one k bytes
one-stays k bytes long = take-append-le (length_one k) bytes none (omega arith)

two-stays : (k : ℕ) (bytes : List ℕ) → length bytes ≡ length_two k → part_two k (bytes ++ none) ≡ part_two k bytes
two-stays k bytes long =
    ap (take 2) (drop-append-le (length_one k) bytes none (omega arith))
    ∙ take-append-le 2 (drop (length_one k) bytes) none (omega (arith, length-drop (length_one k) bytes))

three-added : (k : ℕ) (bytes : List ℕ) → length bytes ≡ length_two k → section_in 0 (part_three k (bytes ++ none)) ≡ absent
three-added k bytes long =
    ap (λ (l : List ℕ). section_in 0 (take 2 l)) (drop_at bytes none (length_two k) long)
    ∙ ap (section_in 0) (take_all 2 none (omega (arith, length-section 0 1 0)))
    ∙ found 0 1 0 (omega arith) (omega arith)

-- "document 01's messages get 00 00 added for m = 0"
pub with_none : (k : ℕ) (bytes : List ℕ) → read_two_of k bytes ≡ read_of k 0 (bytes ++ none)
unfolding read_two_of read_of
with_none k bytes =
    ap (if_read (in_range k) 2)
    (if-same (eqb (length bytes) (length_two k)) (eqb (length (bytes ++ none)) (length_of k)) 6 _ _ (length-test k bytes) (λ t.
    let long = eqb-true (length bytes) (length_two k) t in
    let three = bytes ++ none in
    ap (λ (l : List ℕ). said_by (section_in k l) (section_in 1 (part_two k bytes)) absent) (sym (one-stays k bytes long))
    ∙ ap (λ (l : List ℕ). said_by (section_in k (part_one k three)) (section_in 1 l) absent) (sym (two-stays k bytes long))
    ∙ ap (said_by (section_in k (part_one k three)) (section_in 1 (part_two k three))) (sym (three-added k bytes long))))

-- What is heard is in range.
pub two-range : (k a : ℕ) (b : Bool) (j : ℕ) (bytes : List ℕ) → read_two_of k bytes ≡ heard a b j → InRange k 0 a j
two-range k a b j bytes e = heard-range k 0 a b j (bytes ++ none) (sym (with_none k bytes) ∙ e)

-- What is written is read back.
pub read-two-written : (k a : ℕ) (b : Bool) → InRange k 0 a 0 → read_two_of k (two_sections k a b) ≡ heard a b 0
unfolding message_of
read-two-written k a b r = with_none k (two_sections k a b) ∙ read-written k 0 a b 0 r.low r.high r.few r.within r.counted

pub bytes-none : (bytes : List ℕ) → AreBytes bytes → AreBytes (bytes ++ none)
unfolding bytes_of
bytes-none [] h zero below = omega arith
bytes-none [] h (suc zero) below = omega arith
bytes-none [] h (suc (suc i)) below = absurd (omega arith)
bytes-none (x ∷ bytes) h zero below = h zero (omega arith)
bytes-none (x ∷ bytes) h (suc i) below = bytes-none bytes (bytes-tail x bytes h) i (omega arith)

-- Readable bytes are the two sections of what they read as.
pub two-read : (k a : ℕ) (b : Bool) (j : ℕ) (bytes : List ℕ) → AreBytes bytes → read_two_of k bytes ≡ heard a b j → bytes ≡ two_sections k a b
unfolding message_of
two-read k a b j bytes h e =
    let three = sym (with_none k bytes) ∙ e in
    let whole : bytes ++ none ≡ two_sections k a b ++ job_section 0 j = message-read k 0 a b j (bytes ++ none) (bytes-none bytes h) three in
    let long : length bytes ≡ length_two k = omega (arith, length_none bytes, (passed-all k 0 a b j (bytes ++ none) three).sized) in
    sym (take_at bytes none (length_two k) long) ∙ ap (take (length_two k)) whole ∙ take_at (two_sections k a b) (job_section 0 j) (length_two k) (length-two k a b)

-- ---- writing

-- The writer is not refused where all is in range and there is room.
pub puts-two : (k a : ℕ) (b : Bool) (out : List ℕ) → InRange k 0 a 0 → length_two k ≤ length out
    → write_two_of k a b out ≡ (wrote (length_two k), two_sections k a b ++ drop (length_two k) out)
unfolding write_two_of
puts-two k a b out r room =
    simp (le-leb 2 k r.low, le-leb k 31 r.high, lt-ltb a (2 ^ k) r.within, le-leb (length_two k) (length out) room)
