-- What comes of a conversion: no k of 100 or more is told apart from another; a message that is written has a k of two digits at the most, and fits the lent bytes.
-- Assumes nothing.
use Rattle.std.specs.Prelude.{Err, Ok}
use Prim.Native.Nat.{ℕ, ◌^◌, ◌≤◌, ◌<◌, min}
use mathlib.Core.Path.{◌≡◌, refl, sym, ◌∙◌}
use mathlib.Core.Bool.{Bool, true, false, ◌&&◌, and-eq-true_iff}
use mathlib.Core.List.{List}
use native.Mathlib.Omega.{arith}
use native.Mathlib.Decide.{dec_lt}
use lib.Dec.{eqb, leb, ltb}
use lib.ListN.{length}
use borrow.Author.Tests.{leb-true, lt-leb}
use native.Mathlib.Nat.{min-eq_right}
use Rattle.message.specs.Answers.{Reading}
use Rattle.message.specs.Message.{Outcome, if_written, in_range, jobs_within, length_of, length_two, unwritten, write_of}
use Rattle.message.specs.TwoSections.{read_two_of, write_two_of}
use Rattle.converter.specs.Converter.{job_count_in, read_any_of, to_three_of, to_two_of, written_on}
use Rattle.plan_line.specs.Words.{is_number, value_of}
use Rattle.plan_line.proofs.Words.{and-false}
use Rattle.plan_line.proofs.Numbers.{many-digits}
use Rattle.plan_line.proofs.Capped.{capped}
use Rattle.converter_text.specs.declared.Direction.{Direction}
use Rattle.converter_text.specs.declared.Direction.TheVariants.{Three, Two}
use Rattle.converter_text.specs.Recorded.{conversion}

-- ---- k

large : (k : ℕ) → 31 < k → in_range k ≡ false
large k h = rw (lt-leb k 31 h) (and-false (leb 2 k))

refused : (d : Direction) (k : ℕ) (bytes out : List ℕ) → in_range k ≡ false → conversion d k bytes out ≡ (unwritten 2, out)
unfolding to_three_of to_two_of read_two_of read_any_of
refused Three k bytes out e = simp e
refused Two k bytes out e = simp e

pub turned-capped : (d : Direction) (k : ℕ) (bytes out : List ℕ) → conversion d (min k 100) bytes out ≡ conversion d k bytes out
turned-capped d k bytes out =
    capped (λ (x : ℕ). conversion d x bytes out ≡ conversion d k bytes out) k refl
    (λ h. refused d 100 bytes out (large 100 (omega arith)) ∙ sym (refused d k bytes out (large k (omega arith))))

-- ---- what is written

-- What holds where a message is written.
abbrev Fits : ℕ → List ℕ → Outcome → Type 0
Fits k out (Ok count, after) = (in_range k ≡ true) × (count ≤ length out)
Fits k out (Err cause, after) = Unit {0}

fits-if : (k : ℕ) (out : List ℕ) (t : Bool) (number : ℕ) (o : Outcome) → (t ≡ true → Fits k out o) → Fits k out (if_written t number out o)
fits-if k out true number o h = h refl
fits-if k out false number o h = tt

fits_on : (k : ℕ) (r : Reading) (out : List ℕ) (on : ℕ → Bool → Outcome) → ((a : ℕ) (b : Bool) → Fits k out (on a b)) → Fits k out (written_on r out on)
fits_on k (Ok said) out on h = h said.acknowledgements said.return_bit
fits_on k (Err cause) out on h = tt

fits-three : (k a : ℕ) (b : Bool) (out : List ℕ) → Fits k out (write_of k 0 a b 0 out)
unfolding write_of
fits-three k a b out =
    fits-if k out (in_range k) 2 _ (λ in-range.
    fits-if k out (ltb a (2 ^ k) && jobs_within 0 0) 8 _ (λ _.
    fits-if k out (leb (length_of k) (length out)) 9 _ (λ room. (in-range, leb-true (length_of k) (length out) room))))

fits-two : (k a : ℕ) (b : Bool) (out : List ℕ) → Fits k out (write_two_of k a b out)
unfolding write_two_of
fits-two k a b out =
    fits-if k out (in_range k) 2 _ (λ in-range.
    fits-if k out (ltb a (2 ^ k)) 8 _ (λ _.
    fits-if k out (leb (length_two k) (length out)) 9 _ (λ room. (in-range, leb-true (length_two k) (length out) room))))

fits : (d : Direction) (k : ℕ) (bytes out : List ℕ) → Fits k out (conversion d k bytes out)
unfolding to_three_of to_two_of
fits Three k bytes out = fits_on k (read_two_of k bytes).reading out (λ a b. write_of k 0 a b 0 out) (λ a b. fits-three k a b out)
fits Two k bytes out =
    fits_on k (read_any_of k bytes).reading out (λ a b. if_written (eqb (job_count_in bytes) 0) 15 out (write_two_of k a b out))
    (λ a b. fits-if k out (eqb (job_count_in bytes) 0) 15 _ (λ _. fits-two k a b out))

module _ (d : Direction) (k : ℕ) (bytes out : List ℕ) (count : ℕ) (after : List ℕ) (e : ◌≡◌ {A = Outcome} (Ok count, after) (conversion d k bytes out)) where
  both : (in_range k ≡ true) × (count ≤ length out)
  both = rw (← e) at (fits d k bytes out)

  pub count_fits : count ≤ length out
  count_fits = both.1

  pub k-small : k ≤ 31
  k-small = leb-true k 31 ((and-eq-true_iff (leb 2 k) (leb k 31)).0 both.0).1

-- a k of two digits at the most
pub word-short : (word : List ℕ) → is_number word ≡ true → min (value_of word) 100 ≤ 31 → length word ≤ 2
word-short word number small = go (dec_lt 2 (length word))
  where
    go : Dec (2 < length word) → length word ≤ 2
    go (yes long) = absurd (omega (arith, min-eq_right (many-digits word number long)))
    go (no short) = omega arith
