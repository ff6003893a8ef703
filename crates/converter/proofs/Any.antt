-- A message read with the job count that stands there (`read_any_of`), by the reader: with that count, or with 0 where it is above 8. Assumes nothing.
use Prim.Native.Nat.{ℕ, ◌+◌, ◌-◌, ◌≤◌, ◌<◌}
use mathlib.Core.Path.{◌≡◌, refl, sym, ap, ◌∙◌}
use mathlib.Core.List.{List}
use mathlib.Core.Bool.{Bool, true, false}
use mathlib.Core.Logic.{◌≢◌}
use native.Mathlib.Omega.{arith}
use lib.ListN.{length, get_or, drop}
use lib.Seq.{get_or-take, get_or-drop}
use lib.Dec.{eqb}
use borrow.Author.Tests.{le-ltb, leb-true, leb-false}
use Rattle.message.specs.cable.Cable.{job_count}
use Rattle.message.specs.declared.Received.{Received}
use Rattle.message.specs.Message.{if_read, in_range, length_of, length_two, part_three, read_of}
use Rattle.message.proofs.OtherCount.{other-count}
use Rattle.converter.specs.Converter.{job_count_in, read_any_of}

-- the count of the third section is the last byte but one
pub standing : (k : ℕ) (bytes : List ℕ) → length bytes ≡ length_of k → get_or (part_three k bytes) 0 0 ≡ job_count_in bytes
unfolding job_count_in
standing k bytes long =
    let place : length_two k + 0 ≡ length bytes - 2 = omega arith in
    get_or-take 2 (drop (length_two k) bytes) 0 0 (omega arith)
    ∙ get_or-drop (length_two k) bytes 0 0
    ∙ ap (λ (i : ℕ). get_or bytes i 0) place
    ∙ sym (simp (le-ltb (length bytes) 2 (omega arith)))

-- tests that were passed pass again
again : (r l : Bool) (x : Received) → if_read r 2 (if_read l 6 x) ≡ if_read r 2 (if_read l 6 (if_read r 2 (if_read l 6 x)))
again true true x = refl
again true false x = refl
again false l x = refl

pub any-few : (k : ℕ) (bytes : List ℕ) → job_count (job_count_in bytes) ≡ true → read_of k (job_count_in bytes) bytes ≡ read_any_of k bytes
unfolding read_any_of read_of
any-few k bytes few = simp few (again (in_range k) (eqb (length bytes) (length_of k)) _)

any-many : (k : ℕ) (bytes : List ℕ) → job_count (job_count_in bytes) ≡ false → read_of k 0 bytes ≡ read_any_of k bytes
unfolding read_any_of
any-many k bytes many =
    let some : job_count_in bytes ≢ 0 = λ e. omega (arith, e, leb-false (job_count_in bytes) 8 many) in
    simp many (other-count k 0 bytes refl (λ long e. some (sym (standing k bytes long) ∙ e)))

-- the reader is given the count that stands there, or 0 where that is above 8
pub any-due : (k : ℕ) (bytes : List ℕ) (due : ℕ) → (job_count_in bytes ≤ 8 → due ≡ job_count_in bytes) → (8 < job_count_in bytes → due ≡ 0) → read_of k due bytes ≡ read_any_of k bytes
any-due k bytes due few many = by (job_count (job_count_in bytes)) refl
  where
    by : (t : Bool) → job_count (job_count_in bytes) ≡ t → read_of k due bytes ≡ read_any_of k bytes
    by true e = ap (λ (m : ℕ). read_of k m bytes) (few (leb-true (job_count_in bytes) 8 e)) ∙ any-few k bytes e
    by false e = ap (λ (m : ℕ). read_of k m bytes) (many (leb-false (job_count_in bytes) 8 e)) ∙ any-many k bytes e
