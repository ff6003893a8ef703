-- No call writes more bytes than a message has: 9 for k = 31. Assumes nothing.
use Rattle.std.specs.Prelude.{Err, Ok}
use Prim.Native.Nat.{ℕ, ◌^◌}
use mathlib.Core.Path.{◌≡◌, refl}
use mathlib.Core.List.{List}
use mathlib.Core.Bool.{Bool, true, false, ◌&&◌}
use native.Mathlib.Omega.{arith}
use lib.ListN.{length}
use lib.Dec.{eqb, leb, ltb}
use Rattle.message.specs.cable.Cable.{job_count}
use Rattle.message.specs.Answers.{Reading}
use Rattle.message.specs.Message.{Outcome, if_written, in_range, jobs_within, length_of, length_two, write_of}
use Rattle.message.specs.TwoSections.{read_two_of, write_two_of}
use Rattle.message.proofs.Tests.{in-range}
use Rattle.converter.specs.Converter.{job_count_in, read_any_of, to_three_of, to_two_of, written_on}
use Rattle.message_c.specs.Numbers.{Short}

short-if : (t : Bool) (number : ℕ) (out : List ℕ) (outcome : Outcome) → (t ≡ true → Short outcome.0) → Short (if_written t number out outcome).0
short-if true number out outcome h = h refl
short-if false number out outcome h = tt

short_on : (r : Reading) (out : List ℕ) (on : ℕ → Bool → Outcome) → ((a : ℕ) (b : Bool) → Short (on a b).0) → Short (written_on r out on).0
short_on (Ok said) out on h = h said.acknowledgements said.return_bit
short_on (Err cause) out on h = tt

pub write-short : (k m a : ℕ) (b : Bool) (j : ℕ) (out : List ℕ) → Short (write_of k m a b j out).0
unfolding write_of
write-short k m a b j out =
    short-if (in_range k) 2 out _ (λ r.
    short-if (job_count m) 14 out _ (λ _.
    short-if (ltb a (2 ^ k) && jobs_within m j) 8 out _ (λ _.
    short-if (leb (length_of k) (length out)) 9 out _ (λ _. omega (arith, (in-range k r).1)))))

pub write-two-short : (k a : ℕ) (b : Bool) (out : List ℕ) → Short (write_two_of k a b out).0
unfolding write_two_of
write-two-short k a b out =
    short-if (in_range k) 2 out _ (λ r.
    short-if (ltb a (2 ^ k)) 8 out _ (λ _.
    short-if (leb (length_two k) (length out)) 9 out _ (λ _. omega (arith, (in-range k r).1))))

pub three-short : (k : ℕ) (bytes out : List ℕ) → Short (to_three_of k bytes out).0
unfolding to_three_of
three-short k bytes out = short_on (read_two_of k bytes).reading out _ (λ a b. write-short k 0 a b 0 out)

pub two-short : (k : ℕ) (bytes out : List ℕ) → Short (to_two_of k bytes out).0
unfolding to_two_of
two-short k bytes out =
    short_on (read_any_of k bytes).reading out _ (λ a b. short-if (eqb (job_count_in bytes) 0) 15 out _ (λ _. write-two-short k a b out))
