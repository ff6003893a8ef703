-- Document 02, request i: what holds of the two conversions, for every k at once.
use Rattle.std.specs.Prelude.{ℕ, ◌≤◌, ◌≡◌, Bool, List, ◌++◌, length, take, drop, Err, Ok}
use Rattle.message.specs.declared.Received.{Received}
use Rattle.message.specs.Answers.{Written}
use Rattle.message.specs.Message.{AreBytes, Outcome, heard, length_of, length_two, read_of, wrote}
use Rattle.message.specs.TwoSections.{read_two_of}
use Rattle.converter.specs.Converter.{to_three_of, to_two_of}

-- What is read in bytes for k, and what a conversion for k makes of bytes and lent bytes.
abbrev pub Reader : Type 0
Reader = ℕ → List ℕ → Received

abbrev pub Conversion : Type 0
Conversion = ℕ → List ℕ → List ℕ → Outcome

-- "Lent bytes after the result stay untouched", and a refusal leaves them all.
abbrev pub Leaves : List ℕ → Written → List ℕ → Type 0
Leaves out (Ok count) after = (length after ≡ length out) × (drop count after ≡ drop count out)
Leaves out (Err cause) after = after ≡ out

-- Of a conversion from messages that `read_from` reads to those of so many bytes that `read_to` reads, and of the one back.
pub record Converts (read_from read_to : Reader) (size : ℕ → ℕ) (there back : Conversion) : Type 0 where
  -- "A converter brings a message to the three-section form with no jobs, and takes one with no jobs back": each one that is read, where its result fits.
  pub accepts : (k a : ℕ) (b : Bool) (bytes out : List ℕ) → read_from k bytes ≡ heard a b 0 → size k ≤ length out → (there k bytes out).0 ≡ wrote (size k)
  -- "Going there and back gives the bytes we began with"
  pub returns : (k : ℕ) (bytes out : List ℕ) (count : ℕ) (after lent : List ℕ) → AreBytes bytes → there k bytes out ≡ (wrote count, after) → length bytes ≤ length lent
      → back k (take count after) lent ≡ (wrote (length bytes), bytes ++ drop (length bytes) lent)
  -- "The acknowledgements and the return bit read from both forms are equal"
  pub same : (k : ℕ) (bytes out : List ℕ) (count : ℕ) (after : List ℕ) → there k bytes out ≡ (wrote count, after) → read_to k (take count after) ≡ read_from k bytes
  pub leaves : (k : ℕ) (bytes out : List ℕ) → Leaves out (there k bytes out).0 (there k bytes out).1

-- The readers of messages with no jobs.
abbrev pub read_three : Reader
read_three k bytes = read_of k 0 bytes

-- "from either side"
pub record ThereAndBack : Type 0 where
  pub from-two : Converts read_two_of read_three (λ k. length_of k) to_three_of to_two_of
  pub from-three : Converts read_three read_two_of (λ k. length_two k) to_two_of to_three_of
