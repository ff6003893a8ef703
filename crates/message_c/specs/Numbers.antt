-- The answers of the reader and the writer as numbers, for callers in Rust and C: a refusal is its number in document 01, below 2 ^ 33, and any
-- other answer is 2 ^ 33 and more.
use Rattle.std.specs.Prelude.{ℕ, ◌+◌, ◌*◌, ◌^◌, ◌≤◌, List, cond, Err, Ok}
use Rattle.refusal.specs.Causes.{number_of}
use Rattle.message.specs.Answers.{Reading}
use Rattle.message.specs.declared.Received.{Received}
use Rattle.message.specs.Answers.{Written}
use Rattle.message.specs.Message.{Outcome}

-- the acknowledgements, the return bit above their 32 bits and the job byte above it
abbrev pub reading_number : ℕ → Reading → ℕ
reading_number jobs (Ok h) = 2 ^ 41 + jobs * 2 ^ 33 + cond h.return_bit 1 0 * 2 ^ 32 + h.acknowledgements
reading_number jobs (Err cause) = number_of cause

abbrev pub received_number : Received → ℕ
received_number received = reading_number received.jobs received.reading

-- the number of bytes
abbrev pub written_number : Written → ℕ
written_number (Ok count) = 2 ^ 33 + count
written_number (Err cause) = number_of cause

-- the same lent bytes beside the number
abbrev pub outcome_number : Outcome → ℕ × List ℕ
outcome_number outcome = (written_number outcome.0, outcome.1)

-- ---- Inner

-- No more bytes than a message has.
abbrev pub Short : Written → Type 0
Short (Ok count) = count ≤ 9
Short (Err cause) = Unit {0}
