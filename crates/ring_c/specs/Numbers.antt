-- The answers of the ring as numbers, for callers in Rust and C: a refusal is its number in document 01, below 2 ^ 33, and any other answer is
-- 2 ^ 33 and more.
use Rattle.std.specs.Prelude.{ℕ, ◌+◌, ◌^◌, Err, None, Ok, Option, Some}
use Rattle.refusal.specs.Causes.{number_of}
use Rattle.cable.specs.declared.Choices.{Choices}
use Rattle.ring.specs.Answers.{Speaker}
use Rattle.ring.specs.declared.Found.{Found}
use Rattle.ring.specs.Answers.{Lookup}

-- the choices with these numbers, and no jobs
abbrev pub choices_of : ℕ → ℕ → ℕ → Choices
choices_of n k lag = record { n = n; k = k; m = 0; lag = lag }

-- the node whose slot it is
abbrev pub speaker_number : Speaker → ℕ
speaker_number (Ok x) = 2 ^ 33 + x
speaker_number (Err cause) = number_of cause

-- the member, and in a call of its own how many slots back it speaks; nobody is 2 ^ 32 in their place, which is no number of 32 bits
abbrev pub found_number : Option Found → ℕ
found_number (Some f) = 2 ^ 33 + f.member
found_number None = 2 ^ 33 + 2 ^ 32

abbrev pub back_number : Option Found → ℕ
back_number (Some f) = 2 ^ 33 + f.back
back_number None = 2 ^ 33 + 2 ^ 32

abbrev pub lookup_number : Lookup → ℕ
lookup_number (Ok found) = found_number found
lookup_number (Err cause) = number_of cause

abbrev pub lookup_back : Lookup → ℕ
lookup_back (Ok found) = back_number found
lookup_back (Err cause) = number_of cause
