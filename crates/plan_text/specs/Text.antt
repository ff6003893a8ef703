-- Document 01, "The bench program": the text of what the program prints, as the list of its bytes, and what writing it into lent bytes leaves.
use Rattle.std.specs.Prelude.{ℕ, zero, suc, ◌+◌, ◌/◌, ◌%◌, ◌≤◌, ◌≡◌, cond, List, [], ◌∷◌, ◌++◌, ltb, leb, length, take, drop, Err, None, Ok, Some, Result}
use Rattle.refusal.specs.declared.Refusal.{Refusal}
use Rattle.refusal.specs.Causes.{cause}
use Rattle.plan_line.specs.Words.{bytes}
use Rattle.bench.specs.declared.Fate.{Fate}
use Rattle.bench.specs.declared.Fate.TheVariants.{Silent, Lost, Knock, Sent}
use Rattle.bench.specs.Answers.{Listed}

-- ---- numbers

-- The byte of a digit: `0` to `9`, then `a` to `f`.
abbrev pub glyph : ℕ → ℕ
glyph digit = cond (ltb digit 10) (48 + digit) (87 + digit)

-- The last `count` digits of a number in a base, the highest first.
unfoldable pub digits : ℕ → ℕ → ℕ → List ℕ
digits base zero x = []
digits base (suc count) x = digits base count (x / base) ++ (glyph (x % base) ∷ [])

-- How many decimal digits a number takes, if these are at most one more than `more`.
unfoldable pub places : ℕ → ℕ → ℕ
places zero x = 1
places (suc more) x = cond (ltb x 10) 1 (suc (places more (x / 10)))

-- "Decimal, no leading zeros". A number below 10 ^ 20 has at most 20 digits. (It is read back by the definitions of plan lines: proofs/ReadBack.)
unfoldable pub decimal : ℕ → List ℕ
decimal x = digits 10 (places 19 x) x

-- A number, and the byte after it.
abbrev pub number_then : ℕ → ℕ → List ℕ
number_then byte x = decimal x ++ (byte ∷ [])

-- ---- a slot: each part has the space after it

-- "Fate (`silent` if nothing is sent ..; else `lost` if lost, ..; else `knock` or `sent`)"
abbrev pub fate_text : Fate → List ℕ
fate_text Silent = bytes "silent "
fate_text Lost = bytes "lost "
fate_text Knock = bytes "knock "
fate_text Sent = bytes "sent "

-- "The set of the lowest-numbered member as eight hexadecimal digits (node 1 is the lowest bit; `--------` if none)"
abbrev pub shown_text : Listed → List ℕ
shown_text (Some set) = digits 16 8 set ++ (32 ∷ [])
shown_text None = bytes "-------- "

-- "Each slot prints: slot, sender, fate .., the set .., the greatest distance"; 10 is the line feed.
unfoldable pub slot_text : ℕ → ℕ → Fate → Listed → ℕ → List ℕ
slot_text slot sender fate shown distance =
    number_then 32 slot ++ number_then 32 sender ++ fate_text fate ++ shown_text shown ++ number_then 10 distance

-- ---- a refusal

-- The words of a refusal.
abbrev pub line_word : List ℕ
line_word = bytes "line "

abbrev pub refusal_word : List ℕ
refusal_word = bytes "refusal "

-- "lines counted from 1": the number of the next line. The count stops at the last number of 64 bits; `exact` (proofs/Digits) says that it is exact before.
unfoldable pub next_line : ℕ → ℕ
next_line lines = cond (ltb lines 18446744073709551615) (lines + 1) lines

-- "A refused line prints `line L refusal N`"
unfoldable pub refusal_text : ℕ → ℕ → List ℕ
refusal_text line cause = line_word ++ number_then 32 line ++ refusal_word ++ number_then 10 cause

-- ---- writing

-- Lent bytes with a text at a place: the bytes before it and after it are as they were.
unfoldable pub pasted : List ℕ → ℕ → List ℕ → List ℕ
pasted out at text = take at out ++ (text ++ drop (at + length text) out)

-- A text was put at a place, and the next place told.
pub record PutAt (next at : ℕ) (text before after : List ℕ) : Type 0 where
  pub end : next ≡ at + length text
  pub bytes : after ≡ pasted before at text

-- A text of at most so many bytes was put.
pub record PutFew (most next at : ℕ) (text before after : List ℕ) : Type 0 where
  pub put : PutAt next at text before after
  pub few : next ≤ at + most

-- The number of bytes, or why none was written.
abbrev pub Written : Type 0
Written = Result ℕ Refusal

-- What comes of writing a line: the number of its bytes, and all of the lent bytes afterwards. "Lent output too short" is 9: 80 bytes from the place on
-- hold every line. It leaves "every byte" as it was.
unfoldable pub written_of : List ℕ → ℕ → List ℕ → Written × List ℕ
written_of text at out = cond (leb (at + 80) (length out)) (Ok (length text), pasted out at text) (Err (cause 9), out)

-- ---- a text that comes in pieces

-- A piece of a text, and the bytes that are lent for what is printed of it.
pub record Piece : Type 0 where
  pub input : List ℕ
  pub out : List ℕ

-- The whole text: what is put in, one piece after the other.
abbrev pub input_of : List Piece → List ℕ
input_of [] = []
input_of (c ∷ more) = c.input ++ input_of more

-- The bytes that a call wrote.
abbrev pub written_in : Written → List ℕ → List ℕ
written_in (Ok count) out = take count out
written_in (Err cause) out = []
