-- Request i: a file of recorded messages, brought to the other form as text. A text is the list of its bytes. A line holds k and then the message, as
-- document 01 writes both: "Decimal, no leading zeros, single spaces", "Hexadecimal bytes": `2 02 03 01 00`.
use Rattle.std.specs.Prelude.{ℕ, ◌+◌, ◌-◌, ◌*◌, ◌/◌, ◌%◌, Bool, true, false, cond, ◌&&◌, List, [], ◌∷◌, ◌++◌, eqb, ltb, leb, length, take, drop, replicate, Err, Ok}
use Rattle.refusal.specs.Causes.{number_of}
use Rattle.message.specs.Message.{Outcome}
use Rattle.converter.specs.Converter.{to_three_of, to_two_of}
use Rattle.converter.specs.ThereAndBack.{Conversion}
use Rattle.plan_line.specs.Words.{before, gap, is_digit, is_number, parted, value_of}
use Rattle.plan_text.specs.Text.{next_line, refusal_text}
use Rattle.converter_text.specs.declared.Direction.{Direction}
use Rattle.converter_text.specs.declared.Direction.TheVariants.{Three, Two}

-- ---- bytes in hexadecimal

-- The byte of a digit: `0` to `9`, then `A` to `F`.
abbrev pub capital : ℕ → ℕ
capital digit = cond (ltb digit 10) (48 + digit) (55 + digit)

-- The digit of a byte; 16 where it is none.
unfoldable pub digit_of : ℕ → ℕ
digit_of byte = cond (is_digit byte) (byte - 48) (cond (leb 65 byte && leb byte 70) (byte - 55) 16)

abbrev pub is_hex : ℕ → Bool
is_hex byte = ltb (digit_of byte) 16

-- A message as text: a space and two digits for each byte, the higher digit first.
unfoldable pub message_text : List ℕ → List ℕ
message_text [] = []
message_text (byte ∷ rest) = 32 ∷ capital (byte / 16) ∷ capital (byte % 16) ∷ message_text rest

-- Whether a text is of that form, and the bytes that it holds.
unfoldable pub is_message : List ℕ → Bool
is_message [] = true
is_message (space ∷ []) = false
is_message (space ∷ high ∷ []) = false
is_message (space ∷ high ∷ low ∷ rest) = (eqb space 32 && (is_hex high && is_hex low)) && is_message rest

unfoldable pub bytes_of : List ℕ → List ℕ
bytes_of [] = []
bytes_of (space ∷ []) = []
bytes_of (space ∷ high ∷ []) = []
bytes_of (space ∷ high ∷ low ∷ rest) = (digit_of high * 16 + digit_of low) ∷ bytes_of rest

-- ---- a line

-- The part of a line after k, with the space before each byte.
abbrev pub behind : List ℕ → List ℕ
behind line = drop (gap 32 line) line

-- "Lines of at most 120 bytes": k, and a message of whatever length.
unfoldable pub readable : List ℕ → Bool
readable line = leb (length line) 120 && (is_number (before line) && is_message (behind line))

-- The conversion to a form.
abbrev pub conversion : Direction → Conversion
conversion Three = to_three_of
conversion Two = to_two_of

-- The message in the other form, in 9 bytes: k = 31 takes 9, and no k takes more.
abbrev pub turned : Direction → ℕ → List ℕ → Outcome
turned d k bytes = conversion d k bytes (replicate 9 0)

-- What is printed: k as it stands and the message in the other form; or "`line L refusal N`".
abbrev pub outcome_text : ℕ → List ℕ → Outcome → List ℕ
outcome_text L word (Ok count, out) = word ++ message_text (take count out) ++ (10 ∷ [])
outcome_text L word (Err cause, out) = refusal_text L (number_of cause)

-- "plan line unreadable or too long" is 12, and comes first.
unfoldable pub line_text : Direction → ℕ → List ℕ → List ℕ
line_text d L line = cond (readable line) (outcome_text L (before line) (turned d (value_of (before line)) (bytes_of (behind line)))) (refusal_text L 12)

-- ---- all lines

-- "a missing last line feed is an unreadable line": what is printed of what stands after the last line feed.
unfoldable pub unended_text : ℕ → List ℕ → List ℕ
unended_text L rest = cond (eqb (length rest) 0) [] (refusal_text L 12)

-- "Lines .. end in a line feed", "lines counted from 1": the text of each line in turn, after so many lines. A refused line ends nothing.
unfoldable pub lines_text : Direction → ℕ → List (List ℕ) → List ℕ
lines_text d lines [] = []
lines_text d lines (rest ∷ []) = unended_text (next_line lines) rest
lines_text d lines (line ∷ next ∷ more) = line_text d (next_line lines) line ++ lines_text d (next_line lines) (next ∷ more)

-- What the program prints of its whole input. 10 is the line feed.
unfoldable pub converted : Direction → List ℕ → List ℕ
converted d text = lines_text d 0 (parted 10 text)
