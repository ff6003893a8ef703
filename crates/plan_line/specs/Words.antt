-- Document 01, "The bench program": the words and the numbers of a plan line. A line is the list of its bytes, without the line feed.
use Rattle.std.specs.Prelude.{ℕ, suc, ◌+◌, ◌-◌, ◌*◌, Bool, true, false, cond, not, ◌&&◌, List, [], ◌∷◌, eqb, ltb, leb, length, get_or, take, drop}
use Prim.Native.Char.{code}
use Prim.Native.String.{String, [] as end, ◌∷◌ as ◌then◌}

-- The bytes of a text.
abbrev pub bytes : String → List ℕ
bytes end = []
bytes (c then s) = code c ∷ bytes s

-- ---- parts

-- How many bytes stand before the first byte of this value, all where there is none.
unfoldable pub gap : ℕ → List ℕ → ℕ
gap mark [] = 0
gap mark (byte ∷ rest) = cond (eqb byte mark) 0 (suc (gap mark rest))

-- The first part is longer by a byte.
abbrev pub longer : ℕ → List (List ℕ) → List (List ℕ)
longer byte [] = (byte ∷ []) ∷ []
longer byte (part ∷ parts) = (byte ∷ part) ∷ parts

-- The parts of a text between the bytes of this value; of a text without any it is the one part.
unfoldable pub parted : ℕ → List ℕ → List (List ℕ)
parted mark [] = [] ∷ []
parted mark (byte ∷ rest) = cond (eqb byte mark) ([] ∷ parted mark rest) (longer byte (parted mark rest))

-- ---- words

-- The bytes before the first space (byte 32), and those after it (none where there is no space).
abbrev pub before : List ℕ → List ℕ
before line = take (gap 32 line) line

abbrev pub after : List ℕ → List ℕ
after line = drop (suc (gap 32 line)) line

-- "Single spaces": the words that spaces part. A space at an end, and a second one in a row, part off an empty word, which is no number.
abbrev pub words_of : List ℕ → List (List ℕ)
words_of text = parted 32 text

-- "Plan words compared with fixed byte strings": the line begins with the bytes of a word; it is just these.
unfoldable pub begins : List ℕ → List ℕ → Bool
begins [] line = true
begins (byte ∷ word) [] = false
begins (byte ∷ word) (other ∷ line) = eqb byte other && begins word line

abbrev pub same : List ℕ → List ℕ → Bool
same word line = eqb (length word) (length line) && begins word line

-- ---- numbers

-- Bytes 48 to 57 are the digits 0 to 9.
abbrev pub is_digit : ℕ → Bool
is_digit byte = leb 48 byte && leb byte 57

unfoldable pub all_digits : List ℕ → Bool
all_digits [] = true
all_digits (byte ∷ rest) = is_digit byte && all_digits rest

-- More digits follow a first 0.
abbrev pub leading_zero : List ℕ → Bool
leading_zero word = ltb 1 (length word) && eqb (get_or word 0 0) 48

-- "Decimal, no leading zeros": digits, at least one. A number may be of any length.
unfoldable pub is_number : List ℕ → Bool
is_number word = ltb 0 (length word) && (not (leading_zero word) && all_digits word)

-- The number that digits stand for, after digits that stand for `high`.
unfoldable pub value_from : ℕ → List ℕ → ℕ
value_from high [] = high
value_from high (byte ∷ rest) = value_from (high * 10 + (byte - 48)) rest

abbrev pub value_of : List ℕ → ℕ
value_of word = value_from 0 word

-- Inner: the least number that may follow a word where "numbers rising" is asked: any where there is no word before.
abbrev pub least_after : List ℕ → ℕ
least_after [] = 0
least_after (byte ∷ rest) = suc (value_of (byte ∷ rest))
