-- Document 01, "The bench program" and "Causes and their numbers": what a plan line says. "A plan line is tested for 12 first"; "Plan numbers of
-- readable form but wrong value give 1, 2 or 3."
use Rattle.std.specs.Prelude.{ℕ, suc, Bool, true, false, cond, ◌&&◌, List, [], ◌∷◌, leb, length, drop, Err, Ok, Result}
use Rattle.refusal.specs.declared.Refusal.{Refusal}
use Rattle.refusal.specs.Causes.{cause}
use Rattle.nodeset.specs.Sets.{with}
use Rattle.cable.specs.Cable.{cable_of, ring_size, sponsor_count, node_number}
use Rattle.plan_line.specs.declared.Missed.{Missed}
use Rattle.plan_line.specs.declared.Line.{Line}
use Rattle.plan_line.specs.declared.Line.TheVariants as lines
use Rattle.plan_line.specs.Words.{bytes, before, after, words_of, begins, same, is_number, value_of}

-- "Lines of at most 120 bytes end in a line feed, itself not counted."
abbrev pub short_enough : List ℕ → Bool
short_enough line = leb (length line) 120

-- ---- line one

-- n and k, or why the line is refused.
abbrev pub Opening : Type 0
Opening = Result (ℕ × ℕ) Refusal

-- The opening where a test holds, and the refusal where it does not.
abbrev pub if_opened : Bool → Refusal → Opening → Opening
if_opened true cause opened = opened
if_opened false cause opened = Err cause

-- n and k: 1 is tested before 2.
unfoldable pub ring_of : ℕ → ℕ → Opening
ring_of n k = if_opened (ring_size n) (cause 1) (if_opened (sponsor_count (cable_of n k)) (cause 2) (Ok (n, k)))

-- Two words that should be numbers.
unfoldable pub numbers_of : List ℕ → List ℕ → Opening
numbers_of first second = if_opened (is_number first && is_number second) (cause 12) (ring_of (value_of first) (value_of second))

-- "Line one: n, space, k."
unfoldable pub opening_of : List ℕ → Opening
opening_of line = if_opened (short_enough line) (cause 12) (numbers_of (before line) (after line))

-- ---- one node

-- "Node number not 1 to n". A ring has at most 32 nodes, so that no number above 32 is one, whatever n is given.
abbrev pub in_ring : ℕ → ℕ → Bool
in_ring n a = node_number n a && leb a 32

-- The node, or why the word names none.
abbrev pub Named : Type 0
Named = Result ℕ Refusal

abbrev pub if_named : Bool → Refusal → Named → Named
if_named true cause found = found
if_named false cause found = Err cause

-- What stands after `off ` or `on ` names a node.
unfoldable pub named_of : ℕ → List ℕ → Named
named_of n word = if_named (is_number word) (cause 12) (if_named (in_ring n (value_of word)) (cause 3) (Ok (value_of word)))

-- ---- several nodes

unfoldable pub all_numbers : List (List ℕ) → Bool
all_numbers [] = true
all_numbers (word ∷ words) = is_number word && all_numbers words

unfoldable pub values_of : List (List ℕ) → List ℕ
values_of [] = []
values_of (word ∷ words) = value_of word ∷ values_of words

-- "Numbers rising": each is more than the one before it. The first is at least `least`.
unfoldable pub rising_from : ℕ → List ℕ → Bool
rising_from least [] = true
rising_from least (a ∷ rest) = leb least a && rising_from (suc a) rest

unfoldable pub all_in_ring : ℕ → List ℕ → Bool
all_in_ring n [] = true
all_in_ring n (a ∷ rest) = in_ring n a && all_in_ring n rest

-- The set with each of these nodes.
unfoldable pub with_all : ℕ → List ℕ → ℕ
with_all set [] = set
with_all set (a ∷ rest) = with_all (with set a) rest

-- What a line says, or why it is refused.
abbrev pub Said : Type 0
Said = Result Line Refusal

-- The line where a test holds, and the refusal where it does not.
abbrev pub if_said : Bool → Refusal → Said → Said
if_said true cause said = said
if_said false cause said = Err cause

-- Inner: what came of the words so far, with one node more; and what they say.
abbrev pub missed_with : ℕ → Missed → ℕ → Missed
missed_with n missed a = record { inside = missed.inside && in_ring n a; set = with missed.set a }

abbrev pub missed_line : Missed → Said
missed_line missed = if_said missed.inside (cause 3) (Ok (lines.Miss missed.set))

-- "`miss a b` (numbers rising, at least one)": what stands after `miss `. A list that does not rise is unreadable, so that 12 is tested before 3.
unfoldable pub missing_of : ℕ → List ℕ → Said
missing_of n text =
    if_said (all_numbers (words_of text) && rising_from 0 (values_of (words_of text))) (cause 12)
    (if_said (all_in_ring n (values_of (words_of text))) (cause 3)
    (Ok (lines.Miss (with_all 0 (values_of (words_of text))))))

-- ---- the lines after line one

-- The plan words, each with the space that follows it.
abbrev pub ok_word : List ℕ
ok_word = bytes "ok"

abbrev pub lost_word : List ℕ
lost_word = bytes "lost"

abbrev pub miss_word : List ℕ
miss_word = bytes "miss "

abbrev pub off_word : List ℕ
off_word = bytes "off "

abbrev pub on_word : List ℕ
on_word = bytes "on "

-- "`off a` and `on a` switch or restart a node"
abbrev pub off_line : Named → Said
off_line (Ok a) = Ok (lines.Off a)
off_line (Err cause) = Err cause

abbrev pub on_line : Named → Said
on_line (Ok a) = Ok (lines.On a)
on_line (Err cause) = Err cause

-- "Then `ok`, `lost`, `miss a b` (numbers rising, at least one) each run a slot; `off a` and `on a` switch or restart a node".
unfoldable pub word_of : ℕ → List ℕ → Said
word_of n line =
    cond (same ok_word line) (Ok lines.Ok)
    (cond (same lost_word line) (Ok lines.Lost)
    (cond (begins miss_word line) (missing_of n (drop 5 line))
    (cond (begins off_word line) (off_line (named_of n (drop 4 line)))
    (cond (begins on_word line) (on_line (named_of n (drop 3 line)))
    (Err (cause 12))))))

-- "Plan line unreadable or too long" is 12.
unfoldable pub line_of : ℕ → List ℕ → Said
line_of n line = if_said (short_enough line) (cause 12) (word_of n line)
