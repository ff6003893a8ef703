-- What `feed` and `finish` answer, what they leave in the lent bytes, and the law that ties them to the whole text.
use Rattle.std.specs.Prelude.{ℕ, ◌+◌, ◌*◌, ◌≡◌, cond, List, [], ◌∷◌, ◌++◌, eqb, ltb, leb, length, take, replicate, set, Err, Ok}
use Rattle.refusal.specs.Causes.{cause}
use Rattle.plan_text.specs.Bytewise.{after_bytes, bytes_text, RoomFor}
use Rattle.plan_text.specs.Text.{input_of, next_line, pasted, written_in, written_of, Piece}
use Rattle.plan_text.specs.Text.{Written}
use Rattle.converter_text.specs.declared.Direction.{Direction}
use Rattle.converter_text.specs.declared.Recording.{Recording}
use Rattle.converter_text.specs.declared.Fed as code
use Rattle.converter_text.specs.Recorded.{converted, line_text, unended_text}

-- ---- a recording, byte by byte

-- Before the first line.
abbrev pub start_of : Direction → Recording
start_of d = record { direction = d; lines = 0; length = 0; text = replicate 121 0 }

-- The bytes that have come of the next line.
abbrev pub bytes_in : Recording → List ℕ
bytes_in r = take r.length r.text

-- With one byte more of the next line, of which 121 are kept: no longer line is readable.
abbrev pub with_byte : Recording → ℕ → Recording
with_byte r byte =
    cond (ltb r.length 121)
    (record { direction = r.direction; lines = r.lines; length = r.length + 1; text = set r.text r.length byte })
    r

-- After the end of the line.
abbrev pub line_ended : Recording → Recording
line_ended r = record { direction = r.direction; lines = next_line r.lines; length = 0; text = r.text }

-- After a byte, and what is printed of it.
unfoldable pub after_byte : Recording → ℕ → Recording
after_byte r byte = cond (eqb byte 10) (line_ended r) (with_byte r byte)

unfoldable pub byte_text : Recording → ℕ → List ℕ
byte_text r byte = cond (eqb byte 10) (line_text r.direction (next_line r.lines) (bytes_in r)) []

-- After some bytes, and what is printed of them.
abbrev pub after : Recording → List ℕ → Recording
after r input = after_bytes after_byte r input

abbrev pub text_of : Recording → List ℕ → List ℕ
text_of r input = bytes_text after_byte byte_text r input

-- What is printed where the input ends.
abbrev pub end_text : Recording → List ℕ
end_text r = unended_text (next_line r.lines) (bytes_in r)

-- ---- feed: 9

-- What comes of a piece: the recording, the answer, and the lent bytes.
pub record Fed : Type 0 where
  pub recording : Recording
  pub written : Written
  pub out : List ℕ

-- "Lent output too short" is 9, and changes nothing. A line has a byte at least, its line feed, and prints 80 at the most.
unfoldable pub fed_of : Recording → List ℕ → List ℕ → Fed
fed_of r input out =
    cond (leb (80 * length input) (length out))
    (record { recording = after r input; written = Ok (length (text_of r input)); out = pasted out 0 (text_of r input) })
    (record { recording = r; written = Err (cause 9); out = out })

-- What the code answers, and leaves.
abbrev pub fed_as : code.Fed → List ℕ → Fed
fed_as f out = record { recording = f.recording; written = f.written; out = out }

-- ---- finish: 9

abbrev pub finished_of : Recording → List ℕ → Written × List ℕ
finished_of r out = written_of (end_text r) 0 out

-- ---- the law: a text may come in any pieces

-- Each piece is fed with what the call before it left; then the input ends. What the calls write, one after the other:
unfoldable pub texts_fed : Recording → List Piece → List ℕ → List ℕ
texts_fed r [] last = let w = finished_of r last in written_in w.0 w.1
texts_fed r (c ∷ more) last =
    let f = fed_of r c.input c.out in
    written_in f.written f.out ++ texts_fed f.recording more last

abbrev pub PiecesConverted : Type 0
PiecesConverted =
    (d : Direction) (pieces : List Piece) (last : List ℕ) → RoomFor 80 80 pieces last → texts_fed (start_of d) pieces last ≡ converted d (input_of pieces)
