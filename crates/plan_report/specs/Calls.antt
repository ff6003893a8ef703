-- What `feed` and `finish` answer, what they leave in the lent bytes, and the law that ties them to the whole text.
use Rattle.std.specs.Prelude.{ℕ, ◌+◌, ◌*◌, ◌≡◌, cond, List, [], ◌∷◌, ◌++◌, eqb, ltb, leb, length, set, Err, Ok}
use Rattle.refusal.specs.Causes.{cause}
use Rattle.plan_text.specs.Bytewise.{after_bytes, bytes_text, RoomFor}
use Rattle.plan_text.specs.Text.{input_of, pasted, written_in, Piece, Written}
use Rattle.plan_program.specs.declared.Part.{Part}
use Rattle.plan_program.specs.Calls.{bytes_in, part_of, plan_sound}
use Rattle.plan_report.specs.declared.Report.{Report}
use Rattle.plan_report.specs.declared.Fed as code
use Rattle.plan_report.specs.Report.{reported}
use Rattle.plan_report.specs.Tallies.{no_tally, after_line_in, line_text, last_text}

-- ---- a report, byte by byte

abbrev pub start_of : Report
start_of = record { tally = no_tally; part = part_of [] }

-- With one byte more of the next line, of which 121 are kept: no longer line is readable.
abbrev pub with_byte : Part → ℕ → Part
with_byte part byte = cond (ltb part.length 121) (record { length = part.length + 1; text = set part.text part.length byte }) part

-- After the end of the line.
abbrev pub line_ended : Report → Report
line_ended r = record { tally = after_line_in r.tally (bytes_in r.part); part = record { length = 0; text = r.part.text } }

-- After a byte, and what is printed of it.
unfoldable pub after_byte : Report → ℕ → Report
after_byte r byte = cond (eqb byte 10) (line_ended r) (record { tally = r.tally; part = with_byte r.part byte })

unfoldable pub byte_text : Report → ℕ → List ℕ
byte_text r byte = cond (eqb byte 10) (line_text r.tally (bytes_in r.part)) []

-- After some bytes, and what is printed of them.
abbrev pub after : Report → List ℕ → Report
after r input = after_bytes after_byte r input

abbrev pub text_of : Report → List ℕ → List ℕ
text_of r input = bytes_text after_byte byte_text r input

-- What is printed where the input ends.
abbrev pub final_text : Report → List ℕ
final_text r = last_text r.tally (bytes_in r.part)

-- ---- feed: 4 and 9

-- What comes of a piece: the report, the answer, and the lent bytes.
pub record Fed : Type 0 where
  pub report : Report
  pub written : Written
  pub out : List ℕ

-- A line has a byte at least, its line feed, and prints 110 at the most.
unfoldable pub fed_of : Report → List ℕ → List ℕ → Fed
fed_of r input out =
    cond (plan_sound r.tally.plan)
    (cond (leb (110 * length input) (length out))
    (record { report = after r input; written = Ok (length (text_of r input)); out = pasted out 0 (text_of r input) })
    (record { report = r; written = Err (cause 9); out = out }))
    (record { report = r; written = Err (cause 4); out = out })

-- What the code answers, and leaves.
abbrev pub fed_as : code.Fed → List ℕ → Fed
fed_as f out = record { report = f.report; written = f.written; out = out }

-- ---- finish: 9. The last plan's line and the totals take 200 bytes at the most.

unfoldable pub finished_of : Report → List ℕ → Written × List ℕ
finished_of r out = cond (leb 200 (length out)) (Ok (length (final_text r)), pasted out 0 (final_text r)) (Err (cause 9), out)

-- ---- the law: a text may come in any pieces

-- Each piece is fed with what the call before it left; then the input ends. What the calls write, one after the other:
unfoldable pub texts_fed : Report → List Piece → List ℕ → List ℕ
texts_fed r [] last = let w = finished_of r last in written_in w.0 w.1
texts_fed r (c ∷ more) last =
    let f = fed_of r c.input c.out in
    written_in f.written f.out ++ texts_fed f.report more last

abbrev pub PiecesReported : Type 0
PiecesReported = (pieces : List Piece) (last : List ℕ) → RoomFor 110 200 pieces last → texts_fed start_of pieces last ≡ reported (input_of pieces)
