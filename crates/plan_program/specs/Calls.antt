-- What `feed`, `finish` and `print_plan` answer, what they leave in the lent bytes, and the law that ties them.
use Rattle.std.specs.Prelude.{ℕ, ◌+◌, ◌*◌, ◌≡◌, ◌≤◌, Bool, true, cond, List, [], ◌∷◌, ◌++◌, eqb, leb, length, take, drop, replicate, Err, Ok}
use Rattle.refusal.specs.declared.Refusal.{Refusal}
use Rattle.refusal.specs.Causes.{cause}
use Rattle.bench.specs.Table.{table_sound}
use Rattle.bench_by_value.specs.ByValue.{table_of}
use Rattle.plan_text.specs.Text.{input_of, written_in, written_of, Piece, Written}
use Rattle.plan_text.specs.Bytewise.{begun_with}
use Rattle.plan_program.specs.declared.Plan.{Plan}
use Rattle.plan_program.specs.declared.Part.{Part}
use Rattle.plan_program.specs.declared.Fed as code
use Rattle.plan_program.specs.Program.{Run, end_text, lines_in, no_plan, printed, run_of}

-- Bytes that begin with a text; the others are as they were.
abbrev pub laid : List ℕ → List ℕ → List ℕ
laid text out = text ++ drop (length text) out

-- ---- a text that comes in pieces

-- The bytes that have come of the next line.
abbrev pub bytes_in : Part → List ℕ
bytes_in part = take part.length part.text

-- A part that holds these bytes, before what stands after them in this text; and before zeros.
abbrev pub part_in : List ℕ → List ℕ → Part
part_in text begun = record { length = length begun; text = laid begun text }

abbrev pub part_of : List ℕ → Part
part_of begun = part_in (replicate 121 0) begun

-- The lines that end in a piece, where these bytes have come of the first.
abbrev pub run_piece : Plan → List ℕ → List ℕ → Run
run_piece p begun input = run_of p (begun_with begun (lines_in input))

-- ---- feed: 4 and 9

-- The bench of a plan that goes on: "table not as above" is 4. Before line one and after the end of the run there is none to test.
unfoldable pub plan_sound : Plan → Bool
plan_sound p = cond p.over true (cond (eqb p.lines 0) true (table_sound (table_of p.n p.rows)))

-- "Lent output too short" is 9. A line has a byte at least, its line feed, and prints 80 at the most.
abbrev pub has_room : List ℕ → List ℕ → Bool
has_room input out = leb (80 * length input) (length out)

-- What comes of a piece: the plan, the part of the next line, the answer, and the lent bytes.
pub record Fed : Type 0 where
  pub plan : Plan
  pub part : Part
  pub written : Written
  pub out : List ℕ

-- Of a line that has not ended 121 bytes are kept: "Lines of at most 120 bytes".
abbrev pub fed_by : Run → List ℕ → Fed
fed_by r out = record { plan = r.plan; part = part_of (take 121 r.rest); written = Ok (length r.text); out = laid r.text out }

-- A refusal changes nothing.
abbrev pub unfed : Refusal → Plan → Part → List ℕ → Fed
unfed cause p part out = record { plan = p; part = part; written = Err cause; out = out }

unfoldable pub fed_of : Plan → Part → List ℕ → List ℕ → Fed
fed_of p part input out =
    cond (plan_sound p)
    (cond (has_room input out) (fed_by (run_piece p (bytes_in part) input) out) (unfed (cause 9) p part out))
    (unfed (cause 4) p part out)

-- What the code answers, and leaves.
abbrev pub fed_as : code.Fed → List ℕ → Fed
fed_as r out = record { plan = r.plan; part = r.part; written = r.written; out = out }

-- ---- print_plan: 9

-- What is printed of a whole input: 80 bytes for each byte, and 80 for the end.
unfoldable pub printed_in : List ℕ → List ℕ → Written × List ℕ
printed_in input out =
    cond (leb (80 * length input + 80) (length out))
    (Ok (length (printed input)), laid (printed input) out)
    (Err (cause 9), out)

-- ---- finish: 9

-- What is printed where the input ends.
abbrev pub finished_of : Plan → List ℕ → List ℕ → Written × List ℕ
finished_of p begun out = written_of (end_text p begun) 0 out

-- ---- the law: a text may come in any pieces

-- Each piece is fed with what the call before it left; then the input ends. What the calls write, one after the other:
unfoldable pub texts_fed : Plan → Part → List Piece → List ℕ → List ℕ
texts_fed p part [] last = let w = finished_of p (bytes_in part) last in written_in w.0 w.1
texts_fed p part (c ∷ more) last =
    let f = fed_of p part c.input c.out in
    written_in f.written f.out ++ texts_fed f.plan f.part more last

-- There is room for what is printed of each piece, and of the end.
abbrev pub Roomy : List Piece → List ℕ → Type 0
Roomy [] last = 80 ≤ length last
Roomy (c ∷ more) last = (has_room c.input c.out ≡ true) × Roomy more last

abbrev pub PiecesPrint : Type 0
PiecesPrint = (pieces : List Piece) (last : List ℕ) → Roomy pieces last → texts_fed no_plan (part_of []) pieces last ≡ printed (input_of pieces)
