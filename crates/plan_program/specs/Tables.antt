-- The run behind `printed` is a run of bench calls (bench's specs/Runs): after each line the table is the one that the lines' calls leave.
use Rattle.std.specs.Prelude.{ℕ, ◌≡◌, true, false, cond, List, [], ◌∷◌, ◌++◌, Ok, Err}
use Rattle.node_record.specs.cable.Cable.{cable_of}
use Rattle.bench.specs.Table.{Table}
use Rattle.bench.specs.Calls.{set_up_of}
use Rattle.bench.specs.Runs.{Call, slot, off, restart, table_after}
use Rattle.bench_by_value.specs.ByValue.{table_of}
use Rattle.plan_line.specs.Plan.{Said, opening_of, line_of}
use Rattle.plan_line.specs.declared.Line.TheVariants as lines
use Rattle.plan_run.specs.Run.{no_rows}
use Rattle.plan_program.specs.declared.Plan.{Plan}
use Rattle.plan_program.specs.Program.{after_line, line_text, no_plan, run_of}

-- ---- the lines of a text

-- All parts but the last.
unfoldable pub whole : List (List ℕ) → List (List ℕ)
whole [] = []
whole (rest ∷ []) = []
whole (line ∷ next ∷ parts) = line ∷ whole (next ∷ parts)

-- The plan after some lines, and what is printed of them.
unfoldable pub after_lines : Plan → List (List ℕ) → Plan
after_lines p [] = p
after_lines p (line ∷ more) = after_lines (after_line p line) more

unfoldable pub texts_of : Plan → List (List ℕ) → List ℕ
texts_of p [] = []
texts_of p (line ∷ more) = line_text (after_line p line) ++ texts_of (after_line p line) more

-- ---- the calls of a plan

-- "Demand 3's calls are the bench's slot, off and restart": that of a line, with 64 bytes for the pairs; none where the line is refused.
abbrev pub made_by : Said → List Call
made_by (Ok lines.Ok) = slot false 0 64 ∷ []
made_by (Ok lines.Lost) = slot true 0 64 ∷ []
made_by (Ok (lines.Miss missed)) = slot false missed 64 ∷ []
made_by (Ok (lines.Off a)) = off a ∷ []
made_by (Ok (lines.On a)) = restart a ∷ []
made_by (Err cause) = []

-- None is made after the end of the run.
abbrev pub calls_in : Plan → List ℕ → List Call
calls_in p line = cond p.over [] (made_by (line_of p.n line))

-- The calls of some lines and those before them, THE LATEST FIRST.
unfoldable pub calls_of : Plan → List Call → List (List ℕ) → List Call
calls_of p before [] = before
calls_of p before (line ∷ more) = calls_of (after_line p line) (calls_in p line ++ before) more

-- "The table that set-up leaves (the common start)".
abbrev pub start_of : ℕ → ℕ → Table
start_of n k = (set_up_of (cable_of n k) (table_of n no_rows)).table

-- ---- the claims

-- What a run prints (`printed` is made of it) is what is printed of its lines.
abbrev pub PrintedByLines : Type 0
PrintedByLines = (p : Plan) (parts : List (List ℕ)) → (run_of p parts).text ≡ texts_of p (whole parts)

-- A plan whose line one says n and k.
pub record Opens (n k : ℕ) (first : List ℕ) : Type 0 where
  pub says : opening_of first ≡ Ok (n, k)

-- Its table after the later lines is the one that these calls leave.
abbrev pub SameTables : Type 0
SameTables =
    (n k : ℕ) (first : List ℕ) → Opens n k first → (more : List (List ℕ))
    → let opened = after_line no_plan first in
    let p = after_lines opened more in
    table_of p.n p.rows ≡ table_after (start_of n k) (calls_of opened [] more)
