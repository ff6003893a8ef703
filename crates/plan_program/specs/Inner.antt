-- Inner: the lines of a piece as the loop over them keeps them; what that loop leaves.
use Rattle.std.specs.Prelude.{ℕ, ◌+◌, ◌-◌, ◌*◌, ◌≤◌, ◌≡◌, Bool, true, false, cond, List, [], ◌++◌, eqb, leb, ltb, length, take, drop, Err, Ok}
use Rattle.refusal.specs.declared.Refusal.TheVariants.{PlanLine}
use Rattle.bench.specs.declared.Outcome.{Outcome}
use Rattle.bench.specs.declared.Outcome.TheVariants as outcome
use Rattle.bench_by_value.specs.ByValue.{Rows}
use Rattle.plan_line.specs.Words.{gap}
use Rattle.plan_line.specs.Plan.{line_of, opening_of}
use Rattle.plan_text.specs.Text.{next_line, PutAt, Written}
use Rattle.plan_run.specs.Run.{Act, act_of, no_rows, opened_of}
use Rattle.plan_run.specs.Inner.{opening_act}
use Rattle.plan_program.specs.declared.Plan.{Plan}
use Rattle.plan_program.specs.declared.Part.{Part}
use Rattle.plan_program.specs.declared.Going.{Going}
use Rattle.plan_program.specs.declared.Ahead.{Ahead}
use Rattle.plan_program.specs.Program.{Run, is_refused, text_of}
use Rattle.plan_program.specs.Calls.{bytes_in, part_in, part_of}

-- ---- a line in parts

abbrev pub lines_after : ℕ → Bool → ℕ
lines_after lines over = cond over lines (next_line lines)

abbrev pub over_after : Bool → Outcome → Bool
over_after over o = cond over true (is_refused o)

-- Nothing is to be printed after the end of the run.
abbrev pub outcome_after : Bool → Outcome → Outcome
outcome_after over o = cond over outcome.Quiet o

abbrev pub size_after : ℕ → ℕ → Bool → List ℕ → ℕ
size_after lines n over line = cond over n (cond (eqb lines 0) (opened_of line).n n)

-- What a line has the bench do. A refusal leaves the table as it is.
abbrev pub act_in : ℕ → ℕ → Bool → List ℕ → Act
act_in lines n over line = cond over (Err PlanLine) (cond (eqb lines 0) (opening_act (opening_of line)) (act_of (line_of n line)))

-- ---- where the lines stand

abbrev pub begun_of : Plan → Part → Going
begun_of p part = record {
  lines = p.lines;
  n = p.n;
  over = p.over;
  outcome = p.outcome;
  held = 0;
  part = part;
  more = false;
  act = Err PlanLine;
  size = p.n;
  at = 0;
}

-- With the next line, and the place after its end.
abbrev pub with_line : Going → Part → Bool → ℕ → Going
with_line g part more at = record {
  lines = g.lines;
  n = g.n;
  over = g.over;
  outcome = g.outcome;
  held = g.held;
  part = part;
  more = more;
  act = act_in g.lines g.n g.over (bytes_in part);
  size = size_after g.lines g.n g.over (bytes_in part);
  at = at;
}

-- Where the next line ends, and the bytes of it that are kept.
abbrev pub end_in : List ℕ → Going → ℕ
end_in input g = g.at + gap 10 (drop g.at input)

abbrev pub kept_in : List ℕ → Going → List ℕ
kept_in input g = take 121 (bytes_in g.part ++ take (end_in input g - g.at) (drop g.at input))

unfoldable pub sought : List ℕ → Going → Going
sought input g = with_line g (part_in g.part.text (kept_in input g)) (ltb (end_in input g) (length input)) (end_in input g + 1)

-- After the line, of which so much was printed.
abbrev pub after_in : Going → ℕ → Outcome → ℕ → Going
after_in g lines o held = record {
  lines = lines;
  n = g.size;
  over = over_after g.over o;
  outcome = o;
  held = held;
  part = part_of [];
  more = g.more;
  act = g.act;
  size = g.size;
  at = g.at;
}

-- The text of a line was put.
pub record Told (g : Going) (o : Outcome) (r : Going) (out written : List ℕ) : Type 0 where
  pub is : r ≡ after_in g (lines_after g.lines g.over) (outcome_after g.over o) r.held
  pub put : PutAt r.held g.held (text_of (lines_after g.lines g.over) (outcome_after g.over o)) out written

-- How many rows a line is carried out on: one at least.
abbrev pub size_of : ℕ → ℕ
size_of n = cond (ltb n 1) 1 (cond (ltb 32 n) 32 n)

-- The rows that the lines run on, where there are any: line one sets its bench up on rows of no node.
abbrev pub rows_for : Plan → Bool → Rows
rows_for p more = cond p.over p.rows (cond (eqb p.lines 0) (cond more no_rows p.rows) p.rows)

abbrev pub came_of : Rows → Going → Ahead
came_of rows g = record {
  plan = record { lines = g.lines; n = g.n; rows = rows; over = g.over; outcome = g.outcome };
  part = g.part;
  count = g.held;
}

-- ---- the lent bytes

-- The place after a text that was written at a place.
unfoldable pub end_of : ℕ → Written → ℕ
end_of at (Ok count) = cond (leb (at + count) 18446744073709551615) (at + count) at
end_of at (Err cause) = at

-- A piece was run, and its text put.
pub record Goes (f : Run) (most : ℕ) (out : List ℕ) (r : Ahead) (written : List ℕ) : Type 0 where
  pub plan-is : r.plan ≡ f.plan
  pub part-is : bytes_in r.part ≡ take 121 f.rest
  pub put : PutAt r.count 0 f.text out written
  pub few : r.count ≤ 80 * most
