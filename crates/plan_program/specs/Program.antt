-- Document 01, "The bench program": what the program prints of a whole plan text. A text is the list of its bytes.
use Rattle.std.specs.Prelude.{ℕ, Bool, true, false, cond, List, [], ◌∷◌, ◌++◌, eqb, length}
use Rattle.refusal.specs.Causes.{number_of}
use Rattle.bench.specs.declared.Outcome.{Outcome}
use Rattle.bench.specs.declared.Outcome.TheVariants as outcome
use Rattle.bench_by_value.specs.declared.Ran.{Ran}
use Rattle.bench_by_value.specs.ByValue.{Rows}
use Rattle.plan_line.specs.Words.{parted}
use Rattle.plan_text.specs.Text.{next_line, slot_text, refusal_text}
use Rattle.plan_run.specs.declared.Opened.{Opened}
use Rattle.plan_run.specs.Run.{no_rows, opened_of, ran_of}
use Rattle.plan_program.specs.declared.Plan.{Plan}

-- ---- a line

-- A plan before line one: no line was run and none refused; there is no node.
abbrev pub no_plan : Plan
no_plan = record { lines = 0; n = 0; rows = no_rows; over = false; outcome = outcome.Quiet }

abbrev pub is_refused : Outcome → Bool
is_refused outcome.Quiet = false
is_refused (outcome.Slot slot sender fate shown distance) = false
is_refused (outcome.Refused cause) = true

-- The plan after line L, whose outcome is o; "A refused line .. ends the run": then it is over.
abbrev pub plan_with : ℕ → ℕ → Rows → Outcome → Plan
plan_with L n rows o = record { lines = L; n = n; rows = rows; over = is_refused o; outcome = o }

abbrev pub plan_opened : ℕ → Opened → Plan
plan_opened L o = plan_with L o.n o.rows o.outcome

abbrev pub plan_ran : ℕ → ℕ → Ran → Plan
plan_ran L n r = plan_with L n r.rows r.outcome

-- "Line one: n, space, k." sets the bench up; each later line runs on it (plan_run's specs/Run).
unfoldable pub run_line : Plan → List ℕ → Plan
run_line p line =
    cond (eqb p.lines 0)
    (plan_opened (next_line p.lines) (opened_of line))
    (plan_ran (next_line p.lines) p.n (ran_of p.n p.rows line))

-- A line after the end of the run does nothing.
abbrev pub quiet : Plan → Plan
quiet p = record { lines = p.lines; n = p.n; rows = p.rows; over = p.over; outcome = outcome.Quiet }

unfoldable pub after_line : Plan → List ℕ → Plan
after_line p line = cond p.over (quiet p) (run_line p line)

-- "Each slot prints: slot, sender, fate ..", "A refused line prints `line L refusal N`", and nothing is printed of any other line.
abbrev pub text_of : ℕ → Outcome → List ℕ
text_of L outcome.Quiet = []
text_of L (outcome.Slot slot sender fate shown distance) = slot_text slot sender fate shown distance
text_of L (outcome.Refused cause) = refusal_text L (number_of cause)

-- What is printed of the last line.
abbrev pub line_text : Plan → List ℕ
line_text p = text_of p.lines p.outcome

-- ---- all lines

-- "Lines .. end in a line feed" (byte 10): the parts of a text but the last are its lines; the last is what stands after the last line feed.
abbrev pub lines_in : List ℕ → List (List ℕ)
lines_in text = parted 10 text

-- Some lines that were run: the plan after them, what stands after the last line feed, and what is printed.
pub record Run : Type 0 where
  pub plan : Plan
  pub rest : List ℕ
  pub text : List ℕ

-- A run that is printed after a text.
abbrev pub text_then : List ℕ → Run → Run
text_then text r = record { plan = r.plan; rest = r.rest; text = text ++ r.text }

-- The lines one after the other.
unfoldable pub run_of : Plan → List (List ℕ) → Run
run_of p [] = record { plan = p; rest = []; text = [] }
run_of p (rest ∷ []) = record { plan = p; rest = rest; text = [] }
run_of p (line ∷ next ∷ parts) = let q = after_line p line in text_then (line_text q) (run_of q (next ∷ parts))

-- "Empty input or a missing last line feed is an unreadable line": the input may end after a line or after the end of the run.
abbrev pub may_end : Plan → List ℕ → Bool
may_end p rest = cond p.over true (cond (eqb p.lines 0) false (eqb (length rest) 0))

-- What is printed where the input ends: "plan line unreadable" is 12.
unfoldable pub end_text : Plan → List ℕ → List ℕ
end_text p rest = cond (may_end p rest) [] (refusal_text (next_line p.lines) 12)

abbrev pub whole_text : Run → List ℕ
whole_text r = r.text ++ end_text r.plan r.rest

-- What the program prints of its whole input.
unfoldable pub printed : List ℕ → List ℕ
printed input = whole_text (run_of no_plan (lines_in input))
