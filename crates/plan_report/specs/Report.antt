-- Document 02, request m: what the program prints of a whole text of plans. A text is the list of its bytes.
use Rattle.std.specs.Prelude.{ℕ, Bool, true, false, cond, ◌||◌, not, List, [], ◌∷◌, ◌++◌, eqb, length, Result, Ok, Err}
use Rattle.refusal.specs.Causes.{number_of}
use Rattle.node.specs.Calls.{is_done}
use Rattle.bench.specs.declared.Outcome.{Outcome}
use Rattle.bench.specs.declared.Outcome.TheVariants as outcome
use Rattle.bench.specs.Table.{Table}
use Rattle.plan_program.specs.bench_by_value.ByValue.{table_of}
use Rattle.plan_line.specs.Words.{bytes, same}
use Rattle.plan_text.specs.Text.{next_line, number_then, refusal_text}
use Rattle.plan_program.specs.declared.Plan.{Plan}
use Rattle.plan_program.specs.Program.{after_line, lines_in, no_plan}
use Rattle.plan_program.specs.Tables.{after_lines}
use Rattle.plan_report.specs.declared.Figures.{Figures}
use Rattle.plan_report.specs.declared.Stopped.{Stopped}
use Rattle.plan_report.specs.Figures.{slot_figures, no_figures, plus, add_of}

-- ---- the plans of a text

-- "Several plans .., parted by a line `next`".
unfoldable pub is_next : List ℕ → Bool
is_next line = same (bytes "next") line

-- The lines of a plan and, of the last plan, what stands after the last line feed.
pub record PlanText : Type 0 where
  pub lines : List (List ℕ)
  pub rest : List ℕ

abbrev pub of_rest : List ℕ → PlanText
of_rest rest = record { lines = []; rest = rest }

-- The first plan with a line more, before its others.
abbrev pub with_line : List ℕ → List PlanText → List PlanText
with_line line [] = []
with_line line (p ∷ more) = record { lines = line ∷ p.lines; rest = p.rest } ∷ more

-- The parts of a text but the last are its lines. There is a plan more than there are lines `next`.
unfoldable pub plans_in : List (List ℕ) → List PlanText
plans_in [] = of_rest [] ∷ []
plans_in (rest ∷ []) = of_rest rest ∷ []
plans_in (line ∷ next ∷ more) = cond (is_next line) (of_rest [] ∷ plans_in (next ∷ more)) (with_line line (plans_in (next ∷ more)))

-- ---- the figures of a plan: its lines are run as the bench program runs them

-- The line ran a slot.
abbrev pub is_slot_line : Outcome → Bool
is_slot_line outcome.Quiet = false
is_slot_line (outcome.Slot slot sender fate shown distance) = true
is_slot_line (outcome.Refused cause) = false

-- The tables after the slots that some lines run.
unfoldable pub slot_tables : Plan → List (List ℕ) → List Table
slot_tables p [] = []
slot_tables p (line ∷ more) =
    let q = after_line p line in
    cond (is_slot_line q.outcome) (table_of q.n q.rows ∷ slot_tables q more) (slot_tables q more)

-- "The number of slots, the sum over slots ..": what each of them adds, together.
unfoldable pub sum_over : List Table → Figures
sum_over [] = no_figures
sum_over (t ∷ more) = plus (slot_figures t) (sum_over more)

abbrev pub figures_of : List (List ℕ) → Figures
figures_of lines = sum_over (slot_tables no_plan lines)

-- ---- what comes of a plan

-- By which number a line was refused, and the first of some lines that was; 0 for none.
abbrev pub fault_in : Outcome → ℕ
fault_in outcome.Quiet = 0
fault_in (outcome.Slot slot sender fate shown distance) = 0
fault_in (outcome.Refused cause) = number_of cause

unfoldable pub fault_of : Plan → List (List ℕ) → ℕ
fault_of p [] = 0
fault_of p (line ∷ more) = let q = after_line p line in cond q.over (fault_in q.outcome) (fault_of q more)

-- Its figures count, or it is refused at a line by this number.
abbrev pub Verdict : Type 0
Verdict = Result Unit Stopped

abbrev pub refused_at : ℕ → ℕ → Verdict
refused_at line number = Err (record { line = line; number = number })

-- Of a plan after its lines, where this was its fault. "A refused plan prints `plan P line L refusal N`, L counted from the plan's first line .., and reading goes on at the next `next`"; "A plan without lines .. is refused with 12 in line 1", and a line
-- that does not end is unreadable; "(A sum passing 64 bits ..: 19 .. In the program that plan is refused so, at its last line.)"
unfoldable pub verdict_with : Plan → ℕ → Bool → Figures → Figures → Verdict
verdict_with q fault begun totals figures =
    cond q.over (refused_at q.lines fault)
    (cond (eqb q.lines 0 || begun) (refused_at (next_line q.lines) 12)
    (cond (is_done (add_of totals figures).answer) (Ok tt) (refused_at q.lines 19)))

-- Bytes have come of a line that does not end.
abbrev pub is_begun : List ℕ → Bool
is_begun rest = not (eqb (length rest) 0)

abbrev pub verdict_on : Figures → PlanText → Verdict
verdict_on totals p = verdict_with (after_lines no_plan p.lines) (fault_of no_plan p.lines) (is_begun p.rest) totals (figures_of p.lines)

-- A refused plan "is left out of the total".
abbrev pub totals_with : Verdict → Figures → Figures → Figures
totals_with (Ok _) totals figures = (add_of totals figures).totals
totals_with (Err stopped) totals figures = totals

-- ---- what is printed

-- "The four figures, with single spaces".
abbrev pub figures_text : Figures → List ℕ
figures_text f = number_then 32 f.slots ++ number_then 32 f.members ++ number_then 32 f.listed ++ number_then 10 f.apart

abbrev pub verdict_text : Verdict → Figures → List ℕ
verdict_text (Ok _) f = figures_text f
verdict_text (Err stopped) f = refusal_text stopped.line stopped.number

-- "Each plan gives one line: `plan`, its number from 1, and the four figures".
unfoldable pub plan_text : ℕ → Verdict → Figures → List ℕ
plan_text number v f = bytes "plan " ++ number_then 32 number ++ verdict_text v f

-- "The last line is `total` and four sums."
unfoldable pub total_text : Figures → List ℕ
total_text f = bytes "total " ++ figures_text f

-- After so many plans, with these totals.
unfoldable pub plans_text : ℕ → Figures → List PlanText → List ℕ
plans_text plans totals [] = total_text totals
plans_text plans totals (p ∷ more) =
    let v = verdict_on totals p in
    plan_text (next_line plans) v (figures_of p.lines) ++ plans_text (next_line plans) (totals_with v totals (figures_of p.lines)) more

-- What the program prints of its whole input.
unfoldable pub reported : List ℕ → List ℕ
reported text = plans_text 0 no_figures (plans_in (lines_in text))
