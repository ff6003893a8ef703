-- Document 02, request l: "The bench must show the same digits and the same bytes as the old layout did." What is printed of a plan text where the bench is a table of the rules, with sets: the definitions of
-- specs/Program, and no row is held. `ShownAsBefore`: the program prints just this.
use Rattle.std.specs.Prelude.{ℕ, ◌≡◌, Bool, true, false, cond, List, [], ◌∷◌, ◌++◌, eqb, length, take, replicate, Err, Ok}
use Rattle.bench.specs.node.Calls.{no_node}
use Rattle.bench.specs.Table.{Table}
use Rattle.bench.specs.Outcomes.{ended_of}
use Rattle.bench.specs.declared.Command.TheVariants as command
use Rattle.bench.specs.declared.Outcome.{Outcome}
use Rattle.bench.specs.declared.Outcome.TheVariants as outcome
use Rattle.plan_line.specs.Plan.{Opening, opening_of, line_of}
use Rattle.plan_text.specs.Text.{next_line, refusal_text}
use Rattle.plan_run.specs.Run.{Act, act_of, choices_of, slots_for}
use Rattle.plan_program.specs.Program.{is_refused, lines_in, printed, text_of}

-- A plan as far as its lines have been run, with the table itself.
pub record SetPlan : Type 0 where
  pub lines : ℕ
  pub n : ℕ
  pub table : Table
  pub over : Bool
  pub outcome : Outcome

-- The table that a line leaves, and what there is to print.
abbrev pub act_on : Table → Act → Table × Outcome
act_on t (Ok c) = let e = ended_of c (slots_for c) 64 t in (e.table, e.reply.outcome)
act_on t (Err cause) = (t, outcome.Refused cause)

-- The plan after line L (`plan_with`).
abbrev pub set_plan : ℕ → ℕ → Table × Outcome → SetPlan
set_plan L n r = record { lines = L; n = n; table = r.0; over = is_refused r.1; outcome = r.1 }

-- Line one sets the table up, of as many records as it says nodes, 32 at the most (`opened_by`).
abbrev pub opened_on : ℕ → Opening → SetPlan
opened_on L (Ok (n, k)) = set_plan L n (act_on (take n (replicate 32 no_node)) (Ok (command.SetUp (choices_of n k))))
opened_on L (Err cause) = set_plan L 0 ([], outcome.Refused cause)

-- "Line one: n, space, k."; each later line runs on the table (`run_line`).
abbrev pub line_on : SetPlan → List ℕ → SetPlan
line_on p line =
    cond (eqb p.lines 0)
    (opened_on (next_line p.lines) (opening_of line))
    (set_plan (next_line p.lines) p.n (act_on p.table (act_of (line_of p.n line))))

-- A line after the end of the run does nothing (`quiet`, `after_line`).
abbrev pub quiet_on : SetPlan → SetPlan
quiet_on p = record { lines = p.lines; n = p.n; table = p.table; over = p.over; outcome = outcome.Quiet }

abbrev pub after_line_on : SetPlan → List ℕ → SetPlan
after_line_on p line = cond p.over (quiet_on p) (line_on p line)

-- What is printed where the input ends (`may_end`, `end_text`).
abbrev pub end_on : SetPlan → List ℕ → List ℕ
end_on p rest = cond (cond p.over true (cond (eqb p.lines 0) false (eqb (length rest) 0))) [] (refusal_text (next_line p.lines) 12)

-- What is printed of some lines, of which the last has not ended (`run_of`, `whole_text`).
unfoldable pub printed_on : SetPlan → List (List ℕ) → List ℕ
printed_on p [] = end_on p []
printed_on p (rest ∷ []) = end_on p rest
printed_on p (line ∷ next ∷ parts) = let q = after_line_on p line in text_of q.lines q.outcome ++ printed_on q (next ∷ parts)

-- Before line one (`no_plan`).
abbrev pub no_set_plan : SetPlan
no_set_plan = record { lines = 0; n = 0; table = []; over = false; outcome = outcome.Quiet }

abbrev pub printed_on_sets : List ℕ → List ℕ
printed_on_sets input = printed_on no_set_plan (lines_in input)

abbrev pub ShownAsBefore : Type 0
ShownAsBefore = (input : List ℕ) → printed input ≡ printed_on_sets input
