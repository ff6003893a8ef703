-- A report line by line: what is kept between lines, and what is printed of each. (`by-plans` in proofs/Plans: of a whole text this is `reported`.)
use Rattle.std.specs.Prelude.{ℕ, ◌+◌, min, Bool, false, cond, List, [], ◌∷◌, ◌++◌}
use Rattle.plan_program.specs.bench_by_value.ByValue.{table_of}
use Rattle.plan_text.specs.Text.{next_line}
use Rattle.plan_program.specs.declared.Plan.{Plan}
use Rattle.plan_program.specs.Program.{after_line, no_plan}
use Rattle.plan_report.specs.declared.Figures.{Figures}
use Rattle.plan_report.specs.declared.Tally.{Tally}
use Rattle.plan_report.specs.Report.{Verdict, fault_in, is_begun, is_next, is_slot_line, plan_text, total_text, totals_with, verdict_with}
use Rattle.plan_report.specs.Figures.{slot_figures, no_figures, last64}

-- ---- a line of a plan

-- Before a plan's first line.
abbrev pub tally_with : ℕ → Figures → Tally
tally_with plans totals = record { plans = plans; plan = no_plan; figures = no_figures; fault = 0; totals = totals }

abbrev pub no_tally : Tally
no_tally = tally_with 0 no_figures

-- A number raised, up to the last one of 64 bits.
abbrev pub raised : ℕ → ℕ → ℕ
raised x by = min (x + by) last64

abbrev pub raised_by : Figures → Figures → Figures
raised_by f g = record { slots = raised f.slots g.slots; members = raised f.members g.members; listed = raised f.listed g.listed; apart = raised f.apart g.apart }

-- The figures after a line that left this plan: a slot adds those of the table after it.
abbrev pub figures_after : Figures → Plan → Figures
figures_after f q = cond (is_slot_line q.outcome) (raised_by f (slot_figures (table_of q.n q.rows))) f

-- After the first refusal a plan is passed over.
abbrev pub line_done : Tally → List ℕ → Tally
line_done t line =
    let q = after_line t.plan line in
    record { plans = t.plans; plan = q; figures = figures_after t.figures q; fault = cond t.plan.over t.fault (fault_in q.outcome); totals = t.totals }

-- ---- the end of a plan; `begun`: bytes have come of a line that has not ended

abbrev pub verdict_of : Tally → Bool → Verdict
verdict_of t begun = verdict_with t.plan t.fault begun t.totals t.figures

abbrev pub totals_by : Verdict → Tally → Figures
totals_by v t = totals_with v t.totals t.figures

abbrev pub plan_ended : Tally → Bool → Tally
plan_ended t begun = tally_with (next_line t.plans) (totals_by (verdict_of t begun) t)

abbrev pub end_text : Tally → Bool → List ℕ
end_text t begun = plan_text (next_line t.plans) (verdict_of t begun) t.figures

abbrev pub last_text : Tally → List ℕ → List ℕ
last_text t rest = end_text t (is_begun rest) ++ total_text (plan_ended t (is_begun rest)).totals

-- ---- any line

unfoldable pub after_line_in : Tally → List ℕ → Tally
after_line_in t line = cond (is_next line) (plan_ended t false) (line_done t line)

unfoldable pub line_text : Tally → List ℕ → List ℕ
line_text t line = cond (is_next line) (end_text t false) []

-- The parts of a text but the last are its lines.
unfoldable pub lines_text : Tally → List (List ℕ) → List ℕ
lines_text t [] = last_text t []
lines_text t (rest ∷ []) = last_text t rest
lines_text t (line ∷ next ∷ more) = line_text t line ++ lines_text (after_line_in t line) (next ∷ more)
