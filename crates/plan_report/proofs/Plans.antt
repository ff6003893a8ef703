-- A text that is reported line by line (specs/Tallies) is reported plan by plan (specs/Report). Assumes nothing.
use Prim.Native.Nat.{ℕ}
use mathlib.Core.Path.{◌≡◌, refl, sym, ap, ◌∙◌}
use mathlib.Core.Bool.{Bool, true, false, cond, false≢true}
use mathlib.Core.List.{List, [], ◌∷◌, ◌++◌}
use Rattle.nodeset.proofs.Tests.{by_cases}
use Rattle.bench.specs.declared.Outcome.{Outcome}
use Rattle.bench.specs.declared.Outcome.TheVariants as outcome
use Rattle.plan_program.specs.bench_by_value.ByValue.{table_of}
use Rattle.plan_text.specs.Text.{next_line}
use Rattle.plan_program.specs.declared.Plan.{Plan}
use Rattle.plan_program.specs.Program.{after_line, is_refused, lines_in, no_plan}
use Rattle.plan_program.specs.Tables.{after_lines}
use Rattle.plan_report.specs.declared.Figures.{Figures}
use Rattle.plan_report.specs.declared.Tally.{Tally}
use Rattle.plan_report.specs.Figures.{last64, no_figures, plus, slot_figures}
use Rattle.plan_report.specs.Report.{fault_in, fault_of, figures_of, is_begun, is_next, is_slot_line, plans_in, plans_text, reported, slot_tables, sum_over, total_text, totals_with, verdict_on, with_line, PlanText}
use Rattle.plan_report.specs.Tallies.{after_line_in, end_text, figures_after, line_done, line_text, lines_text, no_tally, plan_ended, raised_by, tally_with}
use Rattle.plan_report.proofs.Summed.{all-few, line_figures, over-refused, stays-over, sum-next, sum-none}
use Rattle.plan_report.proofs.Sums.{none-few, none-plus, not_stopped, stopped, stopped-alone, stopped-few, stopped-twice, AtMost}

-- ---- the lines of a plan

-- After lines of which none is `next`.
unfoldable after_all : Tally → List (List ℕ) → Tally
after_all t [] = t
after_all t (line ∷ more) = after_all (line_done t line) more

plans-are : (t : Tally) (lines : List (List ℕ)) → (after_all t lines).plans ≡ t.plans
unfolding after_all
plans-are t [] = refl
plans-are t (line ∷ more) = plans-are (line_done t line) more

totals-are : (t : Tally) (lines : List (List ℕ)) → (after_all t lines).totals ≡ t.totals
unfolding after_all
totals-are t [] = refl
totals-are t (line ∷ more) = totals-are (line_done t line) more

plan-is : (t : Tally) (lines : List (List ℕ)) → (after_all t lines).plan ≡ after_lines t.plan lines
unfolding after_all after_lines
plan-is t [] = refl
plan-is t (line ∷ more) = plan-is (line_done t line) more

-- ---- its fault

fault-none : (o : Outcome) → is_refused o ≡ false → fault_in o ≡ 0
fault-none outcome.Quiet e = refl
fault-none (outcome.Slot slot sender fate shown distance) e = refl
fault-none (outcome.Refused cause) e = absurd (false≢true (sym e))

-- There is no fault where the plan goes on.
abbrev NoFault : Tally → Type 0
NoFault t = t.plan.over ≡ false → t.fault ≡ 0

still-none : (t : Tally) (line : List ℕ) → NoFault (line_done t line)
still-none t line on =
    by_cases t.plan.over
    (λ e. absurd (false≢true (sym on ∙ stays-over t.plan line e)))
    (λ e. ap (λ (over : Bool). cond over t.fault (fault_in (after_line t.plan line).outcome)) e ∙ fault-none (after_line t.plan line).outcome (sym (over-refused t.plan line e) ∙ on))

fault-is : (t : Tally) (lines : List (List ℕ)) → NoFault t → (after_all t lines).fault ≡ cond t.plan.over t.fault (fault_of t.plan lines)
unfolding after_all fault_of
fault-is t [] none = by_cases t.plan.over (λ e. sym (ap (λ (b : Bool). cond b t.fault 0) e)) (λ e. none e ∙ sym (ap (λ (b : Bool). cond b t.fault 0) e))
fault-is t (line ∷ more) none =
    let q = after_line t.plan line in
    let here = fault_in q.outcome in
    let rest = fault_of q more in
    let next = fault-is (line_done t line) more (still-none t line) in
    by_cases t.plan.over
    (λ e.
    next
    ∙ ap (λ (b : Bool). cond b (cond t.plan.over t.fault here) rest) (stays-over t.plan line e)
    ∙ ap (λ (b : Bool). cond b t.fault here) e
    ∙ sym (ap (λ (b : Bool). cond b t.fault (cond q.over here rest)) e))
    (λ e.
    next
    ∙ ap (λ (b : Bool). cond q.over (cond b t.fault here) rest) e
    ∙ sym (ap (λ (b : Bool). cond b t.fault (cond q.over here rest)) e))

-- ---- its figures

line-adds : (f : Figures) (q : Plan) → AtMost last64 f → figures_after f q ≡ stopped (plus f (line_figures q))
line-adds f q few = go (is_slot_line q.outcome)
  where
    go : (slot : Bool) → cond slot (raised_by f (slot_figures (table_of q.n q.rows))) f ≡ stopped (plus f (cond slot (slot_figures (table_of q.n q.rows)) no_figures))
    go true = refl
    go false = stopped-alone few

figures-are : (t : Tally) (lines : List (List ℕ)) → AtMost last64 t.figures → (after_all t lines).figures ≡ stopped (plus t.figures (sum_over (slot_tables t.plan lines)))
unfolding after_all
figures-are t [] few = stopped-alone few ∙ sym (ap (λ (s : Figures). stopped (plus t.figures s)) (sum-none t.plan))
figures-are t (line ∷ more) few =
    let q = after_line t.plan line in
    let rest = sum_over (slot_tables q more) in
    let now : figures_after t.figures q ≡ stopped (plus t.figures (line_figures q)) = line-adds t.figures q few in
    figures-are (line_done t line) more (rw now (stopped-few (plus t.figures (line_figures q))))
    ∙ ap (λ (f : Figures). stopped (plus f rest)) now
    ∙ stopped-twice t.figures (line_figures q) rest
    ∙ ap (λ (s : Figures). stopped (plus t.figures s)) (sym (sum-next t.plan line more))

-- ---- plan by plan

module _ (plans : ℕ) (totals : Figures) (lines : List (List ℕ)) where
  -- What is kept at the end of a plan's lines.
  abbrev told : Tally
  told = record { plans = plans; plan = after_lines no_plan lines; figures = figures_of lines; fault = fault_of no_plan lines; totals = totals }

  tally-is : after_all (tally_with plans totals) lines ≡ told
  tally-is =
      let t = tally_with plans totals in
      let u = after_all t lines in
      let figures : u.figures ≡ figures_of lines = figures-are t lines (none-few last64) ∙ ap stopped (none-plus (figures_of lines)) ∙ not_stopped (all-few lines) in
      ap (λ (x : ℕ). record { plans = x; plan = u.plan; figures = u.figures; fault = u.fault; totals = u.totals }) (plans-are t lines)
      ∙ ap (λ (x : Plan). record { plans = plans; plan = x; figures = u.figures; fault = u.fault; totals = u.totals }) (plan-is t lines)
      ∙ ap (λ (x : Figures). record { plans = plans; plan = after_lines no_plan lines; figures = x; fault = u.fault; totals = u.totals }) figures
      ∙ ap (λ (x : ℕ). record { plans = plans; plan = after_lines no_plan lines; figures = figures_of lines; fault = x; totals = u.totals }) (fault-is t lines (λ e. refl))
      ∙ ap (λ (x : Figures). record { plans = plans; plan = after_lines no_plan lines; figures = figures_of lines; fault = fault_of no_plan lines; totals = x }) (totals-are t lines)

-- All plans, of which the first goes on from this tally.
unfoldable plans_from : Tally → List PlanText → List ℕ
plans_from t [] = total_text t.totals
plans_from t (p ∷ more) = let u = after_all t p.lines in end_text u (is_begun p.rest) ++ plans_from (plan_ended u (is_begun p.rest)) more

with-line : (t : Tally) (line : List ℕ) (ps : List PlanText) → plans_from t (with_line line ps) ≡ plans_from (line_done t line) ps
unfolding plans_from after_all
with-line t line [] = refl
with-line t line (p ∷ more) = refl

from-lines : (parts : List (List ℕ)) (t : Tally) → lines_text t parts ≡ plans_from t (plans_in parts)
unfolding lines_text plans_from plans_in after_all line_text after_line_in
from-lines [] t = refl
from-lines (rest ∷ []) t = refl
from-lines (line ∷ next ∷ more) t =
    by_cases (is_next line)
    (λ e. rw e (ap (λ (text : List ℕ). end_text t false ++ text) (from-lines (next ∷ more) (plan_ended t false))))
    (λ e. rw e (from-lines (next ∷ more) (line_done t line) ∙ sym (with-line t line (plans_in (next ∷ more)))))

from_start : (ps : List PlanText) (plans : ℕ) (totals : Figures) → plans_from (tally_with plans totals) ps ≡ plans_text plans totals ps
unfolding plans_from plans_text
from_start [] plans totals = refl
from_start (p ∷ more) plans totals =
    let begun = is_begun p.rest in
    ap (λ (u : Tally). end_text u begun ++ plans_from (plan_ended u begun) more) (tally-is plans totals p.lines)
    ∙ ap (λ (text : List ℕ). end_text (told plans totals p.lines) begun ++ text) (from_start more (next_line plans) (totals_with (verdict_on totals p) totals (figures_of p.lines)))

pub by-plans : (text : List ℕ) → lines_text no_tally (lines_in text) ≡ reported text
unfolding reported
by-plans text = from-lines (lines_in text) no_tally ∙ from_start (plans_in (lines_in text)) 0 no_figures
