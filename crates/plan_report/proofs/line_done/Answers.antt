-- `plan_report::line_done` meets its contract: what is printed of a slot tells its figures. Assumes nothing.
use Prim.Native.Nat.{ℕ}
use mathlib.Core.Path.{◌≡◌, sym, ap, ◌∙◌}
use mathlib.Core.Bool.{Bool, cond}
use Rattle.plan_program.specs.declared.Plan.{Plan}
use Rattle.plan_program.specs.Program.{after_line}
use Rattle.plan_program.specs.Calls.{bytes_in}
use Rattle.plan_report.specs.Report.{fault_in}
use Rattle.plan_report.specs.Tallies.{figures_after}
use Rattle.plan_report.specs.Inner.{figures_by}
use Rattle.plan_report.proofs.Told.{tells}
use Rattle.plan_report.proofs.line_done.Goals as goal
use Rattle.plan_report.proofs.line_done.Goals.{then-plan, else-plan}

pub returns : goal.returns
returns c =
    let t = c.args.t in
    let q = after_line t.plan (bytes_in c.args.part) in
    let ran = c.run_line-next.ensures in
    let figures : c.figures_by-figures.result ≡ figures_after t.figures q =
    c.figures_by-figures.ensures
    ∙ ap (λ (p : Plan). figures_by t.figures p p.outcome) ran
    ∙ tells t.figures t.plan (bytes_in c.args.part) c.requires in
    let either : Bool → ℕ = λ over. cond over t.fault (fault_in q.outcome) in
    let fault : c.if-plan.fault ≡ either t.plan.over =
    elim c.if-plan.branch [
      | then-plan w ↦ w.fault-is ∙ ap either (sym w.if-plan.true)
      | else-plan w ↦ w.fault-is ∙ w.fault_in-fault.ensures ∙ ap (λ (p : Plan). fault_in p.outcome) ran ∙ ap either (sym w.if-plan.false)
    ] in
    cc (ran, figures, fault)
