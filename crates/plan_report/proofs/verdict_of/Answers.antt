-- `plan_report::verdict_of` meets its contract. Assumes nothing.
use Rattle.std.specs.Prelude.{Ok}
use Prim.Native.Nat.{ℕ}
use mathlib.Core.Path.{◌≡◌, sym, ap, ◌∙◌}
use mathlib.Core.Bool.{Bool, true, false, ◌||◌}
use lib.Dec.{eqb}
use Rattle.node.specs.Calls.{is_done}
use Rattle.plan_text.specs.Text.{next_line}
use Rattle.plan_report.specs.declared.Added.{Added}
use Rattle.plan_report.specs.declared.Tally.{Tally}
use Rattle.plan_report.specs.Figures.{add_of}
use Rattle.plan_report.specs.Report.{verdict_with, refused_at}
use Rattle.plan_report.specs.Tallies.{verdict_of}
use Rattle.plan_report.proofs.verdict_of.Goals as goal

module _ (t : Tally) (begun : Bool) where
  was-refused : t.plan.over ≡ true → verdict_of t begun ≡ refused_at t.plan.lines t.fault
  unfolding verdict_with
  was-refused e = simp e

  unended : t.plan.over ≡ false → (eqb t.plan.lines 0 || begun) ≡ true → verdict_of t begun ≡ refused_at (next_line t.plan.lines) 12
  unfolding verdict_with
  unended e f = simp (e, f)

  counted : t.plan.over ≡ false → (eqb t.plan.lines 0 || begun) ≡ false → is_done (add_of t.totals t.figures).answer ≡ true → verdict_of t begun ≡ Ok tt
  unfolding verdict_with
  counted e f g = simp (e, f, g)

  passed : t.plan.over ≡ false → (eqb t.plan.lines 0 || begun) ≡ false → is_done (add_of t.totals t.figures).answer ≡ false → verdict_of t begun ≡ refused_at t.plan.lines 19
  unfolding verdict_with
  passed e f g = simp (e, f, g)

pub returns-then-plan : goal.returns-then-plan
returns-then-plan c = let a = c.args in sym (was-refused a.t a.begun c.if-plan.true)

pub returns-then-plan-begun : goal.returns-then-plan-begun
returns-then-plan-begun c =
    let a = c.args in
    ap (λ (n : ℕ). refused_at n 12) c.next_line.ensures ∙ sym (unended a.t a.begun c.if-plan.false c.if-plan-begun.true)

pub returns-in-Ok : goal.returns-in-Ok
returns-in-Ok c = let a = c.args in sym (counted a.t a.begun c.if-plan.false c.if-plan-begun.false (ap (λ (d : Added). is_done d.answer) (sym c.add-added.ensures) ∙ ap is_done c.in-Ok.is))

pub returns-in-Err : goal.returns-in-Err
returns-in-Err c = let a = c.args in sym (passed a.t a.begun c.if-plan.false c.if-plan-begun.false (ap (λ (d : Added). is_done d.answer) (sym c.add-added.ensures) ∙ ap is_done c.in-Err.is))
