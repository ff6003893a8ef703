-- `plan_report::after_line` meets its contract. Assumes nothing.
use mathlib.Core.Path.{sym, ◌∙◌}
use Rattle.plan_program.specs.Calls.{bytes_in}
use Rattle.plan_report.proofs.Lines.{goes-on, next-ends}
use Rattle.plan_report.proofs.after_line.Goals as goal

pub returns-then-is_next : goal.returns-then-is_next
returns-then-is_next c =
    let a = c.args in
    c.plan_ended.ensures ∙ sym (next-ends a.t (bytes_in a.part) (sym c.is_next.ensures ∙ c.if-is_next.true))

pub returns : goal.returns
returns c =
    let a = c.args in
    c.line_done.ensures ∙ sym (goes-on a.t (bytes_in a.part) (sym c.is_next.ensures ∙ c.if-is_next.false))
