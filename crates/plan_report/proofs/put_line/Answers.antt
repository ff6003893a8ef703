-- `plan_report::put_line` meets its contract. Assumes nothing.
use mathlib.Core.Path.{sym, ◌∙◌}
use native.Mathlib.Omega.{arith}
use Rattle.plan_text.proofs.Paste.{nothing}
use Rattle.plan_program.specs.Calls.{bytes_in}
use Rattle.plan_report.proofs.Lines.{next-text, no_text}
use Rattle.plan_report.proofs.put_line.Goals as goal

pub returns-then-is_next : goal.returns-then-is_next
returns-then-is_next c =
    let a = c.args in
    rw (next-text a.t (bytes_in a.part) (sym c.is_next.ensures ∙ c.if-is_next.true)) c.put_plan.ensures

pub returns : goal.returns
returns c =
    let a = c.args in
    rw (no_text a.t (bytes_in a.part) (sym c.is_next.ensures ∙ c.if-is_next.false))
    record { put = (nothing a.at a.out.now).put; few = omega arith }
