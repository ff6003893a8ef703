-- `plan_program::put_end` meets its contract. Assumes nothing.
use mathlib.Core.Path.{sym, ◌∙◌}
use Rattle.plan_text.proofs.Paste.{nothing}
use Rattle.plan_program.specs.Calls.{bytes_in}
use Rattle.plan_program.proofs.Pieces.{end_none, end-some}
use Rattle.plan_program.proofs.put_end.Goals as goal

pub returns-then-may_end : goal.returns-then-may_end
returns-then-may_end c =
    let a = c.args in
    rw (end_none a.plan (bytes_in a.part) (sym c.may_end.ensures ∙ c.if-may_end.true)) (nothing a.at a.out.now).put

pub returns : goal.returns
returns c =
    let a = c.args in
    rw (end-some a.plan (bytes_in a.part) (sym c.may_end.ensures ∙ c.if-may_end.false)) (rw c.next_line.ensures at c.put.ensures)
