-- `plan_report::take_byte` meets its contract. Assumes nothing.
use mathlib.Core.Path.{sym, ap, ◌∙◌}
use native.Mathlib.Omega.{arith}
use Rattle.plan_text.proofs.Paste.{nothing}
use Rattle.plan_program.specs.declared.Part.{Part}
use Rattle.plan_report.proofs.Lines.{an-end, no_end}
use Rattle.plan_report.proofs.take_byte.Goals as goal

pub returns-then-byte-ne10 : goal.returns-then-byte-ne10
returns-then-byte-ne10 c =
    let a = c.args in
    let is = no_end a.r a.byte c.if-byte-ne10.true in
    record {
      is = ap (λ (p : Part). record { tally = a.r.tally; part = p }) c.with_byte-part.ensures ∙ sym is.0;
      put = record { put = rw is.1 (nothing a.at a.out.now).put; few = omega arith };
    }

pub returns : goal.returns
returns c =
    let a = c.args in
    let is = an-end a.r a.byte c.if-byte-ne10.false in
    record { is = c.line_ended.ensures ∙ sym is.0; put = rw is.1 c.put_line-end.ensures }
