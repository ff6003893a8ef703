-- `plan_report::put_total` meets its contract. Assumes nothing.
use native.Mathlib.Omega.{arith}
use Rattle.plan_text.proofs.Paste.{both}
use Rattle.plan_report.specs.Report.{total_text}
use Rattle.plan_report.proofs.put_total.Goals as goal

pub returns : goal.returns
unfolding total_text
returns c =
    let figures = c.put_figures.ensures in
    let word = c.put_word-word.ensures in
    record { put = both (omega (arith, c.requires)) word figures.put; few = omega (arith, word.end, figures.few) }
