-- `plan_report::is_next` meets its contract. Assumes nothing.
use mathlib.Core.Path.{◌≡◌, ap, ◌∙◌}
use borrow.Author.Rules.{rules}
use lib.ListN.{length, take}
use Rattle.std.proofs.lemmas.List.{take_min}
use Rattle.plan_program.specs.Calls.{bytes_in}
use Rattle.plan_report.specs.Report.{is_next}
use Rattle.plan_report.proofs.is_next.Goals as goal

pub returns : goal.returns
unfolding is_next
returns c =
    let p = c.args.part in
    let whole : length p.text ≡ 121 = search rules in
    let held : take c.min.result p.text ≡ bytes_in p = rw (c.min.ensures, ← whole) (take_min p.length p.text) in
    c.same.ensures ∙ ap is_next held
