-- `plan_report::listed_in` meets its contract. Assumes nothing.
use Rattle.nodeset.proofs.Counts.{size_none}
use Rattle.bench.specs.Runs.{set_in}
use Rattle.bench.specs.Answers.{Listed}
use Rattle.nodeset.specs.Sets.{size}
use mathlib.Core.Path.{sym, ap, ◌∙◌}
use Rattle.plan_report.proofs.listed_in.Goals as goal

pub returns-in-None : goal.returns-in-None
returns-in-None c =
    let a = c.args in
    sym (size_none a.n) ∙ ap (λ (l : Listed). size a.n (set_in l)) (sym c.in-None.is)
