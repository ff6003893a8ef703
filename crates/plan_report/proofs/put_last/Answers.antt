-- `plan_report::put_last` meets its contract. Assumes nothing.
use mathlib.Core.Path.{ap}
use native.Mathlib.Omega.{arith}
use Rattle.plan_text.proofs.Paste.{both}
use Rattle.plan_report.specs.declared.Tally.{Tally}
use Rattle.plan_report.proofs.put_last.Goals as goal

pub returns : goal.returns
returns c =
    let totals = ap (λ (t : Tally). t.totals) c.plan_ended-ended.ensures in
    both (omega arith) c.put_plan-at.ensures.put (rw totals at c.put_total.ensures.put)
