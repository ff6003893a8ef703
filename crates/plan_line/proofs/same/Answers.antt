-- `plan_line::same` meets its contract.
-- Assumes nothing.
use mathlib.Core.Path.{◌∙◌}
use Rattle.plan_line.proofs.Words.{equal}
use Rattle.plan_line.proofs.same.Goals as goal

pub returns : goal.returns
returns c = c.eq.ensures ∙ equal c.args.word.now c.args.line.now
