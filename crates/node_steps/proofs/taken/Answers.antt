-- `node_steps::taken` meets its contract: its test is that of the definition. Assumes nothing.
use mathlib.Core.Path.{sym, ◌∙◌}
use Rattle.nodeset.proofs.Tests.{chosen, otherwise}
use Rattle.node_steps.proofs.taken.Goals as goal

pub returns-then-inside : goal.returns-then-inside
returns-then-inside c = c.marked.ensures ∙ sym (chosen _ _ c.if-inside.true)

pub returns : goal.returns
returns c = c.noted.ensures ∙ sym (otherwise _ _ c.if-inside.false)
