-- `node_steps::decided_by` meets its contract: its test is that of the definition. Assumes nothing.
use mathlib.Core.Path.{sym, ◌∙◌}
use Rattle.nodeset.proofs.Tests.{told, chosen, otherwise}
use Rattle.node_steps.proofs.decided_by.Goals as goal

pub returns-then-is_for : goal.returns-then-is_for
returns-then-is_for c = sym (chosen _ _ (told c.is_for.ensures c.if-is_for.true))

pub returns : goal.returns
returns c = c.decided.ensures ∙ sym (otherwise _ _ (told c.is_for.ensures c.if-is_for.false))
