-- `nodeset::with_if` meets its contract. Assumes nothing.
use mathlib.Core.Path.{sym, ◌∙◌}
use Rattle.nodeset.proofs.Tests.{chosen}
use Rattle.nodeset.proofs.with_if.Goals as goal

pub returns-then-so : goal.returns-then-so
returns-then-so c = c.with.ensures ∙ sym (chosen _ _ c.if-so.true)
