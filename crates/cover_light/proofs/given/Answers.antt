-- `cover_light::given` meets its contract. Assumes nothing.
use mathlib.Core.Path.{sym, ◌∙◌}
use Rattle.nodeset.proofs.Tests.{chosen, otherwise}
use Rattle.cover_light.proofs.given.Goals as goal

pub returns-then-member : goal.returns-then-member
returns-then-member c = c.worked.ensures ∙ sym (chosen _ _ c.if-member.true)

pub returns : goal.returns
returns c = sym (otherwise _ _ c.if-member.false)
