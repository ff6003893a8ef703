-- `node_steps::unheard_marks` meets its contract: its test is that of the definition. Assumes nothing.
use mathlib.Core.Path.{sym, ◌∙◌}
use borrow.Author.Tests.{eq-eqb, ne_eqb}
use Rattle.nodeset.proofs.Tests.{chosen, otherwise}
use Rattle.node_steps.proofs.unheard_marks.Goals as goal

pub returns-then-s-v : goal.returns-then-s-v
returns-then-s-v c = let a = c.args in c.with.ensures ∙ sym (chosen _ _ (eq-eqb a.s a.v.own c.if-s-v.true))

pub returns : goal.returns
returns c = let a = c.args in c.without.ensures ∙ sym (otherwise _ _ (ne_eqb a.s a.v.own c.if-s-v.false))
