-- `node_steps::join` meets its contract: its test is that of the definition. Assumes nothing.
use mathlib.Core.Path.{sym, ap, ◌∙◌}
use mathlib.Core.Bool.{Bool, not, ◌&&◌}
use Rattle.nodeset.proofs.Tests.{chosen, otherwise}
use Rattle.node_steps.specs.Held.{join}
use Rattle.node_steps.proofs.join.Goals as goal

pub returns-then-is_knocking-v : goal.returns-then-is_knocking-v
unfolding join
returns-then-is_knocking-v c = c.with_returning.ensures ∙ sym (chosen _ _ (sym (ap (λ (b : Bool). b && not c.args.v.return_heard) c.is_knocking.ensures) ∙ c.if-is_knocking-v.true))

pub returns : goal.returns
unfolding join
returns c = c.joined.ensures ∙ sym (otherwise _ _ (sym (ap (λ (b : Bool). b && not c.args.v.return_heard) c.is_knocking.ensures) ∙ c.if-is_knocking-v.false))
