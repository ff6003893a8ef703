-- `node::slot` meets its contract: the bytes go through the reader. Assumes nothing.
use mathlib.Core.Path.{ap, ◌∙◌}
use Rattle.message.specs.declared.Received.{Received}
use Rattle.node.specs.Held.{counted_held}
use Rattle.node.proofs.slot.Goals as goal

pub returns : goal.returns
returns c = let a = c.args in c.step.ensures ∙ ap (λ (r : Received). counted_held r a.v a.counts) c.read.ensures
