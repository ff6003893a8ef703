-- `node_steps::nothing_heard` meets its contract: it makes the test of its definition. Assumes nothing.
use Prim.Native.Nat.{ℕ}
use mathlib.Core.Path.{ap, ◌∙◌}
use lib.Dec.{eqb}
use Rattle.nodeset.specs.Sets.{size}
use Rattle.node_steps.proofs.nothing_heard.Goals as goal

pub returns : goal.returns
returns c = ap (λ (m : ℕ). eqb m 0) (c.size.ensures ∙ ap (size c.args.v.cable.n) c.without.ensures)
