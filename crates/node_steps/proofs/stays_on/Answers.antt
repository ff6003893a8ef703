-- `node_steps::stays-on` meets its contract: it makes the tests of its definition. Assumes nothing.
use mathlib.Core.Path.{ap}
use mathlib.Core.Bool.{Bool, ◌||◌}
use lib.Dec.{eqb}
use Rattle.node_steps.proofs.stays_on.Goals as goal

pub returns : goal.returns
returns c = ap (λ (b : Bool). eqb c.args.m 0 || b) c.has.ensures
