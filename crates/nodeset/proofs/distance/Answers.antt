-- `nodeset::distance` meets its contract: the differing bits are those of the exclusive or. Assumes nothing.
use mathlib.Core.Path.{◌∙◌}
use Rattle.nodeset.proofs.Counts.{size-xor}
use Rattle.nodeset.proofs.distance.Goals as goal

pub returns : goal.returns
returns c = c.size.ensures ∙ size-xor c.args.n c.args.a c.args.b
