-- `ring_c::ring_is_sponsor_count` meets its contract: it is what the ring answers. Assumes nothing.
use mathlib.Core.Path.{ap, ◌∙◌}
use Rattle.cable.specs.Cable.{sponsor_count}
use Rattle.ring_c.proofs.ring_is_sponsor_count.Goals as goal

pub returns : goal.returns
returns c = c.is_sponsor_count.ensures ∙ ap sponsor_count c.plain_cable.ensures
