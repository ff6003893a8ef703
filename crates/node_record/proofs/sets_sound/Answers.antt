-- `node_record::sets_sound` meets its contract: it makes the tests of its definition. Assumes nothing.
use mathlib.Core.Path.{ap, ap₂, ◌∙◌}
use mathlib.Core.Bool.{◌&&◌}
use Rattle.nodeset.specs.Sets.{subset}
use Rattle.node_record.proofs.sets_sound.Goals as goal

pub returns : goal.returns
returns c =
    let v = c.args.v in
    ap₂ ◌&&◌ c.is_sound.ensures
    (ap₂ ◌&&◌ c.is_within.ensures (c.is_subset.ensures ∙ ap (subset v.present) c.nodes_in.ensures))
