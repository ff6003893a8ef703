-- `node_record::is_sound` meets its contract: it makes the tests of its definition. Assumes nothing.
use mathlib.Core.Path.{ap₂, ◌∙◌}
use mathlib.Core.Bool.{◌&&◌}
use Rattle.node_record.specs.Inner.{sound_held}
use Rattle.node_record.proofs.Holding.{held-sound}
use Rattle.node_record.proofs.is_sound.Goals as goal

pub returns : goal.returns
unfolding sound_held
returns c =
    ap₂ ◌&&◌ c.numbers_sound.ensures
    (ap₂ ◌&&◌ c.sets_sound.ensures
    (ap₂ ◌&&◌ c.returning_sound.ensures
    (ap₂ ◌&&◌ c.own_sound.ensures
    (ap₂ ◌&&◌ c.knock_sound.ensures
    (ap₂ ◌&&◌ c.empty_sound.ensures
    (ap₂ ◌&&◌ c.heard_sound.ensures
    (ap₂ ◌&&◌ c.yes_sound.ensures
    (ap₂ ◌&&◌ c.window_sound.ensures
    c.enough_sound.ensures))))))))
    ∙ held-sound c.args.v
