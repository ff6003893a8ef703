-- `node_record::enough_sound` meets its contract: it makes the tests of its definition. Assumes nothing.
use mathlib.Core.Path.{refl, ap₂}
use mathlib.Core.Bool.{◌||◌}
use Rattle.node_record.specs.Soundness.{implies}
use Rattle.node_record.proofs.enough_sound.Goals as goal

pub returns : goal.returns
returns c = ap₂ implies (ap₂ ◌||◌ c.is_following.ensures c.is_knocking.ensures) refl
