-- `node_record::empty_sound` meets its contract: it makes the tests of its definition. Assumes nothing.
use mathlib.Core.Path.{refl, ap₂}
use mathlib.Core.Bool.{◌||◌}
use Rattle.node_record.specs.Soundness.{implies}
use Rattle.node_record.proofs.empty_sound.Goals as goal

pub returns : goal.returns
returns c = ap₂ implies (ap₂ ◌||◌ c.is_listening.ensures c.is_out.ensures) refl
