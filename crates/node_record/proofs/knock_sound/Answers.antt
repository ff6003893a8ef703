-- `node_record::knock_sound` meets its contract: it makes the tests of its definition. Assumes nothing.
use mathlib.Core.Path.{refl, ap₂}
use Rattle.node_record.specs.Soundness.{exactly}
use Rattle.node_record.proofs.knock_sound.Goals as goal

pub returns : goal.returns
returns c = ap₂ exactly c.is_knocking.ensures refl
