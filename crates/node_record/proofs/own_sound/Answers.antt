-- `node_record::own_sound` meets its contract: it makes the tests of its definition. Assumes nothing.
use mathlib.Core.Path.{ap₂}
use Rattle.node_record.specs.Soundness.{exactly}
use Rattle.node_record.proofs.own_sound.Goals as goal

pub returns : goal.returns
returns c = ap₂ exactly c.is_member.ensures c.has.ensures
