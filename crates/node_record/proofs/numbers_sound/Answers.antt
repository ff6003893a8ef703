-- `node_record::numbers_sound` meets its contract: it makes the tests of its definition. Assumes nothing.
use mathlib.Core.Path.{refl, ap₂}
use mathlib.Core.Bool.{◌&&◌}
use Rattle.node_record.proofs.numbers_sound.Goals as goal

pub returns : goal.returns
returns c = ap₂ ◌&&◌ c.cable_fits.ensures (ap₂ ◌&&◌ c.is_node_number.ensures refl)
