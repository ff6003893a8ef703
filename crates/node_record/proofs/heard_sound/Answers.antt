-- `node_record::heard_sound` meets its contract: it makes the tests of its definition. Assumes nothing.
use mathlib.Core.Path.{ap}
use Rattle.node_record.specs.Soundness.{implies}
use Rattle.node_record.proofs.heard_sound.Goals as goal

pub returns : goal.returns
returns c = ap (implies c.args.v.return_heard) c.is_knocking.ensures
