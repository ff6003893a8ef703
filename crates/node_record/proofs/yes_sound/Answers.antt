-- `node_record::yes_sound` meets its contract: it makes the tests of its definition. Assumes nothing.
use mathlib.Core.Path.{ap}
use Rattle.node_record.specs.Soundness.{implies}
use Rattle.node_record.proofs.yes_sound.Goals as goal

pub returns : goal.returns
returns c = ap (implies c.args.v.yes_heard) c.is_member.ensures
