-- `node_record::returning_sound` meets its contract: it makes the tests of its definition. Assumes nothing.
use mathlib.Core.Path.{ap}
use mathlib.Core.Bool.{Bool, not, ◌&&◌}
use lib.Dec.{leb}
use Rattle.node_record.proofs.returning_sound.Goals as goal

pub returns : goal.returns
returns c =
    let v = c.args.v in
    ap (λ (b : Bool). leb v.returning v.cable.n && not b) c.has.ensures
