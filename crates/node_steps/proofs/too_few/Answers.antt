-- `node_steps::too-few` meets its contract: it makes the tests of its definition. Assumes nothing.
use mathlib.Core.Path.{ap}
use mathlib.Core.Bool.{Bool, not, ◌&&◌}
use lib.Dec.{ltb}
use Rattle.node_steps.proofs.too_few.Goals as goal

pub returns : goal.returns
returns c =
    let v = c.args.v in
    ap (λ (b : Bool). not b && ltb v.row.length 2) c.is_member.ensures
