-- `cable::is_same_cable` meets its contract: the tests of its definition. Assumes nothing.
use mathlib.Core.Path.{ap}
use mathlib.Core.Bool.{Bool, ◌&&◌}
use lib.Dec.{eqb}
use Rattle.cable.proofs.is_same_cable.Goals as goal

pub returns : goal.returns
returns c =
    let x = c.args.a in
    let y = c.args.b in
    ap (λ (same : Bool). eqb x.n y.n && (eqb x.k y.k && (eqb x.m y.m && (eqb x.lag y.lag && same)))) c.is_same.ensures
