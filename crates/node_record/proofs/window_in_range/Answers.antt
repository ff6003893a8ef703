-- `node_record::window_in_range` meets its contract: it makes the tests of its definition. Assumes nothing.
use mathlib.Core.Bool.{Bool, not, ◌&&◌, ◌||◌}
use lib.Dec.{eqb, leb, ltb}
use Rattle.node_record.specs.Soundness.{implies}
use mathlib.Core.Path.{ap, ap₂}
use Prim.Native.Nat.{ℕ}
use Rattle.node_record.proofs.window_in_range.Goals as goal

pub returns : goal.returns
returns c =
    let a = c.args in
    let w = a.w in
    ap (λ (b : Bool). ltb w.done a.cable.n && b)
    (ap₂ ◌&&◌ c.is_within.ensures
    (ap (λ (b : Bool). leb w.shortest a.cable.k && (implies (eqb w.heard 0) (eqb w.shortest a.cable.k) && b))
    (ap₂ ◌&&◌ c.is_within-2.ensures
    (ap₂ ◌&&◌ (ap (λ (m : ℕ). eqb w.last 0 || leb 2 m) c.size.ensures)
    (ap₂ ◌&&◌ (ap not c.has.ensures) (ap not c.has-2.ensures))))))
