-- `node_steps::unheard_effect` meets its contract: it makes the record of its definition. Assumes nothing.
use Prim.Native.Nat.{ℕ}
use mathlib.Core.Path.{ap}
use mathlib.Core.Bool.{false, not, ◌&&◌}
use lib.Dec.{eqb}
use Rattle.node_steps.proofs.unheard_effect.Goals as goal

pub returns : goal.returns
returns c =
    let a = c.args in
    ap (λ (m : ℕ). record { heard = false; marks = m; yes = not (eqb a.s a.v.own) && a.v.yes_heard; returned = false }) c.unheard_marks.ensures
