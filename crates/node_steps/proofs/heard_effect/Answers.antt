-- `node_steps::heard_effect` meets its contract: it makes the record of its definition. Assumes nothing.
use Prim.Native.Nat.{ℕ}
use mathlib.Core.Path.{ap₂}
use mathlib.Core.Bool.{Bool, true, ◌||◌}
use Rattle.node_steps.proofs.heard_effect.Goals as goal

pub returns : goal.returns
returns c =
    let a = c.args in
    ap₂ (λ (m : ℕ) (y : Bool). record { heard = true; marks = m; yes = a.v.yes_heard || y; returned = a.returned }) c.marks_by.ensures c.has-yes.ensures
