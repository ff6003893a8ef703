-- `node_steps::marked` meets its contract: it makes the record of its definition. Assumes nothing.
use mathlib.Core.Path.{ap, ◌∙◌}
use mathlib.Core.Bool.{Bool, ◌&&◌, ◌||◌}
use Rattle.node_changes.specs.Held.{with_marks}
use Rattle.node_steps.proofs.marked.Goals as goal

pub returns : goal.returns
returns c =
    let a = c.args in
    c.with_marks.ensures
    ∙ ap (λ (b : Bool). with_marks a.effect.marks a.effect.yes (a.v.return_heard || (b && a.effect.returned)) a.v) c.is_knocking.ensures
