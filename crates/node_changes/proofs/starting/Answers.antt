-- `node_changes::starting` meets its contract: the row is that of the full set. Assumes nothing.
use Prim.Native.Nat.{ℕ}
use mathlib.Core.Path.{ap, ◌∙◌}
use Rattle.row.specs.declared.Row.{Row}
use Rattle.row.specs.Rows.{as_row}
use Rattle.node_changes.specs.Held.{beginning}
use Rattle.node_changes.proofs.starting.Goals as goal

pub returns : goal.returns
returns c =
    let a = c.args in
    ap (λ (r : Row). beginning a.cable a.own r c.full-all.result) c.as_row.ensures
    ∙ ap (λ (all : ℕ). beginning a.cable a.own (as_row a.cable.order all) all) c.full-all.ensures
