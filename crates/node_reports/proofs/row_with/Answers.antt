use Prim.Native.Nat.{◌<◌}
use native.Mathlib.Omega.{arith}
use mathlib.Core.Path.{◌∙◌}
use lib.ListN.{length}
use Rattle.node_reports.specs.Reports.{row_with}
use Rattle.node_reports.proofs.Walks.{RowNext, row_told, row_kept, row-none, walk_end}
use Rattle.node_reports.proofs.row_with.Goals as goal
use Rattle.node_reports.proofs.row_with.Goals.{then-rest-eq1, else-rest-eq1}

pub loop-count-preserved : goal.loop-count-preserved
loop-count-preserved c =
    let l = c.loop-count in
    let h : l.count-index < length l.count-items = omega arith in
    let n : RowNext l.count-items c.if-rest-eq1.count-items l.rest l.count-index =
    elim c.if-rest-eq1.branch [
      | then-rest-eq1 w ↦ row_told _ _ _ _ w.saturating_add.result h w.if-rest-eq1.true w.saturating_add.ensures w.count-items-is
      | else-rest-eq1 w ↦ row_kept _ _ _ _ h w.if-rest-eq1.false w.count-items-is
    ] in
    n.1 ∙ l.invariant

pub returns : goal.returns
returns c =
    let l = c.loop-count in
    walk_end (row_with l.rest) l.count-items l.count-index (row-none l.rest) (omega arith) ∙ l.invariant
