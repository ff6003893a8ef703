use Prim.Native.Nat.{ℕ, suc, ◌<◌, ◌-◌}
use native.Mathlib.Omega.{arith}
use mathlib.Core.Path.{sym, ap, ◌∙◌}
use mathlib.Core.List.{[]}
use lib.ListN.{length, get_or, set}
use Rattle.node_reports.specs.Reports.{counts_with, heard_from}
use Rattle.node_reports.proofs.Walks.{HeardNext, heard-told, heard-kept, heard-none, walk_end}
use Rattle.node_reports.proofs.Laws.{no-jobs, no-sender, no_row, all_same, own_row}
use Rattle.node_reports.proofs.add_reports.Goals as goal
use Rattle.node_reports.proofs.add_reports.Goals.{then-hears, else-hears}

pub returns-then-jobs-eq0 : goal.returns-then-jobs-eq0
returns-then-jobs-eq0 c = sym (all_same _ _ _ _ (λ counts. ap (λ (j : ℕ). counts_with c.args.sender j counts) c.if-jobs-eq0.true ∙ no-jobs c.args.sender counts))

pub returns-then-sender-eq0 : goal.returns-then-sender-eq0
returns-then-sender-eq0 c = sym (all_same _ _ _ _ (λ counts. no-sender _ _ counts c.if-sender-eq0.true))

pub returns-then-sender-gt32 : goal.returns-then-sender-gt32
returns-then-sender-gt32 c = sym (all_same _ _ _ _ (λ counts. no_row _ _ counts c.if-sender-gt32.true))

pub loop-i-preserved : goal.loop-i-preserved
loop-i-preserved c =
    let l = c.loop-i in
    let a = c.args in
    let h : l.i < length l.all = omega arith in
    let own = get_or l.all l.i [] in
    let n : HeardNext l.all c.if-hears.all a.hearers a.sender a.jobs l.i =
    elim c.if-hears.branch [
      | then-hears w ↦ heard-told _ _ _ _ _ _ (set own (a.sender - 1) w.row_with.result) h (sym c.hears.ensures ∙ w.if-hears.true)
          (ap (set own (a.sender - 1)) w.row_with.ensures ∙ own_row a.sender a.jobs own (omega arith) (omega arith)) w.all-is
      | else-hears w ↦ heard-kept _ _ _ _ _ _ h (sym c.hears.ensures ∙ w.if-hears.false) w.all-is
    ] in
    n.1 ∙ l.invariant

pub returns : goal.returns
returns c =
    let l = c.loop-i in
    walk_end (heard_from (suc l.i) _ _ _) l.all l.i (heard-none (suc l.i) _ _ _) (omega arith) ∙ l.invariant
