-- `node_reports::counts_with` meets its contract: the sender's row alone is made anew. Assumes nothing.
use Prim.Native.Nat.{◌-◌}
use lib.ListN.{set}
use native.Mathlib.Omega.{arith}
use mathlib.Core.Path.{sym, ap, ◌∙◌}
use Rattle.node_reports.proofs.Laws.{no-sender, no_row, own_row}
use Rattle.node_reports.proofs.counts_with.Goals as goal

pub returns-then-sender-eq0 : goal.returns-then-sender-eq0
returns-then-sender-eq0 c = sym (no-sender c.args.sender _ _ c.if-sender-eq0.true)

pub returns-then-sender-gt32 : goal.returns-then-sender-gt32
returns-then-sender-gt32 c = sym (no_row _ _ _ c.if-sender-gt32.true)

pub returns : goal.returns
returns c =
    let a = c.args in
    ap (set a.counts (a.sender - 1)) c.row_with.ensures ∙ own_row a.sender a.jobs a.counts (omega arith) (omega arith)
