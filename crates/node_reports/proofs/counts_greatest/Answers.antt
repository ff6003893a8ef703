-- `node_reports::counts_greatest` meets its contract: what `fold` finds. Assumes nothing.
use borrow.Author.Rules.{rules}
use borrow.Author.Tests.{tests}
use Prim.Native.Nat.{max}
use mathlib.Core.Path.{◌∙◌}
use mathlib.Core.List.{[]}
use Rattle.std.proofs.lemmas.Iterator.{YieldsList-from_slice}
use Rattle.std.proofs.lemmas.Iterator.Consumers.{fold_from_yields_List}
use Rattle.node_reports.specs.Inner.{row_greatest, counts_greatest}
use Rattle.node_reports.proofs.Below.{greatest-list}
use Rattle.node_reports.proofs.counts_greatest.Goals as goal

pub returns : goal.returns
unfolding counts_greatest
returns c =
    let xs = c.args.counts.now in
    fold_from_yields_List _ (λ best x. max best (row_greatest x)) 0 c.fold.result c.fold.ensures.ran (YieldsList-from_slice xs cc) (λ best x b q k. search (rules, tests))
    ∙ greatest-list row_greatest [] xs 32 (search rules)
