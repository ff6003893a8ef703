-- `node_reports::row_greatest` meets its contract: what `fold` finds. Assumes nothing.
use borrow.Author.Rules.{rules}
use borrow.Author.Tests.{tests}
use Prim.Native.Nat.{ℕ, max}
use mathlib.Core.Path.{◌∙◌}
use Rattle.std.proofs.lemmas.Iterator.{YieldsList-from_slice}
use Rattle.std.proofs.lemmas.Iterator.Consumers.{fold_from_yields_List}
use Rattle.node_reports.specs.Inner.{row_greatest}
use Rattle.node_reports.proofs.Below.{greatest-list}
use Rattle.node_reports.proofs.row_greatest.Goals as goal

pub returns : goal.returns
unfolding row_greatest
returns c =
    let xs = c.args.row in
    fold_from_yields_List _ (λ (best x : ℕ). max best x) 0 c.fold.result c.fold.ensures.ran (YieldsList-from_slice xs cc) (λ best x b q k. search (rules, tests))
    ∙ greatest-list (λ (x : ℕ). x) 0 xs 8 (search rules)
