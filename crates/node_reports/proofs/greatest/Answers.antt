-- `node_reports::greatest` meets its contract: what `fold` finds. Assumes nothing.
use borrow.Author.Rules.{rules}
use borrow.Author.Tests.{tests}
use Prim.Native.Nat.{max}
use mathlib.Core.Path.{refl, ◌∙◌}
use mathlib.Core.List.{[]}
use Rattle.std.proofs.lemmas.Iterator.{YieldsList-from_slice}
use Rattle.std.proofs.lemmas.Iterator.Consumers.{fold_from_yields_List}
use Rattle.node_reports.specs.Inner.{counts_greatest, greatest_of}
use Rattle.node_reports.proofs.Below.{greatest-list}
use Rattle.node_reports.proofs.greatest.Goals as goal

pub returns : goal.returns
unfolding greatest_of
returns c =
    let xs = c.args.all.now in
    fold_from_yields_List _ (λ best x. max best (counts_greatest x)) 0 c.fold.result c.fold.ensures.ran (YieldsList-from_slice xs cc) (λ best x b q k. search (rules, tests))
    ∙ greatest-list counts_greatest [] xs _ refl
