-- `node_reports::counts_within` meets its contract: what `all` tells of the rows. Assumes nothing.
use borrow.Author.Rules.{rules}
use borrow.Author.Tests.{tests}
use mathlib.Core.Path.{◌∙◌}
use mathlib.Core.List.{[]}
use Rattle.std.proofs.lemmas.Iterator.{YieldsList-from_slice}
use Rattle.std.proofs.lemmas.Iterator.Search.{all_from_yields_List}
use Rattle.node_reports.specs.Reports.{row_within, counts_within}
use Rattle.node_reports.proofs.Below.{every-list}
use Rattle.node_reports.proofs.counts_within.Goals as goal

pub returns : goal.returns
unfolding counts_within
returns c =
    let a = c.args in
    all_from_yields_List (row_within a.slots) _ _ _ c.all.ensures.ran (YieldsList-from_slice a.counts cc) (λ x b q k. search (rules, tests))
    ∙ every-list (row_within a.slots) [] a.counts 32 (search rules)
