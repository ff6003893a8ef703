-- `node_reports::row_within` meets its contract: what `all` tells of the row. Assumes nothing.
use borrow.Author.Rules.{rules}
use borrow.Author.Tests.{tests}
use lib.Dec.{leb}
use mathlib.Core.Path.{◌∙◌}
use Rattle.std.proofs.lemmas.Iterator.{YieldsList-from_slice}
use Rattle.std.proofs.lemmas.Iterator.Search.{all_from_yields_List}
use Rattle.node_reports.specs.Reports.{row_within}
use Rattle.node_reports.proofs.Below.{every-list}
use Rattle.node_reports.proofs.row_within.Goals as goal

pub returns : goal.returns
unfolding row_within
returns c =
    let a = c.args in
    all_from_yields_List (λ x. leb x a.slots) _ _ _ c.all.ensures.ran (YieldsList-from_slice a.row cc) (λ x b q k. search (rules, tests))
    ∙ every-list (λ x. leb x a.slots) 0 a.row 8 (search rules)
