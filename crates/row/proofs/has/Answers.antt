-- `row::has` meets its contract: a node of 1 to 32 is looked for. Assumes nothing.
use native.Mathlib.Omega.{arith}
use mathlib.Core.Path.{◌≡◌, ◌∙◌}
use Rattle.std.proofs.lemmas.Bool.Decides.{nat_tests}
use Rattle.row.specs.Inner.{elem, has_row}
use Rattle.row.proofs.Lists.{any_elem}
use Rattle.row.proofs.has.Goals as goal

pub returns-then-x-le32 : goal.returns-then-x-le32
unfolding has_row
returns-then-x-le32 c =
    let a = c.args in
    let e : c.contains.result ≡ elem a.x a.row.nodes = c.contains.ensures.value ∙ any_elem a.x a.row.nodes in
    grind (arith, nat_tests)

pub returns-else-x-le32 : goal.returns-else-x-le32
unfolding has_row
returns-else-x-le32 c = grind (arith, nat_tests)
