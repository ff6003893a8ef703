-- `nodeset::is_within` meets its contract: a set of the nodes 1 to n is a part of the full one. Assumes nothing.
use mathlib.Core.Path.{ap, ◌∙◌}
use borrow.Author.Rules.{rules}
use Rattle.nodeset.specs.Sets.{subset}
use Rattle.nodeset.proofs.Subsets.{subset-within}
use Rattle.nodeset.proofs.is_within.Goals as goal

pub returns : goal.returns
returns c =
    let a = c.args in
    c.is_subset.ensures ∙ ap (subset a.s) c.full.ensures ∙ subset-within a.n a.s (search rules)
