-- `nodeset::is_subset` meets its contract: no node of a is one that b lacks. Assumes nothing.
use Prim.Native.Nat.{ℕ}
use mathlib.Core.Path.{ap, ◌∙◌}
use lib.Dec.{eqb}
use borrow.Author.Rules.{rules}
use Rattle.nodeset.proofs.Subsets.{masked-subset}
use Rattle.nodeset.proofs.is_subset.Goals as goal

pub returns : goal.returns
returns c = let a = c.args in ap (λ (x : ℕ). eqb x 0) c.minus.ensures ∙ masked-subset a.a a.b (search rules) (search rules)
