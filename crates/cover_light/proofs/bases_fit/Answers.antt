-- `cover_light::bases_fit` meets its contract. Assumes nothing.
use mathlib.Core.Path.{◌∙◌}
use borrow.Author.Rules.{rules}
use borrow.Author.Tests.{ne_eqb}
use lib.Dec.{leb}
use Rattle.std.proofs.Common.{tests}
use Rattle.std.proofs.lemmas.Iterator.{YieldsList-from_slice}
use Rattle.std.proofs.lemmas.Iterator.Search.{all_from_yields_List}
use Rattle.cover_light.specs.Light.{brightest}
use Rattle.cover_light.proofs.Lamps.{unfit-length, fit-by}
use Rattle.cover_light.proofs.bases_fit.Goals as goal

pub returns-then-bases-n : goal.returns-then-bases-n
returns-then-bases-n c =
    let a = c.args in
    all_from_yields_List (λ x. leb x brightest) _ _ _ c.all.ensures.ran (YieldsList-from_slice a.bases.now cc) (λ x b q k. search (rules, tests))
    ∙ fit-by a.n a.bases.now c.if-bases-n.true

pub returns-else-bases-n : goal.returns-else-bases-n
returns-else-bases-n c = let a = c.args in ne_eqb _ _ c.if-bases-n.false ∙ unfit-length a.n a.bases.now c.if-bases-n.false
