-- `row_sets::is_blank` meets its contract: what it passes over is dropped. Assumes nothing.
use Prim.Native.Nat.{ℕ}
use mathlib.Core.Path.{◌≡◌, refl, ap, ◌∙◌}
use mathlib.Core.Bool.{Bool, ◌&&◌}
use mathlib.Core.List.{List, [], ◌∷◌}
use lib.Dec.{eqb}
use lib.ListN as list
use Rattle.std.proofs.Common.{rules, tests}
use Rattle.std.specs.List.{list_all}
use Rattle.std.proofs.lemmas.Iterator.{YieldsList-from_slice}
use Rattle.std.proofs.lemmas.Iterator.Adapters.{YieldsList-from_skip}
use Rattle.std.proofs.lemmas.Iterator.Search.{all_from_yields_List}
use Rattle.row.specs.Rows.{blank}
use Rattle.row_sets.proofs.is_blank.Goals as goal

all-blank : (l : List ℕ) → list_all (λ x. eqb x 0) l ≡ blank l
all-blank [] = refl
all-blank (x ∷ l) = ap (λ (b : Bool). eqb x 0 && b) (all-blank l)

pub returns : goal.returns
returns c =
    let a = c.args in
    all_from_yields_List (λ x. eqb x 0) _ _ c.all.result c.all.ensures.ran (YieldsList-from_skip a.from (YieldsList-from_slice a.places.now cc) c.skip.ensures.count) (λ x b q k. search (rules, tests))
    ∙ all-blank (list.drop a.from a.places.now)
