-- `plan_line::all_digits` meets its contract.
-- Assumes nothing.
use mathlib.Core.Path.{◌≡◌, refl, ap, ◌∙◌}
use mathlib.Core.Bool.{Bool, ◌&&◌}
use mathlib.Core.List.{List, [], ◌∷◌}
use Prim.Native.Nat.{ℕ}
use borrow.Author.Rules.{rules}
use borrow.Author.Tests.{tests}
use Rattle.std.specs.List.{list_all}
use Rattle.std.proofs.lemmas.Iterator.{YieldsList-from_slice}
use Rattle.std.proofs.lemmas.Iterator.Search.{all_from_yields_List}
use Rattle.plan_line.specs.Words.{all_digits, is_digit}
use Rattle.plan_line.proofs.all_digits.Goals as goal

each : (l : List ℕ) → list_all is_digit l ≡ all_digits l
unfolding all_digits
each [] = refl
each (b ∷ l) = ap (λ (t : Bool). is_digit b && t) (each l)

pub returns : goal.returns
returns c =
    let w = c.args.word.now in
    all_from_yields_List is_digit _ _ _ c.all.ensures.ran (YieldsList-from_slice w cc) (λ x b q k. search (rules, tests)) ∙ each w
