-- Each number of a cause of leaving is that of the cause which bears it. Assumes nothing.
use Prim.Native.Nat.{ℕ}
use mathlib.Core.Path.{◌≡◌, refl}
use mathlib.Core.List.{List, [], ◌∷◌, map}
use Rattle.node_record.specs.States.{cause_number, leaving_cause}

abbrev all : List ℕ
all = 1 ∷ 2 ∷ 3 ∷ 4 ∷ []

pub number-of-leaving : map {B = ℕ} (λ n. cause_number (leaving_cause n)) all ≡ all
number-of-leaving = refl
