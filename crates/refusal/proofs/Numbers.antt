-- Each number of documents 01 and 02 is that of the cause which bears it: `cause 4` has number 4, and so on. Assumes nothing.
use Prim.Native.Nat.{ℕ}
use mathlib.Core.Path.{◌≡◌, refl}
use mathlib.Core.List.{List, [], ◌∷◌, map}
use Rattle.refusal.specs.Causes.{number_of, cause}

abbrev all : List ℕ
all = 1 ∷ 2 ∷ 3 ∷ 4 ∷ 5 ∷ 6 ∷ 7 ∷ 8 ∷ 9 ∷ 10 ∷ 11 ∷ 12 ∷ 13 ∷ 14 ∷ 15 ∷ 16 ∷ 17 ∷ 18 ∷ 19 ∷ 20 ∷ []

pub number-of-cause : map {B = ℕ} (λ n. number_of (cause n)) all ≡ all
number-of-cause = refl
