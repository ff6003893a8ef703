-- Where a walk over a table stands when i records are done: what is folded over them (fold_next), and the table of which they are made anew
-- (partly and its laws). Assumes nothing.
use mathlib.Core.Path.{◌≡◌, refl, sym, ap, ◌∙◌}
use Prim.Native.Nat.{ℕ, zero, suc, ◌+◌, ◌<◌}
use native.Mathlib.Nat.{not-suc-le-zero, le_of_suc-le-suc}
use native.Mathlib.Numerals.{add-one}
use native.Mathlib.Omega.{arith}
use mathlib.Core.List.{List, [], ◌∷◌}
use lib.ListN.{length, get_or, set, take}
use Rattle.bench_orders.specs.Survey.{fold_from, map_from}

later : (k j i : ℕ) → k ≡ j + suc i → k ≡ suc j + i
later k j i e = omega (arith, e)

none : (k j : ℕ) → k ≡ j + 0 → k ≡ j
none k j e = omega (arith, e)

at_zero : (i : ℕ) → i ≡ 0 + i
at_zero i = omega arith

module _ {S X : Type 0} (f : S → ℕ → X → S) where
  next-suc : (s : S) (j i k : ℕ) (xs : List X) (d : X) → k ≡ j + i → i < length xs → f (fold_from f s j (take i xs)) k (get_or xs i d) ≡ fold_from f s j (take (suc i) xs)
  unfolding fold_from
  next-suc s j i k [] d e l = absurd (not-suc-le-zero l)
  next-suc s j zero k (x ∷ xs) d e l = ap (λ (m : ℕ). f s m x) (none k j e)
  next-suc s j (suc i) k (x ∷ xs) d e l = next-suc (f s j x) (suc j) i k xs d (later k j i e) (le_of_suc-le-suc l)

  -- with a record more
  pub fold_next : (s : S) (xs : List X) (i : ℕ) (d : X) {t r : S} → i < length xs → t ≡ fold_from f s 0 (take i xs) → r ≡ f t i (get_or xs i d) → r ≡ fold_from f s 0 (take (i + 1) xs)
  fold_next s xs i d l is-t is-r = rw (is-r, is-t, add-one) (next-suc s 0 i i xs d (at_zero i) l)

module _ {X : Type 0} (f : ℕ → X → X) where
  abbrev pub partly_from : ℕ → ℕ → List X → List X
  partly_from j zero xs = xs
  partly_from j (suc i) [] = []
  partly_from j (suc i) (x ∷ xs) = f j x ∷ partly_from (suc j) i xs

  abbrev pub partly : ℕ → List X → List X
  partly i xs = partly_from 0 i xs

  from_at : (j i : ℕ) (xs : List X) (d : X) → get_or (partly_from j i xs) i d ≡ get_or xs i d
  from_at j zero xs d = refl
  from_at j (suc i) [] d = refl
  from_at j (suc i) (x ∷ xs) d = from_at (suc j) i xs d

  pub partly-at : (i : ℕ) (xs : List X) (d : X) → get_or (partly i xs) i d ≡ get_or xs i d
  partly-at i xs d = from_at 0 i xs d

  from_next : (j i k : ℕ) (xs : List X) (d : X) → k ≡ j + i → i < length xs → set (partly_from j i xs) i (f k (get_or (partly_from j i xs) i d)) ≡ partly_from j (suc i) xs
  from_next j i k [] d e l = absurd (not-suc-le-zero l)
  from_next j zero k (x ∷ xs) d e l = ap (λ (m : ℕ). f m x ∷ xs) (none k j e)
  from_next j (suc i) k (x ∷ xs) d e l = ap {B = List X} (λ r. f j x ∷ r) (from_next (suc j) i k xs d (later k j i e) (le_of_suc-le-suc l))

  pub partly-next : (i : ℕ) (xs : List X) (d : X) → i < length xs → set (partly i xs) i (f i (get_or (partly i xs) i d)) ≡ partly (i + 1) xs
  partly-next i xs d l = from_next 0 i i xs d (at_zero i) l ∙ ap (λ (m : ℕ). partly m xs) (sym (add-one i))

  from_all : (j : ℕ) (xs : List X) → partly_from j (length xs) xs ≡ map_from f j xs
  unfolding map_from
  from_all j [] = refl
  from_all j (x ∷ xs) = ap {B = List X} (λ r. f j x ∷ r) (from_all (suc j) xs)

  pub partly-all : (xs : List X) → partly (length xs) xs ≡ map_from f 0 xs
  partly-all xs = from_all 0 xs
