-- A test of each number below m, and the greatest of what a function gives for them (specs/Reports, Inner): as a loop, `all` or `fold` makes them, and what they say of each number. Assumes nothing.
use Prim.Native.Nat.{ℕ, zero, suc, ◌+◌, ◌<◌, ◌≤◌, max}
use native.Mathlib.Nat.{not-suc-le-zero, le_of_suc-le-suc, eq-or-lt_of_le, le_refl, le-max_left, le-max_right, max-le, lt_of_lt_of_le}
use native.Mathlib.Numerals.{add-one}
use native.Mathlib.Omega.{arith}
use mathlib.Core.Path.{◌≡◌, refl, sym, ap, ◌∙◌}
use mathlib.Core.Logic.{⊎_elim}
use mathlib.Core.List.{List}
use mathlib.Core.Bool.{Bool, true, false, ◌&&◌, and-false}
use borrow.Author.Tests.{le-leb, lt-leb, leb-true, leb-false}
use lib.Dec.{leb}
use lib.ListN.{length, get_or, take}
use lib.Seq.{take_all}
use Rattle.std.specs.List.{fold, list_all}
use Rattle.std.proofs.lemmas.List.Sums.{fold_more}
use Rattle.std.proofs.lemmas.List.Folds.{list_all_more}
use Rattle.nodeset.proofs.Tests.{both}
use Rattle.node_reports.specs.Reports.{every_below}
use Rattle.node_reports.specs.Inner.{greatest_below}

-- ---- a test

module _ (test : ℕ → Bool) where
  -- a loop: at its start, one more, one that fails, all
  pub every-none : every_below test 0 ≡ true
  unfolding every_below
  every-none = refl

  pub every-on : (i : ℕ) → every_below test i ≡ true → test i ≡ true → every_below test (i + 1) ≡ true
  unfolding every_below
  every-on i before here = rw (add-one, before, here)

  pub every-stop : (i m : ℕ) → i < m → test i ≡ false → false ≡ every_below test m
  unfolding every_below
  every-stop i zero h fails = absurd (not-suc-le-zero h)
  every-stop i (suc m) h fails =
      ⊎_elim (λ e. sym (ap (λ (b : Bool). every_below test m && b) (ap test (sym e) ∙ fails) ∙ and-false (every_below test m)))
      (λ l. ap (λ (b : Bool). b && test m) (every-stop i m l fails)) (eq-or-lt_of_le (le_of_suc-le-suc h))

  pub every-end : (i m : ℕ) → every_below test i ≡ true → i ≤ m → m ≤ i → true ≡ every_below test m
  every-end i m all a b = let e : i ≡ m = omega arith in sym (ap (every_below test) (sym e) ∙ all)

  -- it holds where it holds of each
  pub every-each : (m : ℕ) → every_below test m ≡ true → (i : ℕ) → i < m → test i ≡ true
  unfolding every_below
  every-each zero e i h = absurd (not-suc-le-zero h)
  every-each (suc m) e i h =
      let x = both (every_below test m) (test m) e in
      ⊎_elim (λ q. ap test q ∙ x.1) (λ l. every-each m x.0 i l) (eq-or-lt_of_le (le_of_suc-le-suc h))

  pub every-all : (m : ℕ) → ((i : ℕ) → i < m → test i ≡ true) → every_below test m ≡ true
  unfolding every_below
  every-all zero each = refl
  every-all (suc m) each = rw (every-all m (λ i h. each i (omega arith)), each m (le_refl (suc m)))

-- of each of a list, as `all` finds it
every_taken : {X : Type 0} (test : X → Bool) (d : X) (xs : List X) (i : ℕ) → i ≤ length xs → list_all test (take i xs) ≡ every_below (λ k. test (get_or xs k d)) i
unfolding every_below
every_taken test d xs zero h = refl
every_taken test d xs (suc i) h =
    ap (λ (k : ℕ). list_all test (take k xs)) (sym (add-one i))
    ∙ list_all_more test xs i d (omega arith)
    ∙ ap (λ (b : Bool). b && test (get_or xs i d)) (every_taken test d xs i (omega arith))

pub every-list : {X : Type 0} (test : X → Bool) (d : X) (xs : List X) (m : ℕ) → length xs ≡ m → list_all test xs ≡ every_below (λ k. test (get_or xs k d)) m
every-list test d xs m n = ap (list_all test) (sym (take_all m xs (omega arith))) ∙ every_taken test d xs m (omega arith)

-- ---- the greatest

-- of a list, as `fold` finds it
greatest_taken : {X : Type 0} (f : X → ℕ) (d : X) (xs : List X) (i : ℕ) → i ≤ length xs → fold (λ best x. max best (f x)) 0 (take i xs) ≡ greatest_below (λ k. f (get_or xs k d)) i
unfolding greatest_below
greatest_taken f d xs zero h = refl
greatest_taken f d xs (suc i) h =
    ap (λ (k : ℕ). fold (λ best x. max best (f x)) 0 (take k xs)) (sym (add-one i))
    ∙ fold_more (λ best x. max best (f x)) 0 xs i d (omega arith)
    ∙ ap (λ (best : ℕ). max best (f (get_or xs i d))) (greatest_taken f d xs i (omega arith))

pub greatest-list : {X : Type 0} (f : X → ℕ) (d : X) (xs : List X) (m : ℕ) → length xs ≡ m → fold (λ best x. max best (f x)) 0 xs ≡ greatest_below (λ k. f (get_or xs k d)) m
greatest-list f d xs m n = ap (fold (λ best x. max best (f x)) 0) (sym (take_all m xs (omega arith))) ∙ greatest_taken f d xs m (omega arith)

-- the greater of two is within a limit where both are
leb-max : (a b limit : ℕ) → leb (max a b) limit ≡ (leb a limit && leb b limit)
leb-max a b limit = go (leb a limit) (leb b limit) refl refl
  where
    go : (p q : Bool) → leb a limit ≡ p → leb b limit ≡ q → leb (max a b) limit ≡ (p && q)
    go true true ea eb = le-leb (max a b) limit (max-le (leb-true a limit ea) (leb-true b limit eb))
    go true false ea eb = lt-leb (max a b) limit (lt_of_lt_of_le (leb-false b limit eb) (le-max_right a b))
    go false q ea eb = lt-leb (max a b) limit (lt_of_lt_of_le (leb-false a limit ea) (le-max_left a b))

-- and so is the greatest where each is
pub greatest-every : (f : ℕ → ℕ) (test : ℕ → Bool) (limit : ℕ) → ((i : ℕ) → leb (f i) limit ≡ test i) → (m : ℕ) → leb (greatest_below f m) limit ≡ every_below test m
unfolding every_below greatest_below
greatest-every f test limit each zero = le-leb 0 limit (omega arith)
greatest-every f test limit each (suc m) = leb-max (greatest_below f m) (f m) limit ∙ rw (greatest-every f test limit each m, each m)
