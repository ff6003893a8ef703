-- Where a walk that makes a list anew in place stands when i entries are done: for a row, and for the counts of all nodes. Assumes nothing.
use Prim.Native.Nat.{ℕ, suc, ◌+◌, ◌/◌, ◌%◌, ◌<◌, ◌≤◌}
use native.Mathlib.Nat.{le_refl}
use native.Mathlib.Numerals.{add-one}
use mathlib.Core.Path.{◌≡◌, refl, sym, ap, ◌∙◌}
use mathlib.Core.Bool.{true, false}
use mathlib.Core.List.{List, [], ◌∷◌, ◌++◌, append-nil}
use borrow.Author.Tests.{eq-eqb, ne_eqb}
use lib.ListN.{length, get_or, set, take, drop, length-set, drop_of_length-le}
use lib.Seq.{drop-cons, take-suc-set, drop-set-lt, append_snoc, take_all}
use Rattle.nodeset.specs.Sets.{has}
use Rattle.node_reports.specs.Reports.{Row, Counts, one_more, row_with, counts_with, heard_from}

-- ---- any such walk: what is to come of the entries from i on is `before` of them, and of those after i `after`

module _ {A : Type 0} (before after : List A → List A) (d : A) where
  abbrev pub Next : List A → List A → ℕ → Type 0
  Next l next i = (length next ≡ length l) × (take (i + 1) next ++ after (drop (i + 1) next) ≡ take i l ++ before (drop i l))

  -- entry i is stored
  pub stored : (l next : List A) (i : ℕ) (y : A) → i < length l → before (get_or l i d ∷ drop (suc i) l) ≡ y ∷ after (drop (suc i) l) → next ≡ set l i y → Next l next i
  stored l next i y h e n =
      let head : take (suc i) (set l i y) ++ after (drop (suc i) (set l i y)) ≡ take i l ++ before (drop i l) =
      rw (take-suc-set l i y h, drop-set-lt (suc i) l i y (le_refl (suc i)), drop-cons l i d h, e, append_snoc) in
      rw (n, add-one i) (length-set l i y, head)

-- all are done
pub walk_end : {A : Type 0} (rest : List A → List A) (l : List A) (i : ℕ) → rest [] ≡ [] → length l ≤ i → l ≡ take i l ++ rest (drop i l)
walk_end rest l i none h = rw (drop_of_length-le l h, none, append-nil, take_all i l h)

-- ---- a row

pub row-none : (jobs : ℕ) → row_with jobs [] ≡ []
unfolding row_with
row-none jobs = refl

abbrev pub RowNext : Row → Row → ℕ → ℕ → Type 0
RowNext row next rest l = Next (row_with rest) (row_with (rest / 2)) 0 row next l

-- a job that is reported, and one that is not
pub row_told : (row next : Row) (rest l x : ℕ) → l < length row → rest % 2 ≡ 1 → x ≡ one_more (get_or row l 0) → next ≡ set row l x → RowNext row next rest l
unfolding row_with
row_told row next rest l x h one more n = stored (row_with rest) (row_with (rest / 2)) 0 row next l x h (rw (eq-eqb (rest % 2) 1 one, more)) n

pub row_kept : (row next : Row) (rest l : ℕ) → l < length row → (rest % 2 ≡ 1 → ⊥) → next ≡ set row l (get_or row l 0) → RowNext row next rest l
unfolding row_with
row_kept row next rest l h none n = stored (row_with rest) (row_with (rest / 2)) 0 row next l (get_or row l 0) h (rw (ne_eqb (rest % 2) 1 none)) n

-- ---- the counts of all nodes

pub heard-none : (x hearers sender jobs : ℕ) → heard_from x hearers sender jobs [] ≡ []
unfolding heard_from
heard-none x hearers sender jobs = refl

abbrev pub HeardNext : List Counts → List Counts → ℕ → ℕ → ℕ → ℕ → Type 0
HeardNext all next hearers sender jobs i = Next (heard_from (suc i) hearers sender jobs) (heard_from (suc (i + 1)) hearers sender jobs) [] all next i

-- a node that hears the sender, and one that does not
pub heard-told : (all next : List Counts) (hearers sender jobs i : ℕ) (counts : Counts) → i < length all → has hearers (i + 1) ≡ true
    → counts ≡ counts_with sender jobs (get_or all i []) → next ≡ set all i counts → HeardNext all next hearers sender jobs i
unfolding heard_from
heard-told all next hearers sender jobs i counts h hears told n =
    let yes-heard : has hearers (suc i) ≡ true = ap (has hearers) (sym (add-one i)) ∙ hears in
    stored (heard_from (suc i) hearers sender jobs) (heard_from (suc (i + 1)) hearers sender jobs) [] all next i counts h (rw (yes-heard, told, add-one i)) n

pub heard-kept : (all next : List Counts) (hearers sender jobs i : ℕ) → i < length all → has hearers (i + 1) ≡ false → next ≡ set all i (get_or all i []) → HeardNext all next hearers sender jobs i
unfolding heard_from
heard-kept all next hearers sender jobs i h deaf n =
    let not-heard : has hearers (suc i) ≡ false = ap (has hearers) (sym (add-one i)) ∙ deaf in
    stored (heard_from (suc i) hearers sender jobs) (heard_from (suc (i + 1)) hearers sender jobs) [] all next i (get_or all i []) h (rw (not-heard, add-one i)) n
