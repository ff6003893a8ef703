-- What one report more does to each count of a node (node_reports' specs/Reports): counts of 32 rows of 8, none above the slot count. Assumes nothing.
use Prim.Native.Nat.{ℕ, zero, suc, ◌+◌, ◌-◌, ◌/◌, ◌%◌, ◌^◌, ◌≤◌, ◌<◌}
use mathlib.Core.Path.{◌≡◌, refl, sym, ap, ◌∙◌}
use mathlib.Core.Logic.{◌≢◌}
use mathlib.Core.Bool.{Bool, true, false, cond, ◌&&◌}
use mathlib.Core.List.{[], ◌∷◌}
use native.Mathlib.Omega.{arith}
use native.Mathlib.Nat.{div-one}
use native.Mathlib.Decide.{ℕ_discrete}
use lib.Dec.{eqb}
use lib.ListN.{length, get_or, set, get_or-replicate}
use lib.Seq.{get_or-set_same, get_or-set_other}
use lib.Pow.{shr-shr}
use borrow.Author.Tests.{eq-eqb, ne_eqb}
use Rattle.nodeset.specs.Sums.{num}
use Rattle.nodeset.specs.Sets.{has}
use Rattle.bench.specs.node_reports.Reports.{Row, Counts, no_reports, one_more, row_with, counts_with}
use Rattle.bench.proofs.node_reports.Laws.{plain_more, own_row, row-length, counts-length}

-- 32 rows of 8
pub record Shaped (counts : Counts) : Type 0 where
  pub rows : length counts ≡ 32
  pub places : (r : ℕ) → r < 32 → length (get_or counts r []) ≡ 8

pub none-shaped : Shaped no_reports
none-shaped = record { rows = refl; places = λ r h. ap length (get_or-replicate {A = Row} 32 r _ [] h) }

-- one place of a row
row_at : (jobs j : ℕ) (row : Row) → j < length row → get_or (row_with jobs row) j 0 ≡ cond (has jobs (suc j)) (one_more (get_or row j 0)) (get_or row j 0)
unfolding row_with has
row_at jobs j [] h = absurd (elim h [ ])
row_at jobs zero (x ∷ row) h = ap (λ (y : ℕ). cond (eqb (y % 2) 1) (one_more x) x) (sym (div-one jobs))
row_at jobs (suc j) (x ∷ row) h =
    let z : 1 + j ≡ suc j = omega arith in
    row_at (jobs / 2) j row (omega arith)
    ∙ ap (λ (y : ℕ). cond (eqb (y % 2) 1) (one_more (get_or row j 0)) (get_or row j 0)) (shr-shr jobs 1 j ∙ ap (λ (e : ℕ). jobs / 2 ^ e) z)

-- one more, where so
more-if : (b : Bool) (limit x : ℕ) → x ≤ limit → limit < 2 ^ 64 - 1 → cond b (one_more x) x ≡ x + num b
more-if true limit x h l = plain_more limit x h l
more-if false limit x h l = omega arith

module _ (s jobs : ℕ) (low : 1 ≤ s) (high : s ≤ 32) (counts : Counts) (shape : Shaped counts) where
  own : counts_with s jobs counts ≡ set counts (s - 1) (row_with jobs (get_or counts (s - 1) []))
  own = sym (own_row s jobs counts low high)

  row_same : get_or (counts_with s jobs counts) (s - 1) [] ≡ row_with jobs (get_or counts (s - 1) [])
  row_same = ap (λ (c : Counts). get_or c (s - 1) []) own ∙ get_or-set_same counts (s - 1) (row_with jobs (get_or counts (s - 1) [])) [] (omega (arith, shape.rows))

  row_other : (r : ℕ) → r ≢ s - 1 → get_or (counts_with s jobs counts) r [] ≡ get_or counts r []
  row_other r d = ap (λ (c : Counts). get_or c r []) own ∙ get_or-set_other counts (s - 1) r (row_with jobs (get_or counts (s - 1) [])) [] d

  pub with-shaped : Shaped (counts_with s jobs counts)
  with-shaped = record { rows = counts-length s jobs counts ∙ shape.rows; places = λ r h. go r h (ℕ_discrete r (s - 1)) }
    where
      go : (r : ℕ) → r < 32 → Dec (r ≡ s - 1) → length (get_or (counts_with s jobs counts) r []) ≡ 8
      go r h (yes e) = ap (λ (x : ℕ). length (get_or (counts_with s jobs counts) x [])) e ∙ ap length row_same ∙ row-length jobs (get_or counts (s - 1) []) ∙ shape.places (s - 1) (omega arith)
      go r h (no d) = ap length (row_other r d) ∙ shape.places r h

  -- each count of it
  pub with_at : (x j slots : ℕ) → 1 ≤ x → x ≤ 32 → 1 ≤ j → j ≤ 8 → get_or (get_or counts (x - 1) []) (j - 1) 0 ≤ slots → slots < 2 ^ 64 - 1
      → get_or (get_or (counts_with s jobs counts) (x - 1) []) (j - 1) 0 ≡ get_or (get_or counts (x - 1) []) (j - 1) 0 + num (eqb s x && has jobs j)
  with_at x j slots x-low x-high j-low j-high h l = go (ℕ_discrete s x)
    where
      c : ℕ
      c = get_or (get_or counts (x - 1) []) (j - 1) 0

      go : Dec (s ≡ x) → get_or (get_or (counts_with s jobs counts) (x - 1) []) (j - 1) 0 ≡ get_or (get_or counts (x - 1) []) (j - 1) 0 + num (eqb s x && has jobs j)
      go (yes e) =
          let z : suc (j - 1) ≡ j = omega arith in
          let y : x - 1 ≡ s - 1 = omega (arith, e) in
          ap (λ (r : ℕ). get_or (get_or (counts_with s jobs counts) r []) (j - 1) 0) y ∙ ap (λ (row : Row). get_or row (j - 1) 0) row_same
          ∙ row_at jobs (j - 1) (get_or counts (s - 1) []) (omega (arith, shape.places (s - 1) (omega arith)))
          ∙ ap (λ (r : ℕ). cond (has jobs (suc (j - 1))) (one_more (get_or (get_or counts r []) (j - 1) 0)) (get_or (get_or counts r []) (j - 1) 0)) (sym y)
          ∙ more-if (has jobs (suc (j - 1))) slots c h l
          ∙ ap (λ (i : ℕ). c + num (has jobs i)) z
          ∙ ap (λ (b : Bool). c + num (b && has jobs j)) (sym (eq-eqb s x e))
      go (no d) =
          let away : num (eqb s x && has jobs j) ≡ 0 = ap (λ (b : Bool). num (b && has jobs j)) (ne_eqb s x d) in
          ap (λ (row : Row). get_or row (j - 1) 0) (row_other (x - 1) (λ e. d (omega (arith, e)))) ∙ omega (arith, away)
