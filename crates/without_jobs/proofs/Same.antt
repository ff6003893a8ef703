-- Membership is the same as if there were no jobs (specs/Without): the common starts are alike but for m, and each call keeps that. Assumes nothing.
use Prim.Native.Nat.{ℕ, suc, ◌≤◌}
use mathlib.Core.Path.{◌≡◌, refl, sym, ap, ◌∙◌}
use mathlib.Core.Bool.{true}
use mathlib.Core.List.{[], ◌∷◌}
use native.Mathlib.Omega.{arith}
use lib.ListN.{length}
use Rattle.ledger.specs.cable.declared.Cable.{Cable}
use Rattle.ledger.specs.cable.Cable.{cable_fits}
use Rattle.ledger.proofs.cable.Ranges.{ring-size, fitting, fits_by}
use Rattle.ledger.specs.node_changes.Changes.{starting}
use Rattle.ledger.specs.bench.Table.{Table, each_from, slots_of}
use Rattle.ledger.specs.bench.Calls.{Called, set_up_of}
use Rattle.ledger.specs.bench.Runs.{call_of, table_after}
use Rattle.ledger.proofs.bench.Places.{placed-sound}
use Rattle.ledger.proofs.bench.Runs.{start-table, start-placed, placed-run}
use Rattle.ledger.specs.Runs.{taken}
use Rattle.ledger.proofs.AnyLent.{any_lent}
use Rattle.without_jobs.specs.Without.{without_jobs, forget, forget_all, start_without, SameMembership, SameAsMade}
use Rattle.without_jobs.proofs.Tables.{sound-kept, call_same}

-- ---- the common start

starts_from : (cable : Cable) (i : ℕ) (lent other : Table) → length lent ≡ length other
    → forget_all (each_from (λ i v. starting cable i) i lent) ≡ each_from (λ i v. starting (without_jobs cable) i) i other
unfolding forget each_from
starts_from cable i [] [] e = refl
starts_from cable i [] (w ∷ other) e = let z : ⊥ = omega arith in absurd z
starts_from cable i (v ∷ lent) [] e = let z : ⊥ = omega arith in absurd z
starts_from cable i (v ∷ lent) (w ∷ other) e = ap (λ (t : Table). starting (without_jobs cable) i ∷ t) (starts_from cable (suc i) lent other (omega arith))

module _ (cable : Cable) (fits : cable_fits cable ≡ true) (lent other : Table) (one_each : length lent ≡ cable.n) (one-other : length other ≡ cable.n) where
  fits-without : cable_fits (without_jobs cable) ≡ true
  fits-without = let f = fitting cable fits in fits_by (without_jobs cable) (record { ring = f.ring; lag = f.lag; sponsors = f.sponsors; jobs = refl; order = f.order })

  n_pos : 1 ≤ cable.n
  n_pos = omega (arith, (ring-size cable.n (fitting cable fits).ring).0)

  starts-same : forget_all (set_up_of cable lent).table ≡ start_without cable other
  starts-same =
      ap forget_all (start-table cable fits lent one_each)
      ∙ starts_from cable 1 lent other (one_each ∙ sym one-other)
      ∙ sym (start-table (without_jobs cable) fits-without other one-other)

-- ---- the theorems

pub same-membership : SameMembership
unfolding table_after
same-membership cable fits lent other one_each one-other [] = starts-same cable fits lent other one_each one-other
same-membership cable fits lent other one_each one-other (c ∷ cs) =
    let start = (set_up_of cable lent).table in
    let pos = n_pos cable fits lent other one_each one-other in
    let t = table_after start cs in
    ap (λ (x : Called). x.table) (sym (call_same t (sound-kept t (placed-sound cable (slots_of t) t pos (placed-run cable pos start (start-placed cable fits lent one_each) cs))) c))
    ∙ ap (λ (x : Table). (call_of c x).table) (same-membership cable fits lent other one_each one-other cs)

pub same-as-made : SameAsMade
same-as-made cable fits lent other one_each one-other ls =
    let start = (set_up_of cable lent).table in
    ap forget_all (any_lent start ls) ∙ same-membership cable fits lent other one_each one-other (taken start ls)
