-- Set-up with the numbers 1 to n as its slot table is set-up on the cable with the plain table. Assumes nothing.
use Prim.Native.Nat.{ℕ}
use mathlib.Core.Path.{◌≡◌, refl, sym, ap, ap₂, ◌∙◌}
use mathlib.Core.Bool.{Bool, true, false, ◌&&◌}
use mathlib.Core.List.{List}
use lib.Dec.{eqb}
use lib.ListN.{length}
use borrow.Author.Tests.{eq-eqb}
use Rattle.cable.specs.slot_table.Order.{numbers_from}
use Rattle.cable.proofs.slot_table.Numbers.{count_of, numbers-kept}
use Rattle.cable.specs.declared.Cable.{Cable}
use Rattle.cable.specs.declared.Choices.{Choices}
use Rattle.cable.specs.Cable.{plain_cable, cable_with, cable_fits, may_set_up, fault_of}
use Rattle.bench.specs.Table.{Table}
use Rattle.bench.specs.Calls.{done, if_passed, start_table, set_up_of, set_up_given}

module _ (choices : Choices) where
  pub cable-is : cable_with choices (numbers_from choices.n 1) ≡ plain_cable choices
  cable-is = ap (λ (order : List ℕ). record { n = choices.n; k = choices.k; m = choices.m; lag = choices.lag; order = order }) (numbers-kept choices.n)

  abbrev cable : Cable
  cable = plain_cable choices

  -- with its n places
  passes : (t : Table) (b : Bool) → cable_fits cable ≡ b → if_passed (may_set_up cable choices.n) (fault_of cable choices.n) t (set_up_of cable t) ≡ set_up_of cable t
  unfolding set_up_of
  passes t true e =
      ap (λ (b : Bool). if_passed (b && eqb choices.n choices.n) (fault_of cable choices.n) t (set_up_of cable t)) e
      ∙ ap (λ (b : Bool). if_passed b (fault_of cable choices.n) t (set_up_of cable t)) (eq-eqb choices.n choices.n refl)
  passes t false e =
      ap (λ (b : Bool). if_passed (b && eqb choices.n choices.n) (fault_of cable choices.n) t (set_up_of cable t)) e
      ∙ sym (ap (λ (b : Bool). if_passed b (fault_of cable choices.n) t (if_passed (eqb (length t) choices.n) 4 t (done (start_table cable t)))) e)

  pub plain-set-up : (t : Table) → set_up_given choices (numbers_from choices.n 1) t ≡ set_up_of cable t
  unfolding set_up_given
  plain-set-up t =
      ap₂ (λ (c : Cable) (places : ℕ). if_passed (may_set_up c places) (fault_of c places) t (set_up_of c t)) cable-is (count_of choices.n 1) ∙ passes t (cable_fits cable) refl
