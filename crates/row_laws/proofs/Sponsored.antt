-- What the rules ask of the ring by the row of a set (row's specs/Sponsoring) is what they ask by the set. Assumes nothing.
use Rattle.std.specs.Prelude.{None}
use Prim.Native.Nat.{ℕ, ◌+◌, ◌≤◌}
use mathlib.Core.Path.{◌≡◌, refl, sym, ap, ◌∙◌}
use mathlib.Core.Bool.{true, false, cond}
use native.Mathlib.Omega.{arith}
use lib.Dec.{eqb}
use borrow.Author.Tests.{eqb-true, eqb-false, le-leb}
use Rattle.ring_laws.proofs.nodeset.Tests.{by_cases, all, chosen, otherwise}
use Rattle.ring_laws.specs.slot_table.Order.{is_kept}
use Rattle.ring_laws.specs.cable.declared.Cable.{Cable}
use Rattle.ring_laws.specs.ring.Ring.{ks, member_in, member_before, sponsors, sponsored, decided}
use Rattle.row.specs.Rows.{as_row}
use Rattle.row.specs.Sponsoring.{sponsors_row, sponsored_row, decided_row}
use Rattle.row_laws.proofs.Laws.{size-row, before-row}

module _ (cable : Cable) (kept : is_kept cable.n cable.order ≡ true) where
  pub sponsors-row : (s : ℕ) → sponsors_row cable (as_row cable.order s) ≡ sponsors cable s
  unfolding sponsors
  sponsors-row s = ap (ks cable) (size-row cable.n cable.order kept s)

  -- of those that are sponsored
  pub sponsored-row : (s x j : ℕ) → 1 ≤ x → x ≤ cable.n → 1 ≤ j → j ≤ sponsors cable s → sponsored_row cable (as_row cable.order s) x j ≡ member_in (sponsored cable s x j)
  unfolding sponsored
  sponsored-row s x j low high one most =
      before-row cable kept s x (j + cable.lag) low high
      ∙ sym (ap member_in (chosen (member_before cable s x (j + cable.lag)) None (all (le-leb 1 j one) (le-leb j (sponsors cable s) most))))

  -- there is no 0th
  nobody : (s x : ℕ) → sponsored cable s x 0 ≡ None
  unfolding sponsored
  nobody s x = refl

  pub decided-row : (s x : ℕ) → 1 ≤ x → x ≤ cable.n → decided_row cable (as_row cable.order s) x ≡ member_in (decided cable s x)
  unfolding decided_row decided
  decided-row s x low high =
      ap (λ (m : ℕ). cond (eqb m 0) 0 (sponsored_row cable (as_row cable.order s) x m)) (sponsors-row s)
      ∙ by_cases (eqb (sponsors cable s) 0) none some
    where
      none : eqb (sponsors cable s) 0 ≡ true → cond (eqb (sponsors cable s) 0) 0 (sponsored_row cable (as_row cable.order s) x (sponsors cable s)) ≡ member_in (sponsored cable s x (sponsors cable s))
      none e = chosen _ _ e ∙ sym (ap member_in (ap (sponsored cable s x) (eqb-true (sponsors cable s) 0 e) ∙ nobody s x))

      some : eqb (sponsors cable s) 0 ≡ false → cond (eqb (sponsors cable s) 0) 0 (sponsored_row cable (as_row cable.order s) x (sponsors cable s)) ≡ member_in (sponsored cable s x (sponsors cable s))
      some e =
          let not : sponsors cable s ≡ 0 → ⊥ = eqb-false (sponsors cable s) 0 e in
          otherwise _ _ e ∙ sponsored-row s x (sponsors cable s) low high (omega (arith, not)) (omega arith)
