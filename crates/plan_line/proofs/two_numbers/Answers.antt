-- `plan_line::two_numbers` meets its contract: at each `return` the tests that led there say which case of `numbers_of` holds.
-- Assumes nothing.
use Prim.Native.Nat.{ℕ}
use mathlib.Core.Path.{sym, ap, ◌∙◌}
use Rattle.plan_line.specs.Words.{value_of}
use Rattle.plan_line.specs.Plan.{numbers_of, ring_of}
use Rattle.plan_line.proofs.Words.{and-false}
use Rattle.plan_line.proofs.Capped.{ring-capped}
use Rattle.plan_line.proofs.two_numbers.Goals as goal

pub returns-then-not-is_number : goal.returns-then-not-is_number
unfolding numbers_of
returns-then-not-is_number c = simp (sym c.is_number.ensures ∙ c.if-not-is_number.true)

pub returns-then-not-is_number-2 : goal.returns-then-not-is_number-2
unfolding numbers_of
returns-then-not-is_number-2 c = simp (sym c.is_number-2.ensures ∙ c.if-not-is_number-2.true, and-false)

pub small_value-requires : goal.small_value-requires
small_value-requires c = sym c.is_number.ensures ∙ c.if-not-is_number.false

pub small_value-requires-2 : goal.small_value-requires-2
small_value-requires-2 c = sym c.is_number-2.ensures ∙ c.if-not-is_number-2.false

pub returns : goal.returns
unfolding numbers_of
returns c =
    let a = c.args in
    let values =
    ap (λ (n : ℕ). ring_of n c.small_value-2.result) c.small_value.ensures
    ∙ ap (ring_of _) c.small_value-2.ensures in
    simp (sym c.is_number.ensures ∙ c.if-not-is_number.false, sym c.is_number-2.ensures ∙ c.if-not-is_number-2.false)
    (c.ring_of.ensures ∙ values ∙ ring-capped (value_of a.first.now) (value_of a.second.now))
