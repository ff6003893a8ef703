-- `plan_line::node_named` meets its contract: at each `return` the tests that led there say which case of `named_of` holds.
-- Assumes nothing.
use Rattle.std.specs.Prelude.{Ok}
use Prim.Native.Nat.{ℕ, min}
use mathlib.Core.Path.{◌≡◌, sym, ap, ◌∙◌}
use mathlib.Core.Bool.{Bool, true}
use Rattle.plan_line.specs.Words.{is_number, value_of}
use Rattle.plan_line.specs.Plan.{in_ring, named_of}
use Rattle.plan_line.proofs.Capped.{in-ring-capped, in-ring-kept}
use Rattle.plan_line.proofs.node_named.Goals as goal

-- the capped value is judged as the value is
judged : (n v a : ℕ) (r : Bool) → r ≡ in_ring n a → a ≡ min v 100 → r ≡ in_ring n v
judged n v a r e h = e ∙ ap (in_ring n) h ∙ in-ring-capped n v

pub returns-then-not-is_number : goal.returns-then-not-is_number
unfolding named_of
returns-then-not-is_number c = simp (sym c.is_number.ensures ∙ c.if-not-is_number.true)

pub small_value-a-requires : goal.small_value-a-requires
small_value-a-requires c = sym c.is_number.ensures ∙ c.if-not-is_number.false

pub returns-then-not-in_ring : goal.returns-then-not-in_ring
unfolding named_of
returns-then-not-in_ring c =
    let a = c.args in
    simp (sym c.is_number.ensures ∙ c.if-not-is_number.false, sym (judged a.n (value_of a.word.now) _ _ c.in_ring.ensures c.small_value-a.ensures) ∙ c.if-not-in_ring.true)

pub returns : goal.returns
unfolding named_of
returns c =
    let a = c.args in
    let number : is_number a.word.now ≡ true = sym c.is_number.ensures ∙ c.if-not-is_number.false in
    let inside : in_ring a.n (value_of a.word.now) ≡ true = sym (judged a.n (value_of a.word.now) _ _ c.in_ring.ensures c.small_value-a.ensures) ∙ c.if-not-in_ring.false in
    simp (number, inside) (ap Ok (c.small_value-a.ensures ∙ in-ring-kept a.n (value_of a.word.now) inside))
