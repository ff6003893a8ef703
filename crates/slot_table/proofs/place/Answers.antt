use Prim.Native.Nat.{ℕ, suc, ◌+◌, ◌-◌}
use mathlib.Core.Path.{◌≡◌, refl, sym, ap, ◌∙◌}
use mathlib.Core.Logic.{◌≢◌}
use mathlib.Core.List.{List}
use native.Mathlib.Omega.{arith}
use native.Mathlib.Numerals.{add-one}
use borrow.Author.Tests.{eq-eqb, ne_eqb}
use Rattle.slot_table.specs.Order.{node_at, place_from, place}
use Rattle.slot_table.proofs.place.Goals as goal

here : (order : List ℕ) (x p l : ℕ) → node_at order p ≡ x → place_from (suc l) order x p ≡ p
unfolding place_from
here order x p l e = rw (eq-eqb (node_at order p) x e) refl

on : (order : List ℕ) (x p l : ℕ) → node_at order p ≢ x → place_from (suc l) order x p ≡ place_from l order x (suc p)
unfolding place_from
on order x p l e = rw (ne_eqb (node_at order p) x e) refl

pub loop-p-init : goal.loop-p-init
unfolding place
loop-p-init c = refl

pub returns-then-node_at-x : goal.returns-then-node_at-x
returns-then-node_at-x c =
    let a = c.args in
    let l = c.loop-p in
    let z : 33 - l.p ≡ suc (32 - l.p) = omega arith in
    sym (l.invariant ∙ ap (λ (m : ℕ). place_from m a.order a.x l.p) z ∙ here a.order a.x l.p (32 - l.p) (sym c.node_at.ensures ∙ c.if-node_at-x.true))

pub loop-p-preserved : goal.loop-p-preserved
loop-p-preserved c =
    let a = c.args in
    let l = c.loop-p in
    let z : 33 - l.p ≡ suc (32 - l.p) = omega arith in
    let y : 32 - l.p ≡ 33 - (l.p + 1) = omega arith in
    l.invariant
    ∙ ap (λ (m : ℕ). place_from m a.order a.x l.p) z
    ∙ on a.order a.x l.p (32 - l.p) (λ e. c.if-node_at-x.false (c.node_at.ensures ∙ e))
    ∙ ap (λ (m : ℕ). place_from m a.order a.x (suc l.p)) y
    ∙ ap (place_from (33 - (l.p + 1)) a.order a.x) (sym (add-one l.p))

pub returns : goal.returns
unfolding place_from
returns c =
    let a = c.args in
    let l = c.loop-p in
    let z : 33 - l.p ≡ 0 = omega arith in
    sym (l.invariant ∙ ap (λ (m : ℕ). place_from m a.order a.x l.p) z)
