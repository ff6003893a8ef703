use borrow.Author.Tests.{eq-eqb, ne_eqb}
use Prim.Native.Nat.{ℕ, suc, ◌+◌, ◌-◌, ◌<◌}
use mathlib.Core.Path.{◌≡◌, refl, sym, ap, ◌∙◌}
use mathlib.Core.Logic.{◌≢◌}
use mathlib.Core.List.{List}
use native.Mathlib.Omega.{arith}
use native.Mathlib.Numerals.{add-one}
use lib.ListN as list
use Rattle.ring.specs.slot_table.Order.{node_at, place_from, place}
use Rattle.row.specs.Inner.{passed, rank_in}
use Rattle.row.proofs.Walked.{passed-next, passed-le}
use Rattle.row.proofs.rank.Goals as goal

here : (order : List ℕ) (x i : ℕ) → i < 32 → list.get_or order i 0 ≡ x → place_from (32 - i) order x (suc i) ≡ suc i
unfolding place_from node_at
here order x i h e = let z : 32 - i ≡ suc (31 - i) = omega arith in ap (λ (m : ℕ). place_from m order x (suc i)) z ∙ rw (eq-eqb (list.get_or order i 0) x e) refl

on : (order : List ℕ) (x i : ℕ) → i < 32 → list.get_or order i 0 ≢ x → place_from (32 - i) order x (suc i) ≡ place_from (32 - (i + 1)) order x (suc (i + 1))
unfolding place_from node_at
on order x i h e =
    let z : 32 - i ≡ suc (31 - i) = omega arith in
    let y : 31 - i ≡ 32 - (i + 1) = omega arith in
    ap (λ (m : ℕ). place_from m order x (suc i)) z
    ∙ rw (ne_eqb (list.get_or order i 0) x e) (ap (λ (m : ℕ). place_from m order x (suc (suc i))) y)
    ∙ ap (λ (k : ℕ). place_from (32 - (i + 1)) order x (suc k)) (sym (add-one i))

pub loop-m-init : goal.loop-m-init
unfolding passed place
loop-m-init c = (refl, refl)

pub returns-then-wide-x : goal.returns-then-wide-x
unfolding rank_in
returns-then-wide-x c =
    let a = c.args in
    let l = c.loop-m in
    let found : place a.order a.x - 1 ≡ l.m-index = omega (arith, l.invariant.1, here a.order a.x l.m-index (omega arith) (sym c.wide.ensures ∙ c.if-wide-x.true)) in
    l.invariant.0 ∙ ap (λ (k : ℕ). passed k a.order a.row.nodes) (sym found)

pub bounds-row-p : goal.bounds-row-p
bounds-row-p c =
    let a = c.args in
    let l = c.loop-m in
    omega (arith, l.invariant.0, passed-le l.m-index a.order a.row.nodes)

pub loop-m-preserved : goal.loop-m-preserved
loop-m-preserved c =
    let a = c.args in
    let l = c.loop-m in (
      c.past-p.ensures ∙ passed-next l.m-index a.order a.row.nodes l.p (omega arith) l.invariant.0,
      l.invariant.1 ∙ on a.order a.x l.m-index (omega arith) (λ e. c.if-wide-x.false (c.wide.ensures ∙ e)),
    )

pub returns : goal.returns
unfolding rank_in passed place_from
returns c =
    let a = c.args in
    let l = c.loop-m in
    let last : 32 - l.m-index ≡ 0 = omega arith in
    let none : place a.order a.x - 1 ≡ 0 = ap (λ (k : ℕ). k - 1) (l.invariant.1 ∙ ap (λ (m : ℕ). place_from m a.order a.x (suc l.m-index)) last) in
    sym (ap (λ (k : ℕ). passed k a.order a.row.nodes) none)
