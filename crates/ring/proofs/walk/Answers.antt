use Prim.Native.Nat.{ℕ, suc, ◌-◌}
use mathlib.Core.Path.{◌≡◌, refl, sym, ap, ◌∙◌}
use mathlib.Core.Bool.{Bool, true, false, ◌&&◌}
use native.Mathlib.Omega.{arith}
use lib.Dec.{eqb}
use Rattle.std.specs.Int.{from_bool}
use Rattle.nodeset.specs.Sums.{num}
use Rattle.nodeset.specs.Sets.{has}
use Rattle.slot_table.specs.Order.{node_at}
use Rattle.cable.specs.declared.Cable.{Cable}
use Rattle.ring.specs.Ring.{previous}
use Rattle.ring.specs.Places.{reach}
use Rattle.ring.proofs.walk.Goals as goal

-- one slot of the walk, by the test that the code makes
found_here : (l : ℕ) (cable : Cable) (set p j q x : ℕ) (met : Bool) → q ≡ previous cable.n p → x ≡ node_at cable.order q → met ≡ has set x → (met && eqb j 1) ≡ true
    → record { node = x; place = q; left = l } ≡ reach (suc l) cable set p j
unfolding reach
found_here l cable set p j q x met e y m t =
    let z : x ≡ node_at cable.order (previous cable.n p) = y ∙ ap (node_at cable.order) e in
    let s : (has set (node_at cable.order (previous cable.n p)) && eqb j 1) ≡ true = ap (λ (b : Bool). b && eqb j 1) (sym (m ∙ ap (has set) z)) ∙ t in
    rw s (ap (λ (w : ℕ). record { node = w; place = q; left = l }) z ∙ ap (λ (w : ℕ). record { node = node_at cable.order (previous cable.n p); place = w; left = l }) e)

found-later : (l : ℕ) (cable : Cable) (set p j q x more : ℕ) (met : Bool) → q ≡ previous cable.n p → x ≡ node_at cable.order q → met ≡ has set x → (met && eqb j 1) ≡ false → more ≡ j - num met
    → reach l cable set q more ≡ reach (suc l) cable set p j
unfolding reach
found-later l cable set p j q x more met e y m t o =
    let z : met ≡ has set (node_at cable.order (previous cable.n p)) = m ∙ ap (has set) (y ∙ ap (node_at cable.order) e) in
    let s : (has set (node_at cable.order (previous cable.n p)) && eqb j 1) ≡ false = ap (λ (b : Bool). b && eqb j 1) (sym z) ∙ t in
    rw s (ap (λ (w : ℕ). reach l cable set w more) e ∙ ap (reach l cable set (previous cable.n p)) (o ∙ ap (λ (b : Bool). j - num b) z))

-- a member met counts 1
counted : (met : Bool) → from_bool met ≡ num met
counted true = refl
counted false = refl

pub loop-left-init : goal.loop-left-init
loop-left-init c = refl

pub returns-then-left-eq0 : goal.returns-then-left-eq0
unfolding reach
returns-then-left-eq0 c =
    let l = c.loop-left in
    let a = c.args in
    sym (ap (λ (i : ℕ). reach i a.cable a.set l.place l.more) c.if-left-eq0.true) ∙ l.invariant

pub overflow_sub-left : goal.overflow_sub-left
overflow_sub-left c = omega arith

pub returns-then-met-more : goal.returns-then-met-more
returns-then-met-more c =
    let l = c.loop-left in
    let a = c.args in
    let some : suc (l.left - 1) ≡ l.left = omega arith in
    found_here (l.left - 1) a.cable a.set l.place l.more c.previous-place.result c.node_at-node.result c.has-met.result c.previous-place.ensures c.node_at-node.ensures c.has-met.ensures c.if-met-more.true
    ∙ ap (λ (i : ℕ). reach i a.cable a.set l.place l.more) some
    ∙ l.invariant

pub loop-left-smaller : goal.loop-left-smaller
loop-left-smaller c = omega arith

pub loop-left-preserved : goal.loop-left-preserved
loop-left-preserved c =
    let l = c.loop-left in
    let a = c.args in
    let some : suc (l.left - 1) ≡ l.left = omega arith in
    found-later (l.left - 1) a.cable a.set l.place l.more c.previous-place.result c.node_at-node.result c.saturating_sub-more.result c.has-met.result
    c.previous-place.ensures c.node_at-node.ensures c.has-met.ensures c.if-met-more.false
    (c.saturating_sub-more.ensures ∙ ap (λ (m : ℕ). l.more - m) (c.from.ensures ∙ counted c.has-met.result))
    ∙ ap (λ (i : ℕ). reach i a.cable a.set l.place l.more) some
    ∙ l.invariant
