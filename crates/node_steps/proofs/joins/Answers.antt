-- `node_steps::joins` meets its contract: its test is that of the definition. Assumes nothing.
use Prim.Native.Nat.{ℕ}
use mathlib.Core.Path.{◌≡◌, sym, ap, ◌∙◌}
use mathlib.Core.Bool.{Bool, false, not, ◌&&◌}
use lib.Dec.{eqb}
use borrow.Author.Tests.{eq-eqb, ne_eqb}
use Rattle.row.specs.Inner.{before_row}
use Rattle.node_steps.proofs.joins.Goals as goal

none : (x : ℕ) (b : Bool) → x ≡ 0 → (not (eqb x 0) && b) ≡ false
none x b e = ap (λ (c : Bool). not c && b) (eq-eqb x 0 e)

some : (x : ℕ) (b : Bool) → (x ≡ 0 → ⊥) → (not (eqb x 0) && b) ≡ b
some x b e = ap (λ (c : Bool). not c && b) (ne_eqb x 0 e)

pub returns-then-v-eq0 : goal.returns-then-v-eq0
returns-then-v-eq0 c =
    let a = c.args in
    sym (none a.v.returning (eqb (before_row a.v.cable.order a.v.row a.v.returning 1) a.s) c.if-v-eq0.true)

pub returns : goal.returns
returns c =
    let a = c.args in
    ap (λ (x : ℕ). eqb x a.s) c.before-2.ensures
    ∙ sym (some a.v.returning (eqb (before_row a.v.cable.order a.v.row a.v.returning 1) a.s) c.if-v-eq0.false)
