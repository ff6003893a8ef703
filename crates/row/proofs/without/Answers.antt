use borrow.Author.Rules.{rules}
use Prim.Native.Nat.{ℕ}
use mathlib.Core.Path.{ap, ◌∙◌}
use mathlib.Core.Bool.{not, ◌&&◌}
use lib.ListN as list
use lib.Dec.{eqb}
use native.Mathlib.Omega.{arith}
use Rattle.row.specs.Inner.{stays, without_row, row_at}
use Rattle.row.proofs.Walked.{sifted-next, sifted, sifted-short}
use Rattle.row.proofs.without.Goals as goal

pub loop-m-preserved : goal.loop-m-preserved
loop-m-preserved c =
    let a = c.args in
    let l = c.loop-m in
    let m = list.get_or a.row.nodes l.m-index 0 in
    c.put-at.ensures ∙ sifted-next (stays a.x) l.m-index a.row.nodes (row_at l.at l.rest) (not (eqb m 0) && not (eqb c.wide.result a.x)) (search rules) (omega arith)
    (ap (λ (k : ℕ). not (eqb m 0) && not (eqb k a.x)) c.wide.ensures) l.invariant

pub overflow_cast-result : goal.overflow_cast-result
overflow_cast-result c =
    let a = c.args in
    let l = c.loop-m in
    omega (arith, sifted-short (stays a.x) l.m-index a.row.nodes (row_at l.at l.rest) l.invariant)

pub returns : goal.returns
unfolding without_row
returns c =
    let a = c.args in
    let l = c.loop-m in
    sifted (stays a.x) l.m-index a.row.nodes (row_at l.at l.rest) (search rules) (omega arith) l.invariant
