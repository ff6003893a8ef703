use mathlib.Core.Path.{refl, ap, ◌∙◌}
use native.Mathlib.Omega.{arith}
use Rattle.nodeset.specs.Sets.{has}
use Rattle.row.specs.Rows.{as_row}
use Rattle.row.specs.Inner.{row_at}
use Rattle.row.proofs.Walked.{sifted-next, sifted, sifted-short}
use Rattle.row_sets.proofs.as_row.Goals as goal

pub loop-m-init : goal.loop-m-init
loop-m-init c = refl

pub loop-m-preserved : goal.loop-m-preserved
loop-m-preserved c =
    let a = c.args in
    let l = c.loop-m in
    c.put-at.ensures
    ∙ sifted-next (has a.s) l.m-index a.order (row_at l.at l.out) c.has.result (omega arith) (omega arith) (c.has.ensures ∙ ap (has a.s) c.wide.ensures) l.invariant

pub overflow_cast-result : goal.overflow_cast-result
overflow_cast-result c =
    let a = c.args in
    let l = c.loop-m in
    omega (arith, sifted-short (has a.s) l.m-index a.order (row_at l.at l.out) l.invariant)

pub returns : goal.returns
unfolding as_row
returns c =
    let a = c.args in
    let l = c.loop-m in
    sifted (has a.s) l.m-index a.order (row_at l.at l.out) (omega arith) (omega arith) l.invariant
