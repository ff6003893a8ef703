-- `row_sponsors::back` meets its contract: its tests are those of the definition. Assumes nothing.
use borrow.Author.Tests.{le-leb, lt-leb}
use mathlib.Core.Path.{sym, ◌∙◌}
use native.Mathlib.Omega.{arith}
use Rattle.ring.proofs.nodeset.Tests.{chosen, otherwise}
use Rattle.row.specs.Inner.{back_in}
use Rattle.row_sponsors.proofs.back.Goals as goal

pub returns-then-j-count : goal.returns-then-j-count
unfolding back_in
returns-then-j-count c = sym (chosen _ _ c.if-j-count.true)

pub returns-then-j-p : goal.returns-then-j-p
unfolding back_in
returns-then-j-p c =
    let a = c.args in
    c.wide.ensures ∙ sym (otherwise _ _ c.if-j-count.false ∙ chosen _ _ (le-leb a.j a.p (omega arith)))

pub returns-then-count-j : goal.returns-then-count-j
unfolding back_in
returns-then-count-j c =
    let a = c.args in
    sym (otherwise _ _ c.if-j-count.false ∙ otherwise _ _ (lt-leb a.j a.p (omega arith)) ∙ chosen _ _ c.if-count-j.true)

pub returns : goal.returns
unfolding back_in
returns c =
    let a = c.args in
    c.wide-2.ensures
    ∙ sym (otherwise _ _ c.if-j-count.false ∙ otherwise _ _ (lt-leb a.j a.p (omega arith)) ∙ otherwise _ _ c.if-count-j.false)
