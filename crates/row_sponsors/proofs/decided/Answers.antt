-- `row_sponsors::decided` meets its contract. Where somebody is sponsored the lag is below the number of members. Assumes nothing.
use mathlib.Core.Path.{sym, ap, ◌∙◌}
use borrow.Author.Tests.{eq-eqb, ne_eqb}
use Rattle.ring.proofs.nodeset.Tests.{chosen, otherwise}
use Rattle.row.specs.Sponsoring.{sponsors_row, sponsored_row, decided_row}
use Rattle.row_sponsors.proofs.decided.Goals as goal

pub returns-then-most-eq0 : goal.returns-then-most-eq0
unfolding decided_row
returns-then-most-eq0 c =
    let a = c.args in
    sym (chosen 0 (sponsored_row a.cable a.row a.x (sponsors_row a.cable a.row)) (eq-eqb _ _ (sym c.sponsors-most.ensures ∙ c.if-most-eq0.true)))

pub returns : goal.returns
unfolding decided_row
returns c =
    let a = c.args in
    let some = c.sponsors-most.ensures in
    c.before-2.ensures
    ∙ ap (sponsored_row a.cable a.row a.x) some
    ∙ sym (otherwise 0 (sponsored_row a.cable a.row a.x (sponsors_row a.cable a.row)) (ne_eqb _ _ (λ e. c.if-most-eq0.false (some ∙ e))))
