-- `node_steps::settle` meets its contract: its tests are those of the definition, in their order. Assumes nothing.
use mathlib.Core.Path.{sym, ap, ◌∙◌}
use mathlib.Core.Bool.{Bool, ◌&&◌}
use Rattle.nodeset.proofs.Tests.{told, chosen, otherwise}
use Rattle.node_steps.specs.Held.{settle}
use Rattle.node_steps.proofs.settle.Goals as goal

pub returns-then-too_few : goal.returns-then-too_few
unfolding settle
returns-then-too_few c = c.fresh.ensures ∙ sym (chosen _ _ (told c.too_few.ensures c.if-too_few.true))

pub returns-then-nothing_heard : goal.returns-then-nothing_heard
unfolding settle
returns-then-nothing_heard c =
    c.leave.ensures
    ∙ sym (otherwise _ _ (told c.too_few.ensures c.if-too_few.false) ∙ chosen _ _ (told c.nothing_heard.ensures c.if-nothing_heard.true))

pub returns-then-inside-joins : goal.returns-then-inside-joins
unfolding settle
returns-then-inside-joins c =
    c.join.ensures
    ∙ sym (
    otherwise _ _ (told c.too_few.ensures c.if-too_few.false)
    ∙ otherwise _ _ (told c.nothing_heard.ensures c.if-nothing_heard.false)
    ∙ chosen _ _ (sym (ap (λ (b : Bool). c.args.inside && b) c.joins.ensures) ∙ c.if-inside-joins.true))

pub returns : goal.returns
unfolding settle
returns c =
    sym (
    otherwise _ _ (told c.too_few.ensures c.if-too_few.false)
    ∙ otherwise _ _ (told c.nothing_heard.ensures c.if-nothing_heard.false)
    ∙ otherwise _ _ (sym (ap (λ (b : Bool). c.args.inside && b) c.joins.ensures) ∙ c.if-inside-joins.false))
