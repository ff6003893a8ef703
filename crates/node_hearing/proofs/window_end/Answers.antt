-- `node_hearing::window_end` meets its contract: its tests are those of the definition. Assumes nothing.
use mathlib.Core.Path.{sym, ◌∙◌}
use borrow.Author.Tests.{eq-eqb, ne_eqb}
use Rattle.nodeset.proofs.Tests.{failed, passed, chosen, otherwise}
use Rattle.node_hearing.specs.Held.{window_end}
use Rattle.node_hearing.proofs.window_end.Goals as goal

pub returns-then-not-clean : goal.returns-then-not-clean
unfolding window_end
returns-then-not-clean c =
    c.listening_after.ensures ∙ sym (otherwise _ _ (failed c.clean.ensures c.if-not-clean.true))

pub returns-then-w : goal.returns-then-w
unfolding window_end
returns-then-w c =
    let w = c.args.w in
    c.following_with.ensures
    ∙ sym (chosen _ _ (passed c.clean.ensures c.if-not-clean.false) ∙ chosen _ _ (eq-eqb w.last w.heard c.if-w.true))

pub returns : goal.returns
unfolding window_end
returns c =
    let w = c.args.w in
    c.listening_after-2.ensures
    ∙ sym (chosen _ _ (passed c.clean.ensures c.if-not-clean.false) ∙ otherwise _ _ (ne_eqb w.last w.heard c.if-w.false))
