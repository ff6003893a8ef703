-- `node_steps::effect_of` meets its contract: the reader's answer is taken apart as in the definition. Assumes nothing.
use mathlib.Core.Path.{sym, ap, ◌∙◌}
use Rattle.message.specs.Answers.{Reading}
use Rattle.node_steps.specs.declared.Said.{Said}
use Rattle.node_record.specs.Held.{setted}
use Rattle.node_steps.specs.Digests.{heard_effect}
use Rattle.node_steps.specs.Held.{effect_of}
use Rattle.node_steps.proofs.effect_of.Goals as goal

pub returns-in_default : goal.returns-in_default
returns-in_default c =
    let a = c.args in
    c.unheard_effect.ensures ∙ sym (ap (λ (r : Reading). effect_of a.digest a.s r a.v) c.in_default.is)

pub returns : goal.returns
returns c =
    let h = c.in-Ok in
    let a = c.args in
    c.heard_effect.ensures
    ∙ ap (λ (said : Said). heard_effect said h.heard.return_bit (setted a.v)) c.said_by.ensures
    ∙ sym (ap (λ (r : Reading). effect_of a.digest a.s r a.v) h.is)
