-- `node::off` meets its contract: it tests soundness first. Assumes nothing.
use Rattle.std.specs.Prelude.{Ok}
use mathlib.Core.Path.{sym, ap, ◌∙◌}
use Rattle.ring.proofs.nodeset.Tests.{failed, passed, chosen, otherwise}
use Rattle.node_record.specs.declared.Held.{Held}
use Rattle.node_record.specs.declared.Cause.TheVariants.{SwitchedOff}
use Rattle.node_changes.specs.Changes as rules
use Rattle.node_changes.specs.Held as changes
use Rattle.node_changes.proofs.Holding.{out-held}
use Rattle.node.specs.Calls.{off_of}
use Rattle.node.specs.Held.{held_as}
use Rattle.node.proofs.Holding.{on-held}
use Rattle.node.proofs.off.Goals as goal

pub returns-then-not-is_sound : goal.returns-then-not-is_sound
unfolding off_of
returns-then-not-is_sound c = sym (ap (held_as c.args.v) (otherwise _ _ (failed c.is_sound.ensures c.if-not-is_sound.true)))

pub returns : goal.returns
unfolding off_of
returns c =
    let v = c.args.v in
    let good = passed c.is_sound.ensures c.if-not-is_sound.false in
    ap (λ (x : Held). record { node = x; answer = Ok tt }) (c.out_for-w.ensures ∙ on-held v good (changes.out_for SwitchedOff) (rules.out_for SwitchedOff) (out-held SwitchedOff))
    ∙ sym (ap (held_as v) (chosen _ _ good))
