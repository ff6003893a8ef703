-- `node::after_step` meets its contract: its tests are in the table's order; on a ring the sender is never refused; the slot goes by the digest of the
-- record's own row. Assumes nothing.
use Rattle.std.specs.Prelude.{Ok}
use Prim.Native.Nat.{◌+◌}
use mathlib.Core.Path.{refl, sym, ap, ◌∙◌}
use borrow.Author.Tests.{le-leb, lt-leb}
use Rattle.ring.proofs.nodeset.Tests.{failed, passed, chosen, otherwise}
use Rattle.node_record.proofs.ring_laws.Speakers.{is-sender, no-refusal}
use Rattle.node_record.specs.declared.Held.{Held}
use Rattle.node_record.specs.Held.{setted}
use Rattle.node_record.proofs.Facts.{clauses}
use Rattle.node.specs.Calls.{step_of}
use Rattle.node.specs.Held.{held_as}
use Rattle.node.proofs.Holding.{slot-held}
use Rattle.node.proofs.after_step.Goals as goal

pub returns-then-not-is_sound : goal.returns-then-not-is_sound
unfolding step_of
returns-then-not-is_sound c = sym (ap (held_as c.args.v) (otherwise _ _ (failed c.is_sound.ensures c.if-not-is_sound.true)))

pub returns-then-v-ge-LIMIT : goal.returns-then-v-ge-LIMIT
unfolding step_of
returns-then-v-ge-LIMIT c =
    sym (ap (held_as c.args.v) (
    chosen _ _ (passed c.is_sound.ensures c.if-not-is_sound.false) ∙ chosen _ _ (le-leb _ _ c.if-v-ge-LIMIT.true)))

pub returns-in_default : goal.returns-in_default
returns-in_default c =
    let v = c.args.v in
    let good = passed c.is_sound.ensures c.if-not-is_sound.false in
    absurd (no-refusal v.cable (v.slots + 1) c.in_default.field-0 _ (clauses (setted v) good).choices.ring c.in_default.ensures refl)

pub returns : goal.returns
unfolding step_of
returns c =
    let a = c.args in
    let v = a.v in
    let good = passed c.is_sound.ensures c.if-not-is_sound.false in
    let s = is-sender v.cable (v.slots + 1) _ _ (clauses (setted v) good).choices.ring c.in-Ok.ensures refl in
    ap (λ (x : Held). record { node = x; answer = Ok tt }) (slot-held v good _ a.heard _ _ c.after_slot-w.ensures c.digest_of-digest.ensures s)
    ∙ sym (ap (held_as v) (chosen _ _ good ∙ otherwise _ _ (lt-leb _ _ c.if-v-ge-LIMIT.false)))
