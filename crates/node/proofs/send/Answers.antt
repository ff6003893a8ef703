-- `node::send` meets its contract: its tests are in their order, then the writer writes. Assumes nothing.
use Prim.Native.Nat.{ℕ}
use mathlib.Core.Path.{sym, ap, ap₂, ◌∙◌}
use mathlib.Core.Bool.{Bool}
use Rattle.message.specs.Message.{write_of}
use borrow.Author.Tests.{le-leb, lt-leb}
use Rattle.ring.proofs.nodeset.Tests.{failed, passed, chosen, otherwise}
use Rattle.node_record.specs.Held.{setted}
use Rattle.node_record.proofs.Facts.{clauses}
use Rattle.node_sending.specs.Sending.{bits_sent, return_sent}
use Rattle.node.specs.Calls.{send_of}
use Rattle.node.proofs.Holding.{bits-sent-held}
use Rattle.node.proofs.send.Goals as goal

pub returns-then-not-is_sound : goal.returns-then-not-is_sound
unfolding send_of
returns-then-not-is_sound c = sym (otherwise _ _ (failed c.is_sound.ensures c.if-not-is_sound.true))

pub returns-then-v-ge-LIMIT : goal.returns-then-v-ge-LIMIT
unfolding send_of
returns-then-v-ge-LIMIT c = sym (chosen _ _ (passed c.is_sound.ensures c.if-not-is_sound.false) ∙ chosen _ _ (le-leb _ _ c.if-v-ge-LIMIT.true))

pub returns-then-not-jobs_within : goal.returns-then-not-jobs_within
unfolding send_of
returns-then-not-jobs_within c = sym (
    chosen _ _ (passed c.is_sound.ensures c.if-not-is_sound.false)
    ∙ otherwise _ _ (lt-leb _ _ c.if-v-ge-LIMIT.false)
    ∙ otherwise _ _ (failed c.jobs_within.ensures c.if-not-jobs_within.true))

pub its_turn-requires : goal.its_turn-requires
its_turn-requires c = (clauses (setted c.args.v) (passed c.is_sound.ensures c.if-not-is_sound.false)).choices.ring

pub returns-then-not-its_turn : goal.returns-then-not-its_turn
unfolding send_of
returns-then-not-its_turn c = sym (
    chosen _ _ (passed c.is_sound.ensures c.if-not-is_sound.false)
    ∙ otherwise _ _ (lt-leb _ _ c.if-v-ge-LIMIT.false)
    ∙ chosen _ _ (passed c.jobs_within.ensures c.if-not-jobs_within.false)
    ∙ otherwise _ _ (failed c.its_turn.ensures c.if-not-its_turn.true))

pub returns : goal.returns
unfolding send_of
returns c =
    let a = c.args in
    let v = setted a.v in
    let good = passed c.is_sound.ensures c.if-not-is_sound.false in
    c.write.ensures
    ∙ ap₂ (λ (bits : ℕ) (b : Bool). write_of a.v.cable.k a.v.cable.m bits b c.jobs_sent.result a.out.now) (c.bits_sent.ensures ∙ bits-sent-held a.v good) c.return_sent.ensures
    ∙ ap (λ (j : ℕ). write_of a.v.cable.k a.v.cable.m (bits_sent v) (return_sent v) j a.out.now) c.jobs_sent.ensures
    ∙ sym (
    chosen _ _ good
    ∙ otherwise _ _ (lt-leb _ _ c.if-v-ge-LIMIT.false)
    ∙ chosen _ _ (passed c.jobs_within.ensures c.if-not-jobs_within.false)
    ∙ chosen _ _ (passed c.its_turn.ensures c.if-not-its_turn.false))
