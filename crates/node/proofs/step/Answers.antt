-- `node::step` meets its contract: the counts are tested first, and change where the record's slot is made. Assumes nothing.
use Rattle.std.specs.Prelude.{Err, Ok, is_ok}
use Prim.Native.Nat.{ℕ, ◌+◌}
use mathlib.Core.Path.{◌≡◌, refl, sym, ap, ap₂, ◌∙◌}
use mathlib.Core.Bool.{Bool, true, false, cond, not, true≢false}
use Rattle.ring.proofs.nodeset.Tests.{by_cases, failed, passed, chosen, otherwise}
use Rattle.ring.specs.Ring.{sender}
use Rattle.node_reports.specs.Reports.{Counts, counts_with}
use Rattle.message.specs.Answers.{Reading}
use Rattle.node_record.specs.declared.Node.{Node}
use Rattle.node_record.specs.Soundness.{sound}
use Rattle.node_record.specs.Held.{setted}
use Rattle.node_record.proofs.Facts.{clauses}
use Rattle.node.specs.declared.Stepped as code
use Rattle.node.specs.Answers.{Answer}
use Rattle.node.specs.Calls.{Stepped, is_done, step_of, hears_report, reporter_in, counts_after, counted_of}
use Rattle.node.specs.Held.{held_as, beside, held_with}
use Rattle.node.proofs.Holding.{reporter-held}
use Rattle.node.proofs.step.Goals as goal

-- a slot is made of sound records alone
done-sound : (heard : Reading) (v : Node) → is_done (step_of heard v).answer ≡ true → sound v ≡ true
unfolding step_of
done-sound heard v e = by_cases (sound v) (λ s. s) (λ s. absurd (true≢false (sym e ∙ ap (λ (r : Stepped). is_done r.answer) (otherwise _ _ s))))

-- the test by std's `is_err` is that of `is_done`
undone : (answer : Answer) {b t : Bool} → is_ok answer ≡ not b → b ≡ t → is_done answer ≡ not t
undone (Ok _) e h = e ∙ ap not h
undone (Err cause) e h = e ∙ ap not h

-- nobody's job byte leaves the counts
counts-if : (b : Bool) (s jobs : ℕ) (counts : Counts) → counts_with (cond b s 0) jobs counts ≡ cond b (counts_with s jobs counts) counts
unfolding counts_with
counts-if true s jobs counts = refl
counts-if false s jobs counts = refl

pub returns-then-not-counts_within : goal.returns-then-not-counts_within
unfolding counted_of
returns-then-not-counts_within c =
    c.with_counts.ensures
    ∙ sym (ap (held_with c.args.v) (otherwise _ _ (failed c.counts_within.ensures c.if-not-counts_within.true)))

pub returns-then-is_err : goal.returns-then-is_err
unfolding counted_of
returns-then-is_err c =
    let a = c.args in
    let stepped = step_of a.received.reading (setted a.v) in
    let missed : is_done stepped.answer ≡ false = sym (ap (λ (s : code.Stepped). is_done s.answer) c.after_step-stepped.ensures) ∙ undone c.after_step-stepped.result.answer c.is_err.ensures.negation c.if-is_err.true in
    c.with_counts-then-is_err.ensures
    ∙ ap (λ (s : code.Stepped). beside s a.counts) c.after_step-stepped.ensures
    ∙ ap (beside (held_as a.v stepped)) (sym (otherwise _ _ missed))
    ∙ sym (ap (held_with a.v) (chosen _ _ (passed c.counts_within.ensures c.if-not-counts_within.false)))

pub reporter-requires : goal.reporter-requires
reporter-requires c =
    let a = c.args in
    let made : is_done (step_of a.received.reading (setted a.v)).answer ≡ true = sym (ap (λ (s : code.Stepped). is_done s.answer) c.after_step-stepped.ensures) ∙ undone c.after_step-stepped.result.answer c.is_err.ensures.negation c.if-is_err.false in
    (clauses (setted a.v) (done-sound a.received.reading (setted a.v) made)).choices.ring

pub returns : goal.returns
unfolding counted_of counts_after reporter_in
returns c =
    let a = c.args in
    let w = setted a.v in
    let s = sender a.v.cable (a.v.slots + 1) in
    let stepped = step_of a.received.reading w in
    let made : is_done stepped.answer ≡ true = sym (ap (λ (s : code.Stepped). is_done s.answer) c.after_step-stepped.ensures) ∙ undone c.after_step-stepped.result.answer c.is_err.ensures.negation c.if-is_err.false in
    let good : sound w ≡ true = done-sound a.received.reading w made in
    c.with_counts-2.ensures
    ∙ ap₂ beside c.after_step-stepped.ensures
    (c.counts_with-after.ensures
    ∙ ap (λ (x : ℕ). counts_with x a.received.jobs a.counts) (c.reporter.ensures ∙ reporter-held a.v good a.received.reading)
    ∙ counts-if (hears_report s a.received.reading w) s a.received.jobs a.counts
    ∙ sym (chosen _ _ made))
    ∙ sym (ap (held_with a.v) (chosen _ _ (passed c.counts_within.ensures c.if-not-counts_within.false)))
