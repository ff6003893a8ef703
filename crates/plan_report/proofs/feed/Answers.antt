-- `plan_report::feed` meets its contract: each refusal by the test that fails, else what the loop over the bytes leaves. Assumes nothing.
use mathlib.Core.Path.{◌≡◌, sym, ◌∙◌}
use mathlib.Core.Bool.{false}
use native.Mathlib.Omega.{arith}
use lib.ListN.{length}
use Rattle.plan_program.specs.Calls.{plan_sound}
use Rattle.plan_report.specs.Calls.{text_of}
use Rattle.plan_report.proofs.Pieces.{fed-short, fed-some, fed-unsound}
use Rattle.plan_report.proofs.feed.Goals as goal

pub returns-then-not-is_sound : goal.returns-then-not-is_sound
returns-then-not-is_sound c =
    let a = c.args in
    let unsound : plan_sound a.report.tally.plan ≡ false = sym c.is_sound.ensures ∙ c.if-not-is_sound.true in
    sym (fed-unsound a.report a.input.now a.out.now unsound)

pub returns-then-out-input : goal.returns-then-out-input
returns-then-out-input c =
    let a = c.args in
    sym (fed-short a.report a.input.now a.out.now (sym c.is_sound.ensures ∙ c.if-not-is_sound.false) (omega arith))

pub returns : goal.returns
returns c =
    let a = c.args in
    let done = c.take_bytes-taken.ensures in
    let count : c.take_bytes-taken.result.at ≡ length (text_of a.report a.input.now) = omega (arith, done.1.end) in
    rw (fed-some a.report a.input.now a.out.now (sym c.is_sound.ensures ∙ c.if-not-is_sound.false) (omega arith)) (cc (done.0, count, done.1.bytes))
