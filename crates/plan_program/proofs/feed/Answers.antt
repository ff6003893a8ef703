-- `plan_program::feed` meets its contract: each refusal by the test that fails, else what the loop over the lines leaves. Assumes nothing.
use mathlib.Core.Path.{◌≡◌, sym, ◌∙◌}
use mathlib.Core.Bool.{false}
use Rattle.plan_program.specs.Calls.{has_room, plan_sound}
use Rattle.plan_program.proofs.Pieces.{fed-unsound, fed-short, fed-run}
use Rattle.plan_program.proofs.feed.Goals as goal

pub returns-then-not-is_sound : goal.returns-then-not-is_sound
returns-then-not-is_sound c =
    let a = c.args in
    let unsound : plan_sound a.plan ≡ false = sym c.is_sound.ensures ∙ c.if-not-is_sound.true in
    sym (fed-unsound a.plan a.part a.input.now a.out.now unsound)

pub returns-then-not-has_room : goal.returns-then-not-has_room
returns-then-not-has_room c =
    let a = c.args in
    let short : has_room a.input.now a.out.now ≡ false = sym c.has_room.ensures ∙ c.if-not-has_room.true in
    sym (fed-short a.plan a.part a.input.now a.out.now (sym c.is_sound.ensures ∙ c.if-not-is_sound.false) short)

pub returns : goal.returns
returns c =
    let a = c.args in
    fed-run a.plan a.part a.input.now a.out.now c.run_lines-ran.result c.clean-rest.result c.clean-rest.ensures (sym c.is_sound.ensures ∙ c.if-not-is_sound.false) (sym c.has_room.ensures ∙ c.if-not-has_room.false)
    c.run_lines-ran.ensures
