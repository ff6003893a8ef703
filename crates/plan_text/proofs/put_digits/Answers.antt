use mathlib.Core.Path.{sym, ◌∙◌}
use native.Mathlib.Omega.{arith}
use Rattle.plan_text.proofs.Paste.{digit-turn, filling-end, filled}
use Rattle.plan_text.proofs.put_digits.Goals as goal

pub loop-i-preserved : goal.loop-i-preserved
loop-i-preserved c =
    let loop = c.loop-i in
    let a = c.args in
    digit-turn a.base loop.out a.at loop.i loop.rest c.glyph.result c.loop-i-test.true (omega arith) c.glyph.ensures ∙ loop.invariant

pub returns : goal.returns
returns c =
    let loop = c.loop-i in
    let a = c.args in
    sym (filling-end a.base loop.out a.at loop.i loop.rest (omega arith)) ∙ loop.invariant ∙ filled a.base a.out.now a.at a.count a.x
