use mathlib.Core.Path.{refl}
use native.Mathlib.Omega.{arith}
use Rattle.plan_line.proofs.Words.{gap-mark, gap-next, gap-end}
use Rattle.plan_line.proofs.part_end.Goals as goal

pub loop-i-init : goal.loop-i-init
loop-i-init c = refl

pub returns-then-text-i : goal.returns-then-text-i
returns-then-text-i c =
    let loop = c.loop-i in
    let none = gap-mark c.args.mark c.args.text.now loop.i c.loop-i-test.true c.if-text-i.true in
    omega (arith, none, loop.invariant)

pub loop-i-preserved : goal.loop-i-preserved
loop-i-preserved c =
    let loop = c.loop-i in
    let one = gap-next c.args.mark c.args.text.now loop.i c.loop-i-test.true c.if-text-i.false in
    omega (arith, one, loop.invariant)

pub returns : goal.returns
returns c =
    let loop = c.loop-i in
    let none = gap-end c.args.mark c.args.text.now loop.i (omega arith) in
    let past = gap-end c.args.mark c.args.text.now c.args.from in
    grind (arith, none, past, loop.invariant)
