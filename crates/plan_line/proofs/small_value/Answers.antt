-- `plan_line::small_value` meets its contract: a number of three digits or more is 100 or more.
-- Assumes nothing.
use native.Mathlib.Omega.{arith}
use Rattle.plan_line.proofs.Numbers.{form, one-digit, two_digits, many-digits}
use Rattle.plan_line.proofs.small_value.Goals as goal

pub overflow_sub-word : goal.overflow_sub-word
overflow_sub-word c = (one-digit c.args.word.now c.requires c.if-word-eq1.true).0

pub returns-then-word-eq1 : goal.returns-then-word-eq1
returns-then-word-eq1 c = omega (arith, one-digit c.args.word.now c.requires c.if-word-eq1.true)

pub overflow_sub-word-then-word-eq2 : goal.overflow_sub-word-then-word-eq2
overflow_sub-word-then-word-eq2 c = (two_digits c.args.word.now c.requires c.if-word-eq2.true).0

pub overflow_sub-word-then-word-eq2-2 : goal.overflow_sub-word-then-word-eq2-2
overflow_sub-word-then-word-eq2-2 c = (two_digits c.args.word.now c.requires c.if-word-eq2.true).2

pub returns-then-word-eq2 : goal.returns-then-word-eq2
returns-then-word-eq2 c = omega (arith, two_digits c.args.word.now c.requires c.if-word-eq2.true)

pub returns : goal.returns
returns c =
    let w = c.args.word.now in
    let long = (form w c.requires).0 in
    let much = many-digits w c.requires (omega arith) in
    omega arith
