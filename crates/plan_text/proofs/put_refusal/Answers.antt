-- `plan_text::put_refusal` meets its contract: where there is room a refusal is written. Assumes nothing.
use mathlib.Core.Path.{refl}
use native.Mathlib.Omega.{arith}
use Rattle.plan_text.specs.Text.{refusal_text}
use Rattle.plan_text.proofs.Digits.{refusal-short}
use Rattle.plan_text.proofs.Paste.{count-is, not-refused, put-few}
use Rattle.plan_text.proofs.put_refusal.Goals as goal

pub overflow_add-result : goal.overflow_add-result
overflow_add-result c =
    omega (arith, count-is (refusal_text c.args.line c.args.cause) c.args.out.now c.args.at c.requires c.in-Ok.ensures refl, refusal-short c.args.line c.args.cause, c.requires, c.well_formed)

pub returns-in-Ok : goal.returns-in-Ok
returns-in-Ok c =
    put-few (refusal_text c.args.line c.args.cause) c.args.out.now c.args.at c.requires c.in-Ok.ensures (refusal-short c.args.line c.args.cause) refl

pub returns-in-Err : goal.returns-in-Err
returns-in-Err c =
    absurd (not-refused (refusal_text c.args.line c.args.cause) c.args.out.now c.args.at c.requires c.in-Err.ensures refl)
