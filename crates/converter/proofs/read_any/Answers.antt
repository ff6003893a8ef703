-- `converter::read_any` meets its contract: by the count that stands there, or by 0 where it is above 8. Assumes nothing.
use mathlib.Core.Path.{◌∙◌}
use native.Mathlib.Omega.{arith}
use Rattle.converter.proofs.Any.{any-due}
use Rattle.converter.proofs.read_any.Goals as goal

pub returns : goal.returns
returns c =
    let count = c.job_count_in-standing.ensures in
    c.read.ensures ∙ any-due c.args.k c.args.bytes.now _ (λ few. omega (arith, few, count)) (λ many. omega (arith, many, count))
