-- `converter::job_count_in` meets its contract. Assumes nothing.
use native.Mathlib.Omega.{arith}
use lib.ListN.{length}
use borrow.Author.Tests.{lt-ltb, le-ltb}
use Rattle.converter.specs.Converter.{job_count_in}
use Rattle.converter.proofs.job_count_in.Goals as goal

pub returns-then-length-lt2 : goal.returns-then-length-lt2
unfolding job_count_in
returns-then-length-lt2 c = simp (lt-ltb (length c.args.bytes.now) 2 (omega (arith, c.if-length-lt2.true)))

pub returns : goal.returns
unfolding job_count_in
returns c = simp (le-ltb (length c.args.bytes.now) 2 (omega (arith, c.if-length-lt2.false)))
