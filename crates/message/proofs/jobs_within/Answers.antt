-- `message::jobs_within` meets its contract: a byte has no bit past 8, and a shift by m leaves 0 where no bit is past it. Assumes nothing.
use Prim.Native.Nat.{◌^◌}
use mathlib.Core.Path.{sym, ◌∙◌}
use native.Mathlib.Omega.{arith}
use native.Mathlib.Nat.{lt_of_lt_of_le}
use lib.Pow.{pow_mono}
use borrow.Author.Tests.{lt-ltb, le-leb}
use Rattle.message.proofs.Tests.{shifted-out}
use Rattle.message.proofs.jobs_within.Goals as goal

pub returns-then-m-ge8 : goal.returns-then-m-ge8
returns-then-m-ge8 c =
    let a = c.args in
    le-leb 8 a.m c.if-m-ge8.true ∙ sym (lt-ltb a.jobs (2 ^ a.m) (lt_of_lt_of_le (omega arith) (pow_mono {i = 8} {j = a.m} c.if-m-ge8.true)))

pub returns-else-m-ge8 : goal.returns-else-m-ge8
returns-else-m-ge8 c = simp shifted-out
