-- `plan_program::end_of` meets its contract. Assumes nothing.
use borrow.Author.Rules.{rules}
use native.Mathlib.Omega.{arith}
use borrow.Author.Tests.{le-leb, lt-leb}
use Prim.Native.Nat.{◌+◌}
use Rattle.plan_program.specs.Inner.{end_of}
use Rattle.plan_program.proofs.end_of.Goals as goal

pub returns-in_default : goal.returns-in_default
unfolding end_of
returns-in_default c = search rules

pub returns-then-count-at : goal.returns-then-count-at
unfolding end_of
returns-then-count-at c = rw c.in-Ok.is (simp (le-leb (c.args.at + c.in-Ok.count) 18446744073709551615 (omega arith)))

pub returns-else-count-at : goal.returns-else-count-at
unfolding end_of
returns-else-count-at c = rw c.in-Ok.is (simp (lt-leb (c.args.at + c.in-Ok.count) 18446744073709551615 (omega arith)))
