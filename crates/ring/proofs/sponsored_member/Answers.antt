-- `ring::sponsored_member` meets its contract: the member before, from the first to the ks-th. Assumes nothing.
use Prim.Native.Nat.{◌≤◌}
use mathlib.Core.Path.{◌≡◌, sym, ◌∙◌}
use mathlib.Core.Bool.{false}
use native.Mathlib.Omega.{arith}
use lib.Dec.{leb}
use borrow.Author.Tests.{le-leb, lt-leb}
use Rattle.nodeset.proofs.Counts.{size-le}
use Rattle.ring.specs.Ring.{sponsors, sponsored}
use Rattle.ring.proofs.Members.{sponsored-before, sponsors-others}
use Rattle.ring.proofs.sponsored_member.Goals as goal

pub returns-then-j-eq0 : goal.returns-then-j-eq0
unfolding sponsored
returns-then-j-eq0 c = simp c.if-j-eq0.true

pub returns-then-sponsors-j : goal.returns-then-sponsors-j
unfolding sponsored
returns-then-sponsors-j c =
    let a = c.args in
    let some : 1 ≤ a.j = omega (arith, c.if-j-eq0.false) in
    let past : leb a.j (sponsors a.cable a.set) ≡ false = lt-leb a.j (sponsors a.cable a.set) (omega (arith, c.if-sponsors-j.true, c.sponsors.ensures)) in
    simp (le-leb 1 a.j some, past)

pub overflow_add-j : goal.overflow_add-j
overflow_add-j c =
    let a = c.args in
    let some : 1 ≤ a.j = omega (arith, c.if-j-eq0.false) in
    let last : a.j ≤ sponsors a.cable a.set = omega (arith, c.if-sponsors-j.false, c.sponsors.ensures) in
    omega (arith, last, sponsors-others a.cable a.set (omega (arith, some, last)), size-le a.cable.n a.set)

pub returns : goal.returns
returns c =
    let a = c.args in
    c.member_before.ensures
    ∙ sym (sponsored-before a.cable a.set a.x a.j (omega (arith, c.if-j-eq0.false)) (omega (arith, c.if-sponsors-j.false, c.sponsors.ensures)))
