-- `nodeset::without` meets its contract: a node that is there is one of 1 to 32, and its power of two is taken. Assumes nothing.
use Prim.Native.Nat.{ℕ, suc, ◌-◌, ◌^◌, ◌≤◌}
use mathlib.Core.Path.{◌≡◌, sym, ap, ◌∙◌}
use mathlib.Core.Bool.{true}
use native.Mathlib.Omega.{arith}
use borrow.Author.Rules.{rules}
use Rattle.nodeset.specs.Sets.{has, without}
use Rattle.nodeset.proofs.Tests.{failed, passed}
use Rattle.nodeset.proofs.Bits.{shifted_one, has-le}
use Rattle.nodeset.proofs.Laws.{has-range, without-there, without-absent}
use Rattle.nodeset.proofs.without.Goals as goal

-- past the test the node is there, so it is one of 1 to 32
there : (c : goal.Else-not-has) → has c.args.s c.args.x ≡ true
there c = passed c.has.ensures c.if-not-has.false

range : (c : goal.Else-not-has) → (1 ≤ c.args.x) × (c.args.x ≤ 32)
range c = has-range 32 c.args.s c.args.x (search rules) (there c)

place : (c : goal.Else-not-has) → c.args.x ≡ suc (c.args.x - 1)
place c = omega (arith, range c)

pub returns-then-not-has : goal.returns-then-not-has
returns-then-not-has c =
    let a = c.args in
    sym (without-absent a.s a.x (failed c.has.ensures c.if-not-has.true))

pub overflow_sub-result : goal.overflow_sub-result
overflow_sub-result c = (range c).0

pub overflow_shl-result : goal.overflow_shl-result
overflow_shl-result c = omega (arith, range c)

pub overflow_sub-result-2 : goal.overflow_sub-result-2
overflow_sub-result-2 c =
    let a = c.args in
    let held : 2 ^ (a.x - 1) ≤ a.s = has-le a.s (a.x - 1) (sym (ap (has a.s) (place c)) ∙ there c) in
    omega (arith, shifted_one 32 (a.x - 1) (omega (arith, range c)))

pub returns : goal.returns
returns c =
    let a = c.args in
    ap (λ (p : ℕ). a.s - p) (shifted_one 32 (a.x - 1) (omega (arith, range c)))
    ∙ sym (without-there a.s (a.x - 1) (sym (ap (has a.s) (place c)) ∙ there c))
    ∙ sym (ap (without a.s) (place c))
