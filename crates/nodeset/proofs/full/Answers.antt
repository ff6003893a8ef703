-- `nodeset::full` meets its contract: a power of two below the word's size is shifted whole. Assumes nothing.
use Prim.Native.Nat.{ℕ, ◌-◌, ◌^◌, min}
use mathlib.Core.Path.{◌≡◌, ap, ◌∙◌}
use native.Mathlib.Omega.{arith}
use borrow.Author.Rules.{rules}
use lib.Pow.{pow_pos}
use Rattle.nodeset.specs.Sets.{full}
use Rattle.nodeset.proofs.Bits.{shifted_one}
use Rattle.nodeset.proofs.full.Goals as goal

pub overflow_sub-result : goal.overflow_sub-result
overflow_sub-result c = omega (arith, shifted_one 32 c.args.n (search rules), pow_pos c.args.n)

pub returns-then-n-lt32 : goal.returns-then-n-lt32
unfolding full
returns-then-n-lt32 c =
    let n : ℕ = c.args.n in
    let z : n ≡ min n 32 = omega arith in
    ap (λ (p : ℕ). p - 1) (shifted_one 32 n (search rules)) ∙ ap (λ (e : ℕ). 2 ^ e - 1) z

pub returns : goal.returns
unfolding full
returns c =
    let n : ℕ = c.args.n in
    let z : 32 ≡ min n 32 = omega arith in
    ap (λ (e : ℕ). 2 ^ e - 1) z
