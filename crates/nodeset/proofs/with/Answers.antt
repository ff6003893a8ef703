-- `nodeset::with` meets its contract: a node that is there changes nothing; any other of 1 to 32 adds its power of two, which fits.
-- Assumes nothing.
use Prim.Native.Nat.{ℕ, suc, ◌+◌, ◌-◌}
use mathlib.Core.Path.{◌≡◌, sym, ap, ◌∙◌}
use mathlib.Core.Bool.{false}
use native.Mathlib.Omega.{arith}
use borrow.Author.Rules.{rules}
use Rattle.nodeset.specs.Sets.{has, with}
use Rattle.nodeset.proofs.Bits.{shifted_one, more_lt}
use Rattle.nodeset.proofs.Laws.{with-there, with-new, with-beyond}
use Rattle.nodeset.proofs.with.Goals as goal

-- x, not 0, is the node of bit x - 1
place : (x : ℕ) → (x ≡ 0 → ⊥) → x ≡ suc (x - 1)
place x h = omega arith

pub returns-then-x-eq0 : goal.returns-then-x-eq0
unfolding with
returns-then-x-eq0 c = sym (ap (with c.args.s) c.if-x-eq0.true)

pub returns-then-x-gt32 : goal.returns-then-x-gt32
returns-then-x-gt32 c =
    let a = c.args in
    sym (ap (with a.s) (place a.x c.if-x-eq0.false) ∙ with-beyond a.s (a.x - 1) (omega (arith, c.if-x-gt32.true)))

pub returns-then-has : goal.returns-then-has
returns-then-has c =
    let a = c.args in
    sym (with-there a.s a.x (sym c.has.ensures ∙ c.if-has.true))

pub overflow_add-result : goal.overflow_add-result
overflow_add-result c =
    let a = c.args in
    let e = place a.x c.if-x-eq0.false in
    let absent : has a.s (suc (a.x - 1)) ≡ false = sym (ap (has a.s) e) ∙ sym c.has.ensures ∙ c.if-has.false in
    record { fits = omega (arith, shifted_one 32 (a.x - 1) (search rules), more_lt 32 a.s (a.x - 1) (search rules) (search rules) absent) }

pub returns : goal.returns
returns c =
    let a = c.args in
    let e = place a.x c.if-x-eq0.false in
    let absent : has a.s (suc (a.x - 1)) ≡ false = sym (ap (has a.s) e) ∙ sym c.has.ensures ∙ c.if-has.false in
    ap (λ (p : ℕ). a.s + p) (shifted_one 32 (a.x - 1) (search rules))
    ∙ sym (with-new a.s (a.x - 1) (search rules) absent)
    ∙ sym (ap (with a.s) e)
