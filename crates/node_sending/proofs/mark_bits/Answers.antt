-- `node_sending::mark_bits` meets its contract: the goals about its invariant. Assumes nothing.
use Prim.Native.Nat.{ℕ, ◌+◌}
use mathlib.Core.Path.{◌≡◌, refl, ap, ap₂, ◌∙◌, subst⁻¹}
use mathlib.Core.Bool.{Bool}
use native.Mathlib.Omega.{arith}
use native.Mathlib.Numerals.{add-one}
use Rattle.nodeset.specs.Sets.{has, with_if}
use Rattle.row.specs.Inner.{back_in}
use Rattle.row.specs.Sponsoring.{sponsored_row}
use Rattle.node_record.specs.declared.Held.{Held}
use Rattle.node_sending.specs.Held.{mark_bits}
use Rattle.node_sending.proofs.mark_bits.Goals as goal

-- one bit more is one step of the definition
one-more : (v : Held) (j bits x : ℕ) → bits ≡ mark_bits j v → x ≡ sponsored_row v.cable v.row v.own (j + 1)
    → with_if (has v.present x) bits (j + 1) ≡ mark_bits (j + 1) v
unfolding mark_bits
one-more v j bits x e f =
    ap₂ (λ (y b : ℕ). with_if (has v.present y) b (j + 1)) f e
    ∙ subst⁻¹ (λ (m : ℕ). with_if (has v.present (sponsored_row v.cable v.row v.own m)) (mark_bits j v) m ≡ mark_bits m v) (add-one j) refl

pub loop-earlier-init : goal.loop-earlier-init
unfolding mark_bits
loop-earlier-init c = refl

pub loop-earlier-preserved : goal.loop-earlier-preserved
loop-earlier-preserved c =
    let l = c.loop-earlier in
    let v = c.args.v in
    c.with_if-bits.ensures
    ∙ ap (λ (b : Bool). with_if b l.bits (l.earlier + 1)) c.has-marked.ensures
    ∙ one-more v l.earlier l.bits c.back-member.result l.invariant
    (c.back-member.ensures
    ∙ ap₂ (λ (p : ℕ) (here : Bool). back_in v.row p here (l.earlier + 1 + v.cable.lag)) c.rank-p.ensures c.has-here.ensures)

pub returns : goal.returns
returns c =
    let v = c.args.v in
    let most = c.sponsors-most in
    let last : c.loop-earlier.earlier ≡ most.result = omega arith in
    c.loop-earlier.invariant ∙ ap (λ (m : ℕ). mark_bits m v) (last ∙ most.ensures)
