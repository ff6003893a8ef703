-- `node_steps::said_of` meets its contract: the goals about its invariant. Assumes nothing.
use Prim.Native.Nat.{ℕ, ◌+◌}
use mathlib.Core.Path.{◌≡◌, refl, ap, ap₂, ◌∙◌, subst⁻¹}
use mathlib.Core.Bool.{Bool, true, false, cond}
use native.Mathlib.Omega.{arith}
use native.Mathlib.Numerals.{add-one}
use Rattle.nodeset.specs.Sets.{has, with}
use Rattle.cable.specs.declared.Cable.{Cable}
use Rattle.row.specs.declared.Row.{Row}
use Rattle.row.specs.Inner.{back_in}
use Rattle.row.specs.Sponsoring.{sponsors_row, sponsored_row}
use Rattle.node_steps.specs.Steps.{says_so}
use Rattle.node_steps.specs.Held.{answered}
use Rattle.node_steps.proofs.said_of.Goals as goal

one-more : (answer : Bool) (start s bits : ℕ) (cable : Cable) (row : Row) (j nodes x : ℕ) (bit : Bool)
    → bit ≡ has bits (j + 1) → nodes ≡ answered answer start j s bits cable row → x ≡ sponsored_row cable row s (j + 1)
    → cond (says_so answer bit) (with nodes x) nodes ≡ answered answer start (j + 1) s bits cable row
unfolding answered
one-more answer start s bits cable row j nodes x bit b e f =
    rw (b, e, f) (subst⁻¹ (λ (i : ℕ). cond (says_so answer (has bits i)) (with (answered answer start j s bits cable row) (sponsored_row cable row s i)) (answered answer start j s bits cable row) ≡ answered answer start i s bits cable row) (add-one j) refl)

pub loop-earlier-init : goal.loop-earlier-init
unfolding answered
loop-earlier-init c = record { so_far = c.with-yes.ensures; others = refl }

pub loop-earlier-preserved : goal.loop-earlier-preserved
loop-earlier-preserved c =
    let l = c.loop-earlier in
    let a = c.args in
    let it : c.back-node.result ≡ sponsored_row a.cable a.row a.s (l.earlier + 1)
    = c.back-node.ensures ∙ ap₂ (λ (p : ℕ) (here : Bool). back_in a.row p here (l.earlier + 1 + a.cable.lag)) c.rank-rank.ensures c.has-here.ensures in
    record {
      so_far =
          c.with_if-yes.ensures
          ∙ one-more true (with 0 a.s) a.s a.bits a.cable a.row l.earlier l.«yes» c.back-node.result c.has-bit.result c.has-bit.ensures l.invariant.so_far it;
      others =
          c.with_if-no.ensures
          ∙ one-more false 0 a.s a.bits a.cable a.row l.earlier l.«no» c.back-node.result c.has-bit.result c.has-bit.ensures l.invariant.others it;
    }

pub returns : goal.returns
returns c =
    let l = c.loop-earlier in
    let a = c.args in
    let last : l.earlier ≡ sponsors_row a.cable a.row = omega (arith, c.sponsors-most.ensures) in
    ap₂ (λ (y m : ℕ). record { yes = y; no = m })
    (l.invariant.so_far ∙ ap (λ (m : ℕ). answered true (with 0 a.s) m a.s a.bits a.cable a.row) last)
    (l.invariant.others ∙ ap (λ (m : ℕ). answered false 0 m a.s a.bits a.cable a.row) last)
