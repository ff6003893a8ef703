-- `node_steps::tracking_slot` meets its contract: its tests are those of the definition, in their order. Assumes nothing.
use Rattle.std.specs.Prelude.{Option}
use Prim.Native.Nat.{ℕ}
use mathlib.Core.Path.{◌≡◌, refl, sym, ap, ap₂, ◌∙◌}
use mathlib.Core.Bool.{Bool}
use Rattle.row.specs.Inner.{has_row}
use Rattle.row.specs.declared.Row.{Row}
use Rattle.nodeset.proofs.Tests.{chosen, otherwise}
use Rattle.message.specs.Answers.{Reading}
use Rattle.node_record.specs.declared.Held.{Held}
use Rattle.node_steps.specs.declared.Digest.{Digest}
use Rattle.node_steps.specs.declared.Effect.{Effect}
use Rattle.node_steps.specs.Digests.{decided_where}
use Rattle.node_steps.specs.Held.{decided_by, effect_of, taken_by, departures, settle, ended, departing_by, tracking_with, tracking_by}
use Rattle.node_steps.proofs.tracking_slot.Goals as goal

-- the slot by what the code has found: i is whether the sender is in the set, e what the message does, m the decided member
with-found : (d : Digest) (s : ℕ) (heard : Reading) (v : Held) (i : Bool) (e : Effect) (m : ℕ) → i ≡ has_row v.row s → e ≡ effect_of d s heard v → m ≡ decided_by d s v
    → tracking_with i e m s v ≡ tracking_by d s heard v
unfolding tracking_by
with-found d s heard v i e m p q r =
    ap (λ (b : Bool). tracking_with b e m s v) p ∙ ap₂ (λ (x : Effect) (y : ℕ). tracking_with (has_row v.row s) x y s v) q r

-- step 3 of the record w after the first two, with the member x that is decided first
departs : (i : Bool) (e : Effect) (m s x : ℕ) (v w : Held) (d : Option Row) → w ≡ taken_by i s e v → x ≡ decided_where i m → d ≡ departures w.cable.n x s w.row w
    → ended i s d w ≡ departing_by i (decided_where i m) s (taken_by i s e v)
departs i e m s x v w d f g h = ap (λ (o : Option Row). ended i s o w) h ∙ ap₂ (λ (y : ℕ) (u : Held). departing_by i y s u) g f

pub returns-then-inside-effect : goal.returns-then-inside-effect
returns-then-inside-effect c =
    let a = c.args in
    c.leave.ensures
    ∙ sym (chosen _ _ c.if-inside-effect.true)
    ∙ with-found a.digest a.s a.heard a.v c.has-inside.result c.effect_of-effect.result (decided_by a.digest a.s a.v) c.has-inside.ensures c.effect_of-effect.ensures refl

pub returns-in_default : goal.returns-in_default
returns-in_default c =
    let a = c.args in
    let i = c.has-inside.result in
    let w = c.taken-w.result in
    c.leave-in_default.ensures
    ∙ sym (ap (λ (o : Option Row). ended i a.s o w) c.in_default.is)
    ∙ departs i c.effect_of-effect.result c.decided_by.result a.s c.decided_where-m.result a.v w c.departures.result c.taken-w.ensures c.decided_where-m.ensures c.departures.ensures
    ∙ sym (otherwise _ _ c.if-inside-effect.false)
    ∙ with-found a.digest a.s a.heard a.v i c.effect_of-effect.result c.decided_by.result c.has-inside.ensures c.effect_of-effect.ensures c.decided_by.ensures

pub returns : goal.returns
returns c =
    let a = c.args in
    let i = c.has-inside.result in
    let w = c.taken-w.result in
    c.settle.ensures
    ∙ ap (settle i a.s) c.with_row.ensures
    ∙ sym (ap (λ (o : Option Row). ended i a.s o w) c.in-Some.is)
    ∙ departs i c.effect_of-effect.result c.decided_by.result a.s c.decided_where-m.result a.v w c.departures.result c.taken-w.ensures c.decided_where-m.ensures c.departures.ensures
    ∙ sym (otherwise _ _ c.if-inside-effect.false)
    ∙ with-found a.digest a.s a.heard a.v i c.effect_of-effect.result c.decided_by.result c.has-inside.ensures c.effect_of-effect.ensures c.decided_by.ensures
