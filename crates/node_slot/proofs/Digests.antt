-- A slot by the digest of any set (specs/Inner) is the slot of document 01 (specs/Slot), for a record that has the digest's cable; and the facts of a sound
-- record that this asks for. Assumes nothing.
use Rattle.std.specs.Prelude.{Err}
use Prim.Native.Nat.{ℕ, ◌^◌, ◌≤◌, ◌<◌}
use mathlib.Core.Path.{◌≡◌, refl, sym, ap, ◌∙◌}
use mathlib.Core.Bool.{Bool, true, false, cond, ◌&&◌, true≢false}
use native.Mathlib.Omega.{arith}
use lib.Dec.{eqb}
use lib.Pow.{pow_mono}
use borrow.Author.Tests.{ltb-true}
use Rattle.refusal.specs.declared.Refusal.TheVariants.{MessageLength}
use Rattle.node_record.specs.nodeset.Sets.{within, subset}
use Rattle.node_record.proofs.nodeset.Tests.{both}
use Rattle.message.specs.cable.declared.Cable.{Cable}
use Rattle.message.proofs.cable.Ranges.{ring-size, node-number}
use Rattle.message.specs.Answers.{Reading}
use Rattle.node_record.specs.declared.Node.{Node}
use Rattle.node_record.specs.declared.State.{State}
use Rattle.node_record.specs.declared.State.TheVariants.{Member, Listening, Following, Knocking, Out}
use Rattle.node_record.specs.States.{is_out, is_listening}
use Rattle.node_record.specs.Soundness.{sound}
use Rattle.node_record.proofs.Facts.{clauses}
use Rattle.node_steps.specs.Steps.{is_heard}
use Rattle.node_steps.specs.Inner.{slot_by_cases}
use Rattle.node_steps.specs.Digests.{digest_of, tracking_by}
use Rattle.node_steps.proofs.Digests.{tracking-digest}
use Rattle.node_hearing.specs.Hearing.{listening_by}
use Rattle.node_slot.specs.Slot.{after_slot}
use Rattle.node_slot.specs.Inner.{heard_from, read_in, after_by}
use Rattle.node_slot.proofs.Read.{from-other, after_read}

-- ---- what a sound record gives

pub sound-own : (v : Node) → sound v ≡ true → (1 ≤ v.own) × (v.own ≤ 32)
sound-own v e =
    let c = clauses v e in
    let own = node-number v.cable.n v.own c.own in
    (own.0, omega (arith, own.1, ring-size v.cable.n c.choices.ring))

pub sound-marks : (v : Node) → sound v ≡ true → v.present < 2 ^ 32
sound-marks v e =
    let c = clauses v e in
    let s = both (within v.cable.n v.set) (within v.cable.n v.present && subset v.present v.set) c.sets in
    let m = both (within v.cable.n v.present) (subset v.present v.set) s.1 in
    let marks : v.present < 2 ^ v.cable.n = ltb-true v.present (2 ^ v.cable.n) m.0 in
    let word : 2 ^ v.cable.n ≤ 2 ^ 32 = pow_mono {i = v.cable.n} {j = 32} (ring-size v.cable.n c.choices.ring).1 in
    omega arith

-- ---- the slot

-- where a node hears a message or nothing, what it hears is the message
pub heard-told : (own : Bool) (heard told : Reading) → (is_heard told ≡ true → told ≡ heard)
    → is_heard (cond own (Err MessageLength) told) ≡ true → cond own (Err MessageLength) told ≡ heard
heard-told true heard told h e = absurd (true≢false (sym e))
heard-told false heard told h e = h e

by_state : (x : State) (s : ℕ) (r : Reading) (v t : Node) → t ≡ slot_by_cases v.cable.n s r v → cond (is_out x) v (cond (is_listening x) (listening_by s r v) t) ≡ read_in v.cable.n x s r v
by_state Member s r v t e = e
by_state Listening s r v t e = refl
by_state Following s r v t e = e
by_state Knocking s r v t e = e
by_state (Out cause) s r v t e = refl

pub after-digest : (s : ℕ) (heard told : Reading) (cable : Cable) (set : ℕ) (v : Node) → (is_heard told ≡ true → told ≡ heard) → v.cable ≡ cable → (1 ≤ v.own) × (v.own ≤ 32) → v.present < 2 ^ 32
    → after_by (digest_of s heard cable set) s told v ≡ after_slot s told v
unfolding after_by
after-digest s heard told cable set v h a o p =
    ap (λ (c : Cable). after_by (digest_of s heard c set) s told v) (sym a)
    ∙ by_state v.state s (heard_from s told v) v (tracking_by (digest_of s heard v.cable set) s (heard_from s told v) v)
    (tracking-digest s heard (heard_from s told v) set v (heard-told (eqb s v.own) heard told h) (from-other s told v) o.0 o.1 p)
    ∙ sym (after_read s told v)
