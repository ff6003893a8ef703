-- A slot of a held record by a digest makes what holds the record after the slot of document 01 (specs/Slot). Assumes nothing.
use Prim.Native.Nat.{ℕ, ◌≤◌, ◌<◌, ◌^◌}
use mathlib.Core.Path.{◌≡◌, refl, sym, ap, ◌∙◌}
use mathlib.Core.Bool.{true}
use Rattle.message.specs.cable.declared.Cable.{Cable}
use Rattle.node_record.specs.row.Rows.{as_row}
use Rattle.message.specs.Answers.{Reading}
use Rattle.node_record.specs.declared.Node.{Node}
use Rattle.node_record.specs.States.{is_out, is_listening}
use Rattle.node_record.specs.Held.{rowed}
use Rattle.node_steps.proofs.node_changes.Holding.{either_held}
use Rattle.node_steps.specs.Steps.{is_heard}
use Rattle.node_steps.specs.declared.Digest as row
use Rattle.node_steps.specs.Digests.{Digest, tracking_by}
use Rattle.node_steps.specs.Digests as sets
use Rattle.node_steps.specs.Held as held
use Rattle.node_steps.proofs.Holding.{digest_row, digest-row, Good, tracking-held}
use Rattle.node_hearing.specs.Hearing.{listening_by}
use Rattle.node_hearing.proofs.Holding.{listening-held}
use Rattle.node_slot.specs.Slot.{after_slot}
use Rattle.node_slot.specs.Inner.{heard_from, after_by}
use Rattle.node_slot.specs.Held as slot
use Rattle.node_slot.proofs.Digests.{after-digest}

by-held : (s : ℕ) (d : Digest) (heard : Reading) (v : Node) → Good s v → d.set < 2 ^ v.cable.n → v.set < 2 ^ v.cable.n
    → slot.after_by (digest_row v.cable.order d) s heard (rowed v) ≡ rowed (after_by d s heard v)
unfolding slot.after_by after_by
by-held s d heard v g small small' =
    either_held (is_out v.state) v _ refl
    (either_held (is_listening v.state) (listening_by s (heard_from s heard v) v) (tracking_by d s (heard_from s heard v) v) (listening-held s (heard_from s heard v) v) (tracking-held s d (heard_from s heard v) v g small small'))

digest-small : (s : ℕ) (heard : Reading) (cable : Cable) (set n : ℕ) → set < 2 ^ n → (sets.digest_of s heard cable set).set < 2 ^ n
unfolding sets.digest_of
digest-small s heard cable set n h = h

-- by the digest of the row of any set
pub after-held : (s : ℕ) (heard told : Reading) (cable : Cable) (set : ℕ) (v : Node) → (is_heard told ≡ true → told ≡ heard) → v.cable ≡ cable → (1 ≤ v.own) × (v.own ≤ 32) → v.present < 2 ^ 32
    → Good s v → set < 2 ^ v.cable.n → v.set < 2 ^ v.cable.n
    → slot.after_by (held.digest_of s heard cable (as_row cable.order set)) s told (rowed v) ≡ rowed (after_slot s told v)
after-held s heard told cable set v h on o p g small small' =
    ap (λ (c : Cable). slot.after_by (held.digest_of s heard c (as_row c.order set)) s told (rowed v)) (sym on)
    ∙ ap (λ (d : row.Digest). slot.after_by d s told (rowed v)) (digest-row v.cable g.kept s g.low g.high heard set)
    ∙ by-held s (sets.digest_of s heard v.cable set) told v g (digest-small s heard v.cable set v.cable.n small) small'
    ∙ ap rowed (after-digest s heard told v.cable set v h refl o p)
