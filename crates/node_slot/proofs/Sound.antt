-- One slot (specs/Slot) keeps a record sound. Assumes nothing.
use Prim.Native.Nat.{ℕ, ◌≤◌}
use mathlib.Core.Path.{◌≡◌, refl, ap, ◌∙◌}
use mathlib.Core.Bool.{true}
use Rattle.message.specs.Answers.{Reading}
use Rattle.node_record.specs.declared.Node.{Node}
use Rattle.node_record.specs.declared.State.{State}
use Rattle.node_record.specs.declared.State.TheVariants.{Member, Listening, Following, Knocking, Out}
use Rattle.node_record.specs.States.{is_listening}
use Rattle.node_record.specs.Soundness.{sound}
use Rattle.node_record.proofs.Tracking.{tracks, sound-tracking}
use Rattle.node_steps.specs.Inner.{slot_by_cases}
use Rattle.node_steps.proofs.Sound.{slot-sound}
use Rattle.node_hearing.proofs.Sound.{listening-slot-sound}
use Rattle.node_slot.specs.Slot.{after_slot}
use Rattle.node_slot.specs.Inner.{heard_from, read_in}
use Rattle.node_slot.proofs.Read.{from-other, after_read}

pub after-slot-sound : (s : ℕ) (heard : Reading) (v : Node) → 1 ≤ s → s ≤ v.cable.n → sound v ≡ true → sound (after_slot s heard v) ≡ true
after-slot-sound s heard v a b e = ap sound (after_read s heard v) ∙ go v.state refl
  where
    told : Reading
    told = heard_from s heard v

    track : tracks v.state ≡ true → sound (slot_by_cases v.cable.n s told v) ≡ true
    track t = slot-sound v.cable.n s told v b (sound-tracking v e t)

    go : (t : State) → v.state ≡ t → sound (read_in v.cable.n t s told v) ≡ true
    go Member q = track (ap tracks q)
    go Listening q = listening-slot-sound s told v a b (from-other s heard v) e (ap is_listening q)
    go Following q = track (ap tracks q)
    go Knocking q = track (ap tracks q)
    go (Out cause) q = e
