-- The slot of specs/Slot by what is heard of it, where of the own slot nothing is (specs/Inner). Assumes nothing.
use Rattle.std.specs.Prelude.{Err, Ok}
use Prim.Native.Nat.{ℕ}
use mathlib.Core.Path.{◌≡◌, refl, sym, ap, ◌∙◌}
use mathlib.Core.Logic.{◌≢◌}
use lib.Dec.{eqb}
use borrow.Author.Tests.{eqb-false}
use Rattle.node_record.proofs.nodeset.Tests.{by_cases, otherwise}
use Rattle.message.specs.Answers.{Reading}
use Rattle.message.proofs.From.{FromOther}
use Rattle.node_record.specs.declared.Node.{Node}
use Rattle.node_record.specs.declared.State.{State}
use Rattle.node_record.specs.declared.State.TheVariants.{Member, Listening, Following, Knocking, Out}
use Rattle.node_steps.specs.Steps.{slot_with, tracking_slot}
use Rattle.node_steps.specs.Inner.{slot_by_cases}
use Rattle.node_steps.proofs.Cases.{slot-by-cases, slot-ignores}
use Rattle.node_hearing.specs.Hearing.{listening_slot, listening_by}
use Rattle.node_hearing.proofs.Own.{listening-is, listening-ignores}
use Rattle.node_slot.specs.Slot.{slot_in, after_slot}
use Rattle.node_slot.specs.Inner.{heard_from, read_in}

pub from-other : (s : ℕ) (heard : Reading) (v : Node) → FromOther s (heard_from s heard v) v.own
from-other s heard v = by_cases (eqb s v.own) (λ e. rw e tt) (λ e. rw e (go heard (eqb-false s v.own e)))
  where
    go : (heard : Reading) → s ≢ v.own → FromOther s heard v.own
    go (Ok h) d = d
    go (Err r) d = tt

-- a message handed over in the own slot is ignored
pub slot_read : (times s : ℕ) (heard : Reading) (v : Node) → slot_with times s heard v ≡ slot_by_cases times s (heard_from s heard v) v
slot_read times s heard v =
    by_cases (eqb s v.own)
    (λ e. slot-ignores times s heard (heard_from s heard v) v e)
    (λ e. ap (λ (r : Reading). slot_with times s r v) (sym (otherwise _ heard e)))
    ∙ slot-by-cases times s (heard_from s heard v) v (from-other s heard v)

tracking-read : (s : ℕ) (heard : Reading) (v : Node) → tracking_slot s heard v ≡ slot_by_cases v.cable.n s (heard_from s heard v) v
unfolding tracking_slot
tracking-read s heard v = slot_read v.cable.n s heard v

pub listening-read : (s : ℕ) (heard : Reading) (v : Node) → listening_slot s heard v ≡ listening_by s (heard_from s heard v) v
listening-read s heard v =
    by_cases (eqb s v.own)
    (λ e. listening-ignores s heard (heard_from s heard v) v e)
    (λ e. ap (λ (r : Reading). listening_slot s r v) (sym (otherwise _ heard e)))
    ∙ listening-is s (heard_from s heard v) v (from-other s heard v)

pub after_read : (s : ℕ) (heard : Reading) (v : Node) → after_slot s heard v ≡ read_in v.cable.n v.state s (heard_from s heard v) v
unfolding after_slot
after_read s heard v = go v.state
  where
    go : (x : State) → slot_in x s heard v ≡ read_in v.cable.n x s (heard_from s heard v) v
    go Member = tracking-read s heard v
    go Listening = listening-read s heard v
    go Following = tracking-read s heard v
    go Knocking = tracking-read s heard v
    go (Out cause) = refl
