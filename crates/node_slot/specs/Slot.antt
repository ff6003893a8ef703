-- One slot, for a sound record in any state: s is the slot's sender.
use Rattle.std.specs.Prelude.{ℕ}
use Rattle.message.specs.Answers.{Reading}
use Rattle.node_record.specs.declared.Node.{Node}
use Rattle.node_record.specs.declared.State.{State}
use Rattle.node_record.specs.declared.State.TheVariants.{Member, Listening, Following, Knocking, Out}
use Rattle.node_steps.specs.Steps.{tracking_slot}
use Rattle.node_hearing.specs.Hearing.{listening_slot}

-- The rules of each state, where `tracking` is the rule of a member, following or knocking node; "an out node only counts slots".
abbrev pub slot_by : (ℕ → Reading → Node → Node) → State → ℕ → Reading → Node → Node
slot_by tracking Member s heard v = tracking s heard v
slot_by tracking Listening s heard v = listening_slot s heard v
slot_by tracking Following s heard v = tracking s heard v
slot_by tracking Knocking s heard v = tracking s heard v
slot_by tracking (Out cause) s heard v = v

abbrev pub slot_in : State → ℕ → Reading → Node → Node
slot_in state s heard v = slot_by tracking_slot state s heard v

-- The record after the slot; its slot count is the slot's number already.
unfoldable pub after_slot : ℕ → Reading → Node → Node
after_slot s heard v = slot_in v.state s heard v
