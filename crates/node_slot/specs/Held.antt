-- Inner: the slot of a held record, as the code works it out. The law in proofs/Holding ties it to specs/Inner; it need not be believed.
use Rattle.std.specs.Prelude.{ℕ, cond}
use Rattle.message.specs.Answers.{Reading}
use Rattle.node_record.specs.declared.Held.{Held}
use Rattle.node_record.specs.States.{is_out, is_listening}
use Rattle.node_record.specs.Held.{setted}
use Rattle.node_steps.specs.declared.Digest.{Digest}
use Rattle.node_steps.specs.Held.{tracking_by}
use Rattle.node_hearing.specs.Held.{listening_by}
use Rattle.node_slot.specs.Inner.{heard_from}

unfoldable pub after_by : Digest → ℕ → Reading → Held → Held
after_by d s heard v =
    cond (is_out v.state) v
    (cond (is_listening v.state) (listening_by s (heard_from s heard (setted v)) v) (tracking_by d s (heard_from s heard (setted v)) v))
