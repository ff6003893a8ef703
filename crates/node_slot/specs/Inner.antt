-- Inner: the slot of specs/Slot as the code and the proofs take it. The laws are in proofs/Read and proofs/Digests.
use Rattle.std.specs.Prelude.{ℕ, cond, eqb, Err}
use Rattle.refusal.specs.declared.Refusal.TheVariants.{MessageLength}
use Rattle.message.specs.Answers.{Reading}
use Rattle.node_record.specs.declared.Node.{Node}
use Rattle.node_record.specs.declared.State.{State}
use Rattle.node_record.specs.declared.State.TheVariants.{Member, Listening, Following, Knocking, Out}
use Rattle.node_record.specs.States.{is_out, is_listening}
use Rattle.node_steps.specs.Inner.{slot_by_cases}
use Rattle.node_steps.specs.Digests.{Digest, tracking_by}
use Rattle.node_hearing.specs.Hearing.{listening_by}

-- What is heard of the own slot is a refused reading.
abbrev pub heard_from : ℕ → Reading → Node → Reading
heard_from s heard v = cond (eqb s v.own) (Err MessageLength) heard

-- The slot of a node in a state, by such a reading and with so many departure steps.
abbrev pub read_in : ℕ → State → ℕ → Reading → Node → Node
read_in times Member s heard v = slot_by_cases times s heard v
read_in times Listening s heard v = listening_by s heard v
read_in times Following s heard v = slot_by_cases times s heard v
read_in times Knocking s heard v = slot_by_cases times s heard v
read_in times (Out cause) s heard v = v

-- The slot by a digest.
unfoldable pub after_by : Digest → ℕ → Reading → Node → Node
after_by d s heard v =
    cond (is_out v.state) v
    (cond (is_listening v.state) (listening_by s (heard_from s heard v) v) (tracking_by d s (heard_from s heard v) v))
