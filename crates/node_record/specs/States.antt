-- Document 01, "The node record": "States: member, listening, following, knocking, out." A test for each, and the numbers of the causes.
use Rattle.std.specs.Prelude.{ℕ, Bool, true, false, cond, eqb}
use Rattle.node_record.specs.declared.Cause.{Cause}
use Rattle.node_record.specs.declared.Cause.TheVariants.{Unconfirmed, NothingHeard, MissedReturn, SwitchedOff}
use Rattle.node_record.specs.declared.State.{State}
use Rattle.node_record.specs.declared.State.TheVariants.{Member, Listening, Following, Knocking, Out}

abbrev pub is_member : State → Bool
is_member Member = true
is_member Listening = false
is_member Following = false
is_member Knocking = false
is_member (Out cause) = false

abbrev pub is_listening : State → Bool
is_listening Member = false
is_listening Listening = true
is_listening Following = false
is_listening Knocking = false
is_listening (Out cause) = false

abbrev pub is_following : State → Bool
is_following Member = false
is_following Listening = false
is_following Following = true
is_following Knocking = false
is_following (Out cause) = false

abbrev pub is_knocking : State → Bool
is_knocking Member = false
is_knocking Listening = false
is_knocking Following = false
is_knocking Knocking = true
is_knocking (Out cause) = false

abbrev pub is_out : State → Bool
is_out Member = false
is_out Listening = false
is_out Following = false
is_out Knocking = false
is_out (Out cause) = true

-- "The out state carries its cause: 1 own message unconfirmed, 2 nothing heard, 3 missed a return, 4 switched off."
abbrev pub cause_number : Cause → ℕ
cause_number Unconfirmed = 1
cause_number NothingHeard = 2
cause_number MissedReturn = 3
cause_number SwitchedOff = 4

-- The cause of leaving with this number. (proofs/Causes: its number is this one. No definition asks for another.)
abbrev pub leaving_cause : ℕ → Cause
leaving_cause number = cond (eqb number 1) Unconfirmed (cond (eqb number 2) NothingHeard (cond (eqb number 3) MissedReturn SwitchedOff))
