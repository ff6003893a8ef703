-- `message_c::message_to_two` meets its contract. Assumes nothing.
use Prim.Native.Nat.{ℕ}
use mathlib.Core.Path.{sym, ap, subst, ◌∙◌}
use Rattle.message.specs.Message.{Outcome}
use Rattle.message_c.specs.Numbers.{Short, outcome_number}
use Rattle.message_c.proofs.Lengths.{two-short}
use Rattle.message_c.proofs.message_to_two.Goals as goal

pub written_number-requires : goal.written_number-requires
written_number-requires c =
    let a = c.args in
    subst (λ (o : Outcome). Short o.0) (sym c.to_two-written.ensures) (two-short a.k a.bytes.now a.out.now)

pub returns : goal.returns
returns c =
    ap (λ (x : ℕ). (x, c.to_two-written.new.out)) c.written_number.ensures ∙ ap outcome_number c.to_two-written.ensures
