-- `message_c::message_write_two` meets its contract. Assumes nothing.
use Prim.Native.Nat.{ℕ}
use mathlib.Core.Path.{sym, ap, subst, ◌∙◌}
use Rattle.message.specs.Message.{Outcome}
use Rattle.message_c.specs.Numbers.{Short, outcome_number}
use Rattle.message_c.proofs.Lengths.{write-two-short}
use Rattle.message_c.proofs.message_write_two.Goals as goal

pub written_number-requires : goal.written_number-requires
written_number-requires c =
    let a = c.args in
    subst (λ (o : Outcome). Short o.0) (sym c.write_two-written.ensures) (write-two-short a.k a.acknowledgements a.return_bit a.out.now)

pub returns : goal.returns
returns c =
    ap (λ (x : ℕ). (x, c.write_two-written.new.out)) c.written_number.ensures ∙ ap outcome_number c.write_two-written.ensures
