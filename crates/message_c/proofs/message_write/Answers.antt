-- `message_c::message_write` meets its contract. Assumes nothing.
use Prim.Native.Nat.{ℕ}
use mathlib.Core.Path.{sym, ap, subst, ◌∙◌}
use Rattle.message.specs.Message.{Outcome}
use Rattle.message_c.specs.Numbers.{Short, outcome_number}
use Rattle.message_c.proofs.Lengths.{write-short}
use Rattle.message_c.proofs.message_write.Goals as goal

pub written_number-requires : goal.written_number-requires
written_number-requires c =
    let a = c.args in
    subst (λ (o : Outcome). Short o.0) (sym c.write-written.ensures) (write-short a.k a.m a.acknowledgements a.return_bit a.jobs a.out.now)

pub returns : goal.returns
returns c =
    ap (λ (x : ℕ). (x, c.write-written.new.out)) c.written_number.ensures ∙ ap outcome_number c.write-written.ensures
