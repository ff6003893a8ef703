-- `plan_program::put` meets its contract. Assumes nothing.
use native.Mathlib.Omega.{arith}
use Prim.Native.Nat.{ℕ}
use mathlib.Core.Path.{ap, ◌∙◌}
use Rattle.bench.specs.declared.Outcome.TheVariants as outcome
use Rattle.plan_text.specs.Text.{refusal_text, written_of}
use Rattle.plan_text.proofs.Paste.{nothing}
use Rattle.plan_program.proofs.Lines.{put-at, text-short}
use Rattle.plan_program.proofs.put.Goals as goal

pub returns-in-Quiet : goal.returns-in-Quiet
returns-in-Quiet c = rw c.in-Quiet.is (nothing c.args.at c.args.out.now).put

pub returns-in-Slot : goal.returns-in-Slot
returns-in-Slot c =
    let w = c.in-Slot in
    rw w.is (put-at c.requires (omega arith) (text-short 0 (outcome.Slot w.slot w.sender w.fate w.shown w.distance)) c.slot_line.ensures c.end_of.ensures)

pub returns-in-Refused : goal.returns-in-Refused
returns-in-Refused c =
    let a = c.args in
    rw c.in-Refused.is (put-at c.requires (omega arith) (text-short a.number (outcome.Refused c.in-Refused.cause))
    (c.refusal_line.ensures ∙ ap (λ (n : ℕ). written_of (refusal_text a.number n) a.at a.out.now) c.number.ensures) c.end_of-in-Refused.ensures)
