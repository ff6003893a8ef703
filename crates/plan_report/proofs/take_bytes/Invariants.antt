-- `plan_report::take_bytes` meets its contract. The loop's invariant: the bytes so far are taken and what is printed of them put, 110 bytes for each at the
-- most, and the plan can go on. Assumes nothing.
use mathlib.Core.Path.{◌≡◌}
use mathlib.Core.Bool.{true}
use Rattle.plan_text.proofs.Pieces.{Taken}
use Rattle.plan_program.specs.Calls.{plan_sound}
use Rattle.plan_report.specs.Calls.{after_byte, byte_text}
use Rattle.plan_report.proofs.take_bytes.Given as goal

abbrev pub invariant-loop-byte : goal.invariant-loop-byte
invariant-loop-byte l =
    record {
      taken : Taken after_byte byte_text 110 l.initial.taken.report l.input l.byte-index l.taken.report l.taken.at l.initial.out l.out;
      sound : plan_sound l.taken.report.tally.plan ≡ true;
    }
