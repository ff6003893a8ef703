-- `converter_text::take_bytes` meets its contract. The loop's invariant: the bytes so far are taken and what is printed of them put, 80 bytes for each at the
-- most. Assumes nothing.
use Rattle.plan_text.proofs.Pieces.{Taken}
use Rattle.converter_text.specs.Calls.{after_byte, byte_text}
use Rattle.converter_text.proofs.take_bytes.Given as goal

abbrev pub invariant-loop-byte : goal.invariant-loop-byte
invariant-loop-byte l = Taken after_byte byte_text 80 l.initial.r l.input l.byte-index l.r l.at l.initial.out l.out
