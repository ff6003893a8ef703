-- `converter_text::put_message` meets its contract. The loop's invariant: the text of the bytes so far is put. Assumes nothing.
use Prim.Native.Nat.{◌+◌, ◌*◌}
use mathlib.Core.Path.{◌≡◌}
use lib.ListN.{take}
use Rattle.plan_text.specs.Text.{PutAt}
use Rattle.converter_text.specs.Recorded.{message_text}
use Rattle.converter_text.proofs.put_message.Given as goal

abbrev pub invariant-loop-byte : goal.invariant-loop-byte
invariant-loop-byte l = (l.end ≡ l.at + 3 * l.byte-index) × PutAt l.end l.at (message_text (take l.byte-index l.bytes)) l.initial.out l.out
