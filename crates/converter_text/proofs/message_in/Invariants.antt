-- `converter_text::message_in` meets its contract. The loop's invariant: the text is a message if what is left of it is one, and its bytes are those that
-- are held and those that are left. Assumes nothing.
use Prim.Native.Nat.{◌*◌}
use mathlib.Core.Path.{◌≡◌}
use mathlib.Core.List.{◌++◌}
use lib.ListN.{length, take, drop}
use Rattle.converter_text.specs.Recorded.{bytes_of, is_message}
use Rattle.converter_text.proofs.message_in.Given as goal

abbrev pub invariant-loop-i : goal.invariant-loop-i
invariant-loop-i l =
    record {
      room : length l.bytes ≡ 40;
      same : is_message (drop (3 * l.i) l.text) ≡ is_message l.text;
      held : take l.i l.bytes ++ bytes_of (drop (3 * l.i) l.text) ≡ bytes_of l.text;
    }
