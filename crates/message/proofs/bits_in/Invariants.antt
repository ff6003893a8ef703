-- `message::bits_in` meets its contract. The loop's invariant: `bits` is what the bytes from `i` on hold; it is below 2 ^ 24 before a turn, since at
-- most 3 bytes have been read. Assumes nothing.
use Prim.Native.Nat.{◌≤◌}
use mathlib.Core.Path.{◌≡◌}
use lib.ListN.{drop}
use Rattle.message.specs.Message.{little}
use Rattle.message.proofs.bits_in.Given as goal

abbrev pub invariant-loop-i : goal.invariant-loop-i
invariant-loop-i l = (1 ≤ l.i) × (l.bits ≡ little (drop l.i l.part))
