-- `message::put_section` meets its contract. The loop's invariant: the bytes before `i`, and then the bytes of what is left of the bits, are
-- the section. Assumes nothing.
use Prim.Native.Nat.{◌-◌}
use mathlib.Core.Path.{◌≡◌}
use mathlib.Core.List.{◌++◌}
use lib.ListN.{length, take}
use Rattle.message.specs.Message.{bytes_of, section_of}
use Rattle.message.proofs.put_section.Given as goal

abbrev pub invariant-loop-i : goal.invariant-loop-i
invariant-loop-i l =
    take l.i l.part ++ bytes_of (length l.part - l.i) l.rest ≡ section_of l.count (length l.initial.part - 1) l.bits
