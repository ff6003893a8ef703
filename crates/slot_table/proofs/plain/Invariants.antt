-- `slot_table::plain` meets its contract. The invariant: the first i places are numbered, the others 0. Assumes nothing.
use Prim.Native.Nat.{◌-◌}
use mathlib.Core.Path.{◌≡◌}
use mathlib.Core.List.{◌++◌}
use lib.ListN.{replicate}
use Rattle.slot_table.specs.Order.{numbers_from}
use Rattle.slot_table.proofs.plain.Given as goal

abbrev pub invariant-loop-i : goal.invariant-loop-i
invariant-loop-i l = l.order ≡ numbers_from l.i 1 ++ replicate (32 - l.i) 0
