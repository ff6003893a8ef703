-- `cover_light::fill` meets its contract. The invariant: the first i levels are written, and the bytes after them are as they were. Assumes nothing.
use mathlib.Core.Path.{◌≡◌}
use mathlib.Core.List.{◌++◌, map}
use lib.ListN.{take, drop}
use Rattle.cable.specs.slot_table.Order.{numbers_from}
use Rattle.cover_light.specs.Light.{given_by}
use Rattle.cover_light.proofs.fill.Given as goal

abbrev pub invariant-loop-i : goal.invariant-loop-i
invariant-loop-i l = l.out ≡ take l.i (map (given_by l.member l.list l.bases) (numbers_from l.n 1)) ++ drop l.i l.initial.out
