-- `plan_line::part_end` meets its contract. The loop's invariant: the first such byte after `from` is the first after `i`. Assumes nothing.
use Prim.Native.Nat.{◌+◌}
use mathlib.Core.Path.{◌≡◌}
use lib.ListN.{drop}
use Rattle.plan_line.specs.Words.{gap}
use Rattle.plan_line.proofs.part_end.Given as goal

abbrev pub invariant-loop-i : goal.invariant-loop-i
invariant-loop-i l = l.i + gap l.mark (drop l.i l.text) ≡ l.from + gap l.mark (drop l.from l.text)
