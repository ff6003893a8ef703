-- `row::put_in` meets its contract. The invariant: with the number that moves put in at index i, the places are those with m put in at index p. Assumes nothing.
use mathlib.Core.Path.{◌≡◌}
use mathlib.Core.List.{◌∷◌, ◌++◌}
use lib.ListN as list
use Rattle.row.proofs.put_in.Given as goal

abbrev pub invariant-loop-i : goal.invariant-loop-i
invariant-loop-i l = (list.length l.out ≡ 32) × (list.take l.i l.out ++ l.moved ∷ list.drop l.i l.out ≡ list.take l.p l.initial.out ++ l.m ∷ list.drop l.p l.initial.out)
