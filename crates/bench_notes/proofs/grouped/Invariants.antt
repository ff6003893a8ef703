-- `bench_notes::grouped` meets its contract. The invariant: after i turns the pairs of the group among the first i are added. Assumes nothing.
use mathlib.Core.Path.{◌≡◌}
use Rattle.bench_notes.specs.Notes.{grouped_to}
use Rattle.bench_notes.proofs.grouped.Given as goal

abbrev pub invariant-loop-i : goal.invariant-loop-i
invariant-loop-i l = l.q ≡ grouped_to l.left l.all.bytes l.i l.initial.q
