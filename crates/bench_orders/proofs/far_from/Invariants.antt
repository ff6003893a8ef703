-- `bench_orders::far_from` meets its contract. The invariant: it is the greatest distance from the sets passed. Assumes nothing.
use mathlib.Core.Path.{◌≡◌}
use Rattle.bench_orders.specs.Survey.{far_from}
use Rattle.bench_orders.proofs.far_from.Given as goal

abbrev pub invariant-loop-other : goal.invariant-loop-other
invariant-loop-other l = l.far ≡ far_from l.n l.set l.fn.m.sets l.other-index
