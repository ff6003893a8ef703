-- What is surveyed so far is the fold over the records done.
use Rattle.std.proofs.Common.{◌≡◌, take}
use Rattle.bench_orders.specs.Survey.{survey_of}
use Rattle.bench_walks.proofs.look_over.Given as goal

abbrev pub invariant-loop-i : goal.invariant-loop-i
invariant-loop-i l = l.s ≡ survey_of (take l.i l.v-items)
