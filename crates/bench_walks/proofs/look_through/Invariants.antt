-- What is gathered so far is the fold over the records done.
use Rattle.std.proofs.Common.{◌≡◌, take}
use Rattle.bench_orders.specs.Survey.{members_of}
use Rattle.bench_walks.proofs.look_through.Given as goal

abbrev pub invariant-loop-i : goal.invariant-loop-i
invariant-loop-i l = l.m ≡ members_of (take l.i l.v-items)
