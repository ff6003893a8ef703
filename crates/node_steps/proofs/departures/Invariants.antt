-- `node_steps::departures` meets its contract. The invariant: the departures that are left end as all of them do. Assumes nothing.
use Prim.Native.Nat.{◌-◌}
use mathlib.Core.Path.{◌≡◌}
use Rattle.node_steps.specs.Held.{departures}
use Rattle.node_steps.proofs.departures.Given as goal

abbrev pub invariant-loop : goal.invariant-loop
invariant-loop l = departures (l.v.cable.n - l.counter) l.m l.s l.row l.v ≡ departures l.v.cable.n l.m-2 l.s l.v.row l.v
