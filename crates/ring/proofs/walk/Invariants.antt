-- `ring::walk` meets its contract. The invariant: from where the walk stands it reaches the place that it reaches from its start. Assumes nothing.
use mathlib.Core.Path.{◌≡◌}
use Rattle.ring.specs.Places.{reach}
use Rattle.ring.proofs.walk.Given as goal

abbrev pub invariant-loop-left : goal.invariant-loop-left
invariant-loop-left l = reach l.left l.cable l.set l.place l.more ≡ reach l.left-2 l.cable l.set l.p l.j

abbrev pub decreases-loop-left : goal.decreases-loop-left
decreases-loop-left l = l.left
