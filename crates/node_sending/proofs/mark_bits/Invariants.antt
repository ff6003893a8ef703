-- `node_sending::mark_bits` meets its contract. The invariant: so many bits so far are the first ones. Where somebody is sponsored the lag is below the number of members. Assumes nothing.
use mathlib.Core.Path.{◌≡◌}
use Rattle.node_sending.specs.Held.{mark_bits}
use Rattle.node_sending.proofs.mark_bits.Given as goal

abbrev pub invariant-loop-earlier : goal.invariant-loop-earlier
invariant-loop-earlier l = l.bits ≡ mark_bits l.earlier l.v
