-- `node_steps::said_of` meets its contract. The invariant: what is said so far is what the first of those that are sponsored are told, as many as the turns so far.
-- Assumes nothing.
use mathlib.Core.Path.{◌≡◌}
use mathlib.Core.Bool.{true, false}
use Rattle.nodeset.specs.Sets.{with}
use Rattle.node_steps.specs.Held.{answered}
use Rattle.node_steps.proofs.said_of.Given as goal

abbrev pub invariant-loop-earlier : goal.invariant-loop-earlier
invariant-loop-earlier l = record {
  so_far : l.«yes» ≡ answered true (with 0 l.s) l.earlier l.s l.bits l.cable l.row;
  others : l.«no» ≡ answered false 0 l.earlier l.s l.bits l.cable l.row;
}
