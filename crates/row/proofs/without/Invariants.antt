-- `row::without` meets its contract. The invariant: the row so far holds those of the places so far that stay. Assumes nothing.
use mathlib.Core.Path.{◌≡◌}
use lib.ListN as list
use Rattle.row.specs.Rows.{keep, row_for}
use Rattle.row.specs.Inner.{stays, row_at}
use Rattle.row.proofs.without.Given as goal

abbrev pub invariant-loop-m : goal.invariant-loop-m
invariant-loop-m l = row_at l.at l.rest ≡ row_for (keep (stays l.x) (list.take l.m-index l.fn.row.nodes))
