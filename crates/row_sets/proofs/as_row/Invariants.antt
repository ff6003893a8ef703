-- `row_sets::as_row` meets its contract. The invariant: the row so far holds those of the places passed that are kept. Assumes nothing.
use mathlib.Core.Path.{◌≡◌}
use lib.ListN as list
use Rattle.nodeset.specs.Sets.{has}
use Rattle.row.specs.Rows.{keep, row_for}
use Rattle.row.specs.Inner.{row_at}
use Rattle.row_sets.proofs.as_row.Given as goal

abbrev pub invariant-loop-m : goal.invariant-loop-m
invariant-loop-m l = row_at l.at l.out ≡ row_for (keep (has l.s) (list.take l.m-index l.fn.order))
