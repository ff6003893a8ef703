-- `node_reports::row_with` meets its contract. The invariant: the counts passed are done, and the rest of the bits is for the rest of the row. Assumes nothing.
use mathlib.Core.Path.{◌≡◌}
use mathlib.Core.List.{◌++◌}
use lib.ListN.{take, drop}
use Rattle.node_reports.specs.Reports.{row_with}
use Rattle.node_reports.proofs.row_with.Given as goal

abbrev pub invariant-loop-count : goal.invariant-loop-count
invariant-loop-count l = take l.count-index l.count-items ++ row_with l.rest (drop l.count-index l.count-items) ≡ row_with l.jobs l.fn.row
