-- `node_reports::add_reports` meets its contract. The invariant: the counts of the nodes passed are done, and those of the others are as they were. Assumes nothing.
use Prim.Native.Nat.{suc}
use mathlib.Core.Path.{◌≡◌}
use mathlib.Core.List.{◌++◌}
use lib.ListN.{take, drop}
use Rattle.node_reports.specs.Reports.{heard_from}
use Rattle.node_reports.proofs.add_reports.Given as goal

abbrev pub invariant-loop-i : goal.invariant-loop-i
invariant-loop-i l = take l.i l.all ++ heard_from (suc l.i) l.hearers l.sender l.jobs (drop l.i l.all) ≡ heard_from 1 l.hearers l.sender l.jobs l.initial.all
