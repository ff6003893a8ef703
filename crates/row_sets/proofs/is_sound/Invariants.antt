-- `row_sets::is_sound` meets its contract. The invariant: what is left of the row is a part of what is left of the table exactly if the row is a part of the table.
-- Assumes nothing.
use Prim.Native.Nat.{◌≤◌}
use mathlib.Core.Path.{◌≡◌}
use lib.ListN as list
use Rattle.row.specs.Rows.{is_part}
use Rattle.row.proofs.Walked.{left}
use Rattle.row_sets.proofs.is_sound.Given as goal

abbrev pub invariant-loop-m : goal.invariant-loop-m
invariant-loop-m l = record {
  in_table : l.p ≤ l.m-index;
  in_row : l.p ≤ l.count;
  part : is_part (left l.p l.count l.row.nodes) (left l.m-index l.most l.fn.order) ≡ is_part (list.take l.count l.row.nodes) (list.take l.most l.fn.order);
}
