-- Where i records are done the table is `partly` made anew, and what is noticed is the fold over them (proofs/Partly.antt).
use Rattle.std.proofs.Common.{◌≡◌, take}
use Rattle.bench_orders.specs.Orders.{carried, notes_of}
use Rattle.bench_walks.proofs.Partly.{partly}
use Rattle.bench_walks.proofs.carry_out.Given as goal

abbrev pub invariant-loop-i : goal.invariant-loop-i
invariant-loop-i l = record {
  made : l.table ≡ partly (carried l.errand) l.i l.initial.table;
  noted : l.notes ≡ notes_of l.errand (take l.i l.initial.table);
}
