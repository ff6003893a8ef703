-- `row::rank` meets its contract. The invariant: what is left of the search for x is the whole, and p places of the row are passed. Assumes nothing.
use Prim.Native.Nat.{suc, ◌-◌}
use mathlib.Core.Path.{◌≡◌}
use Rattle.ring.specs.slot_table.Order.{place_from, place}
use Rattle.row.specs.Inner.{passed}
use Rattle.row.proofs.rank.Given as goal

abbrev pub invariant-loop-m : goal.invariant-loop-m
invariant-loop-m l = (l.p ≡ passed l.m-index l.fn.order l.row.nodes) × (place l.fn.order l.x ≡ place_from (32 - l.m-index) l.fn.order l.x (suc l.m-index))
