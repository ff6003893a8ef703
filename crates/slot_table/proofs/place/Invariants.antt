-- `slot_table::place` meets its contract. The invariant: what is left of the search is the whole. Assumes nothing.
use Prim.Native.Nat.{◌-◌}
use mathlib.Core.Path.{◌≡◌}
use Rattle.slot_table.specs.Order.{place_from, place}
use Rattle.slot_table.proofs.place.Given as goal

abbrev pub invariant-loop-p : goal.invariant-loop-p
invariant-loop-p l = place l.order l.x ≡ place_from (33 - l.p) l.order l.x l.p
