-- `ring::sender` meets its contract: slot done + 1 is the one whose number less 1 is `done`. Assumes nothing.
use Rattle.std.specs.Prelude.{Ok}
use Prim.Native.Nat.{ℕ, ◌+◌, ◌-◌, ◌%◌}
use mathlib.Core.Path.{◌≡◌, sym, ap, ◌∙◌}
use mathlib.Core.Bool.{true}
use native.Mathlib.Omega.{arith}
use Rattle.nodeset.proofs.Tests.{chosen}
use Rattle.slot_table.specs.Order.{node_at}
use Rattle.cable.specs.Cable.{ring_size}
use Rattle.ring.specs.Ring.{turn, sender}
use Rattle.ring.proofs.sender.Goals as goal

pub returns-then-is_ring_size : goal.returns-then-is_ring_size
unfolding sender turn
returns-then-is_ring_size c =
    let a = c.args in
    let z : a.done ≡ a.done + 1 - 1 = omega arith in
    let good : ring_size a.cable.n ≡ true = sym c.is_ring_size.ensures ∙ c.if-is_ring_size.true in
    ap Ok (c.node_at.ensures ∙ ap (λ (s : ℕ). node_at a.cable.order (s % a.cable.n + 1)) z) ∙ sym (chosen _ _ good)
