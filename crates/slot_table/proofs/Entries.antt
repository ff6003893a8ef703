-- The node at a place (specs/Order), as an entry of the list. Assumes nothing.
use Prim.Native.Nat.{ℕ, zero, suc, ◌-◌, ◌≤◌}
use mathlib.Core.Path.{◌≡◌, refl, ap, ◌∙◌}
use mathlib.Core.List.{List, [], ◌∷◌}
use native.Mathlib.Omega.{arith}
use lib.ListN.{get_or, length}
use Rattle.slot_table.specs.Order.{node_at}

pub node-entry : (order : List ℕ) (p : ℕ) → 1 ≤ p → node_at order p ≡ get_or order (p - 1) 0
unfolding node_at
node-entry order zero h = absurd (elim h [ ])
node-entry order (suc p) h = let z : p ≡ suc p - 1 = omega arith in ap (λ (i : ℕ). get_or order i 0) z

-- past the end there is none
pub past_end : (order : List ℕ) (i : ℕ) → length order ≤ i → get_or order i 0 ≡ 0
past_end [] i h = refl
past_end (x ∷ order) zero h = let z : ⊥ = omega arith in absurd z
past_end (x ∷ order) (suc i) h = past_end order i (omega arith)

pub no_node : (order : List ℕ) (p : ℕ) → 1 ≤ p → length order ≤ p - 1 → node_at order p ≡ 0
no_node order p h l = node-entry order p h ∙ past_end order (p - 1) l
