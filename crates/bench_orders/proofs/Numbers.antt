-- Small laws of the index of a node, and of the room for pairs. Assumes nothing.
use Prim.Native.Nat.{ℕ, ◌-◌, ◌*◌, ◌≤◌, ◌<◌}
use mathlib.Core.Path.{◌≡◌, refl}
use mathlib.Core.Bool.{Bool, true, false, cond, ◌&&◌}
use native.Mathlib.Omega.{arith}
use lib.Dec.{leb}
use borrow.Author.Tests.{leb-true, le-leb}
use Rattle.nodeset.proofs.Tests.{both}
use Rattle.bench_orders.specs.Survey.{index_of}
use Rattle.bench_orders.specs.Orders.{bytes_told}

pub index_in : (x size : ℕ) → 1 ≤ x → x ≤ size → index_of x size ≡ x - 1
index_in x size low high = simp (le-leb 1 x low, le-leb x size high)

-- where there is a record, it is that of one
pub index-within : (x size : ℕ) → 1 ≤ size → index_of x size < size
index-within x size some = go (leb 1 x && leb x size) refl
  where
    go : (b : Bool) → (leb 1 x && leb x size) ≡ b → cond b (x - 1) 0 < size
    go true e =
        let h = both (leb 1 x) (leb x size) e in
        let low = leb-true 1 x h.0 in
        let high = leb-true x size h.1 in
        omega (arith, low, high)
    go false e = omega (arith, some)

-- the bytes of pairs fit
pub told-fits : (count room : ℕ) → (bytes_told count room ≤ 64) × (bytes_told count room ≤ room)
told-fits count room = go (leb count 32 && leb 64 room) refl
  where
    go : (b : Bool) → (leb count 32 && leb 64 room) ≡ b → (cond b (count * 2) 0 ≤ 64) × (cond b (count * 2) 0 ≤ room)
    go true e =
        let h = both (leb count 32) (leb 64 room) e in
        let few = leb-true count 32 h.0 in
        let much = leb-true 64 room h.1 in
        (omega (arith, few), omega (arith, few, much))
    go false e = (omega arith, omega arith)
