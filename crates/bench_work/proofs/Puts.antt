-- What the first so many bytes stored leave of a buffer that has room for them: those, and then what stood there. Assumes nothing.
use Rattle.std.proofs.Common.{◌≡◌, ℕ, zero, suc, ◌≤◌, List, ◌++◌, length, get_or, set, take, drop, refl, ap, ◌∙◌, arith}
use Rattle.std.proofs.Math.Nat.{zero-add}
use Rattle.std.proofs.Math.Seq.{paste-suc}
use Rattle.bench_orders.specs.Orders.{puts}

pub all-put : (b out : List ℕ) (j : ℕ) → j ≤ length b → j ≤ length out → puts b j out ≡ take j b ++ drop j out
unfolding puts
all-put b out zero h k = refl
all-put b out (suc j) h k =
    ap (λ (l : List ℕ). set l j (get_or b j 0)) (all-put b out j (omega arith) (omega arith))
    ∙ simp zero-add at (paste-suc out 0 b j 0 (omega arith) (omega arith))
