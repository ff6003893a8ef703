-- The members before the sender of a slot, by the slots in which they spoke. Assumes nothing.
use Prim.Native.Nat.{ℕ, suc, ◌+◌, ◌-◌, ◌≤◌, ◌<◌}
use mathlib.Core.Path.{◌≡◌, sym, ap, ◌∙◌}
use mathlib.Core.Bool.{true}
use native.Mathlib.Omega.{arith}
use Rattle.bench.specs.nodeset.Sums.{sum}
use Rattle.bench.specs.nodeset.Sets.{has, size}
use Rattle.bench.proofs.nodeset.Sums.{num-le}
use Rattle.bench.specs.cable.declared.Cable.{Cable}
use Rattle.bench.specs.ring.Ring.{turn, sender, walk, member_before}
use Rattle.bench.proofs.ring_laws.Senders.{Turns, sender-place, size-round}
use Rattle.bench.proofs.ring_laws.Walks as walks
use Rattle.bench.proofs.ring_laws.Walks.{Met, walk_meets, before-is, others}
use Rattle.bench.specs.ring.Ring.{found}

module _ (cable : Cable) (turns : Turns cable) where
  open cable use {n, order}

  n_pos : 1 ≤ n
  n_pos = turns.some

  pub size-from : (L a : ℕ) → 1 ≤ a → sum (walks.member cable turns L) a n ≡ size n L
  size-from L a h = let z : suc (a - 1) ≡ a = omega arith in rw z at (size-round cable turns L (a - 1))

  -- The j-th member before the sender of slot N + 1: it spoke in slot u, and with it j members have spoken since.
  pub record Before (N L j : ℕ) : Type 0 where
    pub u : ℕ
    pub e : ℕ
    pub ago : u + e ≡ N
    pub recent : suc e < n
    pub listed : has L (sender cable u) ≡ true
    pub count : sum (walks.member cable turns L) u (suc e) ≡ j
    pub it : member_before cable L (sender cable (suc N)) j ≡ found (sender cable u) (suc e)

  pub before : (N L j : ℕ) → n ≤ N → 1 ≤ j → j < size n L → Before N L j
  before N L j hn hj hs = go (walk_meets cable turns L (n - 1) a j (omega arith) hj (omega (arith, others cable turns L a (omega arith), num-le (has L (sender cable (a + (n - 1)))))))
    where
      a : ℕ
      a = suc (suc N - n)

      z : a + (n - 1) ≡ suc N
      z = omega (arith, n_pos)

      go : Met cable turns L (n - 1) a j → Before N L j
      go m =
          let y : suc (m.e - 1) ≡ m.e = omega (arith, m.back) in
          let back : n - suc (m.u - a) ≡ suc (m.e - 1) = omega (arith, m.from, m.upto, m.back, n_pos) in
          record {
            u = m.u;
            e = m.e - 1;
            ago = omega (arith, m.upto, m.back, z);
            recent = omega (arith, m.from, m.upto, m.back, z);
            listed = m.listed;
            count = ap (sum (walks.member cable turns L) m.u) y ∙ m.count;
            it =
                before-is cable turns L (sender cable (suc N)) j
                ∙ ap (λ (p : ℕ). walk (n - 1) cable L p j) (sender-place cable turns (suc N) ∙ ap (turn n) (sym z))
                ∙ m.found
                ∙ ap (found (sender cable m.u)) back;
          }
