-- The leaving time: the slot of the (k + lag)-th member after a failed sender is the one in which k + lag listed slots have been since. Assumes nothing.
use Prim.Native.Nat.{ℕ, suc, ◌+◌, ◌-◌, ◌≤◌, ◌<◌}
use mathlib.Core.Path.{◌≡◌, sym, ap, ◌∙◌}
use mathlib.Core.Logic.{◌≢◌}
use native.Mathlib.Omega.{arith}
use native.Mathlib.Decide.{dec_lt}
use Rattle.bench.specs.nodeset.Sums.{sum, num}
use Rattle.bench.specs.nodeset.Sets.{has, size}
use Rattle.bench.proofs.nodeset.Sums.{sum-next}
use Rattle.bench.specs.ring.Ring.{turn, sender}
use Rattle.bench.proofs.ring_laws.Senders.{same-slot, sender-place, size-round}
use Rattle.bench.proofs.ring_laws.Walks.{member}
use Rattle.agreement.specs.Demand.{onwards, member_after}
use Rattle.agreement.proofs.History.{World, K, lst, span, num-is, sum_more}
use Rattle.agreement.proofs.Depart.{since-next}
use Rattle.agreement.proofs.Onwards.{Ahead, onwards-meets}

module _ (W : World) where
  open W use {cable, n_pos, turns, k_two, E}
  open cable use {n, k, lag}

  module _ (N L : ℕ) (κ : K W N L) (enough : k + lag < size n L) (listed-is : (E (suc N)).listed ≡ has L (sender cable (suc N)))
      (u e : ℕ) (u-pos : 1 ≤ u) (ago : u + e ≡ N) (recent : suc e < n) (waits : sum (lst W) (suc u) e < k + lag) where
    abbrev m : ℕ → ℕ
    m = member cable turns L

    ahead : Ahead cable turns L n u (k + lag)
    ahead = onwards-meets cable turns L n u (k + lag) u-pos (omega (arith, k_two)) (omega (arith, size-round cable turns L u))

    from_place : member_after cable L (sender cable u) (k + lag) ≡ onwards n cable L (turn n u) (k + lag)
    from_place = ap (λ (p : ℕ). onwards n cable L p (k + lag)) (sender-place cable turns u)

    -- the members and the listed slots since u, this slot included
    counts : sum m (suc u) (suc e) ≡ sum (lst W) (suc u) (suc e)
    counts =
        let z : suc u + e ≡ suc N = omega arith in
        omega (arith, sum-next m (suc u) e, ap m z, span W N L κ e u ago (omega arith) waits, since-next W N u e ago, ap num listed-is)

    pub deciding : member_after cable L (sender cable u) (k + lag) ≡ sender cable (suc N) → k + lag ≤ sum (lst W) (suc u) (suc e)
    deciding q = go ahead
      where
        go : Ahead cable turns L n u (k + lag) → k + lag ≤ sum (lst W) (suc u) (suc e)
        go r =
            let same : sender cable (u + r.e) ≡ sender cable (suc N) = sym r.found ∙ sym from_place ∙ q in
            let at : u + r.e ≡ suc N = same-slot cable turns u (u + r.e) (suc N) (omega (arith, r.on)) (omega (arith, r.within)) (omega arith) (omega arith) same in
            let z : r.e ≡ suc e = omega arith in
            omega (arith, ap (sum m (suc u)) z, r.count, counts)

    pub undecided : member_after cable L (sender cable u) (k + lag) ≢ sender cable (suc N) → sum (lst W) (suc u) (suc e) < k + lag
    undecided q = go ahead (dec_lt (sum (lst W) (suc u) (suc e)) (k + lag))
      where
        before : (r : Ahead cable turns L n u (k + lag)) → r.e < suc e → ⊥
        before r h =
            let z : r.e + (e - r.e) ≡ e = omega arith in
            omega (arith, sum_more m (suc u) r.e (e - r.e), ap (sum m (suc u)) z, r.count, span W N L κ e u ago (omega arith) waits)

        after : (r : Ahead cable turns L n u (k + lag)) → k + lag ≤ sum (lst W) (suc u) (suc e) → suc e < r.e → ⊥
        after r c h =
            let d : ℕ = r.e - 1 in
            let z : suc d ≡ r.e = omega arith in
            let y : suc e + (d - suc e) ≡ d = omega arith in
            let x : suc u + d ≡ u + r.e = omega arith in
            omega (arith, sum_more m (suc u) (suc e) (d - suc e), ap (sum m (suc u)) y, sum-next m (suc u) d, ap (sum m (suc u)) z, ap m x, num-is r.listed, r.count, counts)

        go : Ahead cable turns L n u (k + lag) → Dec (sum (lst W) (suc u) (suc e) < k + lag) → sum (lst W) (suc u) (suc e) < k + lag
        go r (yes h) = h
        go r (no h) = absurd (q (from_place ∙ r.found ∙ ap (sender cable) (here (dec_lt r.e (suc e)) (dec_lt (suc e) r.e))))
          where
            here : Dec (r.e < suc e) → Dec (suc e < r.e) → u + r.e ≡ suc N
            here (yes b) a = absurd (before r b)
            here (no b) (yes a) = absurd (after r (omega arith) a)
            here (no b) (no a) = omega arith
