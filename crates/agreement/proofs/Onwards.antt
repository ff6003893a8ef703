-- The law of the walk onwards (specs/Demand), in terms of slots: from slot a on it meets the members in slot order. Assumes nothing.
use Prim.Native.Nat.{ℕ, zero, suc, ◌+◌, ◌-◌, ◌≤◌}
use mathlib.Core.Path.{◌≡◌, sym, ap, ◌∙◌}
use mathlib.Core.Logic.{◌≢◌, ◌⊎◌, inl, inr}
use mathlib.Core.Bool.{Bool, true, false, cond, ◌&&◌}
use native.Mathlib.Omega.{arith}
use lib.Dec.{eqb}
use borrow.Author.Tests.{eqb-true, eqb-false, eq-eqb, ne_eqb}
use Rattle.bench.specs.nodeset.Sums.{sum, num}
use Rattle.bench.specs.nodeset.Sets.{has}
use Rattle.bench.proofs.nodeset.Tests.{both, by_cases, chosen, otherwise}
use Rattle.bench.proofs.nodeset.Sums.{sum-none, sum_first}
use Rattle.bench.specs.slot_table.Order.{node_at}
use Rattle.bench.specs.cable.declared.Cable.{Cable}
use Rattle.bench.specs.ring.Ring.{turn, sender}
use Rattle.bench.proofs.ring_laws.Senders.{Turns, turn-range, turn-add}
use Rattle.bench.proofs.ring_laws.Walks.{member}
use Rattle.agreement.specs.Demand.{next, onwards}

next-turn : (n : ℕ) → 1 ≤ n → (p : ℕ) → 1 ≤ p → next n (turn n p) ≡ turn n (suc p)
unfolding next
next-turn n pos p h = go (turn-add n pos p 1 h pos)
  where
    same : turn n (p + 1) ≡ turn n (suc p)
    same = ap (turn n) (omega arith)

    go : (turn n (p + 1) ≡ turn n p + 1) ⊎ (turn n (p + 1) + n ≡ turn n p + 1) → next n (turn n p) ≡ turn n (suc p)
    go (inl z) = otherwise _ _ (ne_eqb (turn n p) n (λ e. omega (arith, same, turn-range n pos (suc p)))) ∙ omega (arith, same)
    go (inr z) =
        chosen _ _ (eq-eqb (turn n p) n (omega (arith, same, turn-range n pos p, turn-range n pos (suc p))))
        ∙ omega (arith, same, turn-range n pos p, turn-range n pos (suc p))

module _ (cable : Cable) (turns : Turns cable) (set : ℕ) where
  open cable use {n, order}

  abbrev m : ℕ → ℕ
  m = member cable turns set

  -- The j-th member met on the walk from slot a on: it speaks in slot a + e, and with it there are j members in the slots after a.
  pub record Ahead (left a j : ℕ) : Type 0 where
    pub e : ℕ
    pub on : 1 ≤ e
    pub within : e ≤ left
    pub listed : has set (sender cable (a + e)) ≡ true
    pub count : sum (member cable turns set) (suc a) e ≡ j
    pub found : onwards left cable set (turn n a) j ≡ sender cable (a + e)

  -- the j-th member is met in slot q
  abbrev met : ℕ → ℕ → Bool
  met q j = has set (sender cable q) && eqb j 1

  -- one slot of the walk
  one_on : (l a j : ℕ) → 1 ≤ a → onwards (suc l) cable set (turn n a) j ≡ cond (met (suc a) j) (sender cable (suc a)) (onwards l cable set (turn n (suc a)) (j - m (suc a)))
  unfolding onwards sender
  one_on l a j h =
      ap (λ (q : ℕ). let y = node_at order q in cond (has set y && eqb j 1) y (onwards l cable set q (j - num (has set y)))) (next-turn n turns.some a h)

  here : (l a j : ℕ) → 1 ≤ a → met (suc a) j ≡ true → Ahead (suc l) a j
  here l a j ha t =
      let on = both (has set (sender cable (suc a))) (eqb j 1) t in
      let one : m (suc a) ≡ 1 = ap num on.0 in
      let z : suc a ≡ a + 1 = omega arith in
      record {
        e = 1;
        on = omega arith;
        within = omega arith;
        listed = ap (λ (q : ℕ). has set (sender cable q)) (sym z) ∙ on.0;
        count = omega (arith, sum_first m (suc a) 0, sum-none m (suc (suc a)), one, eqb-true j 1 on.1);
        found = one_on l a j ha ∙ chosen _ _ t ∙ ap (sender cable) z;
      }

  -- where it is not met there are more to come
  more : (q j : ℕ) → 1 ≤ j → met q j ≡ false → m q + 1 ≤ j
  more q j h t = go (has set (sender cable q)) t
    where
      go : (b : Bool) → (b && eqb j 1) ≡ false → num b + 1 ≤ j
      go true f = let ne : j ≢ 1 = eqb-false j 1 f in omega arith
      go false f = omega arith

  there : (l a j : ℕ) → 1 ≤ a → 1 ≤ j → met (suc a) j ≡ false → Ahead l (suc a) (j - m (suc a)) → Ahead (suc l) a j
  there l a j ha hj t r =
      let z : suc a + r.e ≡ a + suc r.e = omega arith in
      record {
        e = suc r.e;
        on = omega arith;
        within = omega (arith, r.within);
        listed = ap (λ (q : ℕ). has set (sender cable q)) (sym z) ∙ r.listed;
        count = omega (arith, r.count, sum_first m (suc a) r.e, more (suc a) j hj t);
        found = one_on l a j ha ∙ otherwise _ _ t ∙ r.found ∙ ap (sender cable) z;
      }

  -- Where there are j members or more on the way, the j-th is met.
  pub onwards-meets : (left a j : ℕ) → 1 ≤ a → 1 ≤ j → j ≤ sum (member cable turns set) (suc a) left → Ahead left a j
  onwards-meets zero a j ha hj h = let z : ⊥ = omega (arith, sum-none m (suc a)) in absurd z
  onwards-meets (suc l) a j ha hj h =
      by_cases (met (suc a) j)
      (λ t. here l a j ha t)
      (λ t.
      there l a j ha hj t
      (onwards-meets l (suc a) (j - m (suc a)) (omega arith) (omega (arith, more (suc a) j hj t)) (omega (arith, sum_first m (suc a) l))))
