-- Laws of the sender (ring's specs/Ring), for every slot table: its range, its period, each node once in any n slots in a row, the slot before and the sum over a round. They rest on
-- those of the place that has its turn; these follow from `turn-add`: e slots on, it is e places on, round the ring. Assumes nothing.
use Prim.Native.Nat.{ℕ, suc, ◌+◌, ◌-◌, ◌*◌, ◌/◌, ◌%◌, ◌≤◌, ◌<◌}
use mathlib.Core.Path.{◌≡◌, sym, ap, ◌∙◌}
use mathlib.Core.Logic.{◌≢◌, ◌⊎◌, inl, inr}
use native.Mathlib.Omega.{arith}
use native.Mathlib.Decide.{dec_le, dec_lt}
use native.Mathlib.Nat.{mod-lt, div-add-mod', mod-eq_of_lt}
use lib.Arith.{digits_mod}
use lib.Dec.{leb}
use borrow.Author.Tests.{le-leb, lt-leb, leb-false}
use Rattle.ring.specs.nodeset.Sums.{sum, num}
use Rattle.ring.specs.nodeset.Sets.{has, size}
use Rattle.ring.proofs.nodeset.Tests.{by_cases}
use Rattle.ring.proofs.nodeset.Sums.{sum_moved, sum_same, rotation}
use Rattle.ring.specs.slot_table.Order.{node_at, place}
use Rattle.ring.proofs.slot_table.Places.{Ordered, ordered_of, kept-order, node-range, node-place, same_place, place_of, over-nodes}
use Rattle.ring.specs.cable.declared.Cable.{Cable}
use Rattle.ring.specs.Ring.{turn, sender, previous}
use Rattle.ring.proofs.cable.Ranges.{ring-size, Fits}

module _ (n : ℕ) (pos : 1 ≤ n) where
  pub turn-range : (s : ℕ) → (1 ≤ turn n s) × (turn n s ≤ n)
  unfolding turn
  turn-range s = omega (arith, mod-lt (s - 1) pos)

  pub turn-add : (s e : ℕ) → 1 ≤ s → e ≤ n → (turn n (s + e) ≡ turn n s + e) ⊎ (turn n (s + e) + n ≡ turn n s + e)
  unfolding turn
  turn-add s e hs he = go (dec_lt ((s - 1) % n + e) n)
    where
      go : Dec ((s - 1) % n + e < n) → ((s + e - 1) % n + 1 ≡ (s - 1) % n + 1 + e) ⊎ ((s + e - 1) % n + 1 + n ≡ (s - 1) % n + 1 + e)
      go (yes h) =
          let e₁ : s + e - 1 ≡ (s - 1) / n * n + ((s - 1) % n + e) = omega (arith, div-add-mod' (s - 1) n) in
          let e₂ : (s + e - 1) % n ≡ (s - 1) % n + e = rw e₁ (digits_mod ((s - 1) / n) h) in
          inl (omega arith)
      go (no h) =
          let r = (s - 1) % n in
          let lt : r + e - n < n = omega (arith, mod-lt (s - 1) pos) in
          let e₁ : s + e - 1 ≡ suc ((s - 1) / n) * n + (r + e - n) = omega (arith, div-add-mod' (s - 1) n) in
          let e₂ : (s + e - 1) % n ≡ r + e - n = rw e₁ (digits_mod (suc ((s - 1) / n)) lt) in
          inr (omega arith)

  pub turn-period : (s : ℕ) → 1 ≤ s → turn n (s + n) ≡ turn n s
  turn-period s h = go (turn-add s n h (omega arith))
    where
      go : (turn n (s + n) ≡ turn n s + n) ⊎ (turn n (s + n) + n ≡ turn n s + n) → turn n (s + n) ≡ turn n s
      go (inl e) = omega (arith, turn-range s, turn-range (s + n))
      go (inr e) = omega arith

  -- ---- each place has its turn once in any n slots in a row

  -- the next n - 1 slots are those of other places
  pub turn-once : (s e : ℕ) → 1 ≤ s → 1 ≤ e → e < n → turn n (s + e) ≢ turn n s
  turn-once s e h p q eq = go (turn-add s e h (omega arith))
    where
      go : (turn n (s + e) ≡ turn n s + e) ⊎ (turn n (s + e) + n ≡ turn n s + e) → ⊥
      go (inl z) = omega arith
      go (inr z) = omega arith

  -- no place twice in the slots a + 1 to a + n
  pub same_turn : (a u v : ℕ) → a < u → u ≤ a + n → a < v → v ≤ a + n → turn n u ≡ turn n v → u ≡ v
  same_turn a u v p q r s e = go (dec_lt u v) (dec_lt v u)
    where
      go : Dec (u < v) → Dec (v < u) → u ≡ v
      go (yes h) d =
          let z : u + (v - u) ≡ v = omega arith in
          absurd (turn-once u (v - u) (omega arith) (omega arith) (omega arith) (rw z (sym e)))
      go (no h) (yes d) =
          let z : v + (u - v) ≡ u = omega arith in
          absurd (turn-once v (u - v) (omega arith) (omega arith) (omega arith) (rw z e))
      go (no h) (no d) = omega arith

  -- and every place in one of them
  pub its-turn : (a x : ℕ) → 1 ≤ x → x ≤ n → (u : ℕ) × (a < u) × (u ≤ a + n) × (turn n u ≡ x)
  its-turn a x h l = go (dec_le first x)
    where
      first : ℕ
      first = turn n (suc a)

      at : (e : ℕ) → e < n → (first + e ≡ x) ⊎ (first + e ≡ x + n) → turn n (suc a + e) ≡ x
      at e q z = by z (turn-add (suc a) e (omega arith) (omega arith))
        where
          by : (first + e ≡ x) ⊎ (first + e ≡ x + n) → (turn n (suc a + e) ≡ first + e) ⊎ (turn n (suc a + e) + n ≡ first + e) → turn n (suc a + e) ≡ x
          by (inl z) (inl y) = omega arith
          by (inl z) (inr y) = omega (arith, turn-range (suc a + e))
          by (inr z) (inl y) = omega (arith, turn-range (suc a + e))
          by (inr z) (inr y) = omega arith

      go : Dec (first ≤ x) → (u : ℕ) × (a < u) × (u ≤ a + n) × (turn n u ≡ x)
      go (yes q) =
          let e : ℕ = x - first in
          (suc a + e, omega arith, omega (arith, turn-range (suc a)), at e (omega (arith, turn-range (suc a))) (inl (omega arith)))
      go (no q) =
          let e : ℕ = x + n - first in
          let r = turn-range (suc a) in
          (suc a + e, omega arith, omega arith, at e (omega arith) (inr (omega arith)))

  -- ---- the slot before

  -- the place before is one
  pub previous-range : (p : ℕ) → p ≤ n → (1 ≤ previous n p) × (previous n p ≤ n)
  unfolding previous
  previous-range p l = by_cases (leb p 1) (λ e. rw e (pos, omega arith)) (λ e. rw e (omega (arith, leb-false p 1 e), omega arith))

  pub previous-turn : (p : ℕ) → 1 ≤ p → previous n (turn n (suc p)) ≡ turn n p
  unfolding previous
  previous-turn p h = go (turn-add p 1 h pos)
    where
      same : turn n (p + 1) ≡ turn n (suc p)
      same = ap (turn n) (omega arith)

      go : (turn n (p + 1) ≡ turn n p + 1) ⊎ (turn n (p + 1) + n ≡ turn n p + 1) → previous n (turn n (suc p)) ≡ turn n p
      go (inl z) = rw (lt-leb (turn n (suc p)) 1 (omega (arith, same, turn-range p))) (omega (arith, same))
      go (inr z) = rw (le-leb (turn n (suc p)) 1 (omega (arith, same, turn-range p, turn-range (suc p)))) (omega (arith, same, turn-range p, turn-range (suc p)))

  -- ---- rounds

  first_round : (x : ℕ) → 1 ≤ x → x < 1 + n → turn n x ≡ x
  unfolding turn
  first_round x h l = let z : x - 1 < n = omega arith in omega (arith, mod-eq_of_lt z)

  -- a sum over the places of any n slots in a row is the sum over the places
  pub turn-round : (f : ℕ → ℕ) (a : ℕ) → sum (λ t. f (turn n t)) (suc a) n ≡ sum f 1 n
  turn-round f a =
      let g : ℕ → ℕ = λ t. f (turn n (suc t)) in
      let again : (u : ℕ) → g (u + n) ≡ g u = λ u.
      let z : suc (u + n) ≡ suc u + n = omega arith in
      ap (λ (x : ℕ). f (turn n x)) z ∙ ap f (turn-period (suc u) (omega arith)) in
      sym (sum_moved (λ t. f (turn n t)) a n)
      ∙ rotation g n again a
      ∙ sum_moved (λ t. f (turn n t)) 0 n
      ∙ sum_same (λ t. f (turn n t)) f 1 n (λ u p q. ap f (first_round u p q))

-- ---- whose slot it is

-- What is asked of a cable: it has nodes, 32 at the most, and each has one place.
pub record Turns (cable : Cable) : Type 0 where
  pub some : 1 ≤ cable.n
  pub most : cable.n ≤ 32
  pub ordered : Ordered cable.n cable.order

pub turns-of : (cable : Cable) → Fits cable → Turns cable
turns-of cable f =
    let r = ring-size cable.n f.ring in
    record { some = omega (arith, r.0); most = r.1; ordered = ordered_of cable.n cable.order (kept-order cable.n cable.order f.order) }

module _ (cable : Cable) (turns : Turns cable) where
  open cable use {n, order}
  open turns use {some, most, ordered}

  pub sender-range : (s : ℕ) → (1 ≤ sender cable s) × (sender cable s ≤ n)
  unfolding sender
  sender-range s = let r = turn-range n some s in node-range n order ordered (turn n s) r.0 r.1

  pub sender-period : (s : ℕ) → 1 ≤ s → sender cable (s + n) ≡ sender cable s
  unfolding sender
  sender-period s h = ap (node_at order) (turn-period n some s h)

  same-sender : (u v : ℕ) → sender cable u ≡ sender cable v → turn n u ≡ turn n v
  unfolding sender
  same-sender u v e =
      let a = turn-range n some u in
      let b = turn-range n some v in
      same_place n order ordered (turn n u) (turn n v) a.0 a.1 b.0 b.1 e

  -- the next n - 1 slots have other senders
  pub sender-once : (s e : ℕ) → 1 ≤ s → 1 ≤ e → e < n → sender cable (s + e) ≢ sender cable s
  sender-once s e h p q eq = turn-once n some s e h p q (same-sender (s + e) s eq)

  -- no node twice in the slots a + 1 to a + n
  pub same-slot : (a u v : ℕ) → a < u → u ≤ a + n → a < v → v ≤ a + n → sender cable u ≡ sender cable v → u ≡ v
  same-slot a u v p q r s e = same_turn n some a u v p q r s (same-sender u v e)

  -- and every node in one of them
  pub its-slot : (a x : ℕ) → 1 ≤ x → x ≤ n → (u : ℕ) × (a < u) × (u ≤ a + n) × (sender cable u ≡ x)
  unfolding sender
  its-slot a x h l = go (node-place n order ordered x h l)
    where
      go : (p : ℕ) × (1 ≤ p) × (p ≤ n) × (node_at order p ≡ x) → (u : ℕ) × (a < u) × (u ≤ a + n) × (node_at order (turn n u) ≡ x)
      go (p, b, c, e) = let r = its-turn n some a p b c in (r.0, r.1, r.2, ap (node_at order) r.3 ∙ e)

  -- the place of a slot's sender
  pub sender-place : (s : ℕ) → place order (sender cable s) ≡ turn n s
  unfolding sender
  sender-place s = let r = turn-range n some s in place_of n order ordered most (turn n s) r.0 r.1

  -- a sum over the senders of any n slots in a row is the sum over the nodes
  pub round : (f : ℕ → ℕ) (a : ℕ) → sum (λ t. f (sender cable t)) (suc a) n ≡ sum f 1 n
  unfolding sender
  round f a = turn-round n some (λ p. f (node_at order p)) a ∙ over-nodes n order ordered f

  -- the size of a set is the number of members that speak in any n slots in a row
  pub size-round : (set a : ℕ) → sum (λ t. num (has set (sender cable t))) (suc a) n ≡ size n set
  unfolding size
  size-round set a = round (λ x. num (has set x)) a
