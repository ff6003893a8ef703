-- Laws of the walk back (ring's specs/Ring), in terms of slots: from the slot a + left back to slot a it meets the members in slot order,
-- each of them, and never the node where it starts as long as it is shorter than a round. Assumes nothing.
use Rattle.std.specs.Prelude.{None}
use Prim.Native.Nat.{ℕ, zero, suc, ◌+◌, ◌-◌, ◌≤◌, ◌<◌}
use mathlib.Core.Path.{◌≡◌, refl, sym, ap, ◌∙◌}
use mathlib.Core.Logic.{◌≢◌}
use mathlib.Core.Bool.{true, false}
use native.Mathlib.Omega.{arith}
use native.Mathlib.Decide.{dec_le}
use native.Mathlib.Nat.{add-zero}
use borrow.Author.Tests.{ne_eqb}
use Rattle.ring.specs.nodeset.Sums.{sum, num}
use Rattle.ring.specs.nodeset.Sets.{has, size}
use Rattle.ring.proofs.nodeset.Tests.{by_cases}
use Rattle.ring.proofs.nodeset.Sums.{sum-none, sum-next, sum-at, sum-split, one_place}
use Rattle.ring.specs.slot_table.Order.{node_at, place}
use Rattle.ring.specs.cable.declared.Cable.{Cable}
use Rattle.ring.specs.Ring.{turn, sender, previous, walk, member_before}
use Rattle.ring_laws.proofs.Senders.{Turns, previous-turn, sender-once, size-round}
use Rattle.ring.specs.Ring.{found}

-- ---- one slot of the walk, by what stands there

pub walk-nobody : (cable : Cable) (set p j : ℕ) → walk 0 cable set p j ≡ None
unfolding walk
walk-nobody cable set p j = refl

pub walk-past : (left : ℕ) (cable : Cable) (set p j : ℕ) → has set (node_at cable.order (previous cable.n p)) ≡ false → walk (suc left) cable set p j ≡ walk left cable set (previous cable.n p) j
unfolding walk
walk-past left cable set p j e = let z : j - 0 ≡ j = omega arith in rw (e, z) refl

pub walk_here : (left : ℕ) (cable : Cable) (set p : ℕ) → has set (node_at cable.order (previous cable.n p)) ≡ true → walk (suc left) cable set p 1 ≡ found (node_at cable.order (previous cable.n p)) (cable.n - suc left)
unfolding walk
walk_here left cable set p e = rw e refl

pub walk-on : (left : ℕ) (cable : Cable) (set p j : ℕ) → j ≢ 1 → has set (node_at cable.order (previous cable.n p)) ≡ true → walk (suc left) cable set p j ≡ walk left cable set (previous cable.n p) (j - 1)
unfolding walk
walk-on left cable set p j h e = rw (e, ne_eqb j 1 h) refl

-- ---- the walk over slots in a row

module _ (cable : Cable) (turns : Turns cable) (set : ℕ) where
  open cable use {n, order}
  open turns use {some}

  -- is the sender of slot q a member: 1 or 0
  abbrev pub member : ℕ → ℕ
  member q = num (has set (sender cable q))

  -- The j-th member met on the walk from slot a + left back to slot a: it speaks in slot u, and with it there are j members in the slots from u on.
  pub record Met (left a j : ℕ) : Type 0 where
    pub u : ℕ
    pub e : ℕ
    pub from : a ≤ u
    pub upto : u + e ≡ a + left
    pub back : 1 ≤ e
    pub listed : has set (sender cable u) ≡ true
    pub count : sum member u e ≡ j
    pub found : walk left cable set (turn n (a + left)) j ≡ found (sender cable u) (n - suc (u - a))

  -- the walk from slot p, one slot back at q
  step_past : (l q j p : ℕ) → 1 ≤ q → p ≡ suc q → has set (sender cable q) ≡ false → walk (suc l) cable set (turn n p) j ≡ walk l cable set (turn n q) j
  unfolding sender
  step_past l q j p h e f =
      let b : previous n (turn n p) ≡ turn n q = ap (λ (y : ℕ). previous n (turn n y)) e ∙ previous-turn n some q h in
      walk-past l cable set (turn n p) j (ap (λ (y : ℕ). has set (node_at order y)) b ∙ f) ∙ ap (λ (y : ℕ). walk l cable set y j) b

  step-here : (l q p : ℕ) → 1 ≤ q → p ≡ suc q → has set (sender cable q) ≡ true → walk (suc l) cable set (turn n p) 1 ≡ found (sender cable q) (n - suc l)
  unfolding sender
  step-here l q p h e f =
      let b : previous n (turn n p) ≡ turn n q = ap (λ (y : ℕ). previous n (turn n y)) e ∙ previous-turn n some q h in
      walk_here l cable set (turn n p) (ap (λ (y : ℕ). has set (node_at order y)) b ∙ f) ∙ ap (λ (y : ℕ). found (node_at order y) (n - suc l)) b

  step-on : (l q j p : ℕ) → 1 ≤ q → 2 ≤ j → p ≡ suc q → has set (sender cable q) ≡ true → walk (suc l) cable set (turn n p) j ≡ walk l cable set (turn n q) (j - 1)
  unfolding sender
  step-on l q j p h i e f =
      let b : previous n (turn n p) ≡ turn n q = ap (λ (y : ℕ). previous n (turn n y)) e ∙ previous-turn n some q h in
      walk-on l cable set (turn n p) j (λ q. omega arith) (ap (λ (y : ℕ). has set (node_at order y)) b ∙ f) ∙ ap (λ (y : ℕ). walk l cable set y (j - 1)) b

  -- the member just before is the first that is met
  nearest : (l a : ℕ) → 1 ≤ a → has set (sender cable (a + l)) ≡ true → Met (suc l) a 1
  nearest l a h e = record {
    u = a + l;
    e = 1;
    from = omega arith;
    upto = omega arith;
    back = omega arith;
    listed = e;
    count = omega (arith, sum-next member (a + l) 0, sum-none member (a + l), ap num e, ap member (add-zero (a + l)));
    found =
        let z : l ≡ a + l - a = omega arith in
        step-here l (a + l) (a + suc l) (omega arith) (omega arith) e ∙ ap (λ (y : ℕ). found (sender cable (a + l)) (n - suc y)) z;
  }

  -- the j-th member of the rest of the walk, after i members in the slot just before
  later : (l a i j t : ℕ) → member (a + l) ≡ i → t ≡ i + j → walk (suc l) cable set (turn n (a + suc l)) t ≡ walk l cable set (turn n (a + l)) j → Met l a j → Met (suc l) a t
  later l a i j t z y w m = record {
    u = m.u;
    e = suc m.e;
    from = m.from;
    upto = omega (arith, m.upto);
    back = omega arith;
    listed = m.listed;
    count = omega (arith, sum-next member m.u m.e, m.count, ap member m.upto);
    found = w ∙ m.found;
  }

  -- Where there are j members or more on the way, the j-th is met.
  pub walk_meets : (left a j : ℕ) → 1 ≤ a → 1 ≤ j → j ≤ sum member a left → Met left a j
  walk_meets zero a j h i l = let z : ⊥ = omega (arith, sum-none member a) in absurd z
  walk_meets (suc l) a zero h i le = absurd (elim i [ ])
  walk_meets (suc l) a (suc zero) h i le =
      by_cases (has set (sender cable (a + l)))
      (λ e. nearest l a h e)
      (λ e.
      later l a 0 1 1 (ap num e) refl (step_past l (a + l) 1 (a + suc l) (omega arith) (omega arith) e)
      (walk_meets l a 1 h i (omega (arith, sum-next member a l, ap num e))))
  walk_meets (suc l) a (suc (suc j)) h i le =
      by_cases (has set (sender cable (a + l)))
      (λ e.
      let z : suc (suc j) - 1 ≡ suc j = omega arith in
      later l a 1 (suc j) (suc (suc j)) (ap num e) (omega arith)
      (step-on l (a + l) (suc (suc j)) (a + suc l) (omega arith) (omega arith) (omega arith) e ∙ ap (walk l cable set (turn n (a + l))) z)
      (walk_meets l a (suc j) h (omega arith) (omega (arith, sum-next member a l, ap num e))))
      (λ e.
      later l a 0 (suc (suc j)) (suc (suc j)) (ap num e) (omega arith)
      (step_past l (a + l) (suc (suc j)) (a + suc l) (omega arith) (omega arith) e)
      (walk_meets l a (suc (suc j)) h i (omega (arith, sum-next member a l, ap num e))))

  -- Where there are fewer, nobody is.
  pub walk_none : (left a j : ℕ) → 1 ≤ a → sum member a left < j → walk left cable set (turn n (a + left)) j ≡ None
  walk_none zero a j h i = walk-nobody cable set (turn n (a + zero)) j
  walk_none (suc l) a j h i =
      by_cases (has set (sender cable (a + l)))
      (λ e.
      step-on l (a + l) j (a + suc l) (omega arith) (omega (arith, sum-next member a l, ap num e)) (omega arith) e
      ∙ walk_none l a (j - 1) h (omega (arith, sum-next member a l, ap num e)))
      (λ e.
      step_past l (a + l) j (a + suc l) (omega arith) (omega arith) e
      ∙ walk_none l a j h (omega (arith, sum-next member a l, ap num e)))

  -- The members are met in slot order: a later one speaks in an earlier slot.
  pub met-order : (left a i j : ℕ) (m : Met left a i) (m' : Met left a j) → i < j → m'.u < m.u
  met-order left a i j m m' h = go (dec_le m.u m'.u)
    where
      go : Dec (m.u ≤ m'.u) → m'.u < m.u
      go (yes l) =
          let d : ℕ = m'.u - m.u in
          let y : m.u + d ≡ m'.u = omega arith in
          let x : d + m'.e ≡ m.e = omega (arith, m.upto, m'.upto) in
          let z : ⊥ = omega (arith, sum-split member m.u d m'.e, ap (sum member m.u) x, ap (λ (b : ℕ). sum member b m'.e) y, m.count, m'.count) in
          absurd z
      go (no l) = omega arith

  -- A walk that is shorter than a round never meets the node where it starts.
  pub met-other : (left a j : ℕ) (m : Met left a j) → 1 ≤ a → left < n → sender cable m.u ≢ sender cable (a + left)
  met-other left a j m h l p =
      sender-once cable turns m.u m.e (omega (arith, m.from)) m.back (omega (arith, m.from, m.upto)) (ap (sender cable) m.upto ∙ sym p)

  -- Each member on the way is met, as the one whose number is the count of members from its slot on.
  pub walk_at : (left a u e : ℕ) → 1 ≤ a → a ≤ u → u + e ≡ a + left → 1 ≤ e → has set (sender cable u) ≡ true
      → walk left cable set (turn n (a + left)) (sum member u e) ≡ found (sender cable u) (n - suc (u - a))
  walk_at left a u e h f p b t =
      let some : 1 ≤ sum member u e = omega (arith, sum-at member u e u (omega arith) (omega arith), ap num t) in
      let d : ℕ = u - a in
      let y : a + d ≡ u = omega arith in
      let x : d + e ≡ left = omega arith in
      let enough : sum member u e ≤ sum member a left = omega (arith, sum-split member a d e, ap (sum member a) x, ap (λ (q : ℕ). sum member q e) y) in
      go (walk_meets left a (sum member u e) h some enough)
    where
      go : Met left a (sum member u e) → walk left cable set (turn n (a + left)) (sum member u e) ≡ found (sender cable u) (n - suc (u - a))
      go m =
          let same : m.u ≡ u = one_place member (sum member u e) m.u m.e u e (m.upto ∙ sym p) m.count refl (omega (arith, ap num m.listed)) (omega (arith, ap num t)) in
          m.found ∙ ap (λ (q : ℕ). found (sender cable q) (n - suc (q - a))) same

  -- ---- the walk of n - 1 slots: all but the node where it starts

  pub before-is : (x j : ℕ) → member_before cable set x j ≡ walk (n - 1) cable set (place order x) j
  unfolding member_before
  before-is x j = refl

  -- the members of the n - 1 slots before slot a + (n - 1) are all but its sender
  pub others : (a : ℕ) → 1 ≤ a → sum member a (n - 1) + member (a + (n - 1)) ≡ size n set
  others a h =
      let z : suc (n - 1) ≡ n = omega arith in
      let y : suc (a - 1) ≡ a = omega arith in
      omega (arith, sum-next member a (n - 1), ap (sum member a) z, size-round cable turns set (a - 1), ap (λ (q : ℕ). sum member q n) y)
