-- The j-th member before a node is j places back in the row, round its end: the walk of ring's specs/Ring and `back_in` of row's specs/Inner. By slots: node x of place q speaks in slot n + q, and the
-- walk goes back from there to slot q + 1. Assumes nothing.
use Rattle.std.specs.Prelude.{None}
use Prim.Native.Nat.{ℕ, zero, suc, ◌+◌, ◌-◌, ◌≤◌, ◌<◌}
use mathlib.Core.Path.{◌≡◌, refl, sym, ap, ◌∙◌}
use mathlib.Core.Bool.{Bool, true, false, ◌&&◌, ◌||◌}
use native.Mathlib.Omega.{arith}
use native.Mathlib.Decide.{dec_le, dec_lt, ℕ_discrete}
use native.Mathlib.Nat.{mod-eq_of_lt}
use lib.Dec.{eqb, ltb}
use lib.ListN.{get_or}
use borrow.Author.Tests.{eq-eqb, ne_eqb, le-leb, lt-leb, lt-ltb, le-ltb}
use Rattle.ring_laws.specs.nodeset.Sums.{sum, num}
use Rattle.ring_laws.specs.nodeset.Sets.{has, size}
use Rattle.ring_laws.proofs.nodeset.Tests.{by_cases, chosen, otherwise}
use Rattle.ring_laws.proofs.nodeset.Sums.{sum-none, sum-next, sum-split, sum_same, sum-at}
use Rattle.ring_laws.specs.slot_table.Order.{node_at, place}
use Rattle.ring_laws.specs.cable.declared.Cable.{Cable}
use Rattle.ring_laws.specs.ring.Ring.{turn, sender, previous, walk, member_in}
use Rattle.ring_laws.proofs.Senders.{Turns, turn-period, sender-period, size-round}
use Rattle.ring_laws.proofs.Walks.{member, Met, walk_meets, walk_none, others}
use Rattle.row.specs.declared.Row.{Row}
use Rattle.row.specs.Rows.{as_row}
use Rattle.row.specs.Inner.{rank_in, back_in}
use Rattle.row_laws.proofs.Tables.{Table}
use Rattle.row_laws.proofs.Members.{ranked, ranked-sum, ranked-at, passed_is, members-most}

-- ---- `back_in`, by cases

module _ (row : Row) (p : ℕ) (here : Bool) (j : ℕ) (few : row.length ≤ 32) (low : p ≤ 32) where
  inside : 1 ≤ j → (eqb j 0 || (ltb 32 row.length || ltb 32 p)) ≡ false
  inside h = rw (ne_eqb j 0 (λ e. omega arith), le-ltb 32 row.length few, le-ltb 32 p low) refl

  back-near : 1 ≤ j → j ≤ p → back_in row p here j ≡ get_or row.nodes (p - j) 0
  unfolding back_in
  back-near h l = otherwise _ _ (inside h) ∙ chosen _ _ (le-leb j p l)

  back-round : p < j → j + num here ≤ row.length → back_in row p here j ≡ get_or row.nodes (row.length + p - j) 0
  unfolding back_in
  back-round h l = otherwise _ _ (inside (omega arith)) ∙ otherwise _ _ (lt-leb j p h) ∙ otherwise _ _ (go here l)
    where
      go : (b : Bool) → j + num b ≤ row.length → (ltb row.length j || (eqb row.length j && b)) ≡ false
      go true g = rw (le-ltb row.length j (omega arith), ne_eqb row.length j (λ e. omega arith)) refl
      go false g = rw (le-ltb row.length j (omega arith)) (none (eqb row.length j))
        where
          none : (c : Bool) → (c && false) ≡ false
          none true = refl
          none false = refl

  back-nobody : p < j → row.length < j + num here → back_in row p here j ≡ 0
  unfolding back_in
  back-nobody h l = otherwise _ _ (inside (omega arith)) ∙ otherwise _ _ (lt-leb j p h) ∙ chosen _ _ (go here l (dec_lt row.length j))
    where
      go : (b : Bool) → row.length < j + num b → Dec (row.length < j) → (ltb row.length j || (eqb row.length j && b)) ≡ true
      go b g (yes d) = rw (lt-ltb row.length j d) refl
      go true g (no d) = rw (le-ltb row.length j (omega arith), eq-eqb row.length j (omega arith)) refl
      go false g (no d) = let z : ⊥ = omega arith in absurd z

back-zero : (row : Row) (p : ℕ) (here : Bool) → back_in row p here 0 ≡ 0
unfolding back_in
back-zero row p here = refl

-- there is no 0th member
walk-zero : (left : ℕ) (cable : Cable) (set p : ℕ) → walk left cable set p 0 ≡ None
unfolding walk
walk-zero zero cable set p = refl
walk-zero (suc left) cable set p =
    let q = previous cable.n p in
    by_cases (has set (node_at cable.order q))
    (λ e. rw e (walk-zero left cable set q))
    (λ e. rw e (walk-zero left cable set q))

-- ---- the walk from the place of a node

module _ (cable : Cable) (turns : Turns cable) (table : Table cable.n cable.order) (s : ℕ) where
  open cable use {n, order}
  open turns use {some, most}

  abbrev pub seats : ℕ → ℕ
  seats m = sum (member cable turns s) 1 m

  turn-first : (p : ℕ) → 1 ≤ p → p ≤ n → turn n p ≡ p
  unfolding turn
  turn-first p h l = let z : p - 1 < n = omega arith in omega (arith, mod-eq_of_lt z)

  sender-first : (p : ℕ) → 1 ≤ p → p ≤ n → sender cable p ≡ node_at order p
  unfolding sender
  sender-first p h l = ap (node_at order) (turn-first p h l)

  -- the members at the first places
  seats-are : (m : ℕ) → m ≤ n → seats m ≡ ranked order s table.full m
  seats-are m h =
      sum_same (member cable turns s) (λ p. num (has s (node_at order p))) 1 m (λ u a b. ap (λ (x : ℕ). num (has s x)) (sender-first u a (omega arith)))
      ∙ sym (ranked-sum order s table.full m (omega (arith, most)))

  -- a round later
  shifted : (m : ℕ) → sum (member cable turns s) (1 + n) m ≡ seats m
  shifted zero = sum-none (member cable turns s) (1 + n) ∙ sym (sum-none (member cable turns s) 1)
  shifted (suc m) =
      let z : 1 + n + m ≡ 1 + m + n = omega arith in
      let y : member cable turns s (1 + n + m) ≡ member cable turns s (1 + m) = ap (member cable turns s) z ∙ ap (λ (x : ℕ). num (has s x)) (sender-period cable turns (1 + m) (omega arith)) in
      omega (arith, sum-next (member cable turns s) (1 + n) m, sum-next (member cable turns s) 1 m, shifted m, y)

  seats-all : seats n ≡ size n s
  seats-all = size-round cable turns s 0

  seats-split : (a d : ℕ) → seats (a + d) ≡ seats a + sum (member cable turns s) (1 + a) d
  seats-split a d = sum-split (member cable turns s) 1 a d

  -- the member at a place stands in the row after those before it
  seated : (v : ℕ) → 1 ≤ v → v ≤ n → has s (sender cable v) ≡ true → get_or (as_row order s).nodes (seats (v - 1)) 0 ≡ sender cable v
  unfolding node_at
  seated zero h l e = absurd (elim h [ ])
  seated (suc i) h l e =
      let w : sender cable (suc i) ≡ get_or order i 0 = sender-first (suc i) h l in
      let z : suc i - 1 ≡ i = omega arith in
      ap (λ (k : ℕ). get_or (as_row order s).nodes k 0) (ap seats z ∙ seats-are i (omega arith))
      ∙ ranked-at order s table.full i (omega (arith, most)) (ap (has s) (sym w) ∙ e)
      ∙ sym w

  module _ (count : (as_row order s).length ≡ size n s) (q : ℕ) (from : 1 ≤ q) (upto : q ≤ n) (here : Bool) (own : here ≡ has s (node_at order q)) (j : ℕ) where
    -- the slot where the walk ends
    abbrev a : ℕ
    a = suc q

    abbrev pub rank : ℕ
    rank = seats (q - 1)

    end : a + (n - 1) ≡ q + n
    end = omega (arith, some)

    own_is : member cable turns s q ≡ num here
    own_is = ap (λ (x : ℕ). num (has s x)) (sender-first q from upto) ∙ ap num (sym own)

    own-end : member cable turns s (a + (n - 1)) ≡ num here
    own-end = ap (member cable turns s) end ∙ ap (λ (x : ℕ). num (has s x)) (sender-period cable turns q from) ∙ own_is

    few : (as_row order s).length ≤ 32
    few = omega (arith, members-most n order table s, most)

    -- those of the first places are among the others
    rank-le : rank ≤ sum (member cable turns s) a (n - 1)
    rank-le =
        let z : n - 1 ≡ n - q + (q - 1) = omega arith in
        let y : a + (n - q) ≡ 1 + n = omega arith in
        omega (arith, ap (sum (member cable turns s) a) z, sum-split (member cable turns s) a (n - q) (q - 1), ap (λ (b : ℕ). sum (member cable turns s) b (q - 1)) y, shifted (q - 1))

    low : rank ≤ 32
    low = omega (arith, rank-le, others cable turns s a (omega arith), count, few)

    -- the j-th member met
    met : Met cable turns s (n - 1) a j → 1 ≤ j → j ≤ sum (member cable turns s) a (n - 1) → back_in (as_row order s) rank here j ≡ member_in (walk (n - 1) cable s (turn n (a + (n - 1))) j)
    met m h l = go (dec_le m.u n) ∙ sym (ap member_in m.found)
      where
        enough : j + num here ≤ (as_row order s).length
        enough = omega (arith, l, others cable turns s a (omega arith), own-end, count)

        go : Dec (m.u ≤ n) → back_in (as_row order s) rank here j ≡ sender cable m.u
        go (yes d) =
            let u : ℕ = m.u in
            let f = m.from in
            let v = m.upto in
            let e : m.e ≡ (n + 1 - u) + (q - 1) = omega (arith, f, v, end) in
            let y : u + (n + 1 - u) ≡ 1 + n = omega arith in
            let x : u - 1 + (n + 1 - u) ≡ n = omega (arith, f) in
            let w : 1 + (u - 1) ≡ u = omega (arith, f) in
            let first : sum (member cable turns s) u (n + 1 - u) + seats (u - 1) ≡ seats n =
            omega (arith, seats-split (u - 1) (n + 1 - u), ap seats x, ap (λ (b : ℕ). sum (member cable turns s) b (n + 1 - u)) w) in
            let both : sum (member cable turns s) u (n + 1 - u) + rank ≡ j =
            omega (arith, m.count, ap (sum (member cable turns s) u) e, sum-split (member cable turns s) u (n + 1 - u) (q - 1), ap (λ (b : ℕ). sum (member cable turns s) b (q - 1)) y, shifted (q - 1)) in
            let one : 1 ≤ sum (member cable turns s) u (n + 1 - u) = omega (arith, sum-at (member cable turns s) u (n + 1 - u) u (omega arith) (omega arith), ap num m.listed) in
            let at : (as_row order s).length + rank - j ≡ seats (u - 1) = omega (arith, first, both, count, seats-all) in
            back-round (as_row order s) rank here j few low (omega (arith, both, one)) enough
            ∙ ap (λ (k : ℕ). get_or (as_row order s).nodes k 0) at
            ∙ seated u (omega (arith, f)) d m.listed
        go (no d) =
            let u : ℕ = m.u in
            let v : ℕ = u - n in
            let g = m.upto in
            let b = m.back in
            let z : v + n ≡ u = omega arith in
            let e : v - 1 + m.e ≡ q - 1 = omega (arith, g, end) in
            let y : 1 + n + (v - 1) ≡ u = omega arith in
            let same : sender cable u ≡ sender cable v = ap (sender cable) (sym z) ∙ sender-period cable turns v (omega arith) in
            let parts : rank ≡ seats (v - 1) + j =
            omega (arith, shifted (q - 1), shifted (v - 1), ap (sum (member cable turns s) (1 + n)) e, sum-split (member cable turns s) (1 + n) (v - 1) m.e, ap (λ (b : ℕ). sum (member cable turns s) b m.e) y, m.count) in
            let at : rank - j ≡ seats (v - 1) = omega (arith, parts) in
            back-near (as_row order s) rank here j few low h (omega (arith, parts))
            ∙ ap (λ (k : ℕ). get_or (as_row order s).nodes k 0) at
            ∙ seated v (omega arith) (omega (arith, g, b, end)) (ap (has s) (sym same) ∙ m.listed)
            ∙ sym same

    -- j places back from place q
    pub places-back : back_in (as_row order s) rank here j ≡ member_in (walk (n - 1) cable s q j)
    places-back = go (ℕ_discrete j 0) (dec_le j (sum (member cable turns s) a (n - 1)))
      where
        start : turn n (a + (n - 1)) ≡ q
        start = ap (turn n) end ∙ turn-period n some q from ∙ turn-first q from upto

        go : Dec (j ≡ 0) → Dec (j ≤ sum (member cable turns s) a (n - 1)) → back_in (as_row order s) rank here j ≡ member_in (walk (n - 1) cable s q j)
        go (yes z) d =
            ap (back_in (as_row order s) rank here) z ∙ back-zero (as_row order s) rank here
            ∙ sym (ap (λ (i : ℕ). member_in (walk (n - 1) cable s q i)) z ∙ ap member_in (walk-zero (n - 1) cable s q))
        go (no z) (yes d) =
            met (walk_meets cable turns s (n - 1) a j (omega arith) (omega arith) d) (omega arith) d ∙ ap (λ (p : ℕ). member_in (walk (n - 1) cable s p j)) start
        go (no z) (no d) =
            back-nobody (as_row order s) rank here j few low (omega (arith, rank-le)) (omega (arith, others cable turns s a (omega arith), own-end, count))
            ∙ sym (ap (λ (p : ℕ). member_in (walk (n - 1) cable s p j)) (sym start) ∙ ap member_in (walk_none cable turns s (n - 1) a j (omega arith) (omega arith)))

  -- the rank of a node, by its place
  pub rank_is : (x : ℕ) → 1 ≤ place order x → place order x ≤ n → rank_in order (as_row order s) x ≡ seats (place order x - 1)
  unfolding rank_in
  rank_is x h l = passed_is order s table.full (place order x - 1) (omega (arith, most)) ∙ sym (seats-are (place order x - 1) (omega arith))
