-- What the definitions on rows (row's specs/Rows and Inner) say of the row of a set. Assumes nothing. For a slot table that is kept (`is_kept n order ≡ true`):
--   set_back      from a set of nodes 1 to n to its row and back nothing is lost
--   row_back      nor from a sound row to its set and back
--   row-sound     the row of a set is sound
--   nodes-row     the nodes in it are the set's
--   set-within    a row stands for a set of nodes 1 to n exactly if it is sound
--   has-row, node_row, size-row, with-row, same-row    what is done on the row of a set is what is done on the set
--   before-row    the j-th member before a node is j places back in the row, round its end
-- For every table: without-row, empty-row, set_is. For every row: same-is, is_same.
use Prim.Native.Nat.{ℕ, zero, suc, ◌-◌, ◌^◌, ◌≤◌, ◌<◌, min}
use mathlib.Core.Path.{◌≡◌, refl, sym, ap, ap₂, ◌∙◌}
use mathlib.Core.Bool.{Bool, true, false, not, ◌&&◌, ◌||◌, true≢false, and-false}
use mathlib.Core.List.{List, [], ◌∷◌, ◌++◌}
use native.Mathlib.Omega.{arith}
use native.Mathlib.Decide.{dec_le}
use lib.Dec.{eqb, leb}
use lib.Pow.{pow_pos, pow_mono}
use lib.ListN.{length, take, drop, replicate, length-append, length-drop, take-append-drop}
use lib.Seq.{take_all, take_at, drop_at, length-take-le}
use borrow.Author.Tests.{eq-eqb, eqb-true, le-leb, lt-leb, leb-true, lt-ltb, le-ltb}
use Rattle.ring_laws.specs.nodeset.Sums.{num}
use Rattle.ring_laws.specs.nodeset.Sets.{has, with, without, size, within}
use Rattle.ring_laws.proofs.nodeset.Tests.{by_cases, both, all, chosen, otherwise}
use Rattle.ring_laws.proofs.nodeset.Bits.{has-none, has-beyond}
use Rattle.ring_laws.proofs.nodeset.Laws.{set-ext, with-there}
use Rattle.ring_laws.proofs.nodeset.Counts.{size_is, size-with, size-le}
use Rattle.ring_laws.specs.slot_table.Order.{node_at, nodes_at, is_kept, place, same_order}
use Rattle.ring_laws.proofs.slot_table.Places.{node-place, place_of, over-nodes}
use Rattle.ring_laws.proofs.slot_table.Same.{same-order, order_same}
use Rattle.ring_laws.specs.cable.declared.Cable.{Cable}
use Rattle.ring_laws.specs.ring.Ring.{member_before, member_in}
use Rattle.ring_laws.proofs.Senders.{Turns}
use Rattle.ring_laws.proofs.Walks.{before-is}
use Rattle.row.specs.declared.Row.{Row}
use Rattle.row.specs.Rows.{row_for, keep, as_row, is_part, blank, sound_row, nodes_in, no_set, as_set}
use Rattle.row.specs.Inner.{elem, has_row, stays, without_row, passed, rank_in, put_in, may_join, with_row, back_in, before_row, same_row}
use Rattle.row.proofs.Lists.{elem-padded, keep-none, keep_same, keep-keep, keep-padded, keep-part, part-keep, part_elem, blank-is, blank-zeros}
use Rattle.row_laws.proofs.Tables.{Table, table_of}
use Rattle.row_laws.proofs.Members.{nodes-has, nodes-lt, has-stays, length-is, places-full, ranked-sum, passed_is, front-keep, members-most, node-elem, set-elem, row_small}
use Rattle.row_laws.proofs.Joining.{put-between, kept-without, kept-with}
use Rattle.row_laws.proofs.Round.{places-back, rank_is}

-- ---- for every table

-- The row of the empty set.
pub empty-row : (order : List ℕ) → as_row order 0 ≡ row_for []
unfolding as_row
empty-row order = ap row_for (keep-none (has 0) order (λ x h. has-none x))

-- A node is taken out of the row as out of the set.
pub without-row : (order : List ℕ) (s x : ℕ) → without_row (as_row order s) x ≡ as_row order (without s x)
unfolding without_row as_row
without-row order s x =
    ap row_for
    (keep-padded (stays x) (keep (has s) order) (32 - length (keep (has s) order)) refl
    ∙ keep-keep (stays x) (has s) order
    ∙ keep_same (λ m. has s m && stays x m) (has (without s x)) order (λ m h. has-stays s x m))

-- A sound row stands for the set of the nodes in it.
pub set_is : (n : ℕ) (order : List ℕ) (r : Row) → sound_row n order r ≡ true → as_set n order r ≡ nodes_in r
unfolding as_set
set_is n order r e = chosen (nodes_in r) no_set e

-- ---- for every row

-- Rows that pass the test are equal, and equal ones pass it.
pub same-is : (a b : Row) → length a.nodes ≡ 32 → same_row a b ≡ true → a ≡ b
same-is a b l e =
    let t = both (eqb a.length b.length) (same_order a.nodes b.nodes) e in
    ap₂ {C = Row} (λ (k : ℕ) (q : List ℕ). record { length = k; nodes = q }) (eqb-true a.length b.length t.0) (same-order a.nodes b.nodes l t.1)

pub is_same : (a b : Row) → a ≡ b → same_row a b ≡ true
is_same a b e =
    all (eq-eqb a.length b.length (ap (λ (r : Row). r.length) e)) (order_same a.nodes b.nodes (ap (λ (r : Row). r.nodes) e))

-- ---- for a table that is kept

module _ (n : ℕ) (order : List ℕ) (kept : is_kept n order ≡ true) where
  table : Table n order
  table = table_of n order kept

  -- Who is in the set is in its row.
  pub has-row : (s x : ℕ) → s < 2 ^ n → has_row (as_row order s) x ≡ has s x
  unfolding has_row has
  has-row s zero f = refl
  has-row s (suc i) f = go (dec_le (suc i) 32)
    where
      x : ℕ
      x = suc i

      go : Dec (suc i ≤ 32) → (leb 1 (suc i) && (leb (suc i) 32 && elem (suc i) (as_row order s).nodes)) ≡ has s (suc i)
      go (yes l) =
          ap₂ (λ (a b : Bool). a && (b && elem x (as_row order s).nodes)) (le-leb 1 x (omega arith)) (le-leb x 32 l) ∙ set-elem n order table s f x (omega arith)
      go (no l) =
          ap (λ (b : Bool). leb 1 x && (b && elem x (as_row order s).nodes)) (lt-leb x 32 (omega arith))
          ∙ and-false (leb 1 x)
          ∙ sym (has-beyond n s x f (omega (arith, table.most)))

  -- The same for one of the nodes, whatever else is in the set.
  pub node_row : (s x : ℕ) → 1 ≤ x → x ≤ n → has_row (as_row order s) x ≡ has s x
  unfolding has_row
  node_row s x h l =
      ap₂ (λ (a b : Bool). a && (b && elem x (as_row order s).nodes)) (le-leb 1 x h) (le-leb x 32 (omega (arith, table.most))) ∙ node-elem n order table s x h l

  -- its length
  length-row : (s : ℕ) → (as_row order s).length ≡ size n s
  length-row s =
      length-is order s ∙ ap length (front-keep n order table s)
      ∙ ranked-sum order s table.full n table.most
      ∙ over-nodes n order table.ordered (λ x. num (has s x))
      ∙ sym (size_is n s)

  -- Its length is how many are in the set.
  pub size-row : (s : ℕ) → (as_row order s).length ≡ size n s
  size-row s = length-row s

  -- one that is not there, at its place
  put-row : (s x : ℕ) → 1 ≤ x → x ≤ n → has s x ≡ false → (p : ℕ) × (1 ≤ p) × (p ≤ n) × (node_at order p ≡ x) → with_row order (as_row order s) x ≡ as_row order (with s x)
  unfolding with_row as_row node_at rank_in
  put-row s x h l e (zero, a, _, _) = absurd (elim a [ ])
  put-row s x h l e (suc i, a, low, at) =
      let here : place order x ≡ suc i = ap (place order) (sym at) ∙ place_of n order table.ordered table.most (suc i) a low in
      let before : List ℕ = keep (has s) (take i order) in
      let after : List ℕ = keep (has s) (drop (suc i) order) in
      let old : keep (has s) order ≡ before ++ after = kept-without n order table i low x at h s e in
      let new : keep (has (with s x)) order ≡ before ++ x ∷ after = kept-with n order table i low x at h s (omega (arith, table.most)) in
      let room : (as_row order s).length < 32 = omega (arith, length-row s, size-with n s x h l (omega (arith, table.most)) e, size-le n (with s x), table.most) in
      let first : place order x - 1 ≡ i = omega (arith, here) in
      let rank : rank_in order (as_row order s) x ≡ length before =
      ap (λ (k : ℕ). passed k order (as_row order s).nodes) first ∙ passed_is order s table.full i (omega (arith, table.most)) in
      let joins : may_join (as_row order s) x ≡ true =
      ap₂ (λ (b d : Bool). not (b || d) && (leb 1 x && leb x 32)) (node_row s x h l ∙ e) (lt-leb 32 (as_row order s).length room)
      ∙ all (le-leb 1 x h) (le-leb x 32 (omega (arith, table.most))) in
      chosen _ (as_row order s) joins
      ∙ ap₂ {C = Row} (λ (k : ℕ) (q : List ℕ). record { length = k; nodes = q })
      (omega (arith, ap length old, ap length new, length-append before after, length-append before (x ∷ after)))
      (ap₂ (λ (k : ℕ) (q : List ℕ). put_in k x (row_for q).nodes) rank old ∙ put-between before after x (omega (arith, room, ap length old)) ∙ ap (λ (q : List ℕ). (row_for q).nodes) (sym new))

  -- A node is put into the row as into the set.
  pub with-row : (s x : ℕ) → x ≤ n → with_row order (as_row order s) x ≡ as_row order (with s x)
  unfolding with_row with
  with-row s zero l = otherwise _ (as_row order s) (and-false (not (has_row (as_row order s) 0 || leb 32 (as_row order s).length)))
  with-row s (suc y) l =
      by_cases (has s (suc y))
      (λ e.
      otherwise _ (as_row order s) (ap (λ (b : Bool). not (b || leb 32 (as_row order s).length) && (leb 1 (suc y) && leb (suc y) 32)) (node_row s (suc y) (omega arith) l ∙ e))
      ∙ ap (as_row order) (sym (with-there s (suc y) e)))
      (λ e. put-row s (suc y) (omega arith) l e (node-place n order table.ordered (suc y) (omega arith) l))

  -- ---- from sets to rows and back

  pub nodes-row : (s : ℕ) → s < 2 ^ n → nodes_in (as_row order s) ≡ s
  unfolding nodes_in
  nodes-row s f =
      let l : List ℕ = (as_row order s).nodes in
      let long : length l ≡ 32 = places-full order s table.full in
      set-ext n (nodes_at 32 l) s (nodes-lt n 32 l (omega (arith, long)) (row_small n order table s) (pow_pos n)) f
      (λ y h g.
      nodes-has 32 l y h (omega (arith, table.most)) (omega (arith, long))
      ∙ ap (elem y) (take_all 32 l (omega (arith, long)))
      ∙ set-elem n order table s f y h)

  pub row-sound : (s : ℕ) → sound_row n order (as_row order s) ≡ true
  unfolding sound_row as_row
  row-sound s =
      let l : List ℕ = keep (has s) order in
      all (eq-eqb (length (as_row order s).nodes) 32 (places-full order s table.full))
      (all (le-leb (as_row order s).length (min n 32) (omega (arith, members-most n order table s, table.most)))
      (all
      (ap (λ (q : List ℕ). is_part q (take n order)) (take_at l (replicate (32 - length l) 0) (length l) refl ∙ front-keep n order table s)
      ∙ keep-part (has s) (take n order) table.once)
      (ap blank (drop_at l (replicate (32 - length l) 0) (length l) refl) ∙ blank-zeros (32 - length l))))

  pub set_back : (s : ℕ) → s < 2 ^ n → as_set n order (as_row order s) ≡ s
  set_back s f = set_is n order (as_row order s) (row-sound s) ∙ nodes-row s f

  -- A sound row is the row of its nodes, which are of 1 to n.
  record Back (r : Row) : Type 0 where
    fits : nodes_in r < 2 ^ n
    is : as_row order (nodes_in r) ≡ r

  back : (r : Row) → sound_row n order r ≡ true → Back r
  unfolding sound_row as_row nodes_in
  back r e =
      let c : ℕ = r.length in
      let l : List ℕ = take c r.nodes in
      let e₀ = both (eqb (length r.nodes) 32) (leb c (min n 32) && (is_part l (take n order) && blank (drop c r.nodes))) e in
      let long : length r.nodes ≡ 32 = eqb-true (length r.nodes) 32 e₀.0 in
      let e₁ = both (leb c (min n 32)) (is_part l (take n order) && blank (drop c r.nodes)) e₀.1 in
      let e₂ = both (is_part l (take n order)) (blank (drop c r.nodes)) e₁.1 in
      let most : c ≤ 32 = omega (arith, leb-true c (min n 32) e₁.0) in
      let used : length l ≡ c = length-take-le c r.nodes (omega arith) in
      let rest : drop c r.nodes ≡ replicate (32 - length l) 0 =
      blank-is (drop c r.nodes) e₂.1 ∙ ap (λ (k : ℕ). replicate k 0) (length-drop c r.nodes ∙ ap₂ ◌-◌ long (sym used)) in
      let places : r.nodes ≡ l ++ replicate (32 - length l) 0 = sym (take-append-drop c r.nodes) ∙ ap (λ (q : List ℕ). l ++ q) rest in
      let stands : (y : ℕ) → 1 ≤ y → elem y r.nodes ≡ elem y l = λ y h. ap (elem y) places ∙ elem-padded y l (32 - length l) h in
      let held : (y : ℕ) → 1 ≤ y → y ≤ 32 → has (nodes_at 32 r.nodes) y ≡ elem y l = λ y h g.
      nodes-has 32 r.nodes y h g (omega (arith, long)) ∙ ap (elem y) (take_all 32 r.nodes (omega (arith, long))) ∙ stands y h in
      let kept : keep (has (nodes_at 32 r.nodes)) order ≡ l =
      front-keep n order table (nodes_at 32 r.nodes)
      ∙ keep_same (has (nodes_at 32 r.nodes)) (λ y. elem y l) (take n order) (λ y h. let g = table.within y h in held y g.0 (omega (arith, g.1, table.most)))
      ∙ part-keep l (take n order) table.once e₂.0 in
      record {
        fits = nodes-lt n 32 r.nodes (omega (arith, long)) (λ x h. small l e₂.0 stands x h) (pow_pos n);
        is = ap row_for kept ∙ sym (ap₂ {C = Row} (λ (k : ℕ) (q : List ℕ). record { length = k; nodes = q }) (sym used) places);
      }
    where
      small : (l : List ℕ) → is_part l (take n order) ≡ true → ((y : ℕ) → 1 ≤ y → elem y r.nodes ≡ elem y l) → (x : ℕ) → elem x r.nodes ≡ true → x ≤ n
      small l p q zero h = omega arith
      small l p q (suc i) h =
          by_cases (elem (suc i) (take n order))
          (λ d. (table.within (suc i) d).1)
          (λ d. absurd (true≢false (sym h ∙ q (suc i) (omega arith) ∙ part_elem l (take n order) (suc i) p d)))

  pub row_back : (r : Row) → sound_row n order r ≡ true → as_row order (as_set n order r) ≡ r
  row_back r e = ap (as_row order) (set_is n order r e) ∙ (back r e).is

  pub set-within : (r : Row) → within n (as_set n order r) ≡ sound_row n order r
  unfolding as_set
  set-within r =
      by_cases (sound_row n order r)
      (λ e. rw e (lt-ltb (nodes_in r) (2 ^ n) (back r e).fits))
      (λ e. rw e (le-ltb no_set (2 ^ n) (pow_mono {i = n} {j = 32} table.most)))

  -- Rows of sets are equal exactly if the sets are.
  pub same-row : (s s' : ℕ) → s < 2 ^ n → s' < 2 ^ n → same_row (as_row order s) (as_row order s') ≡ eqb s s'
  same-row s s' f f' =
      by_cases (eqb s s')
      (λ e. is_same (as_row order s) (as_row order s') (ap (as_row order) (eqb-true s s' e)) ∙ sym e)
      (λ e.
      by_cases (same_row (as_row order s) (as_row order s'))
      (λ d.
      let z : s ≡ s' = sym (nodes-row s f) ∙ ap nodes_in (same-is (as_row order s) (as_row order s') (places-full order s table.full) d) ∙ nodes-row s' f' in
      absurd (true≢false (sym (eq-eqb s s' z) ∙ e)))
      (λ d. d ∙ sym e))

-- ---- the members before a node

-- What the table of a cable is asked for, where node x is on it.
turns_at : (cable : Cable) (x : ℕ) → is_kept cable.n cable.order ≡ true → 1 ≤ x → x ≤ cable.n → Turns cable
turns_at cable x kept h l =
    let t : Table cable.n cable.order = table_of cable.n cable.order kept in
    record { some = omega (arith, h, l); most = t.most; ordered = t.ordered }

-- The j-th member before node x, by the rank of x and whether x is in, which are the same for every j.
back-row : (cable : Cable) → is_kept cable.n cable.order ≡ true → (s x : ℕ) → 1 ≤ x → x ≤ cable.n
    → (p : ℕ) (here : Bool) → p ≡ rank_in cable.order (as_row cable.order s) x → here ≡ has s x → (j : ℕ) → back_in (as_row cable.order s) p here j ≡ member_in (member_before cable s x j)
back-row cable kept s x h l p here rank own j = go (node-place n order t.ordered x h l)
  where
    n : ℕ
    n = cable.n

    order : List ℕ
    order = cable.order

    t : Table n order
    t = table_of n order kept

    turns : Turns cable
    turns = turns_at cable x kept h l

    go : (q : ℕ) × (1 ≤ q) × (q ≤ n) × (node_at order q ≡ x) → back_in (as_row order s) p here j ≡ member_in (member_before cable s x j)
    go (q, a, b, e) =
        let at : place order x ≡ q = ap (place order) (sym e) ∙ place_of n order t.ordered t.most q a b in
        let there : here ≡ has s (node_at order (place order x)) = own ∙ ap (has s) (sym (ap (node_at order) at ∙ e)) in
        ap (λ (k : ℕ). back_in (as_row order s) k here j) (rank ∙ rank_is cable turns t s x (omega (arith, at)) (omega (arith, at)))
        ∙ places-back cable turns t s (length-row n order kept s) (place order x) (omega (arith, at)) (omega (arith, at)) here there j
        ∙ sym (ap member_in (before-is cable turns s x j))

pub before-row : (cable : Cable) → is_kept cable.n cable.order ≡ true → (s x j : ℕ) → 1 ≤ x → x ≤ cable.n
    → before_row cable.order (as_row cable.order s) x j ≡ member_in (member_before cable s x j)
before-row cable kept s x j h l =
    back-row cable kept s x h l (rank_in cable.order (as_row cable.order s) x) (has_row (as_row cable.order s) x) refl (node_row cable.n cable.order kept s x h l) j
