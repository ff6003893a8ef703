-- A slot table that is kept (slot_table's specs/Order), as a list: its first n places hold each node once, the others 0. Assumes nothing.
use Prim.Native.Nat.{ℕ, zero, suc, ◌+◌, ◌-◌, ◌≤◌, ◌<◌}
use mathlib.Core.Path.{◌≡◌, sym, ap, ◌∙◌}
use mathlib.Core.Bool.{true, ◌&&◌}
use mathlib.Core.List.{List, ◌++◌}
use native.Mathlib.Omega.{arith}
use native.Mathlib.Decide.{ℕ_discrete}
use lib.Dec.{eqb, leb}
use lib.ListN.{length, take, drop, get_or, replicate, length-drop, length-replicate, get_or-replicate, take-append-drop}
use lib.Seq.{length-take-le, get_or-take, get_or-drop, ext_get_or}
use borrow.Author.Tests.{eqb-true, leb-true}
use Rattle.ring_laws.specs.nodeset.Sets.{full}
use Rattle.ring_laws.proofs.nodeset.Tests.{both}
use Rattle.ring_laws.specs.slot_table.Order.{node_at, nodes_at, is_order, spare_empty, is_kept}
use Rattle.ring_laws.proofs.slot_table.Places.{Ordered, ordered_of, kept-order, kept-length, node-range, node-place, same_place}
use Rattle.row.specs.Inner.{elem}
use Rattle.row.proofs.Lists.{elem_at, elem-index, elem-padded, apart, is-apart}

-- What a kept table is.
pub record Table (n : ℕ) (t : List ℕ) : Type 0 where
  pub full : length t ≡ 32
  pub most : n ≤ 32
  pub ordered : Ordered n t
  pub spare : t ≡ take n t ++ replicate (32 - n) 0
  pub within : (x : ℕ) → elem x (take n t) ≡ true → (1 ≤ x) × (x ≤ n)
  pub whole : (x : ℕ) → 1 ≤ x → x ≤ n → elem x (take n t) ≡ true
  pub once : apart (take n t) ≡ true
  pub beyond : (d : ℕ) → d < 32 - n → get_or t (n + d) 0 ≡ 0

order-most : (n : ℕ) (t : List ℕ) → is_order n t ≡ true → n ≤ 32
unfolding is_order
order-most n t e = leb-true n 32 (both (leb n 32) (eqb (nodes_at n t) (full n)) e).0

-- a place after place n
spare-at : (m n : ℕ) (t : List ℕ) → spare_empty m n t ≡ true → (i : ℕ) → i < m → get_or t (n + i) 0 ≡ 0
unfolding spare_empty node_at
spare-at zero n t e i h = let z : ⊥ = omega arith in absurd z
spare-at (suc m) n t e i h =
    let b = both (spare_empty m n t) (eqb (node_at t (n + suc m)) 0) e in
    go (λ (l : i < m). spare-at m n t b.0 i l) (eqb-true (node_at t (n + suc m)) 0 b.1) (ℕ_discrete i m)
  where
    go : (i < m → get_or t (n + i) 0 ≡ 0) → node_at t (n + suc m) ≡ 0 → Dec (i ≡ m) → get_or t (n + i) 0 ≡ 0
    go r s (yes q) = let z : suc (n + i) ≡ n + suc m = omega arith in ap (node_at t) z ∙ s
    go r s (no q) = r (omega arith)

module _ (n : ℕ) (t : List ℕ) (e : is_kept n t ≡ true) where
  full-here : length t ≡ 32
  full-here = kept-length n t e

  most-here : n ≤ 32
  most-here = order-most n t (kept-order n t e)

  ordered-here : Ordered n t
  ordered-here = ordered_of n t (kept-order n t e)

  long : length (take n t) ≡ n
  long = length-take-le n t (omega (arith, full-here, most-here))

  beyond-here : (d : ℕ) → d < 32 - n → get_or t (n + d) 0 ≡ 0
  unfolding is_kept
  beyond-here d h =
      let b = both (eqb (length t) 32) (is_order n t && spare_empty (32 - n) n t) e in
      spare-at (32 - n) n t (both (is_order n t) (spare_empty (32 - n) n t) b.1).1 d h

  spare-here : drop n t ≡ replicate (32 - n) 0
  spare-here =
      let l : length (drop n t) ≡ 32 - n = length-drop n t ∙ ap (λ (k : ℕ). k - n) full-here in
      ext_get_or 0 (drop n t) (replicate (32 - n) 0) (l ∙ sym (length-replicate {A = ℕ} (32 - n) 0))
      (λ i h. get_or-drop n t i 0 ∙ beyond-here i (omega (arith, l)) ∙ sym (get_or-replicate (32 - n) i 0 0 (omega (arith, l))))

  -- entry i is the node at place i + 1
  entry : (i : ℕ) → i < n → get_or (take n t) i 0 ≡ node_at t (suc i)
  unfolding node_at
  entry i h = get_or-take n t i 0 h

  pub table_of : Table n t
  table_of = record {
    full = full-here;
    most = most-here;
    ordered = ordered-here;
    spare = sym (take-append-drop n t) ∙ ap (λ (l : List ℕ). take n t ++ l) spare-here;
    within = λ x h.
        let r = elem-index x (take n t) h in
        let b = node-range n t ordered-here (suc r.0) (omega arith) (omega (arith, r.1, long)) in
        let z : node_at t (suc r.0) ≡ x = sym (entry r.0 (omega (arith, r.1, long))) ∙ r.2 in
        (omega (arith, b.0, z), omega (arith, b.1, z));
    whole = λ x h l. stands x (node-place n t ordered-here x h l);
    once = is-apart (take n t) (λ i j p q z.
        let y : suc i ≡ suc j = same_place n t ordered-here (suc i) (suc j) (omega arith) (omega (arith, q, long)) (omega arith) (omega (arith, q, long)) (sym (entry i (omega (arith, q, long))) ∙ z ∙ entry j (omega (arith, q, long))) in
        omega (arith, y, p));
    beyond = beyond-here;
  }
    where
      stands : (x : ℕ) → (p : ℕ) × (1 ≤ p) × (p ≤ n) × (node_at t p ≡ x) → elem x (take n t) ≡ true
      stands x (zero, a, b, c) = absurd (elim a [ ])
      stands x (suc i, a, b, c) =
          ap (λ (y : ℕ). elem y (take n t)) (sym (entry i b ∙ c)) ∙ elem_at (take n t) i (omega (arith, long))

-- ---- what follows

module _ (n : ℕ) (t : List ℕ) (b : Table n t) where
  pub front_long : length (take n t) ≡ n
  front_long = length-take-le n t (omega (arith, b.full, b.most))

  -- a node stands in the table
  pub front-elem : (x : ℕ) → 1 ≤ x → elem x t ≡ elem x (take n t)
  front-elem x h = ap (elem x) b.spare ∙ elem-padded x (take n t) (32 - n) h
