-- Laws of the plain table (specs/Order): node p speaks at place p, it is what is kept of the numbers 1 to n, and it is a table as a record keeps it. Assumes nothing.
use Prim.Native.Nat.{ℕ, zero, suc, ◌+◌, ◌-◌, ◌^◌, ◌≤◌, ◌<◌, min}
use mathlib.Core.Path.{◌≡◌, refl, sym, ap, ◌∙◌}
use mathlib.Core.Bool.{true}
use mathlib.Core.List.{List, ◌∷◌, ◌++◌}
use native.Mathlib.Omega.{arith}
use native.Mathlib.Nat.{min-le_left}
use lib.ListN.{length, get_or, take, replicate, length-append, length-replicate, get_or-append}
use lib.Seq.{get_or-append-add}
use lib.Pow.{pow_pos}
use borrow.Author.Tests.{eq-eqb, le-leb}
use Rattle.nodeset.specs.Sets.{with, full}
use Rattle.nodeset.proofs.Tests.{all}
use Rattle.nodeset.proofs.Bits.{has-beyond}
use Rattle.nodeset.proofs.Laws.{with-new, full-lt}
use Rattle.slot_table.specs.Order.{node_at, nodes_at, is_order, spare_empty, is_kept, kept, numbers_from, plain, place}
use Rattle.slot_table.proofs.Entries.{node-entry}
use Rattle.slot_table.proofs.Places.{Ordered, ordered_of, kept-order, place_of}

pub count_of : (m i : ℕ) → length (numbers_from m i) ≡ m
unfolding numbers_from
count_of zero i = refl
count_of (suc m) i = ap suc (count_of m (suc i))

numbers-at : (m i x : ℕ) → x < m → get_or (numbers_from m i) x 0 ≡ i + x
unfolding numbers_from
numbers-at zero i x h = let z : ⊥ = omega arith in absurd z
numbers-at (suc m) i zero h = omega arith
numbers-at (suc m) i (suc x) h = numbers-at m (suc i) x (omega arith) ∙ omega arith

zeros : (m i : ℕ) → get_or {A = ℕ} (replicate m 0) i 0 ≡ 0
zeros zero i = refl
zeros (suc m) zero = refl
zeros (suc m) (suc i) = zeros m i

-- one node more
full-next : (m : ℕ) → m < 32 → with (full m) (suc m) ≡ full (suc m)
unfolding full
full-next m l =
    let a : min m 32 ≡ m = omega arith in
    let b : min (suc m) 32 ≡ suc m = omega arith in
    with-new (full m) m l (has-beyond m (full m) (suc m) (full-lt m) (omega arith))
    ∙ ap (λ (i : ℕ). 2 ^ i - 1 + 2 ^ m) a
    ∙ omega (arith, pow_pos m)
    ∙ ap (λ (i : ℕ). 2 ^ i - 1) (sym b)

take-numbers : (j m i : ℕ) → j ≤ m → take j (numbers_from m i) ≡ numbers_from j i
unfolding numbers_from
take-numbers zero m i h = refl
take-numbers (suc j) zero i h = let z : ⊥ = omega arith in absurd z
take-numbers (suc j) (suc m) i h = ap (λ (t : List ℕ). i ∷ t) (take-numbers j m (suc i) (omega arith))

-- what is kept of the table 1 to n
pub numbers-kept : (n : ℕ) → kept (numbers_from n 1) ≡ plain n
unfolding kept plain
numbers-kept n =
    ap (λ (l : ℕ). take (min l 32) (numbers_from n 1) ++ replicate (32 - min l 32) 0) (count_of n 1)
    ∙ ap (λ (t : List ℕ). t ++ replicate (32 - min n 32) 0) (take-numbers (min n 32) n 1 (min-le_left n 32))

module _ (n : ℕ) (most : n ≤ 32) where
  plain-is : plain n ≡ numbers_from n 1 ++ replicate (32 - n) 0
  unfolding plain
  plain-is = let z : min n 32 ≡ n = omega arith in ap (λ (m : ℕ). numbers_from m 1 ++ replicate (32 - m) 0) z

  pub plain_at : (p : ℕ) → 1 ≤ p → p ≤ n → node_at (plain n) p ≡ p
  plain_at p h l =
      node-entry (plain n) p h
      ∙ ap (λ (t : List ℕ). get_or t (p - 1) 0) plain-is
      ∙ get_or-append (numbers_from n 1) (replicate (32 - n) 0) 0 (p - 1) (omega (arith, count_of n 1))
      ∙ numbers-at n 1 (p - 1) (omega arith)
      ∙ omega arith

  plain-spare : (p : ℕ) → n < p → node_at (plain n) p ≡ 0
  plain-spare p h =
      let z : p - 1 ≡ length (numbers_from n 1) + (p - 1 - n) = omega (arith, count_of n 1) in
      node-entry (plain n) p (omega arith)
      ∙ ap (λ (t : List ℕ). get_or t (p - 1) 0) plain-is
      ∙ ap (λ (i : ℕ). get_or (numbers_from n 1 ++ replicate (32 - n) 0) i 0) z
      ∙ get_or-append-add (numbers_from n 1) (replicate (32 - n) 0) (p - 1 - n) 0
      ∙ zeros (32 - n) (p - 1 - n)

  nodes-plain : (m : ℕ) → m ≤ n → nodes_at m (plain n) ≡ full m
  unfolding nodes_at full
  nodes-plain zero h = refl
  nodes-plain (suc m) h =
      ap (with (nodes_at m (plain n))) (plain_at (suc m) (omega arith) h)
      ∙ ap (λ (s : ℕ). with s (suc m)) (nodes-plain m (omega arith))
      ∙ full-next m (omega arith)

  spare-plain : (m : ℕ) → spare_empty m n (plain n) ≡ true
  unfolding spare_empty
  spare-plain zero = refl
  spare-plain (suc m) = all (spare-plain m) (eq-eqb (node_at (plain n) (n + suc m)) 0 (plain-spare (n + suc m) (omega arith)))

  pub plain-kept : is_kept n (plain n) ≡ true
  unfolding is_kept is_order
  plain-kept =
      all (eq-eqb (length (plain n)) 32 long)
      (all (all (le-leb n 32 most) (eq-eqb (nodes_at n (plain n)) (full n) (nodes-plain n (omega arith)))) (spare-plain (32 - n)))
    where
      long : length (plain n) ≡ 32
      long =
          ap (λ (t : List ℕ). length t) plain-is
          ∙ length-append (numbers_from n 1) (replicate (32 - n) 0)
          ∙ omega (arith, count_of n 1, length-replicate {A = ℕ} (32 - n) 0)

  pub plain-ordered : Ordered n (plain n)
  plain-ordered = ordered_of n (plain n) (kept-order n (plain n) plain-kept)

  pub plain-place : (x : ℕ) → 1 ≤ x → x ≤ n → place (plain n) x ≡ x
  plain-place x h l = ap (place (plain n)) (sym (plain_at x h l)) ∙ place_of n (plain n) plain-ordered most x h l
