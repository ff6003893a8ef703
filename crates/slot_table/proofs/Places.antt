-- Laws of a slot table (specs/Order): at n places that hold all n nodes each stands once; so each place has a node, each node a place, and a sum over the places is the sum over the nodes.
-- Assumes nothing.
use Prim.Native.Nat.{ℕ, zero, suc, ◌+◌, ◌-◌, ◌^◌, ◌≤◌, ◌<◌}
use mathlib.Core.Path.{◌≡◌, refl, sym, ap, ◌∙◌}
use mathlib.Core.Logic.{◌≢◌}
use mathlib.Core.Bool.{Bool, true, false, cond, ◌&&◌, true≢false}
use mathlib.Core.List.{List}
use native.Mathlib.Omega.{arith}
use native.Mathlib.Decide.{ℕ_discrete, dec_lt}
use lib.Dec.{eqb, leb}
use lib.ListN.{length}
use lib.Pow.{pow_pos}
use borrow.Author.Tests.{eqb-true, eq-eqb, ne_eqb, leb-true, le-leb}
use Rattle.nodeset.specs.Sums.{sum, num}
use Rattle.nodeset.specs.Sets.{has, with, full}
use Rattle.nodeset.proofs.Tests.{both, all}
use Rattle.nodeset.proofs.Sums.{sum-none, sum-next, sum_same, sum-at, sum-zero}
use Rattle.nodeset.proofs.Bits.{has-none}
use Rattle.nodeset.proofs.Laws.{has-full, full-lt, has-with, has-with-other, with-lt, set-ext}
use Rattle.slot_table.specs.Order.{node_at, nodes_at, is_order, spare_empty, is_kept, place_from, place}
use Rattle.slot_table.proofs.Sums.{sum-single, sum-some, sum-two, sum-all, sum-least, sum-swap}

num-yes : (b : Bool) → 1 ≤ num b → b ≡ true
num-yes true h = refl
num-yes false h = absurd (elim h [ ])

-- how many of the first n places are those of node x
unfoldable pub standing : ℕ → List ℕ → ℕ → ℕ
standing n order x = sum (λ p. num (eqb x (node_at order p))) 1 n

-- each node has one place
abbrev pub Ordered : ℕ → List ℕ → Type 0
Ordered n order = (x : ℕ) → 1 ≤ x → x ≤ n → standing n order x ≡ 1

-- one number is met once at the most
once : (y a m : ℕ) → sum (λ x. num (eqb x y)) a m ≤ 1
once y a zero = omega (arith, sum-none (λ x. num (eqb x y)) a)
once y a (suc m) = go (once y a m) (ℕ_discrete (a + m) y)
  where
    f : ℕ → ℕ
    f = λ x. num (eqb x y)

    go : sum (λ x. num (eqb x y)) a m ≤ 1 → Dec (a + m ≡ y) → sum (λ x. num (eqb x y)) a (suc m) ≤ 1
    go r (yes e) = omega (arith, sum-next f a m, ap num (eq-eqb (a + m) y e), sum-zero f a m (λ u p q. ap num (ne_eqb u y (λ z. let w : ⊥ = omega arith in w))))
    go r (no e) = omega (arith, sum-next f a m, ap num (ne_eqb (a + m) y e), r)

-- whoever is among the nodes of the first places stands at one of them
found : (n : ℕ) (order : List ℕ) (m x : ℕ) → m ≤ n → has (nodes_at m order) x ≡ true → 1 ≤ standing n order x
unfolding nodes_at standing
found n order zero x h e = absurd (true≢false (sym e ∙ has-none x))
found n order (suc m) x h e = go (λ (q : has (nodes_at m order) x ≡ true). found n order m x (omega arith) q) (ℕ_discrete (node_at order (suc m)) x)
  where
    f : ℕ → ℕ
    f = λ p. num (eqb x (node_at order p))

    go : (has (nodes_at m order) x ≡ true → 1 ≤ sum (λ p. num (eqb x (node_at order p))) 1 n) → Dec (node_at order (suc m) ≡ x) → 1 ≤ sum (λ p. num (eqb x (node_at order p))) 1 n
    go r (yes z) = omega (arith, sum-at f 1 n (suc m) (omega arith) (omega arith), ap num (eq-eqb x (node_at order (suc m)) (sym z)))
    go r (no z) = r (sym (has-with-other (nodes_at m order) (node_at order (suc m)) x z) ∙ e)

-- n places that hold all n nodes hold each once
pub ordered_of : (n : ℕ) (order : List ℕ) → is_order n order ≡ true → Ordered n order
unfolding is_order standing
ordered_of n order e x h l =
    let t : (leb n 32 ≡ true) × (eqb (nodes_at n order) (full n) ≡ true) = both (leb n 32) (eqb (nodes_at n order) (full n)) e in
    let all : n ≤ 32 = leb-true n 32 t.0 in
    let some : (x : ℕ) → 1 ≤ x → x ≤ n → 1 ≤ standing n order x
    = λ x h l. found n order n x (omega arith) (ap (λ (s : ℕ). has s x) (eqb-true (nodes_at n order) (full n) t.1) ∙ has-full n x h l (omega (arith, all, l))) in
    let least : n + standing n order x ≤ suc (sum (standing n order) 1 n) = sum-least (standing n order) 1 n x (λ u a b. some u a (omega (arith, b))) h (omega (arith, l)) in
    omega (arith, some x h l, least, sum-swap (λ x p. num (eqb x (node_at order p))) 1 n 1 n, few n)
  where
    few : (m : ℕ) → sum (λ p. sum (λ x. num (eqb x (node_at order p))) 1 n) 1 m ≤ m
    few zero = omega (arith, sum-none (λ p. sum (λ x. num (eqb x (node_at order p))) 1 n) 1)
    few (suc m) = omega (arith, sum-next (λ p. sum (λ x. num (eqb x (node_at order p))) 1 n) 1 m, few m, once (node_at order (1 + m)) 1 n)

-- a kept table is one
pub kept-order : (n : ℕ) (order : List ℕ) → is_kept n order ≡ true → is_order n order ≡ true
unfolding is_kept
kept-order n order e =
    (both (is_order n order) (spare_empty (32 - n) n order) (both (eqb (length order) 32) (is_order n order && spare_empty (32 - n) n order) e).1).0

pub kept-length : (n : ℕ) (order : List ℕ) → is_kept n order ≡ true → length order ≡ 32
unfolding is_kept
kept-length n order e = eqb-true (length order) 32 (both (eqb (length order) 32) (is_order n order && spare_empty (32 - n) n order) e).0

-- a node that stands at none of the places before place q is found there
found-at : (left : ℕ) (order : List ℕ) (p q : ℕ) → p ≤ q → q < p + left → ((r : ℕ) → p ≤ r → r < q → node_at order r ≢ node_at order q) → place_from left order (node_at order q) p ≡ q
unfolding place_from
found-at zero order p q h l ne = let z : ⊥ = omega arith in absurd z
found-at (suc left) order p q h l ne = go (λ (r : p < q). found-at left order (suc p) q r (omega arith) (λ u a b. ne u (omega arith) b)) (ℕ_discrete p q)
  where
    go : (p < q → place_from left order (node_at order q) (suc p) ≡ q) → Dec (p ≡ q) → cond (eqb (node_at order p) (node_at order q)) p (place_from left order (node_at order q) (suc p)) ≡ q
    go r (yes e) = rw (eq-eqb (node_at order p) (node_at order q) (ap (node_at order) e)) e
    go r (no e) = rw (ne_eqb (node_at order p) (node_at order q) (ne p (omega arith) (omega arith))) (r (omega arith))

module _ (n : ℕ) (order : List ℕ) (ordered : Ordered n order) where
  -- at each place there is a node
  pub node-range : (p : ℕ) → 1 ≤ p → p ≤ n → (1 ≤ node_at order p) × (node_at order p ≤ n)
  unfolding standing
  node-range p h l = go (sum-some (f p) 1 n (sum-all (λ q. sum (f q) 1 n) 1 n (λ q. once (node_at order q) 1 n) many p h (omega arith)))
    where
      f : ℕ → ℕ → ℕ
      f = λ p x. num (eqb x (node_at order p))

      one_each : (m : ℕ) → m ≤ n → m ≤ sum (λ x. sum (λ p. f p x) 1 n) 1 m
      one_each zero q = omega arith
      one_each (suc m) q = omega (arith, sum-next (λ x. sum (λ p. f p x) 1 n) 1 m, one_each m (omega arith), ordered (1 + m) (omega arith) (omega arith))

      many : n ≤ sum (λ p. sum (f p) 1 n) 1 n
      many = omega (arith, sum-swap f 1 n 1 n, one_each n (omega arith))

      go : (x : ℕ) × (1 ≤ x) × (x < 1 + n) × (1 ≤ f p x) → (1 ≤ node_at order p) × (node_at order p ≤ n)
      go (x, a, b, c) =
          let e : x ≡ node_at order p = eqb-true x (node_at order p) (num-yes _ c) in
          (omega arith, omega arith)

  -- each node has a place
  pub node-place : (x : ℕ) → 1 ≤ x → x ≤ n → (p : ℕ) × (1 ≤ p) × (p ≤ n) × (node_at order p ≡ x)
  unfolding standing
  node-place x h l = go (sum-some (λ p. num (eqb x (node_at order p))) 1 n (omega (arith, ordered x h l)))
    where
      go : (p : ℕ) × (1 ≤ p) × (p < 1 + n) × (1 ≤ num (eqb x (node_at order p))) → (p : ℕ) × (1 ≤ p) × (p ≤ n) × (node_at order p ≡ x)
      go (p, a, b, c) = (p, a, omega arith, sym (eqb-true x (node_at order p) (num-yes _ c)))

  -- and one only
  node-once : (p q : ℕ) → 1 ≤ p → p < q → q ≤ n → node_at order p ≢ node_at order q
  unfolding standing
  node-once p q h l i e =
      let x : ℕ = node_at order p in
      let f : ℕ → ℕ = λ r. num (eqb x (node_at order r)) in
      let r = node-range p h (omega arith) in
      omega (arith, ap num (eq-eqb x (node_at order p) refl), ap num (eq-eqb x (node_at order q) e), sum-two f 1 n p q h l (omega arith), ordered x r.0 r.1)

  pub same_place : (p q : ℕ) → 1 ≤ p → p ≤ n → 1 ≤ q → q ≤ n → node_at order p ≡ node_at order q → p ≡ q
  same_place p q a b c d e = go (dec_lt p q) (dec_lt q p)
    where
      go : Dec (p < q) → Dec (q < p) → p ≡ q
      go (yes h) _ = absurd (node-once p q a h d e)
      go (no h) (yes i) = absurd (node-once q p c i b (sym e))
      go (no h) (no i) = omega arith

  pub place_of : n ≤ 32 → (p : ℕ) → 1 ≤ p → p ≤ n → place order (node_at order p) ≡ p
  unfolding place
  place_of most p h l = found-at 32 order 1 p h (omega arith) (λ r a b. node-once r p a b l)

  -- a sum over the places is the sum over the nodes
  pub over-nodes : (f : ℕ → ℕ) → sum (λ p. f (node_at order p)) 1 n ≡ sum f 1 n
  over-nodes f =
      sum_same (λ p. f (node_at order p)) (λ p. sum (g p) 1 n) 1 n (λ p a b. sym (by-node p a (omega arith)))
      ∙ sum-swap g 1 n 1 n
      ∙ sum_same (λ x. sum (λ p. g p x) 1 n) f 1 n (λ x a b. by_place x (node-place x a (omega arith)))
    where
      g : ℕ → ℕ → ℕ
      g = λ p x. cond (eqb x (node_at order p)) (f x) 0

      by-node : (p : ℕ) → 1 ≤ p → p ≤ n → sum (g p) 1 n ≡ f (node_at order p)
      by-node p h l =
          let y : ℕ = node_at order p in
          let r = node-range p h l in
          sum-single (g p) 1 n y r.0 (omega (arith, r.1)) (λ u a b ne. ap (λ (w : Bool). cond w (f u) 0) (ne_eqb u y ne))
          ∙ ap (λ (w : Bool). cond w (f y) 0) (eq-eqb y y refl)

      by_place : (x : ℕ) → (p : ℕ) × (1 ≤ p) × (p ≤ n) × (node_at order p ≡ x) → sum (λ p. g p x) 1 n ≡ f x
      by_place x (p, a, b, e) =
          sum-single (λ q. g q x) 1 n p a (omega arith)
          (λ u c d ne. ap (λ (w : Bool). cond w (f x) 0) (ne_eqb x (node_at order u) (λ q. ne (same_place u p c (omega arith) a b (sym q ∙ sym e)))))
          ∙ ap (λ (w : Bool). cond w (f x) 0) (eq-eqb x (node_at order p) (sym e))

  nodes-within : (m : ℕ) → m ≤ n → nodes_at m order < 2 ^ n
  unfolding nodes_at
  nodes-within zero h = pow_pos n
  nodes-within (suc m) h = with-lt n (nodes_at m order) (node_at order (suc m)) (node-range (suc m) (omega arith) h).1 (nodes-within m (omega arith))

  -- whoever stands at one of the first m places is among their nodes
  held : n ≤ 32 → (m p : ℕ) → m ≤ n → 1 ≤ p → p ≤ m → has (nodes_at m order) (node_at order p) ≡ true
  unfolding nodes_at
  held most zero p h a b = let z : ⊥ = omega arith in absurd z
  held most (suc m) p h a b = go (λ (q : p ≤ m). held most m p (omega arith) a q) (ℕ_discrete (node_at order (suc m)) (node_at order p)) (ℕ_discrete p (suc m))
    where
      go : (p ≤ m → has (nodes_at m order) (node_at order p) ≡ true) → Dec (node_at order (suc m) ≡ node_at order p) → Dec (p ≡ suc m)
          → has (with (nodes_at m order) (node_at order (suc m))) (node_at order p) ≡ true
      go r (yes e) _ =
          let t = node-range p a (omega arith) in
          ap (λ (x : ℕ). has (with (nodes_at m order) x) (node_at order p)) e ∙ has-with (nodes_at m order) (node_at order p) t.0 (omega (arith, t.1))
      go r (no e) (yes q) = absurd (e (ap (node_at order) (sym q)))
      go r (no e) (no q) = has-with-other (nodes_at m order) (node_at order (suc m)) (node_at order p) e ∙ r (omega arith)

-- so that n places hold each of n nodes once just where they hold them all
pub order-of : (n : ℕ) (order : List ℕ) → n ≤ 32 → Ordered n order → is_order n order ≡ true
unfolding is_order
order-of n order most ordered =
    all (le-leb n 32 most) (eq-eqb (nodes_at n order) (full n) (set-ext n (nodes_at n order) (full n) (nodes-within n order ordered n (omega arith)) (full-lt n) same))
  where
    same : (x : ℕ) → 1 ≤ x → x ≤ n → has (nodes_at n order) x ≡ has (full n) x
    same x h l = go (node-place n order ordered x h l) ∙ sym (has-full n x h l (omega arith))
      where
        go : (p : ℕ) × (1 ≤ p) × (p ≤ n) × (node_at order p ≡ x) → has (nodes_at n order) x ≡ true
        go (p, a, b, e) = ap (has (nodes_at n order)) (sym e) ∙ held n order ordered most n p (omega arith) a b
