-- The row of a set (row's specs/Rows): what stands in it, how long it is, and how it stands beside its table (row's specs/Inner). Assumes nothing.
use Prim.Native.Nat.{ℕ, zero, suc, ◌+◌, ◌-◌, ◌^◌, ◌≤◌, ◌<◌}
use mathlib.Core.Path.{◌≡◌, refl, sym, ap, ap₂, ◌∙◌}
use mathlib.Core.Logic.{◌≢◌}
use mathlib.Core.Bool.{Bool, true, false, not, ◌&&◌, ◌||◌, true≢false, and-true, and-false, or-true, or-false}
use mathlib.Core.List.{List, [], ◌∷◌, ◌++◌, append_assoc}
use native.Mathlib.Omega.{arith}
use native.Mathlib.Numerals.{add-one}
use native.Mathlib.Nat.{add-zero}
use lib.Dec.{eqb}
use lib.ListN.{length, take, drop, get_or, replicate, length-append, length-replicate, take-append-drop}
use lib.Seq.{drop-cons, get_or-append-add}
use borrow.Author.Tests.{eq-eqb, ne_eqb, eqb-true, eqb-false}
use Rattle.ring_laws.specs.nodeset.Sums.{sum, num}
use Rattle.ring_laws.specs.nodeset.Sets.{has, with, without}
use Rattle.ring_laws.proofs.nodeset.Tests.{by_cases, both}
use Rattle.ring_laws.proofs.nodeset.Sums.{sum-none, sum-next}
use Rattle.ring_laws.proofs.nodeset.Bits.{has-none}
use Rattle.ring_laws.proofs.nodeset.Laws.{has-with, has-with-other, has-without, has-without-other, has-range, with-lt}
use Rattle.ring_laws.specs.slot_table.Order.{node_at, nodes_at}
use Rattle.row.specs.Rows.{row_for, keep, as_row}
use Rattle.row.specs.Inner.{elem, stays, is_next, passed, one}
use Rattle.row.proofs.Lists.{elem-padded, elem_next, elem_at, keep_append, keep-next, keep-padded, elem-keep, keep-length}
use Rattle.row_laws.proofs.Tables.{Table, front_long, front-elem}

-- 0 is in no set
none-at-0 : (s : ℕ) → has s 0 ≡ false
unfolding has
none-at-0 s = refl

row-full : (l : List ℕ) → length l ≤ 32 → length (row_for l).nodes ≡ 32
row-full l h = omega (arith, length-append l (replicate (32 - length l) 0), length-replicate {A = ℕ} (32 - length l) 0)

-- ---- the set of the nodes at some places

has-with-is : (s x y : ℕ) → 1 ≤ y → y ≤ 32 → has (with s x) y ≡ (has s y || eqb x y)
has-with-is s x y h l =
    by_cases (eqb x y)
    (λ e. ap (λ (z : ℕ). has (with s z) y) (eqb-true x y e) ∙ has-with s y h l ∙ sym (ap (λ (b : Bool). has s y || b) e ∙ or-true (has s y)))
    (λ e. has-with-other s x y (eqb-false x y e) ∙ sym (ap (λ (b : Bool). has s y || b) e ∙ or-false (has s y)))

pub nodes-has : (m : ℕ) (l : List ℕ) (y : ℕ) → 1 ≤ y → y ≤ 32 → m ≤ length l → has (nodes_at m l) y ≡ elem y (take m l)
unfolding nodes_at node_at
nodes-has zero l y h k g = has-none y
nodes-has (suc m) l y h k g =
    has-with-is (nodes_at m l) (get_or l m 0) y h k
    ∙ ap (λ (b : Bool). b || eqb (get_or l m 0) y) (nodes-has m l y h k (omega arith))
    ∙ sym (elem_next y m l (omega arith))
    ∙ ap (λ (i : ℕ). elem y (take i l)) (add-one m)

pub nodes-lt : (n m : ℕ) (l : List ℕ) → m ≤ length l → ((x : ℕ) → elem x l ≡ true → x ≤ n) → 0 < 2 ^ n → nodes_at m l < 2 ^ n
unfolding nodes_at node_at
nodes-lt n zero l g h p = p
nodes-lt n (suc m) l g h p = with-lt n (nodes_at m l) (get_or l m 0) (h (get_or l m 0) (elem_at l m (omega arith))) (nodes-lt n m l (omega arith) h p)

-- ---- who stays

pub has-stays : (s x m : ℕ) → (has s m && stays x m) ≡ has (without s x) m
has-stays s x m =
    by_cases (eqb m x)
    (λ e.
    rw e (ap (λ (b : Bool). has s m && b) (and-false (not (eqb m 0))) ∙ and-false (has s m)
    ∙ sym (ap (has (without s x)) (eqb-true m x e) ∙ has-without s x)))
    (λ e.
    rw e (ap (λ (b : Bool). has s m && b) (and-true (not (eqb m 0))) ∙ nonzero (eqb m 0) refl
    ∙ sym (has-without-other s x m (λ z. eqb-false m x e (sym z)))))
  where
    nonzero : (b : Bool) → eqb m 0 ≡ b → (has s m && not b) ≡ has s m
    nonzero true e = and-false (has s m) ∙ sym (ap (has s) (eqb-true m 0 e) ∙ none-at-0 s)
    nonzero false e = and-true (has s m)

-- ---- a list beside what is kept of it

-- where m is not kept, it is not the first of what is
first-other : (f : ℕ → Bool) (m : ℕ) (l : List ℕ) (k : ℕ) → f m ≡ false → m ≢ 0 → eqb (get_or (keep f l ++ replicate k 0) 0 0) m ≡ false
first-other f m [] zero e h = ne_eqb 0 m (λ z. h (sym z))
first-other f m [] (suc k) e h = ne_eqb 0 m (λ z. h (sym z))
first-other f m (y ∷ l) k e h =
    by_cases (f y)
    (λ d. rw d (ne_eqb y m (λ z. true≢false (sym d ∙ ap f z ∙ e))))
    (λ d. rw d (first-other f m l k e h))

-- the place that is reached holds m exactly if m is kept
next-is : (f : ℕ → Bool) → f 0 ≡ false → (t : List ℕ) (i k : ℕ) → i < length t
    → is_next (get_or t i 0) (get_or (keep f t ++ replicate k 0) (length (keep f (take i t))) 0) ≡ f (get_or t i 0)
next-is f z t i k h =
    let m : ℕ = get_or t i 0 in
    let a : List ℕ = keep f (take i t) in
    let parts : keep f t ++ replicate k 0 ≡ a ++ (keep f (drop i t) ++ replicate k 0) =
    ap (λ (l : List ℕ). keep f l ++ replicate k 0) (sym (take-append-drop i t))
    ∙ ap (λ (l : List ℕ). l ++ replicate k 0) (keep_append f (take i t) (drop i t))
    ∙ append_assoc a (keep f (drop i t)) (replicate k 0) in
    let at : get_or (keep f t ++ replicate k 0) (length a) 0 ≡ get_or (keep f (m ∷ drop (suc i) t) ++ replicate k 0) 0 0 =
    ap₂ (λ (l : List ℕ) (j : ℕ). get_or l j 0) parts (sym (add-zero (length a)))
    ∙ get_or-append-add a (keep f (drop i t) ++ replicate k 0) 0 0
    ∙ ap (λ (l : List ℕ). get_or (keep f l ++ replicate k 0) 0 0) (drop-cons t i 0 h) in
    by_cases (f m)
    (λ e. rw at (rw e (rw (eq-eqb m m refl, ne_eqb m 0 (λ y. true≢false (sym e ∙ ap f y ∙ z))) refl)))
    (λ e. rw at (rw e (by_cases (eqb m 0) (λ y. rw y refl) (λ y. rw y (first-other f m (drop (suc i) t) k e (eqb-false m 0 y))))))

-- ---- the row of a set, beside a table of 32 places

module _ (t : List ℕ) (s : ℕ) where
  nodes-are : (as_row t s).nodes ≡ keep (has s) t ++ replicate (32 - length (keep (has s) t)) 0
  unfolding as_row
  nodes-are = refl

  pub length-is : (as_row t s).length ≡ length (keep (has s) t)
  unfolding as_row
  length-is = refl

  module _ (full : length t ≡ 32) where
    pub places-full : length (as_row t s).nodes ≡ 32
    places-full = ap length nodes-are ∙ row-full (keep (has s) t) (omega (arith, keep-length (has s) t, full))

    -- how many are kept of the first places
    abbrev pub ranked : ℕ → ℕ
    ranked i = length (keep (has s) (take i t))

    ranked-next : (i : ℕ) → i < 32 → ranked (suc i) ≡ ranked i + num (has s (get_or t i 0))
    ranked-next i h =
        ap ranked (sym (add-one i)) ∙ ap length (keep-next (has s) i t (omega (arith, full)))
        ∙ length-append (keep (has s) (take i t)) (one (has s (get_or t i 0)) (get_or t i 0))
        ∙ ap (λ (k : ℕ). ranked i + k) (single (has s (get_or t i 0)))
      where
        single : (b : Bool) → length (one b (get_or t i 0)) ≡ num b
        single true = refl
        single false = refl

    -- as a sum over places
    pub ranked-sum : (i : ℕ) → i ≤ 32 → ranked i ≡ sum (λ p. num (has s (node_at t p))) 1 i
    unfolding node_at
    ranked-sum zero h = sym (sum-none (λ p. num (has s (node_at t p))) 1)
    ranked-sum (suc i) h =
        let f : ℕ → ℕ = λ p. num (has s (node_at t p)) in
        let z : suc i ≡ 1 + i = omega arith in
        ranked-next i h ∙ ap₂ (λ (k p : ℕ). k + f p) (ranked-sum i (omega arith)) z ∙ sym (sum-next f 1 i)

    -- table and row side by side: the place reached holds the table's node exactly if the set has it
    next_here : (i : ℕ) → i < 32 → is_next (get_or t i 0) (get_or (as_row t s).nodes (ranked i) 0) ≡ has s (get_or t i 0)
    next_here i h =
        ap (λ (l : List ℕ). is_next (get_or t i 0) (get_or l (ranked i) 0)) nodes-are
        ∙ next-is (has s) (none-at-0 s) t i (32 - length (keep (has s) t)) (omega (arith, full))

    pub passed_is : (i : ℕ) → i ≤ 32 → passed i t (as_row t s).nodes ≡ ranked i
    unfolding passed
    passed_is zero h = refl
    passed_is (suc i) h =
        ap (λ (p : ℕ). p + num (is_next (get_or t i 0) (get_or (as_row t s).nodes p 0))) (passed_is i (omega arith))
        ∙ ap (λ (b : Bool). ranked i + num b) (next_here i h)
        ∙ sym (ranked-next i h)

    -- a member's place in the row
    pub ranked-at : (i : ℕ) → i < 32 → has s (get_or t i 0) ≡ true → get_or (as_row t s).nodes (ranked i) 0 ≡ get_or t i 0
    ranked-at i h e =
        let y : ℕ = get_or (as_row t s).nodes (ranked i) 0 in
        eqb-true y (get_or t i 0) (both (not (eqb (get_or t i 0) 0)) (eqb y (get_or t i 0)) (next_here i h ∙ e)).1

-- ---- the row of a set, in a ring of n

module _ (n : ℕ) (t : List ℕ) (b : Table n t) (s : ℕ) where
  -- only the first n places count
  pub front-keep : keep (has s) t ≡ keep (has s) (take n t)
  front-keep = ap (keep (has s)) b.spare ∙ keep-padded (has s) (take n t) (32 - n) (none-at-0 s)

  pub members-most : (as_row t s).length ≤ n
  members-most = omega (arith, length-is t s, ap length front-keep, keep-length (has s) (take n t), front_long n t b)

  -- search, for a node of the table
  row-elem : (x : ℕ) → 1 ≤ x → elem x (as_row t s).nodes ≡ (elem x (take n t) && has s x)
  row-elem x h =
      ap (elem x) (nodes-are t s)
      ∙ elem-padded x (keep (has s) t) (32 - length (keep (has s) t)) h
      ∙ elem-keep x (has s) t
      ∙ ap (λ (c : Bool). c && has s x) (front-elem n t b x h)

  pub node-elem : (x : ℕ) → 1 ≤ x → x ≤ n → elem x (as_row t s).nodes ≡ has s x
  node-elem x h l = row-elem x h ∙ ap (λ (c : Bool). c && has s x) (b.whole x h l)

  -- for any number
  pub set-elem : s < 2 ^ n → (x : ℕ) → 1 ≤ x → elem x (as_row t s).nodes ≡ has s x
  set-elem f x h =
      row-elem x h
      ∙ by_cases (has s x)
      (λ e. let g = has-range n s x f e in rw (e, b.whole x g.0 g.1) refl)
      (λ e. rw e (and-false (elem x (take n t))))

  -- what stands there is 0 or a node
  pub row_small : (x : ℕ) → elem x (as_row t s).nodes ≡ true → x ≤ n
  row_small zero e = omega arith
  row_small (suc i) e = (b.within (suc i) (both (elem (suc i) (take n t)) (has s (suc i)) (sym (row-elem (suc i) (omega arith)) ∙ e)).0).1
