-- What one place more adds to what the loops of the code have: the row that is built, the places of the row that are passed beside the table, the tests of soundness (specs/Inner).
-- Assumes nothing.
use Prim.Native.Nat.{ℕ, zero, suc, ◌+◌, ◌-◌, ◌≤◌, ◌<◌}
use mathlib.Core.Path.{◌≡◌, refl, sym, ap, ap₂, ◌∙◌}
use mathlib.Core.Bool.{Bool, true, false, cond, ◌&&◌, ◌||◌, and-true}
use mathlib.Core.List.{List, [], ◌∷◌, ◌++◌, append-nil}
use native.Mathlib.Omega.{arith}
use native.Mathlib.Numerals.{add-one}
use native.Mathlib.Decide.{dec_lt}
use lib.Dec.{eqb, ltb}
use lib.ListN.{length, take, drop, get_or, set, replicate, length-append, length-take, drop_of_length-le}
use lib.Seq.{take-suc, take_at, take_all, drop-cons, drop-append-le, append_snoc, set-append_seam, get_or-take, length-take-le}
use borrow.Author.Tests.{eq-eqb, ne_eqb, lt-ltb, le-ltb, ltb-true}
use Rattle.ring.specs.nodeset.Sums.{num}
use Rattle.ring.specs.nodeset.Sets.{with}
use Rattle.ring.proofs.nodeset.Sums.{num-le}
use Rattle.ring.proofs.nodeset.Tests.{by_cases, both, chosen, otherwise}
use Rattle.ring.specs.slot_table.Order.{node_at, nodes_at}
use Rattle.row.specs.declared.Row.{Row}
use Rattle.row.specs.Rows.{row_for, keep, is_part, blank}
use Rattle.row.specs.Inner.{is_next, passed, one, added, past}
use Rattle.row.proofs.Lists.{keep-next, keep-short, blank-append}

-- ---- a row that is built

added-to : (l : List ℕ) (m : ℕ) (b : Bool) → length l < 32 → added (row_for l) m b ≡ row_for (l ++ one b m)
added-to l m false h = ap row_for (sym (append-nil l))
added-to l m true h =
    let r : ℕ = 32 - length l - 1 in
    let z : 32 - length l ≡ suc r = omega arith in
    let n : length (l ++ (m ∷ [])) ≡ length l + 1 = length-append l (m ∷ []) in
    let y : 32 - length (l ++ (m ∷ [])) ≡ r = omega arith in
    chosen _ _ (lt-ltb (length l) 32 h)
    ∙ ap₂ {C = Row} (λ (k : ℕ) (q : List ℕ). record { length = k; nodes = q }) (sym n)
    (ap (λ (k : ℕ). set (l ++ replicate k 0) (length l) m) z
    ∙ set-append_seam l 0 (replicate r 0) m
    ∙ sym (append_snoc l m (replicate r 0))
    ∙ ap (λ (k : ℕ). (l ++ (m ∷ [])) ++ replicate k 0) (sym y))

-- of a list that is sifted
pub sifted-next : (f : ℕ → Bool) (i : ℕ) (l : List ℕ) (out : Row) (b : Bool) → length l ≡ 32 → i < 32 → b ≡ f (get_or l i 0)
    → out ≡ row_for (keep f (take i l)) → added out (get_or l i 0) b ≡ row_for (keep f (take (i + 1) l))
sifted-next f i l out b n h e o =
    ap₂ (λ (r : Row) (c : Bool). added r (get_or l i 0) c) o e
    ∙ added-to (keep f (take i l)) (get_or l i 0) (f (get_or l i 0)) (omega (arith, keep-short f i l))
    ∙ ap row_for (sym (keep-next f i l (omega arith)))

pub sifted : (f : ℕ → Bool) (i : ℕ) (l : List ℕ) (out : Row) → length l ≡ 32 → i ≡ 32 → out ≡ row_for (keep f (take i l)) → out ≡ row_for (keep f l)
sifted f i l out n e o = o ∙ ap (λ (k : List ℕ). row_for (keep f k)) (take_all i l (omega arith))

pub sifted-short : (f : ℕ → Bool) (i : ℕ) (l : List ℕ) (out : Row) → out ≡ row_for (keep f (take i l)) → out.length ≤ i
sifted-short f i l out o = omega (arith, ap (λ (r : Row). r.length) o, keep-short f i l)

-- ---- a row beside its table

pub passed-le : (i : ℕ) (order nodes : List ℕ) → passed i order nodes ≤ i
unfolding passed
passed-le zero order nodes = omega arith
passed-le (suc i) order nodes =
    omega (arith, passed-le i order nodes, num-le (is_next (get_or order i 0) (get_or nodes (passed i order nodes) 0)))

past-num : (p : ℕ) (b : Bool) → p < 32 → past p b ≡ p + num b
past-num p true h = chosen (p + 1) p (lt-ltb p 32 h)
past-num p false h = omega arith

pub passed-next : (i : ℕ) (order nodes : List ℕ) (p : ℕ) → i < 32 → p ≡ passed i order nodes → past p (is_next (get_or order i 0) (get_or nodes p 0)) ≡ passed (i + 1) order nodes
unfolding passed
passed-next i order nodes p h e =
    past-num p (is_next (get_or order i 0) (get_or nodes p 0)) (omega (arith, passed-le i order nodes))
    ∙ ap (λ (q : ℕ). q + num (is_next (get_or order i 0) (get_or nodes q 0))) e
    ∙ ap (λ (k : ℕ). passed k order nodes) (sym (add-one i))

-- ---- a place put in

pub moved-last : (i : ℕ) (l : List ℕ) (m : ℕ) (all : List ℕ) → length l ≡ 32 → 32 ≤ i → take i l ++ m ∷ drop i l ≡ all → l ≡ take 32 all
moved-last i l m all n h e =
    sym (take_at l (m ∷ []) 32 n)
    ∙ ap (take 32) (sym (ap₂ (λ (a b : List ℕ). a ++ m ∷ b) (take_all i l (omega arith)) (drop_of_length-le l {i = i} (omega arith))) ∙ e)

-- ---- the nodes in a row

pub nodes-next : (i : ℕ) (l : List ℕ) → with (nodes_at i l) (get_or l i 0) ≡ nodes_at (i + 1) l
unfolding nodes_at node_at
nodes-next i l = ap (λ (k : ℕ). nodes_at k l) (sym (add-one i))

-- ---- the tests of soundness

pub blank-next : (from i : ℕ) (l : List ℕ) → i < length l → blank (drop from (take (i + 1) l)) ≡ (blank (drop from (take i l)) && (ltb i from || eqb (get_or l i 0) 0))
blank-next from i l h =
    let a : List ℕ = take i l in
    let long : length a ≡ i = length-take-le i l (omega arith) in
    ap (λ (k : ℕ). blank (drop from (take k l))) (add-one i)
    ∙ ap (λ (q : List ℕ). blank (drop from q)) (take-suc l i 0 h)
    ∙ go a long (dec_lt i from)
  where
    go : (a : List ℕ) → length a ≡ i → Dec (i < from) → blank (drop from (a ++ (get_or l i 0 ∷ []))) ≡ (blank (drop from a) && (ltb i from || eqb (get_or l i 0) 0))
    go a n (yes d) =
        ap blank (drop_of_length-le (a ++ (get_or l i 0 ∷ [])) {i = from} (omega (arith, length-append a (get_or l i 0 ∷ []))))
        ∙ sym (ap₂ (λ (q : List ℕ) (c : Bool). blank q && (c || eqb (get_or l i 0) 0)) (drop_of_length-le a {i = from} (omega arith)) (lt-ltb i from d))
    go a n (no d) =
        ap blank (drop-append-le from a (get_or l i 0 ∷ []) (omega arith))
        ∙ blank-append (drop from a) (get_or l i 0 ∷ [])
        ∙ ap (λ (c : Bool). blank (drop from a) && c) (and-true (eqb (get_or l i 0) 0))
        ∙ sym (ap (λ (c : Bool). blank (drop from a) && (c || eqb (get_or l i 0) 0)) (le-ltb i from (omega arith)))

-- what is left of a list's first places
unfoldable pub left : ℕ → ℕ → List ℕ → List ℕ
left i m l = drop i (take m l)

left-more : (i m : ℕ) (l : List ℕ) → i < m → i < length l → left i m l ≡ get_or l i 0 ∷ left (i + 1) m l
unfolding left
left-more i m l h g =
    drop-cons (take m l) i 0 (omega (arith, length-take m l))
    ∙ ap₂ (λ (x k : ℕ). x ∷ drop k (take m l)) (get_or-take m l i 0 h) (sym (add-one i))

left-none : (i m : ℕ) (l : List ℕ) → (i < m → ⊥) → left i m l ≡ []
unfolding left
left-none i m l h = drop_of_length-le (take m l) {i = i} (omega (arith, length-take m l))

-- one node of the table more, beside the row
pub part-next : (most count : ℕ) (t nodes : List ℕ) (i p : ℕ) → length t ≡ 32 → length nodes ≡ 32 → i < most → i < 32 → p < 32
    → is_part (left (past p (ltb p count && eqb (get_or nodes p 0) (get_or t i 0))) count nodes) (left (i + 1) most t) ≡ is_part (left p count nodes) (left i most t)
part-next most count t nodes i p full full' d h g = go (dec_lt p count)
  where
    move : Bool → Type 0
    move b = is_part (left (past p b) count nodes) (left (i + 1) most t) ≡ is_part (left p count nodes) (left i most t)

    by : (b : Bool) → is_part (left p count nodes) (left i most t) ≡ cond b (is_part (left (p + 1) count nodes) (left (i + 1) most t)) (is_part (left p count nodes) (left (i + 1) most t)) → move b
    by true e = ap (λ (a : ℕ). is_part (left a count nodes) (left (i + 1) most t)) (chosen (p + 1) p (lt-ltb p 32 g)) ∙ sym e
    by false e = sym e

    go : Dec (p < count) → move (ltb p count && eqb (get_or nodes p 0) (get_or t i 0))
    go (no c) =
        rw (le-ltb p count (omega arith))
        (by false (ap (λ (q : List ℕ). is_part q (left i most t)) (left-none p count nodes c) ∙ sym (ap (λ (q : List ℕ). is_part q (left (i + 1) most t)) (left-none p count nodes c))))
    go (yes c) =
        rw (lt-ltb p count c)
        (by (eqb (get_or nodes p 0) (get_or t i 0))
        (let x = left-more p count nodes c (omega arith) in
        ap₂ is_part x (left-more i most t d (omega arith))
        ∙ ap (λ (q : List ℕ). cond (eqb (get_or nodes p 0) (get_or t i 0)) (is_part (left (p + 1) count nodes) (left (i + 1) most t)) (is_part q (left (i + 1) most t))) (sym x)))

pub part-start : (most count : ℕ) (t nodes : List ℕ) → is_part (left 0 count nodes) (left 0 most t) ≡ is_part (take count nodes) (take most t)
unfolding left
part-start most count t nodes = refl

-- where the table is walked to its end, the part was found exactly if the row was
pub part-done : (most count : ℕ) (t nodes : List ℕ) (p : ℕ) → length nodes ≡ 32 → count ≤ 32 → p ≤ count → is_part (left p count nodes) (left most most t) ≡ eqb p count
part-done most count t nodes p full c g = ap (is_part (left p count nodes)) (left-none most most t (λ e. omega arith)) ∙ go (dec_lt p count)
  where
    go : Dec (p < count) → is_part (left p count nodes) [] ≡ eqb p count
    go (yes d) = ap (λ (q : List ℕ). is_part q []) (left-more p count nodes d (omega arith)) ∙ sym (ne_eqb p count (λ e. omega arith))
    go (no d) = ap (λ (q : List ℕ). is_part q []) (left-none p count nodes d) ∙ sym (eq-eqb p count (omega arith))

pub past-le : (p : ℕ) (b : Bool) → past p b ≤ p + 1
past-le p b = by_cases (b && ltb p 32) (λ e. omega (arith, chosen (p + 1) p e)) (λ e. omega (arith, otherwise (p + 1) p e))

pub past-below : (p count : ℕ) (b : Bool) → p ≤ count → past p (ltb p count && b) ≤ count
past-below p count b h =
    by_cases ((ltb p count && b) && ltb p 32)
    (λ e.
    let t = both (ltb p count && b) (ltb p 32) e in
    omega (arith, chosen (p + 1) p e, ltb-true p count (both (ltb p count) b t.0).0))
    (λ e. omega (arith, otherwise (p + 1) p e))
