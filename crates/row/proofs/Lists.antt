-- Laws of lists of nodes (specs/Rows, specs/Inner): what stands in them, what is kept of them, parts of them. Assumes nothing.
use Prim.Native.Nat.{ℕ, zero, suc, ◌+◌, ◌≤◌, ◌<◌}
use mathlib.Core.Path.{◌≡◌, refl, sym, ap, ap₂, ◌∙◌}
use mathlib.Core.Bool.{Bool, true, false, not, ◌&&◌, ◌||◌, true≢false, or-false, or_assoc, and-false}
use mathlib.Core.List.{List, [], ◌∷◌, ◌++◌, append-nil}
use native.Mathlib.Omega.{arith}
use native.Mathlib.Numerals.{add-one}
use lib.Dec.{eqb}
use lib.ListN.{length, take, get_or, replicate, length-take}
use lib.Seq.{take-suc}
use Rattle.std.specs.List.{list_any}
use borrow.Author.Tests.{eq-eqb, ne_eqb, eqb-true, not-true}
use Rattle.ring.proofs.nodeset.Tests.{by_cases, both, all, or_left, or_right, chosen, otherwise}
use Rattle.row.specs.Rows.{keep, is_part, blank}
use Rattle.row.specs.Inner.{elem, one}

-- ---- elem

-- as `contains` finds it
pub any_elem : (x : ℕ) (l : List ℕ) → list_any (λ y. eqb y x) l ≡ elem x l
any_elem x [] = refl
any_elem x (y ∷ l) = ap (λ (b : Bool). eqb y x || b) (any_elem x l)

elem-append : (x : ℕ) (a b : List ℕ) → elem x (a ++ b) ≡ (elem x a || elem x b)
elem-append x [] b = refl
elem-append x (y ∷ a) b = ap (λ (t : Bool). eqb y x || t) (elem-append x a b) ∙ sym (or_assoc (eqb y x) (elem x a) (elem x b))

elem-zeros : (x m : ℕ) → 1 ≤ x → elem x (replicate m 0) ≡ false
elem-zeros x zero h = refl
elem-zeros x (suc m) h = rw (ne_eqb 0 x (λ e. omega arith)) (elem-zeros x m h)

pub elem-padded : (x : ℕ) (l : List ℕ) (m : ℕ) → 1 ≤ x → elem x (l ++ replicate m 0) ≡ elem x l
elem-padded x l m h = elem-append x l (replicate m 0) ∙ ap (λ (t : Bool). elem x l || t) (elem-zeros x m h) ∙ or-false (elem x l)

-- one place more
pub elem_next : (x i : ℕ) (l : List ℕ) → i < length l → elem x (take (i + 1) l) ≡ (elem x (take i l) || eqb (get_or l i 0) x)
elem_next x i l h =
    ap (λ (k : ℕ). elem x (take k l)) (add-one i)
    ∙ ap (elem x) (take-suc l i 0 h)
    ∙ elem-append x (take i l) (get_or l i 0 ∷ [])
    ∙ ap (λ (t : Bool). elem x (take i l) || t) (or-false (eqb (get_or l i 0) x))

elem-first : (x : ℕ) (l : List ℕ) → elem x (x ∷ l) ≡ true
elem-first x l = or_left (eqb x x) (elem x l) (eq-eqb x x refl)

elem-later : (x y : ℕ) (l : List ℕ) → elem x l ≡ true → elem x (y ∷ l) ≡ true
elem-later x y l e = or_right (eqb y x) (elem x l) e

-- what stands at a place stands in the list
pub elem_at : (l : List ℕ) (i : ℕ) → i < length l → elem (get_or l i 0) l ≡ true
elem_at [] i h = let z : ⊥ = omega arith in absurd z
elem_at (y ∷ l) zero h = elem-first y l
elem_at (y ∷ l) (suc i) h = elem-later (get_or l i 0) y l (elem_at l i (omega arith))

-- and what stands in the list stands at a place
pub elem-index : (x : ℕ) (l : List ℕ) → elem x l ≡ true → (i : ℕ) × (i < length l) × (get_or l i 0 ≡ x)
elem-index x [] e = absurd (true≢false (sym e))
elem-index x (y ∷ l) e =
    by_cases (eqb y x)
    (λ d. (0, omega arith, eqb-true y x d))
    (λ d. let r = elem-index x l (sym (ap (λ (b : Bool). b || elem x l) d) ∙ e) in (suc r.0, omega (arith, r.1), r.2))

-- no node stands in it twice
abbrev pub apart : List ℕ → Bool
apart [] = true
apart (x ∷ l) = not (elem x l) && apart l

pub is-apart : (l : List ℕ) → ((i j : ℕ) → i < j → j < length l → get_or l i 0 ≡ get_or l j 0 → ⊥) → apart l ≡ true
is-apart [] h = refl
is-apart (x ∷ l) h =
    all
    (ap not (by_cases (elem x l) (λ e. let r = elem-index x l e in absurd (h 0 (suc r.0) (omega arith) (omega (arith, r.1)) (sym r.2))) (λ e. e)))
    (is-apart l (λ i j p q e. h (suc i) (suc j) (omega arith) (omega arith) e))

-- ---- keep

pub keep_append : (f : ℕ → Bool) (a b : List ℕ) → keep f (a ++ b) ≡ keep f a ++ keep f b
keep_append f [] b = refl
keep_append f (x ∷ a) b =
    by_cases (f x)
    (λ e. rw e (ap (λ (l : List ℕ). x ∷ l) (keep_append f a b)))
    (λ e. rw e (keep_append f a b))

pub keep-next : (f : ℕ → Bool) (i : ℕ) (l : List ℕ) → i < length l → keep f (take (i + 1) l) ≡ keep f (take i l) ++ one (f (get_or l i 0)) (get_or l i 0)
keep-next f i l h =
    ap (λ (k : ℕ). keep f (take k l)) (add-one i)
    ∙ ap (keep f) (take-suc l i 0 h)
    ∙ keep_append f (take i l) (get_or l i 0 ∷ [])

pub keep-none : (f : ℕ → Bool) (l : List ℕ) → ((x : ℕ) → elem x l ≡ true → f x ≡ false) → keep f l ≡ []
keep-none f [] h = refl
keep-none f (x ∷ l) h = rw (h x (elem-first x l)) (keep-none f l (λ y e. h y (elem-later y x l e)))

zeros-only : (x m : ℕ) → elem x (replicate m 0) ≡ true → 0 ≡ x
zeros-only x zero e = absurd (true≢false (sym e))
zeros-only x (suc m) e = by_cases (eqb 0 x) (λ d. eqb-true 0 x d) (λ d. zeros-only x m (sym (ap (λ (b : Bool). b || elem x (replicate m 0)) d) ∙ e))

pub keep-padded : (f : ℕ → Bool) (l : List ℕ) (m : ℕ) → f 0 ≡ false → keep f (l ++ replicate m 0) ≡ keep f l
keep-padded f l m e =
    keep_append f l (replicate m 0)
    ∙ ap (λ (r : List ℕ). keep f l ++ r) (keep-none f (replicate m 0) (λ x h. ap f (sym (zeros-only x m h)) ∙ e))
    ∙ append-nil (keep f l)

-- tests that agree on the list
pub keep_same : (f g : ℕ → Bool) (l : List ℕ) → ((x : ℕ) → elem x l ≡ true → f x ≡ g x) → keep f l ≡ keep g l
keep_same f g [] h = refl
keep_same f g (x ∷ l) h =
    let here : f x ≡ g x = h x (elem-first x l) in
    let rest : keep f l ≡ keep g l = keep_same f g l (λ y e. h y (elem-later y x l e)) in
    by_cases (g x)
    (λ e. rw (here ∙ e, e) (ap (λ (r : List ℕ). x ∷ r) rest))
    (λ e. rw (here ∙ e, e) rest)

pub keep-keep : (f g : ℕ → Bool) (l : List ℕ) → keep f (keep g l) ≡ keep (λ x. g x && f x) l
keep-keep f g [] = refl
keep-keep f g (x ∷ l) =
    by_cases (g x)
    (λ e. rw e (by_cases (f x) (λ d. rw d (ap (λ (r : List ℕ). x ∷ r) (keep-keep f g l))) (λ d. rw d (keep-keep f g l))))
    (λ e. rw e (keep-keep f g l))

pub elem-keep : (x : ℕ) (f : ℕ → Bool) (l : List ℕ) → elem x (keep f l) ≡ (elem x l && f x)
elem-keep x f [] = refl
elem-keep x f (y ∷ l) =
    by_cases (eqb y x)
    (λ e.
    let s : f y ≡ f x = ap f (eqb-true y x e) in
    by_cases (f x)
    (λ d. rw (s ∙ d) (rw (e, d) refl))
    (λ d. rw (s ∙ d) (rw (e, d) (elem-keep x f l ∙ ap (λ (b : Bool). elem x l && b) d ∙ and-false (elem x l)))))
    (λ e.
    by_cases (f y)
    (λ d. rw d (rw e (elem-keep x f l)))
    (λ d. rw d (rw e (elem-keep x f l))))

pub keep-length : (f : ℕ → Bool) (l : List ℕ) → length (keep f l) ≤ length l
keep-length f [] = omega arith
keep-length f (x ∷ l) =
    by_cases (f x)
    (λ e. rw e (omega (arith, keep-length f l)))
    (λ e. rw e (omega (arith, keep-length f l)))

pub keep-short : (f : ℕ → Bool) (i : ℕ) (l : List ℕ) → length (keep f (take i l)) ≤ i
keep-short f i l = omega (arith, keep-length f (take i l), length-take i l)

-- ---- parts of a list

pub part_elem : (l o : List ℕ) (y : ℕ) → is_part l o ≡ true → elem y o ≡ false → elem y l ≡ false
part_elem [] o y e h = refl
part_elem (x ∷ l) [] y e h = absurd (true≢false (sym e))
part_elem (x ∷ l) (z ∷ o) y e h =
    let split : (eqb z y ≡ false) × (elem y o ≡ false) = neither (eqb z y) (elem y o) h in
    by_cases (eqb x z)
    (λ d.
    let other : eqb x y ≡ false = ap (λ (k : ℕ). eqb k y) (eqb-true x z d) ∙ split.0 in
    rw other (part_elem l o y (sym (chosen (is_part l o) (is_part (x ∷ l) o) d) ∙ e) split.1))
    (λ d. part_elem (x ∷ l) o y (sym (otherwise (is_part l o) (is_part (x ∷ l) o) d) ∙ e) split.1)
  where
    neither : (a b : Bool) → (a || b) ≡ false → (a ≡ false) × (b ≡ false)
    neither true b e = absurd (true≢false e)
    neither false b e = (refl, e)

-- a part is what is kept by standing in it
pub part-keep : (l o : List ℕ) → apart o ≡ true → is_part l o ≡ true → keep (λ y. elem y l) o ≡ l
part-keep [] o a e = keep-none (λ y. false) o (λ x h. refl)
part-keep (x ∷ l) [] a e = absurd (true≢false (sym e))
part-keep (x ∷ l) (z ∷ o) a e =
    let b = both (not (elem z o)) (apart o) a in
    let gone : elem z o ≡ false = not-true (elem z o) b.0 in
    by_cases (eqb x z)
    (λ d.
    let same : x ≡ z = eqb-true x z d in
    rw d (ap₂ (λ (y : ℕ) (q : List ℕ). y ∷ q) (sym same)
    (keep_same (λ y. elem y (x ∷ l)) (λ y. elem y l) o (λ y h. ap (λ (c : Bool). c || elem y l) (ne_eqb x y (λ p. true≢false (sym h ∙ ap (λ (k : ℕ). elem k o) (sym p ∙ same) ∙ gone))))
    ∙ part-keep l o b.1 (sym (chosen (is_part l o) (is_part (x ∷ l) o) d) ∙ e))))
    (λ d.
    let rest : is_part (x ∷ l) o ≡ true = sym (otherwise (is_part l o) (is_part (x ∷ l) o) d) ∙ e in
    rw (part_elem (x ∷ l) o z rest gone) (part-keep (x ∷ l) o b.1 rest))

part-skip : (l : List ℕ) (z : ℕ) (o : List ℕ) → elem z l ≡ false → is_part l o ≡ true → is_part l (z ∷ o) ≡ true
part-skip [] z o h e = refl
part-skip (x ∷ l) z o h e = otherwise (is_part l o) (is_part (x ∷ l) o) (first (eqb x z) (elem z l) h) ∙ e
  where
    first : (a b : Bool) → (a || b) ≡ false → a ≡ false
    first true b e = e
    first false b e = refl

pub keep-part : (f : ℕ → Bool) (o : List ℕ) → apart o ≡ true → is_part (keep f o) o ≡ true
keep-part f [] a = refl
keep-part f (z ∷ o) a =
    let b = both (not (elem z o)) (apart o) a in
    let rest = keep-part f o b.1 in
    by_cases (f z)
    (λ d. rw d (rw (eq-eqb z z refl) rest))
    (λ d. rw d (part-skip (keep f o) z o (elem-keep z f o ∙ ap (λ (c : Bool). c && f z) (not-true (elem z o) b.0)) rest))

-- ---- blank places

pub blank-is : (l : List ℕ) → blank l ≡ true → l ≡ replicate (length l) 0
blank-is [] e = refl
blank-is (x ∷ l) e = let b = both (eqb x 0) (blank l) e in ap₂ (λ (y : ℕ) (q : List ℕ). y ∷ q) (eqb-true x 0 b.0) (blank-is l b.1)

pub blank-zeros : (m : ℕ) → blank (replicate m 0) ≡ true
blank-zeros zero = refl
blank-zeros (suc m) = blank-zeros m

pub blank-append : (a b : List ℕ) → blank (a ++ b) ≡ (blank a && blank b)
blank-append [] b = refl
blank-append (x ∷ a) b = ap (λ (c : Bool). eqb x 0 && c) (blank-append a b) ∙ assoc (eqb x 0) (blank a) (blank b)
  where
    assoc : (a b c : Bool) → (a && (b && c)) ≡ ((a && b) && c)
    assoc true b c = refl
    assoc false b c = refl
