-- Names and sets. The two names of a node belong to each other (`name-placed`, `placed-name`); a renamed set, `R`, holds the renamed nodes (`has-name`, `R-with` and the laws beside them); the walk
-- back along the ring finds the renamed node, as places do not move (`before-name`, `sponsored-name`, `decided-name`), and so is the sender renamed (`sender-name`). Assumes that the cable's choices are in range.
use Rattle.std.specs.Prelude.{None, Option, Some}
use Prim.Native.Nat.{ℕ, zero, suc, ◌+◌, ◌-◌, ◌^◌, ◌≤◌, ◌<◌}
use mathlib.Core.Path.{◌≡◌, refl, sym, ap, ◌∙◌}
use mathlib.Core.Logic.{◌≢◌}
use mathlib.Core.Bool.{Bool, true, false, cond, xor, ◌&&◌}
use native.Mathlib.Omega.{arith}
use native.Mathlib.Decide.{ℕ_discrete}
use lib.Dec.{eqb, leb}
use borrow.Author.Tests.{eqb-true, eqb-false, eq-eqb, ne_eqb, le-leb, lt-ltb}
use Rattle.ledger.specs.nodeset.Sums.{sum, num}
use Rattle.ledger.specs.nodeset.Sets.{has, with, without, full, within, subset, size, distance}
use Rattle.ledger.proofs.nodeset.Tests.{by_cases, all, chosen, otherwise}
use Rattle.ledger.proofs.nodeset.Sums.{sum_same}
use Rattle.ledger.proofs.nodeset.Bits.{has-none, has-beyond}
use Rattle.ledger.proofs.nodeset.Laws.{has-with, has-with-other, has-without, has-without-other, with-lt, without-lt, full-lt, has-full, has-range, set-ext}
use Rattle.ledger.proofs.nodeset.Subsets.{subset-has, has-subset}
use Rattle.ledger.specs.slot_table.Order.{node_at, plain, place}
use Rattle.ledger.proofs.slot_table.Places.{node-range, node-place, place_of, over-nodes}
use Rattle.ledger.proofs.slot_table.Numbers.{plain_at, plain-kept, plain-place}
use Rattle.ledger.specs.cable.declared.Cable.{Cable}
use Rattle.ledger.specs.ring.declared.Found.{Found}
use Rattle.ledger.specs.cable.Cable.{node_number, cable_fits}
use Rattle.ledger.specs.ring.Ring.{turn, sender, ks, previous, walk, member_before, sponsors, sponsored, decided, member_in, is_found}
use Rattle.ledger.proofs.cable.Ranges.{fitting, fits_by, node-number}
use Rattle.ledger.proofs.ring_laws.Senders.{turn-range, previous-range, Turns, turns-of, sender-range}
use Rattle.ledger.proofs.bench.Choices.{choose}
use Rattle.renaming.specs.Renamed.{plain_of, name_of, placed, renamed_set, missed_at}
use Rattle.ledger.specs.ring.Ring.{found}

-- ---- choices

-- by equal tests, of what belongs to each other
pub cond-by : {A : Type 0} {B : Type 0} (h : A → B) (b : Bool) {b' : Bool} (x y : A) {x' y' : B} → b' ≡ b → x' ≡ h x → y' ≡ h y → cond b' x' y' ≡ h (cond b x y)
cond-by h true x y {x' = x'} {y' = y'} e p q = ap (λ (w : Bool). cond w x' y') e ∙ p
cond-by h false x y {x' = x'} {y' = y'} e p q = ap (λ (w : Bool). cond w x' y') e ∙ q

-- ---- the set of those whose other name is in a set

pub renamed-lt : (f : ℕ → ℕ) (n m s : ℕ) → m ≤ n → renamed_set f m s < 2 ^ n
unfolding renamed_set
renamed-lt f n zero s h = omega (arith, lib.Pow.pow_pos n)
renamed-lt f n (suc m) s h =
    let r = renamed-lt f n m s (omega arith) in
    choose (λ (t : ℕ). t < 2 ^ n) (has s (f (suc m))) (with (renamed_set f m s) (suc m)) (renamed_set f m s)
    (λ _. with-lt n (renamed_set f m s) (suc m) h r)
    (λ _. r)

pub has-renamed : (f : ℕ → ℕ) (m s x : ℕ) → m ≤ 32 → 1 ≤ x → x ≤ m → has (renamed_set f m s) x ≡ has s (f x)
unfolding renamed_set
has-renamed f zero s x most h l = let z : ⊥ = omega arith in absurd z
has-renamed f (suc m) s x most h l = go (λ (q : x ≤ m). has-renamed f m s x (omega arith) h q) (ℕ_discrete x (suc m))
  where
    go : (x ≤ m → has (renamed_set f m s) x ≡ has s (f x)) → Dec (x ≡ suc m) → has (cond (has s (f (suc m))) (with (renamed_set f m s) (suc m)) (renamed_set f m s)) x ≡ has s (f x)
    go r (yes e) = rw e (
        choose (λ (y : ℕ). has y (suc m) ≡ has s (f (suc m))) (has s (f (suc m))) (with (renamed_set f m s) (suc m)) (renamed_set f m s)
        (λ p. has-with (renamed_set f m s) (suc m) (omega arith) most ∙ sym p)
        (λ p. has-beyond m (renamed_set f m s) (suc m) (renamed-lt f m m s (omega arith)) (omega arith) ∙ sym p)
        )
    go r (no e) =
        choose (λ (y : ℕ). has y x ≡ has s (f x)) (has s (f (suc m))) (with (renamed_set f m s) (suc m)) (renamed_set f m s)
        (λ _. has-with-other (renamed_set f m s) (suc m) x (λ q. e (sym q)) ∙ r (omega arith))
        (λ _. r (omega arith))

-- ---- names

is-node : (n x : ℕ) → 1 ≤ x → x ≤ n → node_number n x ≡ true
is-node n x h l = all (le-leb 1 x h) (le-leb x n l)

module _ (cable : Cable) (fits : cable_fits cable ≡ true) where
  open cable use {n, order}

  turns : Turns cable
  turns = turns-of cable (fitting cable fits)

  some : 1 ≤ n
  some = turns.some

  most : n ≤ 32
  most = turns.most

  -- the choices with the plain table are in range
  pub plain_fits : cable_fits (plain_of cable) ≡ true
  plain_fits =
      let f = fitting cable fits in
      fits_by (plain_of cable) (record { ring = f.ring; lag = f.lag; sponsors = f.sponsors; jobs = f.jobs; order = plain-kept n most })

  plain-turns : Turns (plain_of cable)
  plain-turns = turns-of (plain_of cable) (fitting (plain_of cable) plain_fits)

  -- a node's names are those at its place, and another number's are the number
  pub name_in : (p : ℕ) → 1 ≤ p → p ≤ n → name_of cable p ≡ node_at order p
  unfolding name_of
  name_in p h l = chosen (node_at order p) p (is-node n p h l)

  pub placed-in : (x : ℕ) → 1 ≤ x → x ≤ n → placed cable x ≡ place order x
  unfolding placed
  placed-in x h l = chosen (place order x) x (is-node n x h l)

  pub name_out : (p : ℕ) → node_number n p ≡ false → name_of cable p ≡ p
  unfolding name_of
  name_out p e = otherwise (node_at order p) p e

  pub placed-out : (x : ℕ) → node_number n x ≡ false → placed cable x ≡ x
  unfolding placed
  placed-out x e = otherwise (place order x) x e

  pub name-none : name_of cable 0 ≡ 0
  name-none = name_out 0 refl

  pub name-range : (p : ℕ) → 1 ≤ p → p ≤ n → (1 ≤ name_of cable p) × (name_of cable p ≤ n)
  name-range p h l = let r = node-range n order turns.ordered p h l in let e = name_in p h l in (omega arith, omega arith)

  -- the place of a node, and the node there
  placed_at : (x : ℕ) → 1 ≤ x → x ≤ n → (1 ≤ placed cable x) × (placed cable x ≤ n) × (node_at order (placed cable x) ≡ x)
  placed_at x h l = go (node-place n order turns.ordered x h l)
    where
      go : (p : ℕ) × (1 ≤ p) × (p ≤ n) × (node_at order p ≡ x) → (1 ≤ placed cable x) × (placed cable x ≤ n) × (node_at order (placed cable x) ≡ x)
      go (p, a, b, e) =
          let z : placed cable x ≡ p = placed-in x h l ∙ ap (place order) (sym e) ∙ place_of n order turns.ordered most p a b in
          (omega arith, omega arith, ap (node_at order) z ∙ e)

  pub placed-range : (x : ℕ) → 1 ≤ x → x ≤ n → (1 ≤ placed cable x) × (placed cable x ≤ n)
  placed-range x h l = let r = placed_at x h l in (r.0, r.1)

  -- the names belong to each other
  pub name-placed : (x : ℕ) → name_of cable (placed cable x) ≡ x
  name-placed x = by_cases (node_number n x)
      (λ e. let r = node-number n x e in let a = placed_at x r.0 r.1 in name_in (placed cable x) a.0 a.1 ∙ a.2)
      (λ e. ap (name_of cable) (placed-out x e) ∙ name_out x e)

  pub placed-name : (p : ℕ) → placed cable (name_of cable p) ≡ p
  placed-name p = by_cases (node_number n p)
      (λ e.
      let r = node-number n p e in
      let a = name-range p r.0 r.1 in
      placed-in (name_of cable p) a.0 a.1 ∙ ap (place order) (name_in p r.0 r.1) ∙ place_of n order turns.ordered most p r.0 r.1)
      (λ e. ap (placed cable) (name_out p e) ∙ placed-out p e)

  pub name-number : (p : ℕ) → node_number n (name_of cable p) ≡ node_number n p
  name-number p = by_cases (node_number n p)
      (λ e. let r = node-number n p e in let a = name-range p r.0 r.1 in is-node n (name_of cable p) a.0 a.1 ∙ sym e)
      (λ e. ap (node_number n) (name_out p e))

  pub placed-number : (x : ℕ) → node_number n (placed cable x) ≡ node_number n x
  placed-number x = sym (name-number (placed cable x)) ∙ ap (node_number n) (name-placed x)

  pub name-le : (p : ℕ) → p ≤ n → name_of cable p ≤ n
  name-le p l = go (ℕ_discrete p 0)
    where
      go : Dec (p ≡ 0) → name_of cable p ≤ n
      go (yes e) = omega (arith, ap (name_of cable) e, name-none)
      go (no e) = (name-range p (omega arith) l).1

  pub same_name : (x y : ℕ) → name_of cable x ≡ name_of cable y → x ≡ y
  same_name x y e = sym (placed-name x) ∙ ap (placed cable) e ∙ placed-name y

  pub eqb-name : (x y : ℕ) → eqb (name_of cable x) (name_of cable y) ≡ eqb x y
  eqb-name x y = by_cases (eqb x y)
      (λ e. eq-eqb (name_of cable x) (name_of cable y) (ap (name_of cable) (eqb-true x y e)) ∙ sym e)
      (λ e. ne_eqb (name_of cable x) (name_of cable y) (λ q. eqb-false x y e (same_name x y q)) ∙ sym e)

  pub eqb-placed : (x y : ℕ) → eqb (placed cable x) (placed cable y) ≡ eqb x y
  eqb-placed x y =
      sym (eqb-name (placed cable x) (placed cable y))
      ∙ ap (λ (a : ℕ). eqb a (name_of cable (placed cable y))) (name-placed x)
      ∙ ap (eqb x) (name-placed y)

  pub eqb-none : (x : ℕ) → eqb (name_of cable x) 0 ≡ eqb x 0
  eqb-none x = ap (eqb (name_of cable x)) (sym name-none) ∙ eqb-name x 0

  -- a sum over the nodes, by their other names
  pub over-names : (h : ℕ → ℕ) → sum h 1 n ≡ sum (λ p. h (name_of cable p)) 1 n
  over-names h =
      sym (over-nodes n order turns.ordered h)
      ∙ sum_same (λ p. h (node_at order p)) (λ p. h (name_of cable p)) 1 n (λ p a b. ap h (sym (name_in p a (omega arith))))

  -- ---- sets

  -- a set renamed
  abbrev pub R : ℕ → ℕ
  R s = renamed_set (placed cable) n s

  pub R-lt : (s : ℕ) → R s < 2 ^ n
  R-lt s = renamed-lt (placed cable) n n s (omega arith)

  pub has-node : (s x : ℕ) → 1 ≤ x → x ≤ n → has (R s) x ≡ has s (placed cable x)
  has-node s x h l = has-renamed (placed cable) n s x most h l

  pub has-name : (s p : ℕ) → p ≤ n → has (R s) (name_of cable p) ≡ has s p
  unfolding has
  has-name s zero l = ap (has (R s)) name-none
  has-name s (suc p) l =
      let r = name-range (suc p) (omega arith) l in
      has-node s (name_of cable (suc p)) r.0 r.1 ∙ ap (has s) (placed-name (suc p))

  -- a set renamed is one that holds the renamed nodes
  same_nodes : (a b : ℕ) → b < 2 ^ n → ((p : ℕ) → 1 ≤ p → p ≤ n → has a p ≡ has b (name_of cable p)) → R a ≡ b
  same_nodes a b l h =
      set-ext n (R a) b (R-lt a) l
      (λ x c d. let r = placed-range x c d in has-node a x c d ∙ h (placed cable x) r.0 r.1 ∙ ap (has b) (name-placed x))

  pub R-none : R 0 ≡ 0
  R-none = same_nodes 0 0 (omega (arith, lib.Pow.pow_pos n)) (λ p h l. has-none p ∙ sym (has-none (name_of cable p)))

  pub R-full : R (full n) ≡ full n
  R-full =
      same_nodes (full n) (full n) (full-lt n)
      (λ p h l. let r = name-range p h l in has-full n p h l (omega (arith, most)) ∙ sym (has-full n (name_of cable p) r.0 r.1 (omega (arith, most))))

  -- a change of one node, renamed
  module _ (change : ℕ → ℕ → ℕ) (after : Bool)
      (there : (s x : ℕ) → 1 ≤ x → x ≤ 32 → has (change s x) x ≡ after)
      (others : (s x y : ℕ) → x ≢ y → has (change s x) y ≡ has s y)
      (small : (s x : ℕ) → x ≤ n → s < 2 ^ n → change s x < 2 ^ n) where
    one-node : (s x : ℕ) → x ≤ n → R (change s x) ≡ change (R s) (name_of cable x)
    one-node s x l = same_nodes (change s x) (change (R s) (name_of cable x)) (small (R s) (name_of cable x) (name-le x l) (R-lt s)) (λ y p q. go y p q (ℕ_discrete x y))
      where
        go : (y : ℕ) → 1 ≤ y → y ≤ n → Dec (x ≡ y) → has (change s x) y ≡ has (change (R s) (name_of cable x)) (name_of cable y)
        go y p q (yes e) =
            let r = name-range y p q in
            rw e (there s y p (omega (arith, most)) ∙ sym (there (R s) (name_of cable y) r.0 (omega (arith, most))))
        go y p q (no e) = others s x y e ∙ sym (has-name s y q) ∙ sym (others (R s) (name_of cable x) (name_of cable y) (λ z. e (same_name x y z)))

  pub R-with : (s x : ℕ) → x ≤ n → R (with s x) ≡ with (R s) (name_of cable x)
  R-with s x l = one-node with true has-with has-with-other (with-lt n) s x l

  pub R-without : (s x : ℕ) → x ≤ n → R (without s x) ≡ without (R s) (name_of cable x)
  R-without s x l = one-node without false (λ t y _ _. has-without t y) has-without-other (λ t y _. without-lt n t y) s x l

  pub R-size : (s : ℕ) → size n (R s) ≡ size n s
  unfolding size
  R-size s =
      over-names (λ x. num (has (R s) x))
      ∙ sum_same (λ p. num (has (R s) (name_of cable p))) (λ p. num (has s p)) 1 n (λ p a b. ap num (has-name s p (omega arith)))

  pub R-distance : (a b : ℕ) → distance n (R a) (R b) ≡ distance n a b
  unfolding distance
  R-distance a b =
      over-names (λ x. num (xor (has (R a) x) (has (R b) x)))
      ∙ sum_same (λ p. num (xor (has (R a) (name_of cable p)) (has (R b) (name_of cable p)))) (λ p. num (xor (has a p) (has b p))) 1 n
      (λ p h l.
      ap (λ (t : Bool). num (xor t (has (R b) (name_of cable p)))) (has-name a p (omega arith))
      ∙ ap (λ (t : Bool). num (xor (has a p) t)) (has-name b p (omega arith)))

  -- sets of nodes are equal exactly where the renamed ones are
  pub eqb-sets : (a b : ℕ) → a < 2 ^ n → b < 2 ^ n → eqb (R a) (R b) ≡ eqb a b
  eqb-sets a b p q = by_cases (eqb a b)
      (λ e. eq-eqb (R a) (R b) (ap (renamed_set (placed cable) n) (eqb-true a b e)) ∙ sym e)
      (λ e.
      ne_eqb (R a) (R b) (λ z. eqb-false a b e (set-ext n a b p q (λ x h l. sym (has-name a x l) ∙ ap (λ (w : ℕ). has w (name_of cable x)) z ∙ has-name b x l)))
      ∙ sym e)

  pub eqb-empty : (s : ℕ) → s < 2 ^ n → eqb (R s) 0 ≡ eqb s 0
  eqb-empty s l = ap (eqb (R s)) (sym R-none) ∙ eqb-sets s 0 l (omega (arith, lib.Pow.pow_pos n))

  pub R-subset : (a b : ℕ) → a < 2 ^ n → subset a b ≡ true → subset (R a) (R b) ≡ true
  R-subset a b l e =
      has-subset (R a) (R b) (λ x _ _ h.
      let r = has-range n (R a) x (R-lt a) h in
      has-node b x r.0 r.1 ∙ subset-has a b (placed cable x) (omega (arith, lib.Pow.pow_mono most)) e (sym (has-node a x r.0 r.1) ∙ h))

  -- ---- the nodes that miss a message

  pub within-missed : (missed : ℕ) → within n (missed_at cable missed) ≡ within n missed
  unfolding missed_at
  within-missed missed = by_cases (within n missed)
      (λ e. rw (e, lt-ltb (renamed_set (name_of cable) n missed) (2 ^ n) (renamed-lt (name_of cable) n n missed (omega arith))) refl)
      (λ e. ap (within n) (otherwise (renamed_set (name_of cable) n missed) missed e))

  pub has-missed : (missed p : ℕ) → within n missed ≡ true → 1 ≤ p → p ≤ n → has (missed_at cable missed) p ≡ has missed (name_of cable p)
  unfolding missed_at
  has-missed missed p e h l =
      ap (λ (s : ℕ). has s p) (chosen (renamed_set (name_of cable) n missed) missed e) ∙ has-renamed (name_of cable) n missed p most h l

  -- ---- the walk

  -- what is found, renamed
  abbrev pub named : Option Found → Option Found
  named (Some f) = found (name_of cable f.member) f.back
  named None = None

  -- the one is the other renamed, which is a node
  abbrev pub Named : Option Found → Option Found → Type 0
  Named found' found = (found' ≡ named found) × (member_in found ≤ n)

  pub named_in : (found : Option Found) → member_in (named found) ≡ name_of cable (member_in found)
  named_in (Some f) = refl
  named_in None = sym name-none

  pub named-is : (x : ℕ) (found : Option Found) → is_found (name_of cable x) (named found) ≡ is_found x found
  named-is x (Some f) = eqb-name f.member x
  named-is x None = refl

  -- one slot of the walk, by what it finds further back
  one-back : (s j back x y : ℕ) → x ≡ name_of cable y → y ≤ n → (further' further : ℕ → Option Found) → ((more : ℕ) → Named (further' more) (further more))
      → Named (cond (has (R s) x && eqb j 1) (found x back) (further' (j - num (has (R s) x)))) (cond (has s y && eqb j 1) (found y back) (further (j - num (has s y))))
  one-back s j back x y e l further' further r =
      let t : has (R s) x ≡ has s y = ap (has (R s)) e ∙ has-name s y l in
      let more = j - num (has s y) in (
        ap (λ (b : Bool). cond (b && eqb j 1) (found x back) (further' (j - num b))) t
            ∙ cond-by named (has s y && eqb j 1) (found y back) (further more) refl (ap (λ (z : ℕ). found z back) e) (r more).0,
        choose (λ (found : Option Found). member_in found ≤ n) (has s y && eqb j 1) (found y back) (further more) (λ _. l) (λ _. (r more).1),
      )

  walk-name : (left s p j : ℕ) → p ≤ n → Named (walk left cable (R s) p j) (walk left (plain_of cable) s p j)
  unfolding walk
  walk-name zero s p j l = (refl, omega arith)
  walk-name (suc left) s p j l =
      let q = previous n p in
      let r = previous-range n some p l in
      let e = plain_at n most q r.0 r.1 in
      one-back s j (n - suc left) (node_at order q) (node_at (plain n) q) (sym (name_in q r.0 r.1) ∙ ap (name_of cable) (sym e)) (omega arith)
      (walk left cable (R s) q) (walk left (plain_of cable) s q) (λ more. walk-name left s q more r.1)

  place-called : (x : ℕ) → 1 ≤ x → x ≤ n → place order (name_of cable x) ≡ x
  place-called x h l = ap (place order) (name_in x h l) ∙ place_of n order turns.ordered most x h l

  pub before-name : (s x j : ℕ) → 1 ≤ x → x ≤ n → Named (member_before cable (R s) (name_of cable x) j) (member_before (plain_of cable) s x j)
  unfolding member_before
  before-name s x j h l = rw (place-called x h l, plain-place n most x h l) (walk-name (n - 1) s x j l)

  pub sponsors-name : (s : ℕ) → sponsors cable (R s) ≡ sponsors (plain_of cable) s
  unfolding sponsors
  sponsors-name s = ap (ks cable) (R-size s)

  pub sponsored-name : (s x j : ℕ) → 1 ≤ x → x ≤ n → Named (sponsored cable (R s) (name_of cable x) j) (sponsored (plain_of cable) s x j)
  unfolding sponsored
  sponsored-name s x j h l =
      let found = member_before (plain_of cable) s x (j + cable.lag) in
      let r = before-name s x (j + cable.lag) h l in
      let test = leb 1 j && leb j (sponsors (plain_of cable) s) in (
        cond-by named test found None (ap (λ (c : ℕ). leb 1 j && leb j c) (sponsors-name s)) r.0 refl,
        choose (λ (f : Option Found). member_in f ≤ n) test found None (λ _. r.1) (λ _. omega arith),
      )

  pub decided-name : (s x : ℕ) → 1 ≤ x → x ≤ n → Named (decided cable (R s) (name_of cable x)) (decided (plain_of cable) s x)
  unfolding decided
  decided-name s x h l = rw (sponsors-name s) (sponsored-name s x (sponsors (plain_of cable) s) h l)

  -- ---- whose slot it is

  pub plain-sender : (s : ℕ) → (1 ≤ sender (plain_of cable) s) × (sender (plain_of cable) s ≤ n)
  plain-sender s = sender-range (plain_of cable) plain-turns s

  pub sender-name : (s : ℕ) → sender cable s ≡ name_of cable (sender (plain_of cable) s)
  unfolding sender
  sender-name s =
      let r = turn-range n some s in
      sym (name_in (turn n s) r.0 r.1) ∙ ap (name_of cable) (sym (plain_at n most (turn n s) r.0 r.1))
