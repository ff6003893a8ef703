-- The records made anew (specs/Changes) are sound, where their numbers are in range and the sets they are given are sets of other nodes.
-- Assumes nothing.
use Prim.Native.Nat.{ℕ, ◌^◌, ◌≤◌, ◌<◌}
use mathlib.Core.Path.{◌≡◌, refl, sym, ap}
use mathlib.Core.Logic.{◌⊎◌, inl, inr}
use mathlib.Core.Bool.{true, false, not, ◌||◌}
use native.Mathlib.Omega.{arith}
use native.Mathlib.Nat.{le_refl}
use lib.Dec.{eqb, leb}
use lib.Pow.{pow_pos}
use borrow.Author.Tests.{le-leb, lt-ltb, eq-eqb, ne_eqb}
use Rattle.nodeset.specs.Sets.{has, full, within, subset, size}
use Rattle.nodeset.proofs.Tests.{by_cases, all, or_left, or_right}
use Rattle.nodeset.proofs.Bits.{has-none}
use Rattle.nodeset.proofs.Laws.{full-lt, has-full}
use Rattle.nodeset.proofs.Subsets.{has-subset}
use Rattle.cable.specs.declared.Cable.{Cable}
use Rattle.cable.specs.Cable.{node_number}
use Rattle.cable.proofs.Ranges.{Fits, ring-size, node-number}
use Rattle.node_record.specs.declared.Node.{Node}
use Rattle.node_record.specs.declared.Cause.{Cause}
use Rattle.node_record.specs.States.{is_member}
use Rattle.node_record.specs.Soundness.{limit, sound}
use Rattle.node_record.proofs.Facts.{clauses, sound-by, exactly-by}
use Rattle.node_changes.specs.Changes.{starting, out_for, listening_after, fresh, following_with, leave}

-- the choices, own number and slot count in range
pub record InRange (cable : Cable) (own slots : ℕ) : Type 0 where
  pub choices : Fits cable
  pub own-in : node_number cable.n own ≡ true
  pub slots-in : leb slots limit ≡ true

pub in-range : (v : Node) → sound v ≡ true → InRange v.cable v.own v.slots
in-range v e = let c = clauses v e in record { choices = c.choices; own-in = c.own; slots-in = c.slots }

-- a set is a part of itself
subset-self : (s : ℕ) → subset s s ≡ true
subset-self s = has-subset s s (λ x p q h. h)

-- no set: sound for any node
none_within : (n : ℕ) → within n 0 ≡ true
none_within n = lt-ltb 0 (2 ^ n) (pow_pos n)

-- 0 is no node
not_own : (n own : ℕ) → node_number n own ≡ true → eqb 0 own ≡ false
not_own n own e = ne_eqb 0 own (λ z. omega (arith, node-number n own e))

pub out-sound : (cause : Cause) (v : Node) → InRange v.cable v.own v.slots → sound (out_for cause v) ≡ true
unfolding has
out-sound cause v r =
    sound-by (out_for cause v)
    (record {
      choices = r.choices;
      own = r.own-in;
      slots = r.slots-in;
      sets = all (none_within v.cable.n) (all (none_within v.cable.n) (subset-self 0));
      returning = all (le-leb 0 v.cable.n (omega arith)) refl;
      own_in = exactly-by false (has 0 v.own) (sym (has-none v.own));
      knock = exactly-by false (eqb 0 v.own) (sym (not_own v.cable.n v.own r.own-in));
      empty = refl;
      heard = refl;
      yes = refl;
      window = refl;
      enough = refl;
    })

pub listening-sound : (last : ℕ) (v : Node) → InRange v.cable v.own v.slots
    → last < 2 ^ v.cable.n → (last ≡ 0) ⊎ (2 ≤ size v.cable.n last) → has last v.own ≡ false
    → sound (listening_after last v) ≡ true
unfolding has
listening-sound last v r l two absent =
    sound-by (listening_after last v)
    (record {
      choices = r.choices;
      own = r.own-in;
      slots = r.slots-in;
      sets = all (none_within v.cable.n) (all (none_within v.cable.n) (subset-self 0));
      returning = all (le-leb 0 v.cable.n (omega arith)) refl;
      own_in = exactly-by false (has 0 v.own) (sym (has-none v.own));
      knock = exactly-by false (eqb 0 v.own) (sym (not_own v.cable.n v.own r.own-in));
      empty = refl;
      heard = refl;
      yes = refl;
      window =
          all
          (all (lt-ltb 0 v.cable.n (omega (arith, ring-size v.cable.n r.choices.ring)))
          (all (none_within v.cable.n)
          (all (le-leb v.cable.k v.cable.k (le_refl v.cable.k))
          (all (eq-eqb v.cable.k v.cable.k refl)
          (all (lt-ltb last (2 ^ v.cable.n) l)
          (all (few two)
          (all (ap not (has-none v.own)) (ap not absent))))))))
          refl;
      enough = refl;
    })
  where
    few : (last ≡ 0) ⊎ (2 ≤ size v.cable.n last) → (eqb last 0 || leb 2 (size v.cable.n last)) ≡ true
    few (inl e) = or_left (eqb last 0) (leb 2 (size v.cable.n last)) (eq-eqb last 0 e)
    few (inr h) = or_right (eqb last 0) (leb 2 (size v.cable.n last)) (le-leb 2 (size v.cable.n last) h)

pub fresh-sound : (v : Node) → InRange v.cable v.own v.slots → sound (fresh v) ≡ true
fresh-sound v r = listening-sound 0 v r (pow_pos v.cable.n) (inl refl) (has-none v.own)

pub leave-sound : (cause : Cause) (v : Node) → InRange v.cable v.own v.slots → sound (leave cause v) ≡ true
unfolding leave
leave-sound cause v r = by_cases (is_member v.state) (λ e. rw e (out-sound cause v r)) (λ e. rw e (fresh-sound v r))

pub following-sound : (set : ℕ) (v : Node) → InRange v.cable v.own v.slots
    → set < 2 ^ v.cable.n → 2 ≤ size v.cable.n set → has set v.own ≡ false
    → sound (following_with set v) ≡ true
unfolding has
following-sound set v r l two absent =
    sound-by (following_with set v)
    (record {
      choices = r.choices;
      own = r.own-in;
      slots = r.slots-in;
      sets = all (lt-ltb set (2 ^ v.cable.n) l) (all (lt-ltb set (2 ^ v.cable.n) l) (subset-self set));
      returning = all (le-leb 0 v.cable.n (omega arith)) refl;
      own_in = exactly-by false (has set v.own) (sym absent);
      knock = exactly-by false (eqb 0 v.own) (sym (not_own v.cable.n v.own r.own-in));
      empty = refl;
      heard = refl;
      yes = refl;
      window = refl;
      enough = le-leb 2 (size v.cable.n set) two;
    })

pub starting-sound : (cable : Cable) (own : ℕ) → Fits cable → node_number cable.n own ≡ true → sound (starting cable own) ≡ true
unfolding has
starting-sound cable own f j =
    let n = cable.n in
    let x = node-number n own j in
    sound-by (starting cable own)
    (record {
      choices = f;
      own = j;
      slots = refl;
      sets = all (lt-ltb (full n) (2 ^ n) (full-lt n)) (all (lt-ltb (full n) (2 ^ n) (full-lt n)) (subset-self (full n)));
      returning = all (le-leb 0 n (omega arith)) refl;
      own_in = exactly-by true (has (full n) own) (sym (has-full n own x.0 x.1 (omega (arith, ring-size n f.ring))));
      knock = exactly-by false (eqb 0 own) (sym (not_own n own j));
      empty = refl;
      heard = refl;
      yes = refl;
      window = refl;
      enough = refl;
    })
