-- The ledger entry by entry (specs/Entered). Assumes nothing.
use Prim.Native.Nat.{ℕ, zero, suc, ◌+◌, ◌≤◌, ◌<◌}
use mathlib.Core.Path.{◌≡◌, refl, sym, ap, ◌∙◌}
use mathlib.Core.Logic.{◌≢◌}
use mathlib.Core.Bool.{Bool, true, false, cond, ◌&&◌}
use lib.Dec.{eqb, leb}
use mathlib.Core.List.{[], ◌∷◌}
use native.Mathlib.Omega.{arith}
use lib.ListN.{length, get_or, set}
use Rattle.std.specs.List.{list_all}
use borrow.Author.Tests.{lt-ltb, eqb-true, eqb-false, leb-true}
use Rattle.nodeset.specs.Sets.{has}
use Rattle.nodeset.proofs.Tests.{by_cases, both}
use Rattle.nodeset.proofs.Bits.{has-none}
use Rattle.nodeset.proofs.Laws.{has-with, has-with-other}
use Rattle.bench.specs.Table.{Table, record_of, node_count}
use Rattle.bench.specs.Ledger.{Ledger, Figures, figures, left_in, joined_in, last_in, counts_fit, all_fit, ledger_fits, is_leaving, is_joining, figures_after, entries_from, ledger_after}
use Rattle.ledger.specs.Entered.{one_more, entry_after, entered_from, entered, nodes_where, leavers, joiners}

module _ (date left joined : ℕ) where
  -- an entry that has not come yet
  pub entry-ahead : (m i : ℕ) (ledger : Ledger) → get_or (entered_from date left joined m i ledger) m [] ≡ get_or ledger m []
  unfolding entered_from
  entry-ahead zero i ledger = refl
  entry-ahead (suc m) i [] = refl
  entry-ahead (suc m) i (f ∷ ledger) = entry-ahead m (suc i) ledger

  -- one entry more
  pub one-entered : (m i x : ℕ) (ledger : Ledger) → x ≡ i + m → m < length ledger
      → set (entered_from date left joined m i ledger) m (entry_after date (has left x) (has joined x) (get_or ledger m [])) ≡ entered_from date left joined (suc m) i ledger
  unfolding entered_from
  one-entered m i x [] e h = absurd (elim h [ ])
  one-entered zero i x (f ∷ ledger) e h = let z : x ≡ i = omega arith in ap (λ (y : ℕ). entry_after date (has left y) (has joined y) f ∷ ledger) z
  one-entered (suc m) i x (f ∷ ledger) e h =
      ap (λ (l : Ledger). entry_after date (has left i) (has joined i) f ∷ l) (one-entered m (suc i) x ledger (omega arith) (omega arith))

  -- all of them: there are no more, or the ledger has none
  pub all-entered : (m k i : ℕ) (ledger : Ledger) → (m < k → length ledger ≤ m) → m ≤ k → entered_from date left joined m i ledger ≡ entered_from date left joined k i ledger
  unfolding entered_from
  all-entered zero zero i ledger h l = refl
  all-entered zero (suc k) i [] h l = refl
  all-entered zero (suc k) i (f ∷ ledger) h l = let z : ⊥ = omega (arith, h (omega arith)) in absurd z
  all-entered (suc m) zero i ledger h l = let z : ⊥ = omega arith in absurd z
  all-entered (suc m) (suc k) i [] h l = refl
  all-entered (suc m) (suc k) i (f ∷ ledger) h l =
      ap (λ (x : Ledger). entry_after date (has left i) (has joined i) f ∷ x) (all-entered m k (suc i) ledger (λ p. omega (arith, h (omega arith))) (omega arith))

-- ---- entries that fit

-- as `all` looks at them
pub all-fit : (slots : ℕ) (ledger : Ledger) → list_all (counts_fit slots) ledger ≡ all_fit slots ledger
unfolding all_fit
all-fit slots [] = refl
all-fit slots (f ∷ ledger) = ap (λ (b : Bool). counts_fit slots f && b) (all-fit slots ledger)

-- ---- who left and who joined

module _ (p : ℕ → Bool) where
  where-above : (m i : ℕ) → m < i → has (nodes_where p m) i ≡ false
  unfolding nodes_where
  where-above zero i h = has-none i
  where-above (suc m) i h =
      let rest = where-above m i (omega arith) in
      by_cases (p (suc m))
      (λ e. rw e (has-with-other (nodes_where p m) (suc m) i (λ q. omega arith) ∙ rest))
      (λ e. rw e rest)

  where-is : (m i : ℕ) → 1 ≤ i → i ≤ m → m ≤ 32 → has (nodes_where p m) i ≡ p i
  unfolding nodes_where
  where-is zero i h l k = let z : ⊥ = omega arith in absurd z
  where-is (suc m) i h l k =
      by_cases (eqb i (suc m))
      (λ q. let e : i ≡ suc m = eqb-true i (suc m) q in
      by_cases (p (suc m))
      (λ t. rw (e, t) (has-with (nodes_where p m) (suc m) (omega arith) k))
      (λ t. rw (e, t) (where-above m (suc m) (omega arith))))
      (λ q. let ne : i ≢ suc m = eqb-false i (suc m) q in
      let rest = where-is m i h (omega arith) (omega arith) in
      by_cases (p (suc m))
      (λ t. rw t (has-with-other (nodes_where p m) (suc m) i (λ z. ne (sym z)) ∙ rest))
      (λ t. rw t rest))

-- ---- the ledger after a call

pub one-more-is : (count : ℕ) → count < 18446744073709551615 → one_more count ≡ count + 1
one-more-is count h = simp (lt-ltb count 18446744073709551615 h)

-- Where the counts are no greater than the slot count allows, what is entered of who left and joined is the ledger after the call.
entered-from : (date slots : ℕ) (before after : Table) (m i : ℕ) (ledger : Ledger) → slots + 1 < 18446744073709551615 → node_count before ≤ 32
    → 1 ≤ i → i + length ledger ≤ node_count before + 1 → length ledger ≤ m → all_fit slots ledger ≡ true
    → entered_from date (leavers before after) (joiners before after) m i ledger ≡ entries_from date before after i ledger
unfolding entered_from entries_from all_fit
entered-from date slots before after zero i [] small few h l k e = refl
entered-from date slots before after zero i (f ∷ ledger) small few h l k e = let z : ⊥ = omega arith in absurd z
entered-from date slots before after (suc m) i [] small few h l k e = refl
entered-from date slots before after (suc m) i (f ∷ ledger) small few h l k e =
    let a = (record_of before i).state in
    let b = (record_of after i).state in
    let c = both (counts_fit slots f) (all_fit slots ledger) e in
    let d = both (leb (left_in f) (slots + 1)) (leb (joined_in f) (slots + 1)) c.0 in
    let left-in : has (leavers before after) i ≡ is_leaving a b = where-is (λ x. is_leaving (record_of before x).state (record_of after x).state) (node_count before) i h (omega arith) few in
    let joined-in : has (joiners before after) i ≡ is_joining a b = where-is (λ x. is_joining (record_of before x).state (record_of after x).state) (node_count before) i h (omega arith) few in
    let left-more = one-more-is (left_in f) (omega (arith, leb-true (left_in f) (slots + 1) d.0)) in
    let joined-more = one-more-is (joined_in f) (omega (arith, leb-true (joined_in f) (slots + 1) d.1)) in
    let entry : entry_after date (has (leavers before after) i) (has (joiners before after) i) f ≡ figures_after date a b f =
    ap (λ (x : Bool). entry_after date x (has (joiners before after) i) f) left-in
    ∙ ap (λ (x : Bool). entry_after date (is_leaving a b) x f) joined-in
    ∙ ap (λ (x : ℕ). cond (is_leaving a b) (figures x (joined_in f) date) (cond (is_joining a b) (figures (left_in f) (one_more (joined_in f)) (last_in f)) f)) left-more
    ∙ ap (λ (x : ℕ). cond (is_leaving a b) (figures (left_in f + 1) (joined_in f) date) (cond (is_joining a b) (figures (left_in f) x (last_in f)) f)) joined-more in
    ap (λ (x : Figures). x ∷ entered_from date (leavers before after) (joiners before after) m (suc i) ledger) entry
    ∙ ap (λ (x : Ledger). figures_after date a b f ∷ x) (entered-from date slots before after m (suc i) ledger small few (omega arith) (omega arith) (omega arith) c.1)

pub entered-is : (date slots : ℕ) (before after : Table) (ledger : Ledger) → slots + 1 < 18446744073709551615 → node_count before ≤ 32
    → ledger_fits (node_count before) slots ledger ≡ true
    → entered date (leavers before after) (joiners before after) ledger ≡ ledger_after date before after ledger
unfolding ledger_fits
entered-is date slots before after ledger small few e =
    let c = both (eqb (length ledger) (node_count before)) (all_fit slots ledger) e in
    let size : length ledger ≡ node_count before = eqb-true (length ledger) (node_count before) c.0 in
    entered-from date slots before after 32 1 ledger small few (omega arith) (omega (arith, size)) (omega (arith, size, few)) c.1
