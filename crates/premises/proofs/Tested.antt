-- Each premise of demand 3 as a test of a run: it holds exactly where the test does. Assumes nothing.
use Prim.Native.Nat.{ℕ, zero, suc, ◌+◌, ◌-◌, ◌≤◌, ◌<◌}
use mathlib.Core.Path.{◌≡◌, refl, sym, ap, ◌∙◌}
use mathlib.Core.Bool.{Bool, true, false, cond, not, ◌&&◌, ◌||◌, true≢false}
use mathlib.Core.List.{List, [], ◌∷◌}
use native.Mathlib.Omega.{arith}
use native.Mathlib.Decide.{ℕ_discrete, dec_le}
use lib.Dec.{eqb, leb}
use lib.ListN.{length}
use borrow.Author.Tests.{eqb-false, ne_eqb, leb-true, le-leb}
use Rattle.agreement.specs.nodeset.Sums.{sum, num}
use Rattle.agreement.specs.nodeset.Sets.{has, size}
use Rattle.agreement.proofs.nodeset.Sums.{sum_same, sum-zero}
use Rattle.agreement.proofs.nodeset.Tests.{by_cases, both, all, or_left, or_right, or_else}
use Rattle.agreement.specs.cable.declared.Cable.{Cable}
use Rattle.agreement.specs.ring.Ring.{sender}
use Rattle.agreement.specs.node_record.declared.Node.{Node}
use Rattle.agreement.specs.node_record.States.{is_member, is_out}
use Rattle.agreement.specs.bench.Table.{Table, record_of, slots_of, speaker}
use Rattle.agreement.specs.bench.Calls.{transmits}
use Rattle.agreement.specs.bench.Runs.{Call, slot, off, restart, table_after, is_slot, list_of, Entry, no_entry, entry_on}
use Rattle.agreement.specs.Demand.{AtEach, AllHear, KeepsListOn, HearEverythingOn, member_after, is_deciding, deciding_ran}
use Rattle.agreement.proofs.bench.Places.{Placed}
use Rattle.agreement.proofs.Beginnings.{on-later}
use Rattle.premises.specs.Needed.{Premise, few-failures, one_outside, list-kept, all-heard, HoldsOn, Holds}
use Rattle.premises.proofs.Scan.{Notes, noted, Scan, Way, SlotTest, scan, Run, at_slots, Right, scan-right, called, calls}

-- ---- the lags, and tables that are lent

pub each-lag : (P : ℕ → Type 0) → P 0 → P 1 → (lag : ℕ) → lag ≤ 1 → P lag
each-lag P none one zero h = none
each-lag P none one (suc zero) h = one
each-lag P none one (suc (suc lag)) h = let z : ⊥ = omega arith in absurd z

-- The plain slot table of n places, n from 3 to 6, written out: `plain n` would be made anew at each place that a run asks about.
abbrev pub in_order : ℕ → List ℕ
in_order n =
    1 ∷ 2 ∷ 3 ∷ up_to 4 ∷ up_to 5 ∷ up_to 6
    ∷ 0 ∷ 0 ∷ 0 ∷ 0 ∷ 0 ∷ 0 ∷ 0 ∷ 0 ∷ 0 ∷ 0 ∷ 0 ∷ 0 ∷ 0 ∷ 0 ∷ 0 ∷ 0 ∷ 0 ∷ 0 ∷ 0 ∷ 0 ∷ 0 ∷ 0 ∷ 0 ∷ 0 ∷ 0 ∷ 0 ∷ []
  where
    up_to : ℕ → ℕ
    up_to p = cond (leb p n) p 0

abbrev pub cable_in : ℕ → ℕ → ℕ → Cable
cable_in n k lag = record { n = n; k = k; m = 0; lag = lag; order = in_order n }

-- m records, whatever they are
unfoldable pub records : (ℕ → Node) → ℕ → Table
records given zero = []
records given (suc m) = given m ∷ records given m

pub how-many : (given : ℕ → Node) (m : ℕ) → length (records given m) ≡ m
unfolding records
how-many given zero = refl
how-many given (suc m) = ap suc (how-many given m)

-- ---- a test of each of the numbers 1 to m

unfoldable pub every : (ℕ → Bool) → ℕ → Bool
every f zero = true
every f (suc m) = every f m && f (suc m)

every_one : (f : ℕ → Bool) (m : ℕ) → every f m ≡ true → (i : ℕ) → 1 ≤ i → i ≤ m → f i ≡ true
unfolding every
every_one f zero e i h l = let z : ⊥ = omega arith in absurd z
every_one f (suc m) e i h l = go (λ (q : i ≤ m). every_one f m x.0 i h q) (ℕ_discrete i (suc m))
  where
    x : (every f m ≡ true) × (f (suc m) ≡ true)
    x = both (every f m) (f (suc m)) e

    go : (i ≤ m → f i ≡ true) → Dec (i ≡ suc m) → f i ≡ true
    go r (yes q) = ap f q ∙ x.1
    go r (no q) = r (omega arith)

every-all : (f : ℕ → Bool) (m : ℕ) → ((i : ℕ) → 1 ≤ i → i ≤ m → f i ≡ true) → every f m ≡ true
unfolding every
every-all f zero h = refl
every-all f (suc m) h = all (every-all f m (λ i p q. h i p (omega arith))) (h (suc m) (omega arith) (omega arith))

-- ---- the tests

-- n in a row: those that begin in slots 1 to m
abbrev pub few_in : (ℕ → ℕ) → ℕ → ℕ → ℕ → Bool
few_in f n c m = every (λ a. leb (sum f a n) c) m

abbrev pub keeps_in : Cable → SlotTest
keeps_in cable c t u = leb (cable.k + (1 + cable.lag)) (size cable.n (list_of t)) && leb (cable.k + (1 + cable.lag)) (size cable.n (list_of u))

-- node i hears, or need not
abbrev pub hears_at : Bool → ℕ → Table → ℕ → Bool
hears_at lost missed t i =
    (not (transmits t) || lost)
    || (eqb i (speaker t) || (not (has missed i) || (is_member (record_of t i).state || is_out (record_of t i).state)))

abbrev pub hear_in : ℕ → SlotTest
hear_in n (slot lost missed room) t u = every (hears_at lost missed t) n
hear_in n (off a) t u = true
hear_in n (restart a) t u = true

abbrev pub test_of : Premise → Cable → Scan → Bool
test_of few-failures cable s = few_in (noted s.failures) cable.n (cable.k - 1) (slots_of s.table)
test_of one_outside cable s = few_in (noted s.outside) cable.n 1 (slots_of s.table)
test_of list-kept cable s = s.kept
test_of all-heard cable s = s.heard

abbrev pub scan_by : Way → Cable → Table → List Call → Scan
scan_by way cable start cs = scan way (keeps_in cable) (hear_in cable.n) start cs

-- "Its deciding slot" has been, for slot s (agreement's specs/Demand)
abbrev undecided : Cable → ℕ → SlotTest
undecided cable s c t u = not (leb s (slots_of t) && eqb (member_after cable (list_of t) (sender cable s) (cable.k + cable.lag)) (speaker t))

abbrev pub decided_in : Cable → Table → ℕ → List Call → Bool
decided_in cable start s cs = not (scan called (undecided cable s) (hear_in cable.n) start cs).kept

abbrev pub test_by : Way → Premise → Cable → Table → List Call → Bool
test_by way p cable start cs = test_of p cable (scan_by way cable start cs)

abbrev pub test : Premise → Cable → Table → List Call → Bool
test p cable start cs = test_by called p cable start cs

-- all four, and the three others, of one scan
abbrev pub three_tests : Premise → Premise → Premise → Cable → Scan → Bool
three_tests p q r cable s = test_of p cable s && (test_of q cable s && test_of r cable s)

abbrev pub other_tests : Premise → Cable → Scan → Bool
other_tests few-failures cable s = three_tests one_outside list-kept all-heard cable s
other_tests one_outside cable s = three_tests few-failures list-kept all-heard cable s
other_tests list-kept cable s = three_tests few-failures one_outside all-heard cable s
other_tests all-heard cable s = three_tests few-failures one_outside list-kept cable s

abbrev pub all_tests : Cable → Scan → Bool
all_tests cable s = test_of few-failures cable s && other_tests few-failures cable s

pub of_three : (p q r : Premise) (cable : Cable) (s : Scan) → three_tests p q r cable s ≡ true → (test_of p cable s ≡ true) × (test_of q cable s ≡ true) × (test_of r cable s ≡ true)
of_three p q r cable s e =
    let x = both (test_of p cable s) (test_of q cable s && test_of r cable s) e in
    let y = both (test_of q cable s) (test_of r cable s) x.1 in
    (x.0, y.0, y.1)

pub of_four : (cable : Cable) (s : Scan) → all_tests cable s ≡ true → (p : Premise) → test_of p cable s ≡ true
of_four cable s e = each
  where
    x : (test_of few-failures cable s ≡ true) × (other_tests few-failures cable s ≡ true)
    x = both (test_of few-failures cable s) (other_tests few-failures cable s) e

    y : (test_of one_outside cable s ≡ true) × (test_of list-kept cable s ≡ true) × (test_of all-heard cable s ≡ true)
    y = of_three one_outside list-kept all-heard cable s x.1

    each : (p : Premise) → test_of p cable s ≡ true
    each few-failures = x.0
    each one_outside = y.0
    each list-kept = y.1
    each all-heard = y.2

-- ---- n in a row

few-sound : (f : ℕ → ℕ) (n c m : ℕ) → ((u : ℕ) → m < u → f u ≡ 0) → few_in f n c m ≡ true → (a : ℕ) → sum f (suc a) n ≤ c
few-sound f n c m z e a = go (dec_le (suc a) m)
  where
    go : Dec (suc a ≤ m) → sum f (suc a) n ≤ c
    go (yes h) = leb-true (sum f (suc a) n) c (every_one (λ a. leb (sum f a n) c) m e (suc a) (omega arith) h)
    go (no h) = omega (arith, sum-zero f (suc a) n (λ u p q. z u (omega arith)))

few-complete : (f : ℕ → ℕ) (n c m : ℕ) → ((a : ℕ) → sum f (suc a) n ≤ c) → few_in f n c m ≡ true
few-complete f n c m h = every-all (λ a. leb (sum f a n) c) m (λ i p q. le-leb (sum f i n) c (one i p))
  where
    one : (i : ℕ) → 1 ≤ i → sum f i n ≤ c
    one i p = let z : suc (i - 1) ≡ i = omega arith in rw z at (h (i - 1))

-- ---- at each slot

-- where a test holds, what it guards
implied : (a b : Bool) → (not a || b) ≡ true → a ≡ true → b ≡ true
implied a b e h = or_else (not a) b e (ap not h)

implying : (a b : Bool) → (a ≡ true → b ≡ true) → (not a || b) ≡ true
implying true b h = h refl
implying false b h = refl

module _ (P : Call → List Call → Type 0) (f : SlotTest) (run : List Call → Table) where
  -- what the test says of a slot
  abbrev At : Call → List Call → Type 0
  At c cs = is_slot c (run cs) ≡ true → f c (run cs) (run (c ∷ cs)) ≡ true

  each-sound : ((c : Call) (cs : List Call) → At c cs → P c cs) → (cs : List Call) → at_slots f run cs ≡ true → AtEach P cs
  unfolding AtEach at_slots
  each-sound h [] e = tt
  each-sound h (c ∷ cs) e =
      let x = both (at_slots f run cs) (not (is_slot c (run cs)) || f c (run cs) (run (c ∷ cs))) e in
      (each-sound h cs x.0, h c cs (implied (is_slot c (run cs)) (f c (run cs) (run (c ∷ cs))) x.1))

  each-complete : ((c : Call) (cs : List Call) → P c cs → At c cs) → (cs : List Call) → AtEach P cs → at_slots f run cs ≡ true
  unfolding AtEach at_slots
  each-complete h [] p = refl
  each-complete h (c ∷ cs) p =
      all (each-complete h cs p.0) (implying (is_slot c (run cs)) (f c (run cs) (run (c ∷ cs))) (h c cs p.1))

keeps-sound : (cable : Cable) (t u : Table) (c : Call) → keeps_in cable c t u ≡ true → (cable.k + (1 + cable.lag) ≤ size cable.n (list_of t)) × (cable.k + (1 + cable.lag) ≤ size cable.n (list_of u))
keeps-sound cable t u c e =
    let n = cable.n in
    let k = cable.k in
    let x = both (leb (k + (1 + cable.lag)) (size n (list_of t))) (leb (k + (1 + cable.lag)) (size n (list_of u))) e in
    (leb-true (k + (1 + cable.lag)) (size n (list_of t)) x.0, leb-true (k + (1 + cable.lag)) (size n (list_of u)) x.1)

keeps-complete : (cable : Cable) (t u : Table) (c : Call) → (cable.k + (1 + cable.lag) ≤ size cable.n (list_of t)) × (cable.k + (1 + cable.lag) ≤ size cable.n (list_of u)) → keeps_in cable c t u ≡ true
keeps-complete cable t u c (a, b) = all (le-leb (cable.k + (1 + cable.lag)) (size cable.n (list_of t)) a) (le-leb (cable.k + (1 + cable.lag)) (size cable.n (list_of u)) b)

-- ---- hearing

hear-sound : (n : ℕ) (c : Call) (t u : Table) → hear_in n c t u ≡ true → AllHear n c t
hear-sound n (slot lost missed room) t u e = λ sent kept i p q other named.
    let a = every_one (hears_at lost missed t) n e i p q in
    let silent : (not (transmits t) || lost) ≡ false = ap (λ (b : Bool). not b || lost) sent ∙ kept in
    let b = or_else (not (transmits t) || lost) (eqb i (speaker t) || (not (has missed i) || (is_member (record_of t i).state || is_out (record_of t i).state))) a silent in
    let d = or_else (eqb i (speaker t)) (not (has missed i) || (is_member (record_of t i).state || is_out (record_of t i).state)) b (ne_eqb i (speaker t) other) in
    implied (has missed i) (is_member (record_of t i).state || is_out (record_of t i).state) d named
hear-sound n (off a) t u e = tt
hear-sound n (restart a) t u e = tt

hear-complete : (n : ℕ) (c : Call) (t u : Table) → AllHear n c t → hear_in n c t u ≡ true
hear-complete n (slot lost missed room) t u h = every-all (hears_at lost missed t) n at
  where
    rest : ℕ → Bool
    rest i = not (has missed i) || (is_member (record_of t i).state || is_out (record_of t i).state)

    kept : (a b : Bool) → (not a || b) ≡ false → (a ≡ true) × (b ≡ false)
    kept true b e = (refl, e)
    kept false b e = absurd (true≢false e)

    at : (i : ℕ) → 1 ≤ i → i ≤ n → hears_at lost missed t i ≡ true
    at i p q = by_cases (not (transmits t) || lost)
        (λ e. or_left (not (transmits t) || lost) (eqb i (speaker t) || rest i) e)
        (λ e. or_right (not (transmits t) || lost) (eqb i (speaker t) || rest i) (by_cases (eqb i (speaker t))
        (λ s. or_left (eqb i (speaker t)) (rest i) s)
        (λ s. or_right (eqb i (speaker t)) (rest i) (implying (has missed i) (is_member (record_of t i).state || is_out (record_of t i).state)
        (λ m. h (kept (transmits t) lost e).0 (kept (transmits t) lost e).1 i p q (eqb-false i (speaker t) s) m)))))
hear-complete n (off a) t u h = refl
hear-complete n (restart a) t u h = refl

-- ---- each premise

module _ (cable : Cable) (R : Run) (cs : List Call) where
  open cable use {n, k}
  open R use {run}

  abbrev S : Scan
  S = scan R.way (keeps_in cable) (hear_in n) R.start cs

  right : Right (keeps_in cable) (hear_in n) run cs S
  right = scan-right (keeps_in cable) (hear_in n) R cs

  -- a number of each slot's entry, as it is noted
  module _ (f : Entry → ℕ) (none : f no_entry ≡ 0) (notes : Notes) (are : (u : ℕ) → noted notes u ≡ f (entry_on run cs u)) (c : ℕ) where
    same_sum : (a : ℕ) → sum (noted notes) a n ≡ sum (λ u. f (entry_on run cs u)) a n
    same_sum a = sum_same (noted notes) (λ u. f (entry_on run cs u)) a n (λ u _ _. are u)

    few-by : few_in (noted notes) n c (slots_of S.table) ≡ true → (a : ℕ) → sum (λ u. f (entry_on run cs u)) (suc a) n ≤ c
    few-by e a = omega (arith, same_sum (suc a), few-sound (noted notes) n c (slots_of S.table) later e a)
      where
        later : (u : ℕ) → slots_of S.table < u → noted notes u ≡ 0
        later u h = are u ∙ ap f (on-later run R.next cs u (omega (arith, h, ap slots_of right.table_is))) ∙ none

    few-tested : ((a : ℕ) → sum (λ u. f (entry_on run cs u)) (suc a) n ≤ c) → few_in (noted notes) n c (slots_of S.table) ≡ true
    few-tested h = few-complete (noted notes) n c (slots_of S.table) (λ a. omega (arith, same_sum (suc a), h a))

  pub table-scanned : S.table ≡ run cs
  table-scanned = right.table_is

  pub by-test-on : (p : Premise) → test_by R.way p cable R.start cs ≡ true → HoldsOn p cable run cs
  unfolding KeepsListOn HearEverythingOn
  by-test-on few-failures e = few-by (λ x. x.failures) refl S.failures right.failures-are (k - 1) e
  by-test-on one_outside e = few-by (λ x. num x.outside) refl S.outside right.outside-are 1 e
  by-test-on list-kept e = each-sound (KeepsListOn cable run) (keeps_in cable) run (λ c ds h s. keeps-sound cable (run ds) (run (c ∷ ds)) c (h s)) cs (sym right.kept-is ∙ e)
  by-test-on all-heard e = each-sound (HearEverythingOn cable run) (hear_in n) run (λ c ds h s. hear-sound n c (run ds) (run (c ∷ ds)) (h s)) cs (sym right.heard-is ∙ e)

  tested : (p : Premise) → HoldsOn p cable run cs → test_by R.way p cable R.start cs ≡ true
  unfolding KeepsListOn HearEverythingOn
  tested few-failures h = few-tested (λ x. x.failures) refl S.failures right.failures-are (k - 1) h
  tested one_outside h = few-tested (λ x. num x.outside) refl S.outside right.outside-are 1 h
  tested list-kept h = right.kept-is ∙ each-complete (KeepsListOn cable run) (keeps_in cable) run (λ c ds x s. keeps-complete cable (run ds) (run (c ∷ ds)) c (x s)) cs h
  tested all-heard h = right.heard-is ∙ each-complete (HearEverythingOn cable run) (hear_in n) run (λ c ds x s. hear-complete n c (run ds) (run (c ∷ ds)) (x s)) cs h

-- ---- the deciding slot

or-not : (a a' b c : Bool) → a ≡ not a' → (a || (b && c)) ≡ not (a' && (not b || not c))
or-not a true false c e = ap (λ (x : Bool). x || false) e
or-not a true true false e = ap (λ (x : Bool). x || false) e
or-not a true true true e = ap (λ (x : Bool). x || true) e
or-not a false b c e = ap (λ (x : Bool). x || (b && c)) e

decided-slots : (cable : Cable) (start : Table) (s : ℕ) (cs : List Call) → deciding_ran cable start s cs ≡ not (at_slots (undecided cable s) (table_after start) cs)
unfolding deciding_ran is_deciding at_slots
decided-slots cable start s [] = refl
decided-slots cable start s (c ∷ cs) =
    let t = table_after start cs in
    or-not (deciding_ran cable start s cs) (at_slots (undecided cable s) (table_after start) cs) (is_slot c t) (leb s (slots_of t) && eqb (member_after cable (list_of t) (sender cable s) (cable.k + cable.lag)) (speaker t)) (decided-slots cable start s cs)

-- of the calls as they are
module _ (cable : Cable) (pos : 1 ≤ cable.n) (start : Table) (begins : Placed cable 0 start) (cs : List Call) where
  pub by-test : (p : Premise) → test p cable start cs ≡ true → Holds p cable start cs
  by-test p e = by-test-on cable (calls cable pos start begins) cs p e

  pub table-right : (scan_by called cable start cs).table ≡ table_after start cs
  table-right = table-scanned cable (calls cable pos start begins) cs

  pub by-failed-test : (p : Premise) → test p cable start cs ≡ false → Holds p cable start cs → ⊥
  by-failed-test p e h = true≢false (sym (tested cable (calls cable pos start begins) cs p h) ∙ e)

  pub decided-right : (s : ℕ) → deciding_ran cable start s cs ≡ decided_in cable start s cs
  decided-right s = decided-slots cable start s cs ∙ ap not (sym (scan-right (undecided cable s) (hear_in cable.n) (calls cable pos start begins) cs).kept-is)
