-- Each premise of demand 3 is needed, with lag 0 and with lag 1: a run that breaks it alone, and a claim with it. Whatever records were lent to set-up. Assumes nothing.
use Prim.Native.Nat.{ℕ, ◌+◌, ◌-◌, ◌≤◌}
use mathlib.Core.Path.{◌≡◌, refl, sym, ap, ◌∙◌}
use mathlib.Core.Bool.{Bool, true, false, not, ◌&&◌, true≢false}
use mathlib.Core.List.{List, reverse}
use native.Mathlib.Omega.{arith}
use lib.Dec.{ltb, lit≤}
use lib.ListN.{length}
use borrow.Author.Tests.{ltb-true, not-true}
use Rattle.agreement.specs.cable.declared.Cable.{Cable}
use Rattle.agreement.specs.cable.Cable.{cable_fits}
use Rattle.agreement.proofs.cable.Ranges.{ring-size, fitting}
use Rattle.agreement.specs.node_record.declared.Node.{Node}
use Rattle.agreement.proofs.nodeset.Tests.{both}
use Rattle.agreement.specs.node.Calls.{no_node}
use Rattle.agreement.specs.node_record.States.{is_member}
use Rattle.agreement.specs.bench.Table.{Table, record_of, slots_of}
use Rattle.agreement.specs.bench.Calls.{set_up_of, greatest}
use Rattle.agreement.specs.bench.Runs.{Call, table_after}
use Rattle.agreement.specs.Demand.{next, onwards, LostOrSilent, PremisesOn, Premises, Agree, InTime, EverySequence}
use Rattle.agreement.specs.Repeated.{run_by, run_before}
use Rattle.agreement.proofs.bench.Computed.{computed}
use Rattle.agreement.proofs.bench.Places.{Placed}
use Rattle.agreement.proofs.bench.Runs.{start-placed, run_length}
use Rattle.agreement.proofs.Beginnings.{at-end}
use Rattle.agreement.proofs.Throughout.{nothing-apart}
use Rattle.premises.specs.Plans.{two_miss, two_knocks, one_fewer, none_to_decide, misses_twice, two_at_once}
use Rattle.premises.specs.Needed.{Premise, few-failures, one_outside, list-kept, all-heard, HoldsOn, Holds, Others, Bites, Without, EachNeeded, BetweenNeeded}
use Rattle.premises.proofs.Scan.{noted, Scan, scan, called, called_before, calls-before}
use Rattle.premises.proofs.Tested.{each-lag, cable_in, records, how-many, every, decided_in, test_of, scan_by, test, three_tests, other_tests, all_tests, of_three, of_four, by-test-on, by-test, table-right, decided-right, by-failed-test}

-- the four are the premises of demand 3, and no others
pub the-four : (cable : Cable) (start : Table) (cs : List Call) → ((p : Premise) → Holds p cable start cs) → Premises cable start cs
the-four cable start cs h = record { few-failures = h few-failures; one_outside = h one_outside; list-kept = h list-kept; all-heard = h all-heard }

pub each-of-four : (cable : Cable) (start : Table) (cs : List Call) → Premises cable start cs → (p : Premise) → Holds p cable start cs
each-of-four cable start cs h few-failures = h.few-failures
each-of-four cable start cs h one_outside = h.one_outside
each-of-four cable start cs h list-kept = h.list-kept
each-of-four cable start cs h all-heard = h.all-heard

-- ---- what a run that bites has to show

-- this premise and no other is broken, and the bench tells a distance that is not 0
abbrev parts_lists : Premise → Cable → Scan → Bool
parts_lists p cable s = other_tests p cable s && (not (test_of p cable s) && ltb 0 (greatest cable.n s.table))

module _ (cable : Cable) (fits : cable_fits cable ≡ true) (lent : Table) (one_each : length lent ≡ cable.n) (cs : List Call) where
  open cable use {n}

  abbrev start : Table
  start = (set_up_of cable lent).table

  abbrev scanned : Scan
  scanned = scan_by called cable start cs

  pos : 1 ≤ n
  pos = omega (arith, ring-size n (fitting cable fits).ring)

  begins : Placed cable 0 start
  begins = start-placed cable fits lent one_each

  by_tests : (p q r : Premise) → three_tests p q r cable scanned ≡ true → Holds p cable start cs × Holds q cable start cs × Holds r cable start cs
  by_tests p q r e =
      let x = of_three p q r cable scanned e in
      (by-test cable pos start begins cs p x.0, by-test cable pos start begins cs q x.1, by-test cable pos start begins cs r x.2)

  others_by : (p : Premise) → other_tests p cable scanned ≡ true → Others p cable start cs
  others_by few-failures e = by_tests one_outside list-kept all-heard e
  others_by one_outside e = by_tests few-failures list-kept all-heard e
  others_by list-kept e = by_tests few-failures one_outside all-heard e
  others_by all-heard e = by_tests few-failures one_outside list-kept e

  bites-agree : (p : Premise) → parts_lists p cable scanned ≡ true → Bites p Agree cable lent cs
  bites-agree p e =
      let d = greatest n scanned.table in
      let x = both (other_tests p cable scanned) (not (test_of p cable scanned) && ltb 0 d) e in
      let y = both (not (test_of p cable scanned)) (ltb 0 d) x.1 in
      let same : d ≡ greatest n (table_after start cs) = ap (greatest n) (table-right cable pos start begins cs) in
      record {
        fits = fits;
        one_each = one_each;
        others = others_by p x.0;
        broken = by-failed-test cable pos start begins cs p (not-true (test_of p cable scanned) y.0);
        fails = λ h. omega (arith, same, ltb-true 0 d y.1, nothing-apart n (table_after start cs) (run_length cable pos start begins cs) h);
      }

  -- slot s has failed, n - 1 slots ran after it, and it is not decided
  bites-in-time : (p : Premise) (s : ℕ) → other_tests p cable scanned ≡ true → test p cable start cs ≡ false → LostOrSilent cable start s cs → s + (n - 1) ≤ slots_of scanned.table → decided_in cable start s cs ≡ false
      → Bites p InTime cable lent cs
  bites-in-time p s o f x l e = record {
    fits = fits;
    one_each = one_each;
    others = others_by p o;
    broken = by-failed-test cable pos start begins cs p f;
    fails = λ h. true≢false (sym (h s x (omega (arith, l, ap slots_of (table-right cable pos start begins cs)))) ∙ decided-right cable pos start begins cs s ∙ e);
  }

-- ---- the runs

-- the cable with this lag, and the plan
abbrev cable_for : Premise → ℕ → Cable
cable_for few-failures lag = cable_in (4 + lag) 2 lag
cable_for one_outside lag = cable_in (5 + lag) 2 lag
cable_for list-kept lag = cable_in (4 + lag) 3 lag
cable_for all-heard lag = cable_in (4 + lag) 2 lag

abbrev plan_for : Premise → ℕ → List Call
plan_for few-failures lag = two_miss lag
plan_for one_outside lag = two_knocks lag
plan_for list-kept lag = one_fewer lag
plan_for all-heard lag = misses_twice lag

fits-for : (lag : ℕ) → lag ≤ 1 → (p : Premise) → cable_fits (cable_for p lag) ≡ true
unfolding computed
fits-for lag h few-failures = each-lag (λ lag. cable_fits (cable_for few-failures lag) ≡ true) refl refl lag h
fits-for lag h one_outside = each-lag (λ lag. cable_fits (cable_for one_outside lag) ≡ true) refl refl lag h
fits-for lag h list-kept = each-lag (λ lag. cable_fits (cable_for list-kept lag) ≡ true) refl refl lag h
fits-for lag h all-heard = each-lag (λ lag. cable_fits (cable_for all-heard lag) ≡ true) refl refl lag h

-- whatever records were lent
module _ (given : ℕ → Node) where
  abbrev lent_for : Cable → Table
  lent_for cable = records given cable.n

  abbrev Parts : Premise → ℕ → Type 0
  Parts p lag = parts_lists p (cable_for p lag) (scan_by called (cable_for p lag) (set_up_of (cable_for p lag) (lent_for (cable_for p lag))).table (reverse (plan_for p lag))) ≡ true

  few-parts : (lag : ℕ) → lag ≤ 1 → Parts few-failures lag
  unfolding computed every noted scan records
  few-parts = each-lag (Parts few-failures) refl refl

  outside-parts : (lag : ℕ) → lag ≤ 1 → Parts one_outside lag
  unfolding computed every noted scan records
  outside-parts = each-lag (Parts one_outside) refl refl

  list-parts : (lag : ℕ) → lag ≤ 1 → Parts list-kept lag
  unfolding computed every noted scan records
  list-parts = each-lag (Parts list-kept) refl refl

  heard-parts : (lag : ℕ) → lag ≤ 1 → Parts all-heard lag
  unfolding computed every noted scan records
  heard-parts = each-lag (Parts all-heard) refl refl

  parts : (lag : ℕ) → lag ≤ 1 → (p : Premise) → Parts p lag
  parts lag h few-failures = few-parts lag h
  parts lag h one_outside = outside-parts lag h
  parts lag h list-kept = list-parts lag h
  parts lag h all-heard = heard-parts lag h

  pub bites : (lag : ℕ) → lag ≤ 1 → (p : Premise) → Bites p Agree (cable_for p lag) (lent_for (cable_for p lag)) (reverse (plan_for p lag))
  bites lag h p = bites-agree (cable_for p lag) (fits-for lag h p) (lent_for (cable_for p lag)) (how-many given (cable_for p lag).n) (reverse (plan_for p lag)) p (parts lag h p)

  -- nobody decides slot 2
  abbrev late_start : ℕ → Table
  late_start lag = (set_up_of (cable_for list-kept lag) (lent_for (cable_for list-kept lag))).table

  abbrev late_calls : ℕ → List Call
  late_calls lag = reverse (none_to_decide lag)

  abbrev Late : ℕ → Type 0
  Late lag = Bites list-kept InTime (cable_for list-kept lag) (lent_for (cable_for list-kept lag)) (late_calls lag)

  abbrev TestedLate : ℕ → Type 0
  TestedLate lag =
      let s = scan_by called (cable_for list-kept lag) (late_start lag) (late_calls lag) in
      (other_tests list-kept (cable_for list-kept lag) s ≡ true) × (test_of list-kept (cable_for list-kept lag) s ≡ false) × (2 + ((cable_for list-kept lag).n - 1) ≤ slots_of s.table)

  tested-late : (lag : ℕ) → lag ≤ 1 → TestedLate lag
  unfolding computed every noted scan records
  tested-late = each-lag TestedLate (refl, refl, lit≤ tt) (refl, refl, lit≤ tt)

  abbrev Failed : ℕ → Type 0
  Failed lag = LostOrSilent (cable_for list-kept lag) (late_start lag) 2 (late_calls lag)

  failed : (lag : ℕ) → lag ≤ 1 → Failed lag
  unfolding computed records
  failed = each-lag Failed (lit≤ tt, lit≤ tt, refl, refl) (lit≤ tt, lit≤ tt, refl, refl)

  abbrev Undecided : ℕ → Type 0
  Undecided lag = decided_in (cable_for list-kept lag) (late_start lag) 2 (late_calls lag) ≡ false

  undecided : (lag : ℕ) → lag ≤ 1 → Undecided lag
  unfolding computed scan records next onwards
  undecided = each-lag Undecided refl refl

  pub list-bites-in-time : (lag : ℕ) → lag ≤ 1 → Late lag
  list-bites-in-time lag h =
      let x = tested-late lag h in
      bites-in-time (cable_for list-kept lag) (fits-for lag h list-kept) (lent_for (cable_for list-kept lag)) (how-many given (cable_for list-kept lag).n) (late_calls lag) list-kept 2 x.0 x.1 (failed lag h) x.2 (undecided lag h)

-- ---- demand 3 does not hold without any of them

refuted : (p : Premise) (cable : Cable) (lent : Table) (cs : List Call) → Bites p Agree cable lent cs → Without cable.lag p → ⊥
unfolding EverySequence
refuted p cable lent cs b w = b.fails (at-end (Agree cable (set_up_of cable lent).table) cs (w cable b.fits lent b.one_each cs (refl, b.others)).agree)

pub needed : EachNeeded
needed lag h p w = refuted p (cable_for p lag) _ _ (bites (λ _. no_node) lag h p) (rw (lag-for p) w)
  where
    lag-for : (p : Premise) → (cable_for p lag).lag ≡ lag
    lag-for few-failures = refl
    lag-for one_outside = refl
    lag-for list-kept = refl
    lag-for all-heard = refl

-- ---- nothing differs only with k + 1 members, and the lag, between a departure and a joining, too

module _ (given : ℕ → Node) where
  abbrev cable_between : ℕ → Cable
  cable_between lag = cable_in (5 + lag) 3 lag

  abbrev start_between : ℕ → Table
  start_between lag = (set_up_of (cable_between lag) (records given (5 + lag))).table

  -- the premises are met by the rule before, and node 2 is a member; it has left now
  abbrev Met : ℕ → Type 0
  Met lag = all_tests (cable_between lag) (scan_by called_before (cable_between lag) (start_between lag) (reverse (two_at_once lag))) ≡ true

  met-before : (lag : ℕ) → lag ≤ 1 → Met lag
  unfolding computed every noted scan records
  met-before = each-lag Met refl refl

  abbrev WasMember : ℕ → Type 0
  WasMember lag = is_member (record_of (run_before (start_between lag) (reverse (two_at_once lag))) 2).state ≡ true

  was-member : (lag : ℕ) → lag ≤ 1 → WasMember lag
  unfolding computed records run_by
  was-member = each-lag WasMember refl refl

  abbrev HasLeft : ℕ → Type 0
  HasLeft lag = is_member (record_of (table_after (start_between lag) (reverse (two_at_once lag))) 2).state ≡ false

  has_left : (lag : ℕ) → lag ≤ 1 → HasLeft lag
  unfolding computed records
  has_left = each-lag HasLeft refl refl

fits-between : (given : ℕ → Node) (lag : ℕ) → lag ≤ 1 → cable_fits (cable_between given lag) ≡ true
unfolding computed
fits-between given = each-lag (λ lag. cable_fits (cable_between given lag) ≡ true) refl refl

pub between-needed : BetweenNeeded
unfolding EverySequence
between-needed lag h w =
    let given : ℕ → Node = λ i. no_node in
    let cs = reverse (two_at_once lag) in
    let start = start_between given lag in
    let m : (p : Premise) → HoldsOn p (cable_between given lag) (run_before start) cs = λ p. by-test-on (cable_between given lag) (calls-before start) cs p (of_four (cable_between given lag) (scan_by called_before (cable_between given lag) start cs) (met-before given lag h) p) in
    let met : PremisesOn (cable_between given lag) (run_before start) cs = record { few-failures = m few-failures; one_outside = m one_outside; list-kept = m list-kept; all-heard = m all-heard } in
    let same = at-end (λ before. table_after start before ≡ run_before start before) cs (w (cable_between given lag) (fits-between given lag h) (records given (5 + lag)) (how-many given (5 + lag)) cs (refl, met)) in
    true≢false (sym (ap (λ (t : Table). is_member (record_of t 2).state) same ∙ was-member given lag h) ∙ has_left given lag h)
