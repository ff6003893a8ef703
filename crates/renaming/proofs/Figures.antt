-- What is kept beside the table, the ledger and the counts of failure reports, is renamed as the records are: the same calls are made in both runs (`made-ledger`, `made-counts`), and each figure is its tally over
-- these (`ledger-tallies`, `reports-tally`), to which a call adds the same in both. Assumes of the cable that its choices are in range.
use Prim.Native.Nat.{ℕ, ◌+◌, ◌≤◌}
use mathlib.Core.Path.{◌≡◌, refl, sym, ap, ap₂, ◌∙◌, subst}
use mathlib.Core.Logic.{◌≢◌}
use mathlib.Core.Bool.{Bool, true, false, cond, not, ◌&&◌, true≢false}
use mathlib.Core.List.{List, [], ◌∷◌, map}
use native.Mathlib.Omega.{arith}
use lib.Dec.{eqb, ltb}
use lib.ListN.{length}
use borrow.Author.Tests.{le-leb}
use Rattle.ledger.specs.refusal.Causes.{cause}
use Rattle.ledger.specs.nodeset.Sums.{num}
use Rattle.ledger.specs.nodeset.Sets.{has, within}
use Rattle.ledger.proofs.nodeset.Tests.{by_cases}
use Rattle.ledger.specs.slot_table.Order.{place}
use Rattle.ledger.specs.cable.declared.Cable.{Cable}
use Rattle.ledger.specs.cable.Cable.{node_number, cable_fits}
use Rattle.ledger.proofs.cable.Ranges.{fitting, ring-size, node-number}
use Rattle.ledger.specs.message.Answers.{Reading}
use Rattle.ledger.specs.message.Message.{jobs_within}
use Rattle.ledger.specs.node_reports.Reports.{Counts, all_within}
use Rattle.ledger.specs.node_record.declared.Node.{Node}
use Rattle.ledger.specs.node_record.declared.State.{State}
use Rattle.ledger.specs.node_record.Soundness.{limit}
use Rattle.ledger.specs.node_steps.Steps.{is_heard}
use Rattle.ledger.specs.node_sending.Sending.{jobs_sent}
use Rattle.ledger.specs.node.Answers.{Answer}
use Rattle.ledger.specs.node.Calls.{is_done, hears_report}
use Rattle.ledger.specs.bench.declared.Outcome.TheVariants.{Refused}
use Rattle.ledger.specs.bench.Table.{Table, record_of, table_sound, node_count, slots_of, speaker}
use Rattle.ledger.specs.bench.Calls.{Called, if_passed, set_up_of, slot_of, heard_by}
use Rattle.ledger.specs.bench.Reports.{reports_fit, jobs_on}
use Rattle.ledger.specs.bench.Outcomes.{slot_given}
use Rattle.ledger.specs.bench.Ledger.{Ledger, figures, ledger_fits, is_leaving, is_joining}
use Rattle.ledger.specs.bench.Kept.{slot_with, off_with, date_of, kept_of}
use Rattle.ledger.specs.bench.Runs.{Call, slot, off, restart, call_of, table_after}
use Rattle.ledger.proofs.bench.Ledgers.{after}
use Rattle.ledger.proofs.bench.Places.{placed-sound}
use Rattle.ledger.specs.Runs.{Given, command_of, called_by, kept_by, made_of, with_made}
use Rattle.ledger.specs.Tallies.{times_left, times_joined, last_leaving, from_zeros, made_from, Tallied}
use Rattle.ledger.specs.Reported.{Asked, Made, with_counts, calls_in, made_in, reports, times_reported, from_set_up, made_since, Reported}
use Rattle.ledger.proofs.Made.{made-is}
use Rattle.ledger.proofs.Tallied.{ledger-tallies}
use Rattle.ledger.proofs.Reported.{reports-tally}
use Rattle.renaming.specs.Renamed.{plain_of, placed, renamed, missed_at, call_at, calls_at, ran, ran_plain, given_at, asked_at, figures_of, count_of}
use Rattle.renaming.proofs.Names.{plain_fits, placed-in, placed-range, name-placed, eqb-name, has-name}
use Rattle.renaming.proofs.Tables.{some, Same, by-node, slots_same, speaker-same, speaks, speaker-range, heard-same, sounds, numbers, withins, call-alike, run-same}

-- ---- one test after the other

answer-if : {b b' : Bool} (number : ℕ) (t u : Table) (c d : Called) → b ≡ b' → c.answer ≡ d.answer → (if_passed b number t c).answer ≡ (if_passed b' number u d).answer
answer-if {b = b} number t u c d e k = go b ∙ ap (λ (x : Bool). (if_passed x number u d).answer) e
  where
    go : (x : Bool) → (if_passed x number t c).answer ≡ (if_passed x number u d).answer
    go true = k
    go false = refl

passed : (b : Bool) (number : ℕ) (t : Table) (c : Called) → is_done (if_passed b number t c).answer ≡ true → b ≡ true
passed true number t c e = refl
passed false number t c e = absurd (true≢false (sym e))

-- another call with the same lent beside it
abbrev with_call : Call → Given → Given
with_call c g = record { call = c; counts = g.counts; jobs = g.jobs; slots = g.slots }

module _ (cable : Cable) (fits : cable_fits cable ≡ true) where
  open cable use {n}

  module _ (t u : Table) (S : Same cable fits t u) where
    jobs-on : jobs_on t ≡ jobs_on u
    unfolding jobs_on
    jobs-on =
        let at_one = some cable fits in
        ap (λ (c : Cable). c.m) (S.here.at 1 (omega arith) at_one).cable-is ∙ sym (ap (λ (c : Cable). c.m) (S.there.at 1 (omega arith) at_one).cable-is)

    counts_same : node_count t ≡ node_count u
    counts_same = S.here.length-is ∙ sym S.there.length-is

    -- a call is refused alike, where ledgers and counts fit alike
    lent_alike : (g h : Given) (ledger other : Ledger) → g.jobs ≡ h.jobs → reports_fit t g.counts ≡ reports_fit u h.counts
        → ledger_fits (node_count t) (slots_of t) ledger ≡ ledger_fits (node_count u) (slots_of u) other
        → (c : Call) → (called_by (with_call c g) ledger t).answer ≡ (called_by (with_call (call_at cable c) h) other u).answer
    unfolding slot_with slot_given off_with call_of call_at
    lent_alike g h ledger other j r f (slot lost missed room) =
        let both-sound = sounds cable fits t u S in
        let missing = withins cable fits t u S missed in
        answer-if 4 t u _ _ both-sound
        (answer-if 4 t u _ _ r
        (answer-if 3 t u _ _ missing
        (answer-if 13 t u _ _ f
        (answer-if 4 t u _ _ both-sound
        (answer-if 3 t u _ _ missing
        (answer-if 5 t u _ _ (ap (λ (s : ℕ). ltb s limit) (slots_same cable fits t u S))
        (answer-if 8 t u _ _ (ap₂ (λ (m x : ℕ). jobs_within m x) jobs-on j) (call-alike cable fits t u S (slot lost missed room)).answers)))))))
    lent_alike g h ledger other j r f (off a) =
        answer-if 4 t u _ _ (sounds cable fits t u S)
        (answer-if 3 t u _ _ (numbers cable fits t u S a)
        (answer-if 13 t u _ _ f (call-alike cable fits t u S (off a)).answers))
    lent_alike g h ledger other j r f (restart a) = (call-alike cable fits t u S (restart a)).answers

    reports-alike : (counts : List Counts) → reports_fit t counts ≡ reports_fit u counts
    unfolding reports_fit
    reports-alike counts = ap₂ (λ (m s : ℕ). eqb (length counts) m && all_within s counts) counts_same (slots_same cable fits t u S)

    state-is : (x : ℕ) → 1 ≤ x → x ≤ n → (record_of t x).state ≡ (record_of u (placed cable x)).state
    unfolding renamed
    state-is x h l = ap (λ (v : Node). v.state) (by-node cable fits t u S x h l)

    date-is : (c : Call) → date_of (command_of c 0) t ≡ date_of (command_of (call_at cable c) 0) u
    unfolding call_at
    date-is (slot lost missed room) = ap (λ (s : ℕ). s + 1) (slots_same cable fits t u S)
    date-is (off a) = slots_same cable fits t u S
    date-is (restart a) = refl

    -- a call adds the same to a count
    hears-alike : (heard : Reading) (x : ℕ) → 1 ≤ x → x ≤ n → hears_report (speaker t) heard (record_of t x) ≡ hears_report (speaker u) heard (record_of u (placed cable x))
    unfolding renamed
    hears-alike heard x h l =
        let s = speaker u in
        let w = record_of u (placed cable x) in
        ap₂ (λ (y : ℕ) (v : Node). hears_report y heard v) (speaker-same cable fits t u S) (by-node cable fits t u S x h l)
        ∙ ap₂ (λ (own inside : Bool). not own && (is_heard heard && inside)) (eqb-name cable fits s w.own) (has-name cable fits w.set s (speaker-range cable fits t u S).1)

    reports-are : (c : Call) (jobs x y j : ℕ) → is_done (call_of c t).answer ≡ true → 1 ≤ x → x ≤ n → reports c jobs t x y j ≡ reports (call_at cable c) jobs u (placed cable x) (placed cable y) j
    unfolding call_of call_at slot_of renamed
    reports-are (slot lost missed room) jobs x y j made h l =
        let r = placed-range cable fits x h l in
        let inside = passed (within (node_count t) missed) 3 t _ (after (table_sound t) 4 t _ made) in
        let nodes : within n missed ≡ true = ap (λ (m : ℕ). within m missed) (sym S.here.length-is) ∙ inside in
        ap₂ (λ (a b : Bool). a && b)
        (ap₂ (λ (a b : ℕ). eqb a b) (speaker-same cable fits t u S) (sym (name-placed cable fits y)) ∙ eqb-name cable fits (speaker u) (placed cable y))
        (ap₂ (λ (a b : Bool). a && b)
        (ap (λ (heard : Reading). hears_report (speaker t) heard (record_of t x)) (ap (heard_by lost missed t) (sym (name-placed cable fits x)) ∙ heard-same cable fits t u S lost missed (placed cable x) nodes r.0 r.1)
        ∙ hears-alike (heard_by lost (missed_at cable missed) u (placed cable x)) x h l)
        (ap (λ (v : Node). has (jobs_sent jobs v) j) (speaks cable fits t u S)))
    reports-are (off a) jobs x y j made h l = refl
    reports-are (restart a) jobs x y j made h l = refl

-- ---- ledger and counts of a run always fit

ledger-fits : (t : Table) (ledger : Ledger) → table_sound t ≡ true → 1 ≤ node_count t → ((g : Given) → (kept_by g ledger t).reply.outcome ≢ Refused (cause 13)) → ledger_fits (node_count t) (slots_of t) ledger ≡ true
unfolding kept_of off_with
ledger-fits t ledger ok h never =
    let node : node_number (node_count t) 1 ≡ true = le-leb 1 (node_count t) h in
    by_cases (ledger_fits (node_count t) (slots_of t) ledger) (λ e. e) (λ e. absurd (never (record { call = off 1; counts = []; jobs = 0; slots = [] }) (rw (ok, node, e))))

counts-fit : (t : Table) (counts : List Counts) → table_sound t ≡ true → ((a : Asked) → (kept_by (with_counts a counts) a.ledger t).reply.outcome ≢ Refused (cause 4)) → reports_fit t counts ≡ true
unfolding kept_of slot_with
counts-fit t counts ok never =
    by_cases (reports_fit t counts) (λ e. e) (λ e. absurd (never (record { call = slot false 0 0; ledger = []; jobs = 0; slots = [] }) (rw (ok, e))))

-- ---- the runs

-- a call that is made, for the plain run
abbrev made_at : Cable → List Made → List Made
made_at cable ms = map (λ (m : Made). record { call = call_at cable m.call; jobs = m.jobs }) ms

calls-at : (cable : Cable) (ms : List Made) → calls_in (made_at cable ms) ≡ calls_at cable (calls_in ms)
calls-at cable [] = refl
calls-at cable (m ∷ ms) = ap (λ (cs : List Call). call_at cable m.call ∷ cs) (calls-at cable ms)

-- the made ones of a list, renamed
map-made : {A : Type 0} (f : A → A) (b : Bool) (x : A) (xs : List A) → cond b (f x ∷ map f xs) (map f xs) ≡ map f (cond b (x ∷ xs) xs)
map-made f true x xs = refl
map-made f false x xs = refl

module _ (cable : Cable) (fits : cable_fits cable ≡ true) (lent other : Table) (one_each : length lent ≡ cable.n) (one-too : length other ≡ cable.n) where
  open cable use {n}

  abbrev plainly : Cable
  plainly = plain_of cable

  abbrev start : Table
  start = (set_up_of cable lent).table

  abbrev start' : Table
  start' = (set_up_of (plain_of cable) other).table

  -- two tables are as those of these calls
  same-as : (cs ds : List Call) (t u : Table) → t ≡ table_after start cs → u ≡ table_after start' ds → ds ≡ calls_at cable cs → Same cable fits t u
  same-as cs ds t u p q e =
      subst (λ (x : Table). Same cable fits x u) (sym p)
      (subst (λ (y : Table). Same cable fits (table_after start cs) y) (sym (q ∙ ap (table_after start') e)) (run-same cable fits lent other one_each one-too cs))

  module _ (t u : Table) (S : Same cable fits t u) where
    here-sound : table_sound t ≡ true
    here-sound = placed-sound cable (slots_of t) t (some cable fits) S.here

    there-sound : table_sound u ≡ true
    there-sound = placed-sound plainly (slots_of u) u (some cable fits) S.there

  -- ---- the ledger

  tallied : (gs : List Given) → Tallied cable start gs
  tallied gs = ledger-tallies cable fits lent one_each gs

  tallied' : (gs : List Given) → Tallied plainly start' gs
  tallied' gs = ledger-tallies plainly (plain_fits cable fits) other one-too gs

  made-ledger : (gs : List Given) → made_from plainly start' (given_at cable gs) ≡ calls_at cable (made_from cable start gs)
  unfolding made_of
  made-ledger [] = refl
  made-ledger (g ∷ gs) =
      let b = from_zeros cable start gs in
      let d = from_zeros plainly start' (given_at cable gs) in
      let T = tallied gs in
      let T' = tallied' (given_at cable gs) in
      let S = same-as (made_from cable start gs) _ b.table d.table T.tables T'.tables (made-ledger gs) in
      let h = some cable fits in
      let f = ledger-fits b.table b.ledger (here-sound b.table d.table S) (omega (arith, S.here.length-is)) T.never-13 in
      let f' = ledger-fits d.table d.ledger (there-sound b.table d.table S) (omega (arith, S.there.length-is)) T'.never-13 in
      let e = lent_alike cable fits b.table d.table S g g b.ledger d.ledger refl (reports-alike cable fits b.table d.table S g.counts) (f ∙ sym f') g.call in
      ap₂ (λ (a : Answer) (cs : List Call). with_made (is_done a) (call_at cable g.call) cs) (sym e) (made-ledger gs)
      ∙ map-made (call_at cable) (is_done (called_by g b.ledger b.table).answer) g.call (made_from cable start gs)

  module _ (x : ℕ) (h : 1 ≤ x) (l : x ≤ n) where
    -- the states before and after a call
    change-is : (f : State → State → Bool) (c : Call) (cs : List Call)
        → f (record_of (ran cable lent cs) x).state (record_of (call_of c (ran cable lent cs)).table x).state
        ≡ f (record_of (ran_plain cable other cs) (placed cable x)).state (record_of (call_of (call_at cable c) (ran_plain cable other cs)).table (placed cable x)).state
    unfolding table_after
    change-is f c cs =
        let S = run-same cable fits lent other one_each one-too in
        ap₂ f (state-is cable fits (ran cable lent cs) (ran_plain cable other cs) (S cs) x h l) (state-is cable fits (ran cable lent (c ∷ cs)) (ran_plain cable other (c ∷ cs)) (S (c ∷ cs)) x h l)

    left_is : (cs : List Call) → times_left start cs x ≡ times_left start' (calls_at cable cs) (placed cable x)
    unfolding times_left
    left_is [] = refl
    left_is (c ∷ cs) = ap₂ (λ (a : ℕ) (b : Bool). a + num b) (left_is cs) (change-is is_leaving c cs)

    joined_is : (cs : List Call) → times_joined start cs x ≡ times_joined start' (calls_at cable cs) (placed cable x)
    unfolding times_joined
    joined_is [] = refl
    joined_is (c ∷ cs) = ap₂ (λ (a : ℕ) (b : Bool). a + num b) (joined_is cs) (change-is is_joining c cs)

    last-is : (cs : List Call) → last_leaving start cs x ≡ last_leaving start' (calls_at cable cs) (placed cable x)
    unfolding last_leaving
    last-is [] = refl
    last-is (c ∷ cs) =
        let date = date-is cable fits (ran cable lent cs) (ran_plain cable other cs) (run-same cable fits lent other one_each one-too cs) c in
        ap (λ (b : Bool). cond b (date_of (command_of c 0) (ran cable lent cs)) (last_leaving start cs x)) (change-is is_leaving c cs)
        ∙ ap₂ (λ (a b : ℕ). cond (is_leaving (record_of (ran_plain cable other cs) (placed cable x)).state (record_of (call_of (call_at cable c) (ran_plain cable other cs)).table (placed cable x)).state) a b) date (last-is cs)

    figures-are : (gs : List Given) → figures_of cable lent gs x ≡ figures_of plainly other (given_at cable gs) (placed cable x)
    figures-are gs =
        let cs = made_from cable start gs in
        let p = placed cable x in
        let r = placed-range cable fits x h l in
        (tallied gs).entries x l h
        ∙ rw (left_is cs, joined_is cs, last-is cs) refl
        ∙ sym (ap (λ (ds : List Call). figures (times_left start' ds p) (times_joined start' ds p) (last_leaving start' ds p)) (made-ledger gs))
        ∙ sym ((tallied' (given_at cable gs)).entries p r.1 r.0)

  pub ledgers-are : (gs : List Given) (x : ℕ) → node_number n x ≡ true → figures_of cable lent gs x ≡ figures_of plainly other (given_at cable gs) (place cable.order x)
  ledgers-are gs x e =
      let r = node-number n x e in
      figures-are x r.0 r.1 gs ∙ ap (figures_of plainly other (given_at cable gs)) (placed-in cable fits x r.0 r.1)

  -- ---- the counts

  reported : (asks : List Asked) → Reported cable start asks
  reported asks = reports-tally cable fits lent one_each asks

  reported' : (asks : List Asked) → Reported plainly start' asks
  reported' asks = reports-tally plainly (plain_fits cable fits) other one-too asks

  same-counting : (asks : List Asked) → made_since plainly start' (asked_at cable asks) ≡ made_at cable (made_since cable start asks)
      → Same cable fits (from_set_up cable start asks).table (from_set_up plainly start' (asked_at cable asks)).table
  same-counting asks e =
      let ms = made_since cable start asks in
      same-as (calls_in ms) _ _ _ (reported asks).tables (reported' (asked_at cable asks)).tables (ap calls_in e ∙ calls-at cable ms)

  made-counts : (asks : List Asked) → made_since plainly start' (asked_at cable asks) ≡ made_at cable (made_since cable start asks)
  unfolding made_in
  made-counts [] = refl
  made-counts (a ∷ asks) =
      let b = from_set_up cable start asks in
      let d = from_set_up plainly start' (asked_at cable asks) in
      let S = same-counting asks (made-counts asks) in
      let r = counts-fit b.table b.counts (here-sound b.table d.table S) (reported asks).never-4 in
      let r' = counts-fit d.table d.counts (there-sound b.table d.table S) (reported' (asked_at cable asks)).never-4 in
      let same = slots_same cable fits b.table d.table S in
      let f = ap₂ (λ (m s : ℕ). ledger_fits m s a.ledger) (counts_same cable fits b.table d.table S) same in
      let e = lent_alike cable fits b.table d.table S (with_counts a b.counts) (with_counts a d.counts) a.ledger a.ledger refl (r ∙ sym r') f a.call in
      ap₂ (λ (x : Answer) (ms : List Made). cond (is_done x) (record { call = call_at cable a.call; jobs = a.jobs } ∷ ms) ms) (sym e) (made-counts asks)
      ∙ map-made (λ (m : Made). record { call = call_at cable m.call; jobs = m.jobs }) (is_done (called_by (with_counts a b.counts) a.ledger b.table).answer) (record { call = a.call; jobs = a.jobs }) (made_since cable start asks)

  module _ (x y j : ℕ) (h : 1 ≤ x) (l : x ≤ n) where
    -- the tally with one call more that is made
    one-more : (a : Asked) (asks : List Asked) → let b = from_set_up cable start asks in is_done (called_by (with_counts a b.counts) a.ledger b.table).answer ≡ true
        → let ms = made_since cable start asks in
        num (reports a.call a.jobs (table_after start (calls_in ms)) x y j) ≡ num (reports (call_at cable a.call) a.jobs (table_after start' (calls_in (made_at cable ms))) (placed cable x) (placed cable y) j)
    one-more a asks e =
        let b = from_set_up cable start asks in
        let ms = made_since cable start asks in
        let S = same-as (calls_in ms) (calls_in (made_at cable ms)) (table_after start (calls_in ms)) (table_after start' (calls_in (made_at cable ms))) refl refl (calls-at cable ms) in
        let made = made-is (with_counts a b.counts) a.ledger b.table e ∙ ap (call_of a.call) (reported asks).tables in
        ap num (reports-are cable fits (table_after start (calls_in ms)) (table_after start' (calls_in (made_at cable ms))) S a.call a.jobs x y j (sym (ap (λ (c : Called). is_done c.answer) made) ∙ e) h l)

    tally-is : (asks : List Asked) → times_reported start (made_since cable start asks) x y j ≡ times_reported start' (made_at cable (made_since cable start asks)) (placed cable x) (placed cable y) j
    unfolding made_in times_reported
    tally-is [] = refl
    tally-is (a ∷ asks) =
        let b = from_set_up cable start asks in
        by_cases (is_done (called_by (with_counts a b.counts) a.ledger b.table).answer)
        (λ e. rw (e, tally-is asks, one-more a asks e) refl)
        (λ e. rw (e, tally-is asks) refl)

  pub counts-are : (asks : List Asked) (x y j : ℕ) → node_number n x ≡ true → node_number n y ≡ true → 1 ≤ j → j ≤ 8
      → count_of cable lent asks x y j ≡ count_of plainly other (asked_at cable asks) (place cable.order x) (place cable.order y) j
  counts-are asks x y j e f low high =
      let r = node-number n x e in
      let s = node-number n y f in
      let p = placed-range cable fits x r.0 r.1 in
      let q = placed-range cable fits y s.0 s.1 in
      let most : n ≤ 32 = (ring-size n (fitting cable fits).ring).1 in
      (reported asks).counts x y j r.0 r.1 s.0 (omega (arith, s.1)) low high
      ∙ tally-is x y j r.0 r.1 asks
      ∙ sym (ap (λ (ms : List Made). times_reported start' ms (placed cable x) (placed cable y) j) (made-counts asks))
      ∙ sym ((reported' (asked_at cable asks)).counts (placed cable x) (placed cable y) j p.0 p.1 q.0 (omega (arith, q.1)) low high)
      ∙ ap₂ (λ (a b : ℕ). count_of plainly other (asked_at cable asks) a b j) (placed-in cable fits x r.0 r.1) (placed-in cable fits y s.0 s.1)
