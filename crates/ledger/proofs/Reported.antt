-- Each count of failure reports is its tally (specs/Reported). The counts of each node are 32 rows of 8, and none is above the slot count, since a slot adds one at the most; so no call is refused by 4.
-- Assumes nothing.
use Rattle.std.specs.Prelude.{Err, Ok}
use Prim.Native.Nat.{ℕ, suc, ◌+◌, ◌-◌, ◌^◌, ◌≤◌, ◌<◌}
use mathlib.Core.Path.{◌≡◌, refl, sym, ap, ◌∙◌, subst}
use mathlib.Core.Logic.{◌≢◌}
use mathlib.Core.Bool.{Bool, true, false, cond, ◌&&◌, true≢false}
use mathlib.Core.List.{List, [], ◌∷◌}
use native.Mathlib.Omega.{arith}
use native.Mathlib.Nat.{add-zero}
use lib.Dec.{eqb, leb, ltb}
use lib.ListN.{length, get_or, length-replicate, get_or-replicate}
use borrow.Author.Tests.{eq-eqb, leb-true}
use Rattle.nodeset.specs.Sums.{num}
use Rattle.nodeset.specs.Sets.{has, within}
use Rattle.nodeset.proofs.Tests.{by_cases, chosen, otherwise, all}
use Rattle.bench.specs.cable.declared.Cable.{Cable}
use Rattle.bench.specs.cable.Cable.{node_number, cable_fits}
use Rattle.bench.specs.ring.Ring.{sender}
use Rattle.bench.proofs.cable.Ranges.{Fits, ring-size, fitting}
use Rattle.bench.proofs.ring_laws.Senders.{turns-of, sender-range}
use Rattle.bench.specs.node_reports.Reports.{Row, Counts, no_reports, no_reports_at, counts_within, all_within, counts_with}
use Rattle.bench.proofs.node_reports.Laws.{counts_each, nodes-each, nodes-all, within_more, none-within-all, heard-within}
use Rattle.bench.specs.message.declared.Received.{Received}
use Rattle.bench.specs.message.Message.{jobs_within}
use Rattle.bench.specs.node_record.declared.Node.{Node}
use Rattle.bench.specs.node_record.States.{is_out}
use Rattle.bench.specs.node_record.Soundness.{limit}
use Rattle.bench.proofs.node_record.Facts.{clauses}
use Rattle.bench.specs.node.Answers.{Answer}
use Rattle.bench.specs.node.Calls.{is_done, hears_report, counts_after}
use Rattle.bench.specs.Table.{Table, record_of, node_count, slots_of, table_sound, speaker}
use Rattle.bench.specs.Calls.{Called, set_up_of, slot_of, off_of, restart_of}
use Rattle.bench.specs.Reports.{reports_fit, jobs_on, received_by, reports_after_slot}
use Rattle.bench.specs.Outcomes.{slot_given}
use Rattle.bench.specs.Ledger.{Ledger, ledger_fits}
use Rattle.bench.specs.Kept.{slot_with, off_with, if_done, reports_with, kept_of}
use Rattle.bench.specs.Runs.{Call, slot, off, restart, call_of, table_after, is_slot}
use Rattle.bench.proofs.Places.{Placed, sound-placed}
use Rattle.bench.proofs.Reports.{counts-at, counts-length, next-sender}
use Rattle.bench.proofs.Runs.{start-placed, never-unsound, placed-run, run_length, slots_next}
use Rattle.ledger.specs.Runs.{Given, commanded, called_by}
use Rattle.ledger.specs.Reported.{Asked, with_counts, Made, calls_in, Counting, counting_after, made_in, reports, times_reported, ReportsTally}
use Rattle.ledger.proofs.Numbers.{number_in, number_told, told-number, unless}
use Rattle.ledger.proofs.Made.{refused-stays, made-is}
use Rattle.ledger.proofs.Counts.{Shaped, none-shaped, with-shaped, with_at}

-- ---- 4 is none of the other refusals

not-4 : (g : Given) (ledger : Ledger) (t : Table) → table_sound t ≡ true → reports_fit t g.counts ≡ true → number_in (called_by g ledger t).answer ≢ 4
unfolding slot_with slot_given slot_of off_with off_of restart_of
not-4 g ledger t ok fits = go g.call
  where
    none : ◌≢◌ {A = ℕ} 0 4
    none e = omega arith

    go : (c : Call) → number_in (called_by (record { call = c; counts = g.counts; jobs = g.jobs; slots = g.slots }) ledger t).answer ≢ 4
    go (slot lost missed room) =
        rw (ok, fits) (unless 4 (within (node_count t) missed) 3 t _ refl (unless 4 (ledger_fits (node_count t) (slots_of t) ledger) 13 t _ refl
        (unless 4 (within (node_count t) missed) 3 t _ refl (unless 4 (ltb (slots_of t) limit) 5 t _ refl (unless 4 (jobs_within (jobs_on t) g.jobs) 8 t _ refl
        (unless 4 (within (node_count t) missed) 3 t _ refl (unless 4 (ltb (slots_of t) limit) 5 t _ refl (unless 4 (leb 64 room) 9 t _ refl none))))))))
    go (off a) =
        rw ok (unless 4 (node_number (node_count t) a) 3 t _ refl (unless 4 (ledger_fits (node_count t) (slots_of t) ledger) 13 t _ refl (unless 4 (node_number (node_count t) a) 3 t _ refl none)))
    go (restart a) = rw ok (unless 4 (node_number (node_count t) a) 3 t _ refl (unless 4 (is_out (record_of t a).state) 11 t _ refl none))

-- ---- the counts of a node after a slot

-- where it is made, and where it is not
when-done : {A : Type 0} (a : Answer) (x y : A) → is_done a ≡ true → if_done a x y ≡ x
when-done (Ok _) x y e = refl
when-done (Err r) x y e = absurd (true≢false (sym e))

when-refused : {A : Type 0} (a : Answer) (x y : A) → is_done a ≡ false → if_done a x y ≡ y
when-refused (Ok _) x y e = absurd (true≢false e)
when-refused (Err r) x y e = refl

module _ (s : ℕ) (low : 1 ≤ s) (high : s ≤ 32) (received : Received) (v : Node) (is : sender v.cable (v.slots + 1) ≡ s) (counts : Counts) (shape : Shaped counts) where
  abbrev hears : Bool
  hears = hears_report s received.reading v

  after_is : counts_after received v counts ≡ cond hears (counts_with s received.jobs counts) counts
  unfolding counts_after
  after_is = ap (λ (x : ℕ). cond (hears_report x received.reading v) (counts_with x received.jobs counts) counts) is

  after-shaped : Shaped (counts_after received v counts)
  after-shaped = subst Shaped (sym after_is) (go hears)
    where
      go : (b : Bool) → Shaped (cond b (counts_with s received.jobs counts) counts)
      go true = with-shaped s received.jobs low high counts shape
      go false = shape

  after-within : (slots : ℕ) → counts_within slots counts ≡ true → counts_within (slots + 1) (counts_after received v counts) ≡ true
  after-within slots e = subst (λ (c : Counts). counts_within (slots + 1) c ≡ true) (sym after_is) (go hears)
    where
      go : (b : Bool) → counts_within (slots + 1) (cond b (counts_with s received.jobs counts) counts) ≡ true
      go true = heard-within slots s received.jobs counts e
      go false = within_more slots (slots + 1) counts (omega arith) e

  after-at : (x j slots : ℕ) → 1 ≤ x → x ≤ 32 → 1 ≤ j → j ≤ 8 → get_or (get_or counts (x - 1) []) (j - 1) 0 ≤ slots → slots < 2 ^ 64 - 1
      → get_or (get_or (counts_after received v counts) (x - 1) []) (j - 1) 0 ≡ get_or (get_or counts (x - 1) []) (j - 1) 0 + num (eqb s x && (hears && has received.jobs j))
  after-at x j slots x-low x-high j-low j-high h l = ap (λ (c : Counts). get_or (get_or c (x - 1) []) (j - 1) 0) after_is ∙ go hears
    where
      zero-if : (b : Bool) → num (b && false) ≡ 0
      zero-if true = refl
      zero-if false = refl

      go : (b : Bool) → get_or (get_or (cond b (counts_with s received.jobs counts) counts) (x - 1) []) (j - 1) 0 ≡ get_or (get_or counts (x - 1) []) (j - 1) 0 + num (eqb s x && (b && has received.jobs j))
      go true = with_at s received.jobs low high counts shape x j slots x-low x-high j-low j-high h l
      go false = omega (arith, zero-if (eqb s x))

-- ---- a run

module _ (cable : Cable) (fits : cable_fits cable ≡ true) (lent : Table) (one_each : length lent ≡ cable.n) where
  abbrev start : Table
  start = (set_up_of cable lent).table

  abbrev n : ℕ
  n = cable.n

  in-ring : (3 ≤ cable.n) × (cable.n ≤ 32)
  in-ring = ring-size cable.n (fitting cable fits).ring

  begins : Placed cable 0 start
  begins = start-placed cable fits lent one_each

  in-order : (cs : List Call) → table_sound (table_after start cs) ≡ true
  in-order cs = never-unsound cable (omega (arith, in-ring)) start begins cs

  long : (cs : List Call) → length (table_after start cs) ≡ cable.n
  long cs = run_length cable (omega (arith, in-ring)) start begins cs

  bounded : (cs : List Call) → slots_of (table_after start cs) ≤ limit
  bounded cs =
      let q = (placed-run cable (omega (arith, in-ring)) start begins cs).at 1 (omega arith) (omega (arith, in-ring)) in
      omega (arith, q.slots-is, leb-true (record_of (table_after start cs) 1).slots limit (clauses (record_of (table_after start cs) 1) q.is-sound).slots)

  abbrev from : List Asked → Counting
  from asks = counting_after (record { table = (set_up_of cable lent).table; counts = no_reports_at cable.n }) asks

  -- table and counts, where these of the calls are made
  record Kept (asks : List Asked) (ms : List Made) : Type 0 where
    tables : (from asks).table ≡ table_after start (calls_in ms)
    size : length (from asks).counts ≡ n
    shaped : (i : ℕ) → i < n → Shaped (get_or (from asks).counts i [])
    in-slots : (i : ℕ) → i < n → counts_within (slots_of (table_after start (calls_in ms))) (get_or (from asks).counts i []) ≡ true
    tallies : (i x j : ℕ) → 1 ≤ i → i ≤ n → 1 ≤ x → x ≤ 32 → 1 ≤ j → j ≤ 8 → get_or (get_or (get_or (from asks).counts (i - 1) []) (x - 1) []) (j - 1) 0 ≡ times_reported start ms i x j

  module _ (a : Asked) (asks : List Asked) (ms : List Made) (k : Kept asks ms) where
    abbrev b : Counting
    b = from asks

    abbrev cs : List Call
    cs = calls_in ms

    abbrev t : Table
    t = table_after start (calls_in ms)

    abbrev g : Given
    g = with_counts a (from asks).counts

    abbrev called : Called
    called = called_by (with_counts a (from asks).counts) a.ledger (from asks).table

    -- the counts after a call
    abbrev after : List Counts
    after = reports_with (commanded (with_counts a (from asks).counts)) (from asks).table called (from asks).counts

    -- a call that leaves the counts and the slots
    quiet : (ms' : List Made) → called.table ≡ table_after start (calls_in ms') → after ≡ b.counts → slots_of (table_after start (calls_in ms)) ≤ slots_of (table_after start (calls_in ms'))
        → ((i x j : ℕ) → times_reported start ms' i x j ≡ times_reported start ms i x j) → Kept (a ∷ asks) ms'
    unfolding counting_after kept_of
    quiet ms' is stays later same = record {
      tables = is;
      size = ap length stays ∙ k.size;
      shaped = λ i h. subst (λ (c : List Counts). Shaped (get_or c i [])) (sym stays) (k.shaped i h);
      in-slots = λ i h. subst (λ (c : List Counts). counts_within (slots_of (table_after start (calls_in ms'))) (get_or c i []) ≡ true) (sym stays) (within_more _ _ _ later (k.in-slots i h));
      tallies = λ i x j i-low i-high x-low x-high j-low j-high.
          ap (λ (c : List Counts). get_or (get_or (get_or c (i - 1) []) (x - 1) []) (j - 1) 0) stays ∙ k.tallies i x j i-low i-high x-low x-high j-low j-high ∙ sym (same i x j);
    }

    refused : is_done called.answer ≡ false → Kept (a ∷ asks) ms
    refused e = quiet ms (refused-stays g a.ledger b.table e ∙ k.tables) (go a.call) (omega arith) (λ i x j. refl)
      where
        go : (c : Call) → reports_with (commanded (record { call = c; counts = (from asks).counts; jobs = a.jobs; slots = a.slots })) (from asks).table called (from asks).counts ≡ (from asks).counts
        go (slot lost missed room) = when-refused called.answer _ _ e
        go (off x) = refl
        go (restart x) = refl

    module _ (made : is_done called.answer ≡ true) where
      is_call : called ≡ call_of a.call t
      is_call = made-is g a.ledger b.table made ∙ ap (call_of a.call) k.tables

      -- a call that is no slot
      no_slot : (c : Call) → a.call ≡ c → is_slot c t ≡ false → after ≡ b.counts → ((i x j : ℕ) → reports c a.jobs t i x j ≡ false) → Kept (a ∷ asks) (record { call = a.call; jobs = a.jobs } ∷ ms)
      unfolding table_after times_reported
      no_slot c e still stays none =
          quiet (record { call = a.call; jobs = a.jobs } ∷ ms) (ap (λ (x : Called). x.table) is_call) stays
          (omega (arith, slots_next cable (omega (arith, in-ring)) start begins a.call cs, ap num (ap (λ (x : Call). is_slot x t) e ∙ still)))
          (λ i x j. ap (λ (y : Bool). times_reported start ms i x j + num y) (ap (λ (y : Call). reports y a.jobs t i x j) e ∙ none i x j) ∙ add-zero _)

      module _ (lost : Bool) (missed room : ℕ) (is-slot : a.call ≡ slot lost missed room) where
        counts-are : after ≡ reports_after_slot lost missed a.jobs t b.counts
        counts-are =
            ap (λ (c : Call). reports_with (commanded (record { call = c; counts = (from asks).counts; jobs = a.jobs; slots = a.slots })) (from asks).table called (from asks).counts) is-slot
            ∙ when-done called.answer _ _ made ∙ ap (λ (u : Table). reports_after_slot lost missed a.jobs u b.counts) k.tables

        runs : is_slot a.call t ≡ true
        unfolding is_slot call_of
        runs = ap (λ (c : Call). is_slot c t) is-slot ∙ sym (ap (λ (c : Call). is_done (call_of c t).answer) is-slot) ∙ sym (ap (λ (x : Called). is_done x.answer) is_call) ∙ made

        slots-are : slots_of (table_after start (a.call ∷ cs)) ≡ slots_of t + 1
        slots-are = slots_next cable (omega (arith, in-ring)) start begins a.call cs ∙ ap (λ (y : Bool). slots_of t + num y) runs

        -- of node i
        module _ (i : ℕ) (low : 1 ≤ i) (high : i ≤ n) where
          abbrev received : Received
          received = received_by lost missed a.jobs t i

          abbrev held : Counts
          held = get_or (from asks).counts (i - 1) []

          at : get_or after (i - 1) [] ≡ counts_after received (record_of t i) held
          at = ap (λ (c : List Counts). get_or c (i - 1) []) counts-are ∙ counts-at lost missed a.jobs t b.counts i low (omega (arith, k.size))

          sender-is : sender (record_of t i).cable ((record_of t i).slots + 1) ≡ speaker t
          sender-is = next-sender t (in-order cs) i low (omega (arith, long cs))

          speaker-in : (1 ≤ speaker t) × (speaker t ≤ 32)
          unfolding speaker
          speaker-in =
              let c = (record_of t 1).cable in
              let p = sound-placed t (in-order cs) in
              let f : Fits c = (clauses (record_of t 1) (p.at 1 (omega arith) (omega (arith, p.length-is, long cs, in-ring))).is-sound).choices in
              let r = sender-range c (turns-of c f) (slots_of t + 1) in
              (r.0, omega (arith, r.1, (ring-size c.n f.ring).1))

          shape : Shaped held
          shape = k.shaped (i - 1) (omega arith)

          next-shaped : Shaped (get_or after (i - 1) [])
          next-shaped = subst Shaped (sym at) (after-shaped (speaker t) speaker-in.0 speaker-in.1 received (record_of t i) sender-is held shape)

          next-within : counts_within (slots_of t + 1) (get_or after (i - 1) []) ≡ true
          next-within = subst (λ (c : Counts). counts_within (slots_of t + 1) c ≡ true) (sym at) (after-within (speaker t) speaker-in.0 speaker-in.1 received (record_of t i) sender-is held shape (slots_of t) (k.in-slots (i - 1) (omega arith)))

          next-tally : (x j : ℕ) → 1 ≤ x → x ≤ 32 → 1 ≤ j → j ≤ 8 → get_or (get_or (get_or after (i - 1) []) (x - 1) []) (j - 1) 0 ≡ times_reported start ms i x j + num (reports (slot lost missed room) a.jobs t i x j)
          next-tally x j x-low x-high j-low j-high =
              ap (λ (c : Counts). get_or (get_or c (x - 1) []) (j - 1) 0) at
              ∙ after-at (speaker t) speaker-in.0 speaker-in.1 received (record_of t i) sender-is held shape x j (slots_of t) x-low x-high j-low j-high
              (counts_each (slots_of t) held (k.in-slots (i - 1) (omega arith)) (x - 1) (j - 1) (omega arith) (omega arith)) (omega (arith, bounded cs))
              ∙ ap (λ (c : ℕ). c + num (reports (slot lost missed room) a.jobs t i x j)) (k.tallies i x j low high x-low x-high j-low j-high)

        a-slot : Kept (a ∷ asks) (record { call = a.call; jobs = a.jobs } ∷ ms)
        unfolding counting_after kept_of table_after times_reported
        a-slot = record {
          tables = ap (λ (x : Called). x.table) is_call;
          size = ap length counts-are ∙ counts-length lost missed a.jobs t b.counts ∙ k.size;
          shaped = λ i h. let z : suc i - 1 ≡ i = omega arith in subst (λ (y : ℕ). Shaped (get_or after y [])) z (next-shaped (suc i) (omega arith) (omega arith));
          in-slots = λ i h. let z : suc i - 1 ≡ i = omega arith in
              subst (λ (s : ℕ). counts_within s (get_or after i []) ≡ true) (sym slots-are) (subst (λ (y : ℕ). counts_within (slots_of t + 1) (get_or after y []) ≡ true) z (next-within (suc i) (omega arith) (omega arith)));
          tallies = λ i x j i-low i-high x-low x-high j-low j-high.
              next-tally i i-low i-high x j x-low x-high j-low j-high ∙ ap (λ (c : Call). times_reported start ms i x j + num (reports c a.jobs t i x j)) (sym is-slot);
        }

      one-more : Kept (a ∷ asks) (record { call = a.call; jobs = a.jobs } ∷ ms)
      unfolding is_slot
      one-more = go a.call refl
        where
          go : (c : Call) → a.call ≡ c → Kept (a ∷ asks) (record { call = a.call; jobs = a.jobs } ∷ ms)
          go (slot lost missed room) e = a-slot lost missed room e
          go (off x) e = no_slot (off x) e refl (ap (λ (c : Call). reports_with (commanded (record { call = c; counts = (from asks).counts; jobs = a.jobs; slots = a.slots })) (from asks).table called (from asks).counts) e) (λ i y j. refl)
          go (restart x) e = no_slot (restart x) e refl (ap (λ (c : Call). reports_with (commanded (record { call = c; counts = (from asks).counts; jobs = a.jobs; slots = a.slots })) (from asks).table called (from asks).counts) e) (λ i y j. refl)

  none-at : (i : ℕ) → i < n → get_or (no_reports_at n) i [] ≡ no_reports
  none-at i h = get_or-replicate {A = Counts} n i no_reports [] h

  kept_run : (asks : List Asked) → Kept asks (made_in (record { table = start; counts = no_reports_at n }) asks)
  unfolding counting_after made_in table_after times_reported
  kept_run [] = record {
    tables = refl;
    size = length-replicate {A = Counts} n no_reports;
    shaped = λ i h. subst Shaped (sym (none-at i h)) none-shaped;
    in-slots = λ i h. nodes-each _ (no_reports_at n) (none-within-all _ n) i (omega (arith, length-replicate {A = Counts} n no_reports));
    tallies = λ i x j i-low i-high x-low x-high j-low j-high.
        ap (λ (c : Counts). get_or (get_or c (x - 1) []) (j - 1) 0) (none-at (i - 1) (omega arith))
        ∙ ap (λ (r : Row). get_or r (j - 1) 0) (get_or-replicate {A = Row} 32 (x - 1) _ [] (omega arith)) ∙ get_or-replicate {A = ℕ} 8 (j - 1) 0 0 (omega arith);
  }
  kept_run (a ∷ asks) =
      let ms = made_in (record { table = start; counts = no_reports_at n }) asks in
      let k = kept_run asks in
      by_cases (is_done (called_by (with_counts a (from asks).counts) a.ledger (from asks).table).answer)
      (λ e. subst (Kept (a ∷ asks)) (sym (chosen _ ms e)) (one-more a asks ms k e))
      (λ e. subst (Kept (a ∷ asks)) (sym (otherwise _ ms e)) (refused a asks ms k e))

  fit : (asks : List Asked) (ms : List Made) → Kept asks ms → reports_fit (from asks).table (from asks).counts ≡ true
  unfolding reports_fit
  fit asks ms k =
      subst (λ (u : Table). (eqb (length (from asks).counts) (node_count u) && all_within (slots_of u) (from asks).counts) ≡ true) (sym k.tables)
      (all (eq-eqb _ _ (k.size ∙ sym (long (calls_in ms)))) (nodes-all _ (from asks).counts (λ i h. k.in-slots i (omega (arith, k.size)))))

-- ---- the claim

pub reports-tally : ReportsTally
unfolding kept_of
reports-tally cable cable-fits lent one_each asks = record {
  tables = k.tables;
  size = k.size;
  counts = k.tallies;
  never-4 = λ a e.
      let b = from cable cable-fits lent one_each asks in
      let g = with_counts a b.counts in
      let ok = subst (λ (u : Table). table_sound u ≡ true) (sym k.tables) (in-order cable cable-fits lent one_each (calls_in ms)) in
      not-4 g a.ledger b.table ok (fit cable cable-fits lent one_each asks ms k) (sym (told-number (commanded g) b.table (called_by g a.ledger b.table)) ∙ ap number_told e);
}
  where
    ms : List Made
    ms = made_in (record { table = (set_up_of cable lent).table; counts = no_reports_at cable.n }) asks

    k : Kept cable cable-fits lent one_each asks (made_in (record { table = (set_up_of cable lent).table; counts = no_reports_at cable.n }) asks)
    k = kept_run cable cable-fits lent one_each asks
