-- Demand 2 holds. Assumes nothing.
use Rattle.std.specs.Prelude.{Ok}
use Prim.Native.Nat.{ℕ, ◌+◌, ◌≤◌, ◌<◌, ◌-◌}
use mathlib.Core.Path.{◌≡◌, refl, sym, ap, ◌∙◌, ap₂}
use mathlib.Core.Bool.{Bool, true, false, true≢false, ◌&&◌}
use mathlib.Core.List.{List, [], ◌∷◌}
use native.Mathlib.Omega.{arith}
use lib.Dec.{eqb, ltb, leb}
use lib.ListN.{length, take, get_or}
use borrow.Author.Tests.{lt-leb, le-leb, ltb-true, eq-eqb, eqb-true}
use Rattle.cover_light.specs.nodeset.Sets.{within}
use Rattle.cover_light.proofs.nodeset.Tests.{all, both, by_cases}
use Rattle.cover_light.specs.cable.declared.Cable.{Cable}
use Rattle.cover_light.specs.ring.Ring.{sender}
use Rattle.cover_light.proofs.ring_laws.Senders.{turns-of, sender-range}
use Rattle.cover_light.proofs.node_record.Facts.{clauses}
use Rattle.agreement.proofs.bench.Reports.{counts-at}
use Rattle.agreement.specs.bench.Outcomes.{slot_given}
use Rattle.agreement.specs.bench.Reports.{reports_fit, jobs_on, received_by}
use Rattle.cover_light.proofs.node_reports.Laws.{nodes-each}
use Rattle.cover_light.specs.node_reports.Reports.{Counts, counts_within, all_within}
use Rattle.cover_light.specs.message.Answers.{Reading}
use Rattle.cover_light.specs.message.declared.Received.{Received}
use Rattle.cover_light.specs.message.Message.{read_of, jobs_within}
use Rattle.cover_light.proofs.message.RoundTrip.{read_back, written_read}
use Rattle.cover_light.specs.node_record.declared.Node.{Node}
use Rattle.cover_light.specs.node_record.Soundness.{sound, limit}
use Rattle.cover_light.specs.node_changes.Changes.{counted}
use Rattle.cover_light.specs.node_sending.Sending.{sends, jobs_sent}
use Rattle.cover_light.specs.node_slot.Slot.{slot_in, after_slot}
use Rattle.cover_light.specs.node.Calls.{Stepped, done, refused, unsent, send_of, step_of, with_counts, counts_after, counted_of}
use Rattle.cover_light.proofs.node.Sent.{sent-by, sent-read, not-its-turn}
use Rattle.agreement.specs.bench.declared.Command.TheVariants.{Slot}
use Rattle.agreement.specs.bench.Table.{Table, record_of, node_count, slots_of, speaker, table_sound}
use Rattle.agreement.specs.bench.Calls as bench
use Rattle.agreement.specs.bench.Ledger.{Ledger, ledger_fits}
use Rattle.agreement.specs.bench.Kept.{slot_with, kept_of, reports_with}
use Rattle.agreement.proofs.bench.Places.{sound-placed}
use Rattle.agreement.proofs.bench.Runs.{after-slot-record}
use Rattle.demands.specs.Demand2.{Demand2, next_sender}

-- ---- a record

steps-exactly : (heard : Reading) (v : Node) → sound v ≡ true → v.slots < limit
    → step_of heard v ≡ done (slot_in v.state (next_sender v) heard (counted v))
unfolding step_of after_slot
steps-exactly heard v e l = simp (e, lt-leb limit v.slots l)

unsound-refused : (heard : Reading) (v : Node) → sound v ≡ false → step_of heard v ≡ refused 4 v
unfolding step_of
unsound-refused heard v e = simp e

limit-refused : (heard : Reading) (v : Node) → sound v ≡ true → limit ≤ v.slots → step_of heard v ≡ refused 5 v
unfolding step_of
limit-refused heard v e l = simp (e, le-leb limit v.slots l)

counts-reports : (received : Received) (v : Node) (held : Counts) → sound v ≡ true → v.slots < limit → counts_within v.slots held ≡ true
    → counted_of received v held ≡ with_counts (step_of received.reading v) (counts_after received v held)
unfolding counted_of step_of
counts-reports received v held e l w = simp (w, e, lt-leb limit v.slots l)

over-count-refused : (received : Received) (v : Node) (held : Counts) → counts_within v.slots held ≡ false → counted_of received v held ≡ with_counts (refused 4 v) held
unfolding counted_of
over-count-refused received v held w = simp w

-- ---- the bench

-- what passes a test of the bench
passed : (b : Bool) (number : ℕ) (t : Table) (c : bench.Called) → (bench.if_passed b number t c).answer ≡ Ok tt → (b ≡ true) × (c.answer ≡ Ok tt)
passed true number t c e = (refl, e)
passed false number t c e = let z : ◌≡◌ {A = ℕ} 0 1 = cc in absurd (omega arith)

each-steps : (lost : Bool) (missed jobs : ℕ) (slots : List ℕ) (room : ℕ) (ledger : Ledger) (counts : List Counts) (t : Table) → (slot_with lost missed jobs room ledger counts t).answer ≡ Ok tt
    → (i : ℕ) → 1 ≤ i → i ≤ node_count t
    → let kept = kept_of (Slot lost missed jobs) slots room ledger counts t in
    counted_of (received_by lost missed jobs t i) (record_of t i) (get_or counts (i - 1) []) ≡ with_counts (done (record_of kept.table i)) (get_or kept.counts (i - 1) [])
unfolding bench.slot_of slot_given slot_with kept_of reports_fit
each-steps lost missed jobs slots room ledger counts t e i low high =
    let p₁ = passed (table_sound t) 4 t _ e in
    let fit = passed (eqb (length counts) (node_count t) && all_within (slots_of t) counts) 4 t _ p₁.1 in
    let p₂ = passed (within (node_count t) missed) 3 t _ fit.1 in
    let fits = passed (ledger_fits (node_count t) (slots_of t) ledger) 13 t _ p₂.1 in
    let given = passed (within (node_count t) missed) 3 t _ (passed (table_sound t) 4 t _ fits.1).1 in
    let p₃ = passed (ltb (slots_of t) limit) 5 t _ given.1 in
    let j = passed (jobs_within (jobs_on t) jobs) 8 t _ p₃.1 in
    let again = passed (ltb (slots_of t) limit) 5 t _ (passed (within (node_count t) missed) 3 t _ (passed (table_sound t) 4 t _ j.1).1).1 in
    let p₄ = passed (leb 64 room) 9 t _ again.1 in
    let is : slot_with lost missed jobs room ledger counts t ≡ bench.done (bench.table_after_slot lost missed t) = simp (p₁.0, fit.0, p₂.0, fits.0, p₃.0, j.0, p₄.0) in
    let placed = sound-placed t p₁.0 in
    let place = placed.at i low (omega (arith, placed.length-is)) in
    let below : (record_of t i).slots < limit = omega (arith, place.slots-is, ltb-true (slots_of t) limit p₃.0) in
    let one_each = eqb-true (length counts) (node_count t) (both (eqb (length counts) (node_count t)) (all_within (slots_of t) counts) fit.0).0 in
    let in-range : counts_within (record_of t i).slots (get_or counts (i - 1) []) ≡ true =
    ap (λ (x : ℕ). counts_within x (get_or counts (i - 1) [])) place.slots-is ∙ nodes-each (slots_of t) counts (both (eqb (length counts) (node_count t)) (all_within (slots_of t) counts) fit.0).1 (i - 1) (omega (arith, one_each)) in
    let stepped = steps-exactly (bench.heard_by lost missed t i) (record_of t i) place.is-sound below in
    let table = ap (λ (x : bench.Called). record_of x.table i) is ∙ after-slot-record lost missed t i low high in
    let after = ap (λ (x : bench.Called). get_or (reports_with (Slot lost missed jobs) t x counts) (i - 1) []) is ∙ counts-at lost missed jobs t counts i low (omega (arith, one_each)) in
    counts-reports (received_by lost missed jobs t i) (record_of t i) (get_or counts (i - 1) []) place.is-sound below in-range
    ∙ ap₂ with_counts (stepped ∙ ap done (sym (table ∙ ap (λ (s : Stepped). s.node) stepped))) (sym after)

sent-is-spoken : (t : Table) (jobs : ℕ) (out : List ℕ) (count : ℕ) (after : List ℕ) → send_of (record_of t (speaker t)) jobs out ≡ (Ok count, after)
    → read_of (record_of t (speaker t)).cable.k (record_of t (speaker t)).cable.m (take count after) ≡ record { reading = bench.spoken t; jobs = jobs_sent jobs (record_of t (speaker t)) }
unfolding bench.spoken bench.transmits
sent-is-spoken t jobs out count after e =
    let v = record_of t (speaker t) in
    let turn : sends v ≡ true = (both (eqb (next_sender v) v.own) (sends v) (sent-by v jobs out count after e).0).1 in
    rw turn (sent-read v jobs out count after e)

-- the next slot of a sound table is that of its speaker's record
speaks : (t : Table) → table_sound t ≡ true → eqb (next_sender (record_of t (speaker t))) (record_of t (speaker t)).own ≡ true
unfolding speaker table_sound
speaks [] e = absurd (true≢false (sym e))
speaks (w ∷ t) e =
    let P = sound-placed (w ∷ t) e in
    let c = (record_of (w ∷ t) 1).cable in
    let first = P.at 1 (omega arith) (omega (arith, P.length-is)) in
    let range = sender-range c (turns-of c (clauses (record_of (w ∷ t) 1) first.is-sound).choices) (slots_of (w ∷ t) + 1) in
    let place = P.at (speaker (w ∷ t)) range.0 range.1 in
    eq-eqb _ _ (ap₂ (λ (d : Cable) (s : ℕ). sender d (s + 1)) place.cable-is place.slots-is ∙ sym place.own_is)

silent-unheard : (t : Table) (jobs : ℕ) (out : List ℕ) → table_sound t ≡ true → send_of (record_of t (speaker t)) jobs out ≡ unsent 10 out → bench.spoken t ≡ bench.unheard
unfolding bench.spoken bench.transmits
silent-unheard t jobs out e u =
    let v = record_of t (speaker t) in
    by_cases (sends v) (λ s. absurd (true≢false (sym (all (speaks t e) s) ∙ not-its-turn v jobs out u))) (λ s. rw s refl)

-- ---- the demand

pub demand2 : Demand2
demand2 = record {
  slot = steps-exactly;
  unsound = unsound-refused;
  at-limit = limit-refused;
  counts = counts-reports;
  over-count = over-count-refused;
  by_bytes = λ bytes v held. refl;
  on-bench = each-steps;
  heard-on-bench = sent-is-spoken;
  silent-on-bench = silent-unheard;
  read_back = read_back;
  written_read = written_read;
}
