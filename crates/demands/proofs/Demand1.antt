-- Demand 1 holds: each definition is a chain of tests, and each test that fails gives a number of the call's list and leaves what was lent. Assumes nothing.
use Rattle.std.specs.Prelude.{Err, Ok, Option, Result}
use Prim.Native.Nat.{ℕ, ◌+◌, ◌*◌, ◌^◌}
use mathlib.Core.Path.{◌≡◌, refl, ap, ◌∙◌}
use mathlib.Core.Bool.{Bool, true, false, cond, ◌&&◌}
use mathlib.Core.List.{List, [], ◌∷◌, ◌++◌}
use lib.Dec.{eqb, ltb, leb}
use lib.ListN.{length, take, drop, take-append-drop}
use borrow.Author.Tests.{leb-false}
use Rattle.cover_light.specs.refusal.declared.Refusal.{Refusal}
use Rattle.cover_light.specs.refusal.Causes.{cause}
use Rattle.cover_light.specs.nodeset.Sets.{within}
use Rattle.cover_light.proofs.nodeset.Tests.{by_cases}
use Rattle.cover_light.specs.cable.declared.Cable.{Cable}
use Rattle.cover_light.specs.ring.Answers.{Speaker, Lookup, before_of, on_cable}
use Rattle.cover_light.specs.ring.declared.Found.{Found}
use Rattle.cover_light.specs.cable.Cable.{fault_of, cable_with, ring_size, node_number, lag_fits, sponsor_count, job_count, cable_fits, may_set_up}
use Rattle.cover_light.proofs.cable.Ranges.{fault-by}
use Rattle.cover_light.specs.ring.Ring.{sponsored, decided}
use Rattle.agreement.specs.bench.Reports.{reports_fit, jobs_on}
use Rattle.cover_light.specs.node.Answers.{Answer}
use Rattle.cover_light.specs.node_reports.Reports.{Counts, counts_within}
use Rattle.cover_light.specs.message.Answers.{Reading, Written}
use Rattle.cover_light.specs.message.declared.Received.{Received}
use Rattle.cover_light.specs.message.Message.{Outcome, unread, if_read, unwritten, if_written, in_range, jobs_within, length_of, length_two, part_one, part_two, part_three, read_of, said_by, section_in, write_of}
use Rattle.cover_light.specs.message.TwoSections.{read_two_of, write_two_of}
use Rattle.converter_text.specs.converter.Converter.{job_count_in, read_any_of, to_three_of, to_two_of, written_on}
use Rattle.cover_light.specs.node_record.Soundness.{sound, limit}
use Rattle.cover_light.specs.node_record.States.{is_out}
use Rattle.cover_light.specs.node_record.declared.Node.{Node}
use Rattle.cover_light.specs.node_record.declared.Held.{Held}
use Rattle.cover_light.specs.node_record.Held.{setted}
use Rattle.cover_light.specs.node.Held.{setted_of}
use Rattle.cover_light.specs.node.Calls.{Stepped, its_turn, no_node, set_up_of, step_of, send_of, off_of, restart_of, is_done, refused, with_counts, counts_after, counted_of}
use Rattle.cover_light.proofs.node.Sent.{sent-or-short}
use Rattle.cover_light.specs.Light.{Light, bases_fit, level_of, levels_of}
use Rattle.agreement.specs.bench.declared.Command.{Command}
use Rattle.agreement.specs.bench.declared.Command.TheVariants as command
use Rattle.agreement.specs.bench.declared.Outcome as told
use Rattle.agreement.specs.bench.declared.Outcome.TheVariants as outcome
use Rattle.agreement.specs.bench.Held.{HeldTable, kept_held}
use Rattle.plan_report.specs.bench_by_value.ByValue.{Rows, table_of, call_with}
use Rattle.agreement.specs.bench.Table.{Table, table_sound, node_count, slots_of, record_of}
use Rattle.agreement.specs.bench.Calls as bench
use Rattle.agreement.specs.bench.Outcomes.{outcome_of, bytes_by, slot_given}
use Rattle.agreement.specs.bench.Ledger.{Ledger, ledger_fits}
use Rattle.agreement.specs.bench.Kept.{slot_with, off_with, called_with, ledger_with, kept_of, set_up_with, reports_with}
use Rattle.converter_text.specs.plan_text.Text.{written_of}
use Rattle.plan_report.specs.plan_program.declared.Plan.{Plan}
use Rattle.plan_report.specs.plan_program.declared.Part.{Part}
use Rattle.plan_report.specs.plan_program.Calls.{fed_of, finished_of, has_room, plan_sound, printed_in}
use Rattle.converter_text.specs.declared.Recording.{Recording}
use Rattle.converter_text.specs.Calls as recorded
use Rattle.plan_report.specs.declared.Figures.{Figures}
use Rattle.plan_report.specs.declared.Report.{Report}
use Rattle.plan_report.specs.Figures.{add_of, all_fit}
use Rattle.plan_report.specs.Calls as reported
use Rattle.demands.specs.Demand1.{Demand1, AddsBy, EndsBy, FeedsBy, ReportsBy, Keeps, RowsBy, RunsBy, StepsBy, ConvertsBy, CountsBy, WritesBy, is_among, numbers_for, ending, of_outcome}
use Rattle.demands.proofs.Refused.{refused-call}

-- ---- a test, in each of the forms that the definitions use: P holds either way

either : {A : Type 0} (P : A → Type 0) (b : Bool) {x y : A} → P x → P y → P (cond b x y)
either P true p q = p
either P false p q = q

either-read : (P : Received → Type 0) (b : Bool) (number : ℕ) {r : Received} → P r → P (unread (cause number)) → P (if_read b number r)
either-read P true number p q = p
either-read P false number p q = q

either-written : (P : Outcome → Type 0) (b : Bool) (number : ℕ) {out : List ℕ} {o : Outcome} → P o → P (unwritten number, out) → P (if_written b number out o)
either-written P true number p q = p
either-written P false number p q = q

either-passed : (P : bench.Called → Type 0) (b : Bool) (number : ℕ) {t : Table} {c : bench.Called}
    → P c → P (record { table = t; answer = Err (cause number) }) → P (bench.if_passed b number t c)
either-passed P true number p q = p
either-passed P false number p q = q

-- ---- the ring

abbrev Ends : List ℕ → Lookup → Type 0
Ends numbers a = EndsBy numbers (ending a)

finds-before : (cable : Cable) (set x j : ℕ) → Ends (1 ∷ 3 ∷ []) (before_of cable set x j)
finds-before cable set x j = let P = Ends (1 ∷ 3 ∷ []) in either P (ring_size cable.n) (either P (node_number cable.n x) tt refl) refl

finds-on : (cable : Cable) (x : ℕ) (f : Option Found) → Ends (1 ∷ 16 ∷ 2 ∷ 3 ∷ []) (on_cable cable x f)
finds-on cable x f =
    let P = Ends (1 ∷ 16 ∷ 2 ∷ 3 ∷ []) in
    either P (ring_size cable.n) (either P (lag_fits cable.lag) (either P (sponsor_count cable) (either P (node_number cable.n x) tt refl) refl) refl) refl

-- ---- the message

reads : (k m : ℕ) (bytes : List ℕ) → EndsBy (2 ∷ 14 ∷ 6 ∷ 7 ∷ 8 ∷ []) (ending (read_of k m bytes).reading)
unfolding read_of said_by
reads k m bytes =
    let P : Received → Type 0 = λ r. EndsBy (2 ∷ 14 ∷ 6 ∷ 7 ∷ 8 ∷ []) (ending r.reading) in
    let one = section_in k (part_one k bytes) in
    let two = section_in 1 (part_two k bytes) in
    let three = section_in m (part_three k bytes) in
    either-read P (in_range k) 2
    (either-read P (job_count m) 14
    (either-read P (eqb (length bytes) (length_of k)) 6
    (either-read P (one.counted && (two.counted && three.counted)) 7
    (either-read P (one.clear && (two.clear && three.clear)) 8 tt refl) refl) refl) refl) refl

writes : (k m a : ℕ) (b : Bool) (jobs : ℕ) (out : List ℕ) → WritesBy (2 ∷ 14 ∷ 8 ∷ 9 ∷ []) out (write_of k m a b jobs out)
unfolding write_of
writes k m a b jobs out =
    let P = WritesBy (2 ∷ 14 ∷ 8 ∷ 9 ∷ []) out in
    either-written P (in_range k) 2
    (either-written P (job_count m) 14
    (either-written P (ltb a (2 ^ k) && jobs_within m jobs) 8
    (either-written P (leb (length_of k) (length out)) 9 (tt, tt) (refl, refl)) (refl, refl)) (refl, refl)) (refl, refl)

-- ---- recorded messages

-- what the sections say is refused by 7 and 8 alone: for any list that has them
reads_two : (numbers : List ℕ) → is_among 2 numbers ≡ true → is_among 6 numbers ≡ true → is_among 7 numbers ≡ true → is_among 8 numbers ≡ true
    → (k : ℕ) (bytes : List ℕ) → EndsBy numbers (ending (read_two_of k bytes).reading)
unfolding read_two_of said_by
reads_two numbers two six seven eight k bytes =
    let P : Received → Type 0 = λ r. EndsBy numbers (ending r.reading) in
    let one = section_in k (part_one k bytes) in
    let other = section_in 1 (part_two k bytes) in
    either-read P (in_range k) 2
    (either-read P (eqb (length bytes) (length_two k)) 6
    (either-read P (one.counted && (other.counted && true)) 7
    (either-read P (one.clear && (other.clear && true)) 8 tt eight) seven) six) two

writes-two : (numbers : List ℕ) → is_among 2 numbers ≡ true → is_among 8 numbers ≡ true → is_among 9 numbers ≡ true
    → (k a : ℕ) (b : Bool) (out : List ℕ) → WritesBy numbers out (write_two_of k a b out)
unfolding write_two_of
writes-two numbers two eight nine k a b out =
    let P = WritesBy numbers out in
    either-written P (in_range k) 2
    (either-written P (ltb a (2 ^ k)) 8
    (either-written P (leb (length_two k) (length out)) 9 (tt, tt) (nine, refl)) (eight, refl)) (two, refl)

-- a reading that is refused stays so and leaves the lent bytes; else what is written on counts
written-by : (numbers : List ℕ) (r : Reading) (out : List ℕ) (on : ℕ → Bool → Outcome) → EndsBy numbers (ending r) → ((a : ℕ) (b : Bool) → WritesBy numbers out (on a b))
    → WritesBy numbers out (written_on r out on)
written-by numbers (Ok said) out on e h = h said.acknowledgements said.return_bit
written-by numbers (Err cause) out on e h = (e, refl)

to-three : (k : ℕ) (bytes out : List ℕ) → WritesBy (2 ∷ 6 ∷ 7 ∷ 8 ∷ 9 ∷ []) out (to_three_of k bytes out)
unfolding to_three_of write_of
to-three k bytes out =
    let numbers : List ℕ = 2 ∷ 6 ∷ 7 ∷ 8 ∷ 9 ∷ [] in
    let P = WritesBy numbers out in
    written-by numbers (read_two_of k bytes).reading out _ (reads_two numbers refl refl refl refl k bytes) (λ a b.
    either-written P (in_range k) 2
    (either-written P (ltb a (2 ^ k) && jobs_within 0 0) 8
    (either-written P (leb (length_of k) (length out)) 9 (tt, tt) (refl, refl)) (refl, refl)) (refl, refl))

-- 14 does not come after 7
either-any : (P : Received → Type 0) (few ranged : Bool) {r : Received} → P r → P (unread (cause 7)) → P (unread (cause 2)) → P (if_read few 7 (if_read ranged 2 (if_read few 14 r)))
either-any P true true p seven two = p
either-any P true false p seven two = two
either-any P false ranged p seven two = seven

to-two : (k : ℕ) (bytes out : List ℕ) → WritesBy (2 ∷ 6 ∷ 7 ∷ 8 ∷ 15 ∷ 9 ∷ []) out (to_two_of k bytes out)
unfolding to_two_of read_any_of read_of said_by
to-two k bytes out =
    let numbers : List ℕ = 2 ∷ 6 ∷ 7 ∷ 8 ∷ 15 ∷ 9 ∷ [] in
    let R : Received → Type 0 = λ r. EndsBy numbers (ending r.reading) in
    let m = job_count_in bytes in
    let one = section_in k (part_one k bytes) in
    let two = section_in 1 (part_two k bytes) in
    let three = section_in m (part_three k bytes) in
    let read =
    either-read R (in_range k) 2
    (either-read R (eqb (length bytes) (length_of k)) 6
    (either-any R (job_count m) (in_range k)
    (either-read R (eqb (length bytes) (length_of k)) 6
    (either-read R (one.counted && (two.counted && three.counted)) 7
    (either-read R (one.clear && (two.clear && three.clear)) 8 tt refl) refl) refl) refl refl) refl) refl in
    written-by numbers (read_any_of k bytes).reading out _ read (λ a b.
    either-written (WritesBy numbers out) (eqb m 0) 15 (writes-two numbers refl refl refl k a b out) (refl, refl))

-- ---- the node record

sets-up : (cable : Cable) (places own : ℕ) → EndsBy (1 ∷ 16 ∷ 2 ∷ 14 ∷ 17 ∷ 18 ∷ 3 ∷ []) (ending (set_up_of cable places own).answer)
unfolding set_up_of
sets-up cable places own =
    let P : Stepped → Type 0 = λ s. EndsBy (1 ∷ 16 ∷ 2 ∷ 14 ∷ 17 ∷ 18 ∷ 3 ∷ []) (ending s.answer) in
    either P (may_set_up cable places) (either P (node_number cable.n own) tt refl) (fault-by (λ number. P (refused number no_node)) cable places refl refl refl refl refl refl)

steps : (heard : Reading) (v : Node) → StepsBy (4 ∷ 5 ∷ []) v (step_of heard v)
unfolding step_of
steps heard v =
    let P = StepsBy (4 ∷ 5 ∷ []) v in
    either P (sound v) (either P (leb limit v.slots) (refl, refl) (tt, tt)) (refl, refl)

-- a slot that is refused keeps the counts, too
counted : (received : Received) (v : Node) (counts : Counts) → CountsBy (4 ∷ 5 ∷ []) v counts (counted_of received v counts)
unfolding counted_of
counted received v counts = go (counts_within v.slots counts)
  where
    after : Answer → Counts
    after a = cond (is_done a) (counts_after received v counts) counts

    by : (w : Node) (a : Answer) → StepsBy (4 ∷ 5 ∷ []) v (record { node = w; answer = a }) → CountsBy (4 ∷ 5 ∷ []) v counts (with_counts (record { node = w; answer = a }) (after a))
    by w (Ok _) p = (tt, tt)
    by w (Err r) p = (p.0, ap (λ (x : Node). (x, counts)) p.1)

    go : (b : Bool) → CountsBy (4 ∷ 5 ∷ []) v counts (cond b (with_counts (step_of received.reading v) (after (step_of received.reading v).answer)) (with_counts (refused 4 v) counts))
    go true = let s = step_of received.reading v in by s.node s.answer (steps received.reading v)
    go false = (refl, refl)

switches-off : (v : Node) → StepsBy (4 ∷ []) v (off_of v)
unfolding off_of
switches-off v = either (StepsBy (4 ∷ []) v) (sound v) (tt, tt) (refl, refl)

restarts : (v : Node) → StepsBy (4 ∷ 11 ∷ []) v (restart_of v)
unfolding restart_of
restarts v =
    let P = StepsBy (4 ∷ 11 ∷ []) v in
    either P (sound v) (either P (is_out v.state) (tt, tt) (refl, refl)) (refl, refl)

stands-for : (v : Held) → EndsBy (4 ∷ []) (ending (setted_of v))
unfolding setted_of
stands-for v = either (λ (c : Result Node Refusal). EndsBy (4 ∷ []) (ending c)) (sound (setted v)) tt refl

-- "of the writer's refusals only 9 can come of sending" (node's proofs/Sent)
sends : (v : Node) (jobs : ℕ) (out : List ℕ) → WritesBy (4 ∷ 5 ∷ 8 ∷ 10 ∷ 9 ∷ []) out (send_of v jobs out)
unfolding send_of
sends v jobs out =
    let P = WritesBy (4 ∷ 5 ∷ 8 ∷ 10 ∷ 9 ∷ []) out in
    by_cases (sound v)
    (λ s. by_cases (leb limit v.slots)
    (λ l. rw (s, l) (refl, refl))
    (λ l. by_cases (jobs_within v.cable.m jobs)
    (λ h. by_cases (its_turn v)
    (λ i. rw (sent-or-short v jobs out s (leb-false limit v.slots l) h i) (either-written P (leb (length_of v.cable.k) (length out)) 9 (tt, tt) (refl, refl)))
    (λ i. rw (s, l, h, i) (refl, refl)))
    (λ h. rw (s, l, h) (refl, refl))))
    (λ s. rw s (refl, refl))

-- ---- cover light

gives-level : (v : Node) (bases : List ℕ) (lamp : ℕ) → EndsBy (4 ∷ 3 ∷ 20 ∷ []) (ending (level_of v bases lamp))
unfolding level_of
gives-level v bases lamp =
    let P : Light → Type 0 = λ l. EndsBy (4 ∷ 3 ∷ 20 ∷ []) (ending l) in
    either P (sound v) (either P (node_number v.cable.n lamp) (either P (bases_fit v.cable.n bases) tt refl) refl) refl

writes-levels : (v : Node) (bases out : List ℕ) → WritesBy (4 ∷ 20 ∷ 9 ∷ []) out (levels_of v bases out)
unfolding levels_of
writes-levels v bases out =
    let P = WritesBy (4 ∷ 20 ∷ 9 ∷ []) out in
    either-written P (sound v) 4
    (either-written P (bases_fit v.cable.n bases) 20
    (either-written P (leb v.cable.n (length out)) 9 (tt, tt) (refl, refl)) (refl, refl)) (refl, refl)

-- ---- the bench

abbrev Runs : Command → Table → Ledger → List Counts → List ℕ → bench.Called → Type 0
Runs c t ledger counts out called =
    RunsBy (numbers_for c) (outcome_of c t called) (t, ledger, counts, out) (called.table, ledger_with c t called ledger, reports_with c t called counts, bytes_by c t called out)

runs : (c : Command) (slots : List ℕ) (t : Table) (ledger : Ledger) (counts : List Counts) (out : List ℕ) → Runs c t ledger counts out (called_with c slots (length out) ledger counts t)
unfolding bench.set_up_of bench.set_up_given bench.slot_of bench.off_of bench.restart_of bench.look_of set_up_with slot_with off_with slot_given
runs (command.SetUp choices) slots t ledger counts out =
    let P = Runs (command.SetUp choices) t ledger counts out in
    let cable = cable_with choices slots in
    let places = length slots in
    let fault : (m : ℕ) → P (record { table = t; answer = Err (cause (fault_of cable m)) })
    = λ m. fault-by (λ number. P (record { table = t; answer = Err (cause number) })) cable m (refl, refl) (refl, refl) (refl, refl) (refl, refl) (refl, refl) (refl, refl) in
    either-passed P (may_set_up cable places) (fault_of cable places)
    (either-passed P (eqb (length counts) cable.n) 4
    (either-passed P (may_set_up cable places) (fault_of cable places)
    (either-passed P (cable_fits cable) (fault_of cable cable.n)
    (either-passed P (eqb (length t) cable.n) 4 (tt, tt) (refl, refl)) (fault cable.n)) (fault places)) (refl, refl)) (fault places)
runs (command.Slot lost missed jobs) slots t ledger counts out =
    let P = Runs (command.Slot lost missed jobs) t ledger counts out in
    either-passed P (table_sound t) 4
    (either-passed P (reports_fit t counts) 4
    (either-passed P (within (node_count t) missed) 3
    (either-passed P (ledger_fits (node_count t) (slots_of t) ledger) 13
    (either-passed P (table_sound t) 4
    (either-passed P (within (node_count t) missed) 3
    (either-passed P (ltb (slots_of t) limit) 5
    (either-passed P (jobs_within (jobs_on t) jobs) 8
    (either-passed P (table_sound t) 4
    (either-passed P (within (node_count t) missed) 3
    (either-passed P (ltb (slots_of t) limit) 5
    (either-passed P (leb 64 (length out)) 9 (tt, tt) (refl, refl)) (refl, refl)) (refl, refl)) (refl, refl)) (refl, refl)) (refl, refl)) (refl, refl)) (refl, refl)) (refl, refl)) (refl, refl)) (refl, refl)) (refl, refl)
runs (command.Off a) slots t ledger counts out =
    let P = Runs (command.Off a) t ledger counts out in
    either-passed P (table_sound t) 4
    (either-passed P (node_number (node_count t) a) 3
    (either-passed P (ledger_fits (node_count t) (slots_of t) ledger) 13
    (either-passed P (table_sound t) 4 (either-passed P (node_number (node_count t) a) 3 (tt, tt) (refl, refl)) (refl, refl)) (refl, refl)) (refl, refl)) (refl, refl)
runs (command.Restart a) slots t ledger counts out =
    let P = Runs (command.Restart a) t ledger counts out in
    either-passed P (table_sound t) 4
    (either-passed P (node_number (node_count t) a) 3
    (either-passed P (is_out (record_of t a).state) 11 (tt, tt) (refl, refl)) (refl, refl)) (refl, refl)
runs (command.Look lost) slots t ledger counts out =
    either-passed (Runs (command.Look lost) t ledger counts out) (table_sound t) 4 (tt, tt) (refl, refl)

-- the table is the first n rows, and those after it stay
runs-by-value : (n : ℕ) (c : Command) (slots : List ℕ) (rows : Rows) (ledger : Ledger) (counts : List Counts) (out : List ℕ) → RowsBy n c slots rows ledger counts out
unfolding call_with kept_held kept_of
runs-by-value n c slots rows ledger counts out =
    let u = table_of n rows in
    let room = length out in
    let called = called_with c slots room ledger counts u in
    let r = runs c slots u ledger counts out in
    let before : Lent = (u, ledger, counts, out) in
    let after : Lent = (called.table, ledger_with c u called ledger, reports_with c u called counts, bytes_by c u called out) in
    (r.0, kept (outcome_of c u called) before after (kept_held c slots room ledger counts (take n rows)).table r.1 (refused-call c slots room ledger counts (take n rows)))
  where
    Lent : Type 0
    Lent = Table × Ledger × List Counts × List ℕ

    kept : (o : told.Outcome) (before after : Lent) (t : HeldTable) → Keeps (of_outcome o) before after → Keeps (of_outcome o) (take n rows) t
        → Keeps {A = Rows × Ledger × List Counts × List ℕ} (of_outcome o) (rows, before.1, before.2, before.3) (t ++ drop n rows, after.1, after.2, after.3)
    kept (outcome.Refused cause) before after t e f =
        ap (λ (w : HeldTable). (w ++ drop n rows, after.1, after.2, after.3)) f
        ∙ ap (λ (w : Lent). (take n rows ++ drop n rows, w.1, w.2, w.3)) e
        ∙ ap (λ (w : Rows). (w, before.1, before.2, before.3)) (take-append-drop n rows)
    kept outcome.Quiet before after t e f = tt
    kept (outcome.Slot slot sender fate list distance) before after t e f = tt

-- ---- plan texts

abbrev Prints : List ℕ → Written × List ℕ → Type 0
Prints out r = WritesBy (9 ∷ []) out r

prints : (input out : List ℕ) → Prints out (printed_in input out)
unfolding printed_in
prints input out = either (Prints out) (leb (80 * length input + 80) (length out)) (tt, tt) (refl, refl)

feeds : (p : Plan) (part : Part) (input out : List ℕ) → FeedsBy (4 ∷ 9 ∷ []) p part out (fed_of p part input out)
unfolding fed_of
feeds p part input out =
    let P = FeedsBy (4 ∷ 9 ∷ []) p part out in
    either P (plan_sound p) (either P (has_room input out) (tt, tt) (refl, refl)) (refl, refl)

finishes : (p : Plan) (begun out : List ℕ) → Prints out (finished_of p begun out)
unfolding written_of
finishes p begun out = either (Prints out) (leb (0 + 80) (length out)) (tt, tt) (refl, refl)

-- ---- texts of recorded messages

feeds-recorded : (r : Recording) (input out : List ℕ) → ConvertsBy (9 ∷ []) r out (recorded.fed_of r input out)
unfolding recorded.fed_of
feeds-recorded r input out = either (ConvertsBy (9 ∷ []) r out) (leb (80 * length input) (length out)) (tt, tt) (refl, refl)

finishes-recorded : (r : Recording) (out : List ℕ) → Prints out (recorded.finished_of r out)
unfolding written_of
finishes-recorded r out = either (Prints out) (leb (0 + 80) (length out)) (tt, tt) (refl, refl)

-- ---- texts of many plans

feeds-reported : (r : Report) (input out : List ℕ) → ReportsBy (4 ∷ 9 ∷ []) r out (reported.fed_of r input out)
unfolding reported.fed_of
feeds-reported r input out =
    let P = ReportsBy (4 ∷ 9 ∷ []) r out in
    either P (plan_sound r.tally.plan) (either P (leb (110 * length input) (length out)) (tt, tt) (refl, refl)) (refl, refl)

finishes-reported : (r : Report) (out : List ℕ) → Prints out (reported.finished_of r out)
unfolding reported.finished_of
finishes-reported r out = either (Prints out) (leb 200 (length out)) (tt, tt) (refl, refl)

adds : (totals figures : Figures) → AddsBy (19 ∷ []) totals (add_of totals figures)
unfolding add_of
adds totals figures = either (AddsBy (19 ∷ []) totals) (all_fit totals figures) (tt, tt) (refl, refl)

-- ---- the demand

pub demand1 : Demand1
unfolding kept_of
demand1 = record {
  sender = λ cable s. either (λ (a : Speaker). EndsBy (1 ∷ []) (ending a)) (ring_size cable.n) tt refl;
  before = finds-before;
  sponsored = λ cable set x j. finds-on cable x (sponsored cable set x j);
  decided = λ cable set x. finds-on cable x (decided cable set x);
  read = reads;
  write = writes;
  read-two = λ k bytes. reads_two (2 ∷ 6 ∷ 7 ∷ 8 ∷ []) refl refl refl refl k bytes;
  write_two = λ k a b out. writes-two (2 ∷ 8 ∷ 9 ∷ []) refl refl refl k a b out;
  to-three = to-three;
  to-two = to-two;
  set-up = λ choices slots own. sets-up (cable_with choices slots) (length slots) own;
  slot = λ bytes v held. counted (read_of v.cable.k v.cable.m bytes) v held;
  step = counted;
  send = sends;
  off = switches-off;
  restart = restarts;
  as-set = stands-for;
  level = gives-level;
  levels = writes-levels;
  bench = runs;
  bench-by-value = runs-by-value;
  print-plan = prints;
  feed = feeds;
  finish = finishes;
  feed-recorded = feeds-recorded;
  finish-recorded = finishes-recorded;
  feed-reported = feeds-reported;
  finish-reported = finishes-reported;
  add-figures = adds;
}
