-- The counts after an order (bench_work's specs/Work) are those after the call that asked for it (bench's specs/Reports and Kept): in a slot the nodes that list the sender and do not miss its message are
-- those that hear its report. Assumes nothing.
use Prim.Native.Nat.{ℕ, suc, ◌+◌, ◌^◌, ◌≤◌, ◌<◌}
use mathlib.Core.Path.{◌≡◌, refl, sym, ap, ap₂, ◌∙◌}
use mathlib.Core.Bool.{Bool, true, false, cond, not, ◌&&◌, and_comm}
use mathlib.Core.List.{List, [], ◌∷◌}
use native.Mathlib.Omega.{arith}
use native.Mathlib.Decide.{ℕ_discrete}
use native.Mathlib.Nat.{lt_of_lt_of_le}
use lib.Dec.{eqb, leb, ltb}
use lib.ListN.{length}
use lib.Pow.{pow_mono}
use borrow.Author.Tests.{eqb-true, ltb-true, le-leb, eq-eqb, ne_eqb}
use Rattle.bench.specs.refusal.declared.Refusal.{Refusal}
use Rattle.bench.specs.refusal.declared.Refusal.TheVariants.{NodeNumber, Unsound, SlotLimit, SpareBit, OutputShort, NotOut, LedgerUnfit}
use Rattle.bench.specs.refusal.Causes.{cause}
use Rattle.node_record.specs.nodeset.Sets.{has, without, minus, within}
use Rattle.node_record.proofs.nodeset.Tests.{both, all}
use Rattle.node_record.proofs.nodeset.Bits.{has-none}
use Rattle.node_record.proofs.nodeset.Laws.{has-without, has-without-other}
use Rattle.node_record.proofs.nodeset.Subsets.{has-minus}
use Rattle.node_record.specs.cable.declared.Choices.{Choices}
use Rattle.node_record.specs.cable.Cable.{cable_with, may_set_up, node_number, fault_of}
use Rattle.node_record.proofs.cable.Ranges.{ring-size}
use Rattle.bench.proofs.Reports.{next-sender}
use Rattle.bench_work.specs.node_reports.Reports.{Counts, no_reports_at, counts_with, heard_from, heard_by}
use Rattle.bench_work.specs.node_reports.Inner.{greatest_of}
use Rattle.bench_work.proofs.node_reports.Laws.{nobody-hears}
use Rattle.bench_orders.specs.message.Answers.{Reading}
use Rattle.bench_orders.specs.message.Message.{jobs_within}
use Rattle.node_record.specs.declared.Node.{Node}
use Rattle.node_record.specs.Soundness.{limit}
use Rattle.bench_orders.specs.node_steps.Steps.{is_heard}
use Rattle.bench_orders.specs.node_sending.Sending.{jobs_sent}
use Rattle.bench.specs.node.Calls.{hears_report, counts_after}
use Rattle.bench.specs.declared.Command.{Command}
use Rattle.bench.specs.declared.Command.TheVariants as command
use Rattle.bench.specs.Table.{Table, record_of, table_sound, speaker}
use Rattle.bench.specs.Calls as bench
use Rattle.bench.specs.Calls.{unheard}
use Rattle.node_record.specs.Held.{setted}
use Rattle.node_record.proofs.Holding.{node-back}
use Rattle.bench.specs.Held.{HeldTable, setted_all}
use Rattle.bench.specs.Reports.{received_by, each_counts_from, reports_after_slot}
use Rattle.bench.specs.Kept.{reports_with}
use Rattle.bench.proofs.Places.{sound-placed}
use Rattle.bench_orders.specs.declared.Order.{Order}
use Rattle.bench_orders.specs.declared.Order.TheVariants as order
use Rattle.bench_orders.specs.declared.Beside.{Beside}
use Rattle.bench_orders.specs.declared.Turn.{Turn}
use Rattle.bench_orders.specs.declared.Survey.{Survey}
use Rattle.bench_orders.specs.Survey.{survey_of, fine_table}
use Rattle.bench_orders.specs.Orders.{if_good, turn_of, order_for, fate_by}
use Rattle.bench_work.specs.Work.{beside_by, hearers_in, reported_by}
use Rattle.bench_calls.proofs.Surveys.{fine-table, said}
use Rattle.bench_calls.proofs.Works.{called_by, hears, speaks}

-- ---- who hears

-- a report is heard where the message is, and not missed
heard-unless : (missed : Bool) (heard : Reading) → is_heard (cond missed unheard heard) ≡ (not missed && is_heard heard)
heard-unless true heard = refl
heard-unless false heard = refl

module _ (lost : Bool) (missed : ℕ) (t : HeldTable) (ok : table_sound (setted_all t) ≡ true) (named : within (survey_of t).cable.n missed ≡ true) where
  abbrev u : Table
  u = setted_all t

  abbrev survey : Survey
  survey = survey_of t

  abbrev turn : Turn
  turn = turn_of lost missed (survey_of t)

  small : missed < 2 ^ 32
  small =
      let s = said t ok in
      lt_of_lt_of_le (ltb-true missed (2 ^ (survey_of t).cable.n) named) (pow_mono {i = (survey_of t).cable.n} {j = 32} (omega (arith, s.n, (ring-size (length u) s.ring).1)))

  -- of a node of the table
  module _ (x : ℕ) (low : 1 ≤ x) (high : x ≤ length u) where
    abbrev v : Node
    v = record_of u x

    own : v.own ≡ x
    own = let p = sound-placed u ok in (p.at x low (omega (arith, high, p.length-is))).own_is

    reading-is : bench.heard_by lost missed u x ≡ cond (has missed x) unheard turn.heard
    reading-is = sym (hears lost missed u x survey.speaker (speaks u ok).is-sound (said t ok).spoken)

    listed : has survey.listers x ≡ has v.set (speaker u)
    listed = (said t ok).listers x (all (le-leb 1 x low) (le-leb x (length u) high))

    -- the tests of the set are those of the node
    tests : (own-slot heard away inside : Bool) → (not own-slot && ((not away && heard) && inside)) ≡ cond heard (cond own-slot false (inside && not away)) false
    tests true true away inside = refl
    tests true false away inside = refl
    tests false true true inside = sym (and_comm inside false)
    tests false true false inside = and_comm true inside
    tests false false true inside = refl
    tests false false false inside = refl

    in-set : has (without (minus survey.listers missed) survey.sender) x ≡ cond (eqb (speaker u) v.own) false (has v.set (speaker u) && not (has missed x))
    in-set = go (ℕ_discrete (speaker u) x)
      where
        most : x ≤ 32
        most = omega (arith, high, (ring-size (length u) (said t ok).ring).1)

        go : Dec (speaker u ≡ x) → has (without (minus survey.listers missed) survey.sender) x ≡ cond (eqb (speaker u) v.own) false (has v.set (speaker u) && not (has missed x))
        go (yes e) =
            ap (λ (y : ℕ). has (without (minus survey.listers missed) y) x) ((said t ok).sender ∙ e) ∙ has-without (minus survey.listers missed) x
            ∙ sym (ap (λ (b : Bool). cond b false (has v.set (speaker u) && not (has missed x))) (eq-eqb (speaker u) v.own (e ∙ sym own)))
        go (no d) =
            has-without-other (minus survey.listers missed) survey.sender x (λ e. d (sym (said t ok).sender ∙ e))
            ∙ has-minus survey.listers missed x low most small
            ∙ ap (λ (b : Bool). b && not (has missed x)) listed
            ∙ sym (ap (λ (b : Bool). cond b false (has v.set (speaker u) && not (has missed x))) (ne_eqb (speaker u) v.own (λ e. d (e ∙ own))))

    hears-is : has (hearers_in turn survey.listers) x ≡ hears_report (speaker u) (bench.heard_by lost missed u x) (record_of u x)
    hears-is =
        go (is_heard turn.heard)
        ∙ sym (tests (eqb (speaker u) v.own) (is_heard turn.heard) (has missed x) (has v.set (speaker u)))
        ∙ ap (λ (b : Bool). not (eqb (speaker u) v.own) && (b && has v.set (speaker u))) (sym (heard-unless (has missed x) turn.heard) ∙ ap is_heard (sym reading-is))
      where
        go : (b : Bool) → has (cond b (without (minus survey.listers missed) survey.sender) 0) x ≡ cond b (cond (eqb (speaker u) v.own) false (has v.set (speaker u) && not (has missed x))) false
        go true = in-set
        go false = has-none x

    -- the node's counts after the slot
    counts-are : (jobs : ℕ) (c : Counts)
        → cond (has (hearers_in turn survey.listers) x) (counts_with survey.sender (jobs_sent jobs (setted survey.speaker)) c) c ≡ counts_after (received_by lost missed jobs u x) (record_of u x) c
    unfolding counts_after
    counts-are jobs c =
        ap (λ (b : Bool). cond b (counts_with survey.sender (jobs_sent jobs (setted survey.speaker)) c) c) hears-is
        ∙ ap₂ (λ (y : ℕ) (w : Node). cond (hears_report (speaker u) (bench.heard_by lost missed u x) v) (counts_with y (jobs_sent jobs w) c) c) (said t ok).sender (ap setted (said t ok).spoken ∙ node-back (record_of u (speaker u)) (speaks u ok).is-sound)
        ∙ ap (λ (y : ℕ). cond (hears_report y (bench.heard_by lost missed u x) v) (counts_with y (jobs_sent jobs (record_of u (speaker u))) c) c) (sym (next-sender u ok x low high))

-- ---- the counts of all nodes

each-heard : (hearers s jobs : ℕ) (f : ℕ → Counts → Counts) (i : ℕ) (counts : List Counts)
    → ((x : ℕ) → i ≤ x → x < i + length counts → (c : Counts) → cond (has hearers x) (counts_with s jobs c) c ≡ f x c) → heard_from i hearers s jobs counts ≡ each_counts_from f i counts
unfolding heard_from each_counts_from
each-heard hearers s jobs f i [] h = refl
each-heard hearers s jobs f i (c ∷ counts) h =
    ap₂ {C = List Counts} (λ x r. x ∷ r) (h i (omega arith) (omega arith) c) (each-heard hearers s jobs f (suc i) counts (λ x l m. h x (omega (arith, l)) (omega (arith, m))))

slot-reported : (lost : Bool) (missed jobs : ℕ) (t : HeldTable) (counts : List Counts) → table_sound (setted_all t) ≡ true → within (survey_of t).cable.n missed ≡ true → length counts ≡ length (setted_all t)
    → heard_by (hearers_in (turn_of lost missed (survey_of t)) (survey_of t).listers) (survey_of t).sender (jobs_sent jobs (setted (survey_of t).speaker)) counts ≡ reports_after_slot lost missed jobs (setted_all t) counts
unfolding reports_after_slot
slot-reported lost missed jobs t counts ok named l =
    each-heard _ _ _ (λ i c. counts_after (received_by lost missed jobs (setted_all t) i) (record_of (setted_all t) i) c) 1 counts (λ x low high c. counts-are lost missed t ok named x low (omega (arith, high, l)) jobs c)

-- ---- each call

abbrev Reported : Beside → Command → HeldTable → List Counts → Order → Type 0
Reported fits c t counts o = reported_by o c (survey_of t) counts ≡ reports_with c (setted_all t) (called_by fits o t) counts

reported-if : (fits : Beside) (c : Command) (t : HeldTable) (counts : List Counts) (b : Bool) (cause : Refusal) (o : Order) → (b ≡ true → Reported fits c t counts o) → Reported fits c t counts (if_good b cause o)
reported-if fits c t counts true cause o h = h refl
reported-if fits (command.SetUp choices) t counts false cause o h = nobody-hears _ _ counts
reported-if fits (command.Off a) t counts false cause o h = nobody-hears _ _ counts
reported-if fits (command.Restart a) t counts false cause o h = nobody-hears _ _ counts
reported-if fits (command.Slot lost missed jobs) t counts false cause o h = nobody-hears _ _ counts
reported-if fits (command.Look lost) t counts false cause o h = nobody-hears _ _ counts

module _ (slots : List ℕ) (room : ℕ) (fits : Bool) (t : HeldTable) (counts : List Counts) where
  abbrev lent : Command → Beside
  lent c = beside_by c slots (survey_of t) fits counts

  abbrev ordered : Command → Order
  ordered c = order_for c room (lent c) t

  abbrev Told : Command → Type 0
  Told c = Reported (lent c) c t counts (ordered c)

  set-up-reported : (choices : Choices) → Told (command.SetUp choices)
  unfolding order_for
  set-up-reported choices =
      let c : Command = command.SetUp choices in
      let cable = cable_with choices slots in
      reported-if (lent c) c t counts (may_set_up cable (length slots)) (cause (fault_of cable (length slots))) _ (λ _.
      reported-if (lent c) c t counts (eqb (length counts) choices.n) Unsound _ (λ _.
      reported-if (lent c) c t counts (eqb (length t) choices.n) Unsound order.Start (λ _. ap (λ (l : List Counts). no_reports_at (length l)) (nobody-hears _ _ counts))))

  off-reported : (a : ℕ) → Told (command.Off a)
  unfolding order_for
  off-reported a =
      let c : Command = command.Off a in
      reported-if (lent c) c t counts (fine_table (survey_of t) (length t)) Unsound _ (λ _.
      reported-if (lent c) c t counts (node_number (survey_of t).cable.n a) NodeNumber _ (λ _.
      reported-if (lent c) c t counts fits LedgerUnfit (order.Off a) (λ _. nobody-hears _ _ counts)))

  restart-reported : (a : ℕ) → Told (command.Restart a)
  unfolding order_for
  restart-reported a =
      let c : Command = command.Restart a in
      reported-if (lent c) c t counts (fine_table (survey_of t) (length t)) Unsound _ (λ _.
      reported-if (lent c) c t counts (node_number (survey_of t).cable.n a) NodeNumber _ (λ _.
      reported-if (lent c) c t counts (has (survey_of t).out a) NotOut (order.Restart a) (λ _. nobody-hears _ _ counts)))

  slot-told : (lost : Bool) (missed jobs : ℕ) → Told (command.Slot lost missed jobs)
  unfolding order_for
  slot-told lost missed jobs =
      let c : Command = command.Slot lost missed jobs in
      reported-if (lent c) c t counts (fine_table (survey_of t) (length t)) Unsound _ (λ fine.
      let ok = sym (fine-table t) ∙ fine in
      reported-if (lent c) c t counts (eqb (length counts) (survey_of t).cable.n && leb (greatest_of counts) (survey_of t).slots) Unsound _ (λ reports.
      let one_each = eqb-true (length counts) (survey_of t).cable.n (both _ _ reports).0 ∙ (said t ok).n in
      reported-if (lent c) c t counts (within (survey_of t).cable.n missed) NodeNumber _ (λ named.
      reported-if (lent c) c t counts fits LedgerUnfit _ (λ _.
      reported-if (lent c) c t counts (ltb (survey_of t).slots limit) SlotLimit _ (λ _.
      reported-if (lent c) c t counts (jobs_within (survey_of t).cable.m jobs) SpareBit _ (λ _.
      reported-if (lent c) c t counts (leb 64 room) OutputShort (order.Slot (turn_of lost missed (survey_of t))) (λ _. slot-reported lost missed jobs t counts ok named one_each)))))))

  look-reported : (lost : Bool) → Told (command.Look lost)
  unfolding order_for
  look-reported lost =
      reported-if (lent (command.Look lost)) (command.Look lost) t counts (fine_table (survey_of t) (length t)) Unsound (order.Look (survey_of t).slots (survey_of t).sender (fate_by lost (survey_of t).speaker)) (λ _. nobody-hears _ _ counts)

  pub reported-told : (c : Command) → Told c
  reported-told (command.SetUp choices) = set-up-reported choices
  reported-told (command.Off a) = off-reported a
  reported-told (command.Restart a) = restart-reported a
  reported-told (command.Slot lost missed jobs) = slot-told lost missed jobs
  reported-told (command.Look lost) = look-reported lost
