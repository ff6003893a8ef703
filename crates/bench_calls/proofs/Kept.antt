-- What the call with a ledger and counts leaves and answers (bench's specs/Kept) is what its order leaves, what is entered, counted and noted of it. Assumes nothing.
use Prim.Native.Nat.{ℕ, ◌+◌}
use mathlib.Core.Path.{◌≡◌, refl, sym, ap, ap₂, ◌∙◌}
use mathlib.Core.Bool.{Bool, true, false, ◌&&◌}
use mathlib.Core.List.{List}
use native.Mathlib.Omega.{arith}
use lib.Dec.{eqb, leb, ltb}
use lib.ListN.{length, take}
use lib.Seq.{take-length}
use Rattle.bench.specs.refusal.declared.Refusal.{Refusal}
use Rattle.bench.specs.refusal.declared.Refusal.TheVariants.{NodeNumber, Unsound, SlotLimit, OutputShort, NotOut, LedgerUnfit, SpareBit}
use Rattle.bench.specs.refusal.Causes.{cause}
use Rattle.node_record.specs.nodeset.Sets.{has, within}
use Rattle.node_record.proofs.nodeset.Tests.{by_cases}
use Rattle.node_record.specs.cable.Cable.{cable_with, may_set_up, node_number, fault_of}
use Rattle.node_record.proofs.cable.Ranges.{ring-size}
use Rattle.node_record.specs.cable.declared.Cable.{Cable}
use Rattle.node_record.specs.cable.declared.Choices.{Choices}
use Rattle.bench_calls.proofs.Counted.{reported-told}
use Rattle.bench_orders.specs.message.Message.{jobs_within}
use Rattle.bench_orders.specs.declared.Beside.{Beside}
use Rattle.bench_work.proofs.node_reports.Laws.{greatest-within}
use Rattle.bench_work.specs.node_reports.Inner.{greatest_of}
use Rattle.bench_work.specs.node_reports.Reports.{Counts}
use Rattle.bench.specs.Reports.{reports_fit}
use Rattle.node_record.specs.Soundness.{limit}
use Rattle.bench.specs.declared.Command.{Command}
use Rattle.bench.specs.declared.Command.TheVariants as command
use Rattle.bench.specs.declared.Reply.{Reply}
use Rattle.bench.specs.Table.{table_sound, node_count, slots_of}
use Rattle.bench.specs.Calls.{Called, set_up_given}
use Rattle.bench.specs.Outcomes.{ended_by, bytes_by}
use Rattle.bench.specs.Ledger.{Ledger, ledger_fits, ledger_after}
use Rattle.bench.specs.Kept.{slot_with, off_with, called_with, ledger_with, kept_of, bytes_with, set_up_with, reports_with}
use Rattle.bench.specs.Held.{HeldTable, setted_all, held_by, KeptHeld, kept_held}
use Rattle.bench_work.specs.ledger.Entered.{entered, one_more}
use Rattle.bench_work.proofs.ledger.Entered.{one-more-is, entered-is}
use Rattle.bench_orders.specs.declared.Order.{Order}
use Rattle.bench_orders.specs.declared.Order.TheVariants as order
use Rattle.bench_orders.specs.declared.Errand.{Errand}
use Rattle.bench_orders.specs.bench_notes.declared.Moves.{Moves}
use Rattle.bench_orders.specs.declared.Survey.{Survey}
use Rattle.bench_orders.specs.Survey.{survey_of, fine_table}
use Rattle.bench_orders.specs.Orders.{if_good, turn_of, order_of, order_for, errand_of, carried_from, fate_by, notes_of, reply_by, written_by}
use Rattle.bench_work.specs.declared.Work.{Work}
use Rattle.bench_work.specs.Work.{work_of, choices_in, entered_by, beside_with, beside_by, reported_by}
use Rattle.bench_calls.proofs.Surveys.{fine-table, said}
use Rattle.bench_calls.proofs.Works.{called_fit, sent_on, called_by, called-by}
use Rattle.bench_calls.proofs.Moves.{moved}
use Rattle.bench_calls.proofs.Reports.{bytes-told}
use Rattle.bench_calls.proofs.Outcomes.{HeldEnd, done-by, ended-by, is-ended}

-- ---- whether ledger and counts fit

abbrev fitting : HeldTable → Ledger → Bool
fitting t ledger = ledger_fits (survey_of t).cable.n (survey_of t).slots ledger

abbrev fitting_beside : Command → List ℕ → HeldTable → Ledger → List Counts → Beside
fitting_beside c slots t ledger counts = beside_by c slots (survey_of t) (fitting t ledger) counts

fits-is : (t : HeldTable) (ledger : Ledger) → table_sound (setted_all t) ≡ true → fitting t ledger ≡ ledger_fits (node_count (setted_all t)) (slots_of (setted_all t)) ledger
fits-is t ledger ok = let s = said t ok in ap₂ (λ (n slots : ℕ). ledger_fits n slots ledger) s.n s.slots

reports-is : (t : HeldTable) (counts : List Counts) → table_sound (setted_all t) ≡ true → (eqb (length counts) (survey_of t).cable.n && leb (greatest_of counts) (survey_of t).slots) ≡ reports_fit (setted_all t) counts
unfolding reports_fit
reports-is t counts ok =
    let s = said t ok in
    let u = setted_all t in
    ap₂ (λ (n slots : ℕ). eqb (length counts) n && leb (greatest_of counts) slots) s.n s.slots ∙ ap (λ (b : Bool). eqb (length counts) (node_count u) && b) (greatest-within counts (slots_of u))

-- a table that is not sound is refused before ledger and counts are looked at
fit-called : (c : Command) (slots : List ℕ) (room : ℕ) (t : HeldTable) (ledger : Ledger) (counts : List Counts)
    → called_fit c room (fitting_beside c slots t ledger counts) (setted_all t) ≡ called_with c slots room ledger counts (setted_all t)
unfolding set_up_with set_up_given slot_with off_with
fit-called (command.SetUp choices) slots room t ledger counts = by_cases (may_set_up (cable_with choices slots) (length slots)) (λ e. rw e refl) (λ e. rw e refl)
fit-called (command.Off a) slots room t ledger counts = by_cases (table_sound (setted_all t)) (λ e. rw (e, fits-is t ledger e) refl) (λ e. rw e refl)
fit-called (command.Restart a) slots room t ledger counts = refl
fit-called (command.Slot lost missed jobs) slots room t ledger counts = by_cases (table_sound (setted_all t)) (λ e. rw (e, reports-is t counts e, fits-is t ledger e) refl) (λ e. rw e refl)
fit-called (command.Look lost) slots room t ledger counts = refl

-- ---- what is entered

-- what is entered of an order that is carried out is what the tables tell
entries : (o : Errand) (t : HeldTable) (ledger : Ledger) (date : ℕ) → table_sound (setted_all t) ≡ true → fitting t ledger ≡ true
    → entered date (notes_of o t).moves.left (notes_of o t).moves.joined ledger ≡ ledger_after date (setted_all t) (setted_all (carried_from o 0 t)) ledger
entries o t ledger date ok fits =
    let s = said t ok in
    let u = setted_all t in
    ap (λ (m : Moves). entered date m.left m.joined ledger) (moved o t ok)
    ∙ entered-is date (slots_of u) u (setted_all (carried_from o 0 t)) ledger (omega (arith, s.bounded)) (ring-size (length u) s.ring).1 (sym (fits-is t ledger ok) ∙ fits)

abbrev Entered : Beside → Command → HeldTable → Ledger → Order → Type 0
Entered fits c t ledger o = entered_by o (survey_of t).slots (notes_of (sent_on fits o t) t) ledger ≡ ledger_with c (setted_all t) (called_by fits o t) ledger

entered-if : (fits : Beside) (c : Command) (t : HeldTable) (ledger : Ledger) (b : Bool) (cause : Refusal) (o : Order) → (b ≡ true → Entered fits c t ledger o) → Entered fits c t ledger (if_good b cause o)
entered-if fits c t ledger true cause o h = h refl
entered-if fits (command.SetUp choices) t ledger false cause o h = refl
entered-if fits (command.Off a) t ledger false cause o h = refl
entered-if fits (command.Restart a) t ledger false cause o h = refl
entered-if fits (command.Slot lost missed jobs) t ledger false cause o h = refl
entered-if fits (command.Look lost) t ledger false cause o h = refl

-- of each call, where the ledger lent with it fits or not
module _ (slots : List ℕ) (room : ℕ) (t : HeldTable) (ledger : Ledger) (counts : List Counts) where
  abbrev lent : Command → Beside
  lent c = fitting_beside c slots t ledger counts

  abbrev Told : Command → Type 0
  Told c = Entered (lent c) c t ledger (order_for c room (lent c) t)

  set-up-entered : (choices : Choices) → Told (command.SetUp choices)
  unfolding order_for
  set-up-entered choices =
      let c : Command = command.SetUp choices in
      let cable = cable_with choices slots in
      entered-if (lent c) c t ledger (may_set_up cable (length slots)) (cause (fault_of cable (length slots))) _ (λ _.
      entered-if (lent c) c t ledger (lent c).reports Unsound _ (λ _.
      entered-if (lent c) c t ledger (eqb (length t) choices.n) Unsound order.Start (λ _. refl)))

  off-entered : (a : ℕ) → Told (command.Off a)
  unfolding order_for
  off-entered a =
      let c : Command = command.Off a in
      let e = sent_on (lent c) (order.Off a) t in
      entered-if (lent c) c t ledger (fine_table (survey_of t) (length t)) Unsound _ (λ fine.
      let ok = sym (fine-table t) ∙ fine in
      entered-if (lent c) c t ledger (node_number (survey_of t).cable.n a) NodeNumber _ (λ _.
      entered-if (lent c) c t ledger (fitting t ledger) LedgerUnfit (order.Off a) (λ fits.
      entries e t ledger (survey_of t).slots ok fits ∙ ap (λ (date : ℕ). ledger_after date (setted_all t) (setted_all (carried_from e 0 t)) ledger) (said t ok).slots)))

  restart-entered : (a : ℕ) → Told (command.Restart a)
  unfolding order_for
  restart-entered a =
      let c : Command = command.Restart a in
      entered-if (lent c) c t ledger (fine_table (survey_of t) (length t)) Unsound _ (λ _.
      entered-if (lent c) c t ledger (node_number (survey_of t).cable.n a) NodeNumber _ (λ _.
      entered-if (lent c) c t ledger (has (survey_of t).out a) NotOut (order.Restart a) (λ _. refl)))

  slot-entered : (lost : Bool) (missed jobs : ℕ) → Told (command.Slot lost missed jobs)
  unfolding order_for
  slot-entered lost missed jobs =
      let c : Command = command.Slot lost missed jobs in
      let e = sent_on (lent c) (order.Slot (turn_of lost missed (survey_of t))) t in
      entered-if (lent c) c t ledger (fine_table (survey_of t) (length t)) Unsound _ (λ fine.
      let ok = sym (fine-table t) ∙ fine in
      entered-if (lent c) c t ledger (lent c).reports Unsound _ (λ _.
      entered-if (lent c) c t ledger (within (survey_of t).cable.n missed) NodeNumber _ (λ _.
      entered-if (lent c) c t ledger (fitting t ledger) LedgerUnfit _ (λ fits.
      entered-if (lent c) c t ledger (ltb (survey_of t).slots limit) SlotLimit _ (λ _.
      entered-if (lent c) c t ledger (jobs_within (survey_of t).cable.m jobs) SpareBit _ (λ _.
      entered-if (lent c) c t ledger (leb 64 room) OutputShort (order.Slot (turn_of lost missed (survey_of t))) (λ _.
      let s = said t ok in
      let date : one_more (survey_of t).slots ≡ slots_of (setted_all t) + 1 = one-more-is (survey_of t).slots (omega (arith, s.slots, s.bounded)) ∙ ap (λ (slots : ℕ). slots + 1) s.slots in
      entries e t ledger (one_more (survey_of t).slots) ok fits ∙ ap (λ (d : ℕ). ledger_after d (setted_all t) (setted_all (carried_from e 0 t)) ledger) date)))))))

  look-entered : (lost : Bool) → Told (command.Look lost)
  unfolding order_for
  look-entered lost =
      let c : Command = command.Look lost in
      entered-if (lent c) c t ledger (fine_table (survey_of t) (length t)) Unsound (order.Look (survey_of t).slots (survey_of t).sender (fate_by lost (survey_of t).speaker)) (λ _. refl)

  entered-told : (c : Command) → Told c
  entered-told (command.SetUp choices) = set-up-entered choices
  entered-told (command.Off a) = off-entered a
  entered-told (command.Restart a) = restart-entered a
  entered-told (command.Slot lost missed jobs) = slot-entered lost missed jobs
  entered-told (command.Look lost) = look-entered lost

-- ---- each call

-- what an errand leaves, enters, counts and has answered
abbrev kept-by : Errand → Command → HeldTable → Ledger → List Counts → KeptHeld
kept-by e c t ledger counts =
    let ended = done-by e t in
    record { table = ended.table; ledger = entered_by e.order (survey_of t).slots (notes_of e t) ledger; counts = reported_by e.order c (survey_of t) counts; reply = ended.reply }

is-kept : (c : Command) (slots : List ℕ) (t : HeldTable) (out : List ℕ) (ledger : Ledger) (counts : List Counts)
    → let fit = fitting_beside c slots t ledger counts in kept-by (sent_on fit (order_for c (length out) fit t) t) c t ledger counts ≡ kept_held c slots (length out) ledger counts t
unfolding kept_held kept_of
is-kept c slots t out ledger counts =
    let u = setted_all t in
    let fit = fitting_beside c slots t ledger counts in
    let o = order_for c (length out) fit t in
    let e = sent_on fit o t in
    let made : called_fit c (length out) fit u ≡ called_with c slots (length out) ledger counts u = fit-called c slots (length out) t ledger counts in
    let called : called_by fit o t ≡ called_with c slots (length out) ledger counts u = called-by c (length out) fit t ∙ made in
    let ended : done-by e t ≡ ended-by c t (called_with c slots (length out) ledger counts u) = is-ended c fit t out ∙ ap (ended-by c t) made in
    ap₂ (λ (e : HeldEnd) (l : Ledger). record { table = e.table; ledger = l; counts = reported_by o c (survey_of t) counts; reply = e.reply }) ended
    (entered-told slots (length out) t ledger counts c ∙ ap (λ (x : Called). ledger_with c u x ledger) called)
    ∙ ap (λ (l : List Counts). let x = called_with c slots (length out) ledger counts u in record { table = held_by t x; ledger = ledger_with c u x ledger; counts = l; reply = (ended_by c u x).reply })
    (reported-told slots (length out) (fitting t ledger) t counts c ∙ ap (λ (x : Called). reports_with c u x counts) called)

-- a call, from what its parts give
pub call-run : (c : Command) (slots : List ℕ) (t : HeldTable) (ledger : Ledger) (counts : List Counts) (out : List ℕ)
    (k : Cable) (s : Survey) (fit : Bool) (b : Beside) (o : Order) (e : Errand) (zs : HeldTable) (w : Work) (ls : Ledger) (cs : List Counts) (r : Reply) (ws : List ℕ)
    → k ≡ cable_with (choices_in c) slots → s ≡ survey_of (take (length t) t) → fit ≡ ledger_fits s.cable.n s.slots ledger → b ≡ beside_with c s fit counts k (length slots) → o ≡ order_of c s (length t) (length out) b → e ≡ errand_of o s b
    → (zs ≡ carried_from e 0 t) × (w ≡ work_of e t)
    → ls ≡ entered_by o s.slots w.notes ledger → cs ≡ reported_by o c s counts → (r ≡ reply_by o w.notes w.members) × (ws ≡ written_by o w.notes out)
    → (record { table = zs; ledger = ls; counts = cs; reply = r } ≡ kept_held c slots (length out) ledger counts t) × (ws ≡ bytes_with c slots ledger counts (setted_all t) out)
unfolding order_for
call-run c slots t ledger counts out k s fit b o e zs w ls cs r ws is-k is-s is-fit is_b is-o is-e (is-zs, is-w) is-ls is-cs (is-r, is-ws) =
    let survey : s ≡ survey_of t = is-s ∙ ap survey_of (take-length t) in
    let whole = fitting_beside c slots t ledger counts in
    let beside-is : b ≡ whole =
    is_b ∙ ap₂ (λ (f : Bool) (x : Cable). beside_with c s f counts x (length slots)) is-fit is-k ∙ ap (λ (u : Survey). beside_by c slots u (ledger_fits u.cable.n u.slots ledger) counts) survey in
    let order_is : o ≡ order_for c (length out) whole t = is-o ∙ ap₂ (λ (u : Survey) (x : Beside). order_of c u (length t) (length out) x) survey beside-is in
    let errand-is : e ≡ sent_on whole (order_for c (length out) whole t) t = is-e ∙ ap₂ (λ (x : Order) (u : Survey). errand_of x u b) order_is survey ∙ ap (errand_of (order_for c (length out) whole t) (survey_of t)) beside-is in
    let order-of : o ≡ e.order = order_is ∙ sym (ap (λ (x : Errand). x.order) errand-is) in (
      ap₂ (λ (l : Ledger) (a : Reply). record { table = zs; ledger = l; counts = cs; reply = a }) is-ls is-r
          ∙ ap (λ (l : List Counts). record { table = zs; ledger = entered_by o s.slots w.notes ledger; counts = l; reply = reply_by o w.notes w.members }) is-cs
          ∙ ap₂ (λ (u : HeldTable) (x : Work). record { table = u; ledger = entered_by o s.slots x.notes ledger; counts = reported_by o c s counts; reply = reply_by o x.notes x.members }) is-zs is-w
          ∙ ap₂ (λ (u : Survey) (x : Order). record { table = carried_from e 0 t; ledger = entered_by x u.slots (notes_of e t) ledger; counts = reported_by x c u counts; reply = reply_by x (notes_of e t) (work_of e t).members }) survey order-of
          ∙ ap (λ (x : Errand). kept-by x c t ledger counts) errand-is ∙ is-kept c slots t out ledger counts,
      is-ws ∙ ap₂ (λ (x : Work) (y : Order). written_by y x.notes out) is-w order-of ∙ ap (λ (x : Errand). written_by x.order (notes_of x t) out) errand-is
          ∙ bytes-told c whole t out ∙ ap (λ (called : Called). bytes_by c (setted_all t) called out) (fit-called c slots (length out) t ledger counts),
    )
