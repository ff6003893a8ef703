-- A line on a table that is taken as it is: on a sound table a glimpse gives the order that a look over the whole table gives, and an order that is carried out is the bench's call. So the line does what specs/Run
-- says. Assumes nothing.
use Rattle.std.specs.Prelude.{Err, Ok}
use Prim.Native.Nat.{ℕ, ◌+◌, ◌-◌, ◌≤◌}
use mathlib.Core.Path.{◌≡◌, refl, sym, ap, ap₂, subst, ◌∙◌}
use mathlib.Core.Bool.{Bool, true, false}
use mathlib.Core.List.{List, [], ◌++◌}
use native.Mathlib.Omega.{arith}
use lib.Dec.{eqb}
use lib.ListN.{length, take, drop, get_or, replicate, length-replicate, take-append-drop}
use borrow.Author.Tests.{eq-eqb}
use Rattle.refusal.specs.declared.Refusal.{Refusal}
use Rattle.refusal.specs.declared.Refusal.TheVariants.{NodeNumber, NotOut, Unsound}
use Rattle.refusal.specs.Causes.{cause}
use Rattle.node_record.specs.nodeset.Sets.{has}
use Rattle.node_record.proofs.nodeset.Bits.{has-none}
use Rattle.node_record.proofs.nodeset.Tests.{by_cases}
use Rattle.cable.specs.slot_table.Order.{kept, numbers_from, plain}
use Rattle.cable.proofs.slot_table.Numbers.{count_of, numbers-kept}
use Rattle.cable.specs.Cable.{may_set_up, cable_of, cable_with, node_number, ring_size, fault_of}
use Rattle.node.specs.ring.Ring.{sender}
use Rattle.cable.proofs.Ranges.{node-number, ring-size}
use Rattle.node_record.proofs.ring_laws.Senders.{turns-of, sender-range}
use Rattle.cable.specs.declared.Cable.{Cable}
use Rattle.cable.specs.declared.Choices.{Choices}
use Rattle.bench.specs.Reports.{jobs_on}
use Rattle.node_record.specs.declared.Held.{Held}
use Rattle.node_record.specs.Held.{rowed}
use Rattle.node_record.specs.States.{is_out}
use Rattle.node_record.proofs.Facts.{clauses}
use Rattle.bench.specs.Table.{Table, record_of, slots_of, speaker, table_sound}
use Rattle.bench.specs.Outcomes.{called_of}
use Rattle.bench.specs.Held.{HeldTable, setted_all}
use Rattle.bench.proofs.Standing.{length-setted}
use Rattle.bench.specs.declared.Command.{Command}
use Rattle.bench.specs.declared.Command.TheVariants as command
use Rattle.bench.proofs.Places.{sound-placed}
use Rattle.bench_orders.specs.declared.Beside.{Beside}
use Rattle.bench_orders.specs.declared.Errand.{Errand}
use Rattle.bench_orders.specs.declared.Order.{Order}
use Rattle.bench_orders.specs.declared.Order.TheVariants as order
use Rattle.bench_orders.specs.declared.Survey.{Survey}
use Rattle.bench_orders.specs.Survey.{no_held, fine_table, glimpse_of, record_in, sender_after, survey_of}
use Rattle.bench_orders.specs.Orders.{carried_by, carried_from, errand_of, if_good, order_of, order_for, all_fit}
use Rattle.bench_orders.proofs.Numbers.{index_in}
use Rattle.bench_calls.proofs.Surveys.{held_at, fine-table, said, sender-after, noted-own}
use Rattle.bench_work.specs.Work.{choices_in}
use Rattle.bench_calls.proofs.Works.{called_fit, called-fitting, sent_on, refused-table}
use Rattle.bench_calls.proofs.Outcomes.{HeldEnd, done-by, ended-by, is-ended}
use Rattle.bench_by_value.specs.ByValue.{Rows, call_of, ended}
use Rattle.plan_run.specs.Run.{Act}
use Rattle.plan_run.specs.Run.{slots_for, ran_by}
use Rattle.plan_run.specs.Inner.{asked_by, beside_by, beside_of, errand_on, outcome_on}

-- ---- a glimpse of a sound table

module _ (t : HeldTable) (sound : table_sound (setted_all t) ≡ true) where
  abbrev u : Table
  u = setted_all t

  in-ring : (3 ≤ length u) × (length u ≤ 32)
  in-ring = ring-size (length u) (said t sound).ring

  there : (x : ℕ) → 1 ≤ x → x ≤ length u → record_in t x ≡ rowed (record_of u x)
  unfolding record_of
  there x low high =
      let high' : x ≤ length t = omega (arith, high, length-setted t) in
      ap (λ (i : ℕ). get_or t i no_held) (index_in x (length t) low high') ∙ held_at (record_of u 1).cable (slots_of u) 1 (x - 1) t (said t sound).rows (omega (arith, low, high'))

  first-is : record_in t 1 ≡ rowed (record_of u 1)
  first-is = there 1 (omega arith) (omega (arith, in-ring))

  n-is : (record_in t 1).cable.n ≡ length u
  n-is = ap (λ (v : Held). v.cable.n) first-is ∙ (said t sound).count

  slots-is : (record_in t 1).slots ≡ slots_of u
  unfolding slots_of
  slots-is = ap (λ (v : Held). v.slots) first-is

  sender-is : sender_after (record_in t 1) ≡ speaker u
  unfolding speaker
  sender-is = sender-after (record_in t 1) (ap ring_size n-is ∙ (said t sound).ring) ∙ ap₂ (λ (cable : Cable) (s : ℕ). sender cable (s + 1)) (ap (λ (v : Held). v.cable) first-is) slots-is

  speaker-in : (1 ≤ speaker u) × (speaker u ≤ length u)
  unfolding speaker
  speaker-in =
      let p = sound-placed u sound in
      let first = p.at 1 (omega arith) (omega (arith, (said t sound).count, in-ring, p.length-is)) in
      let r = sender-range (record_of u 1).cable (turns-of (record_of u 1).cable (clauses (record_of u 1) first.is-sound).choices) (slots_of u + 1) in
      (r.0, omega (arith, r.1, (said t sound).count))

  module _ (a : ℕ) where
    fine-same : fine_table (glimpse_of t a) (length t) ≡ fine_table (survey_of t) (length t)
    unfolding glimpse_of
    fine-same = eq-eqb (record_in t 1).cable.n (length t) (n-is ∙ length-setted t) ∙ sym (fine-table t ∙ sound)

    n-same : (glimpse_of t a).cable.n ≡ (survey_of t).cable.n
    unfolding glimpse_of
    n-same = n-is ∙ sym (said t sound).n

    jobs-same : (glimpse_of t a).cable.m ≡ (survey_of t).cable.m
    unfolding glimpse_of jobs_on
    jobs-same = ap (λ (v : Held). v.cable.m) (there 1 (omega arith) (omega (arith, in-ring))) ∙ sym (said t sound).jobs

    slots_same : (glimpse_of t a).slots ≡ (survey_of t).slots
    unfolding glimpse_of
    slots_same = slots-is ∙ sym (said t sound).slots

    sender-same : (glimpse_of t a).sender ≡ (survey_of t).sender
    unfolding glimpse_of
    sender-same = sender-is ∙ sym (said t sound).sender

    speaker-same : (glimpse_of t a).speaker ≡ (survey_of t).speaker
    unfolding glimpse_of
    speaker-same = ap (record_in t) sender-is ∙ there (speaker u) speaker-in.0 speaker-in.1 ∙ sym (said t sound).spoken

    out-same : node_number (survey_of t).cable.n a ≡ true → has (glimpse_of t a).out a ≡ has (survey_of t).out a
    unfolding glimpse_of
    out-same e =
        let named : node_number (length u) a ≡ true = subst (λ (m : ℕ). node_number m a ≡ true) (said t sound).n e in
        let m = node-number (length u) a named in
        let placed = sound-placed u sound in
        let is = there a m.0 m.1 in
        let own : (record_in t a).own ≡ a = ap (λ (v : Held). v.own) is ∙ (placed.at a m.0 (omega (arith, m.1, placed.length-is))).own_is in
        noted-own (is_out (record_in t a).state) 0 a (record_in t a).own own m.0 (omega (arith, m.1, in-ring)) (has-none a)
        ∙ ap (λ (v : Held). is_out v.state) is
        ∙ sym ((said t sound).out a named)

  same-order : (c : Command) → order_of c (glimpse_of t (asked_by c)) (length t) 64 (beside_by c) ≡ order_of c (survey_of t) (length t) 64 (beside_by c)
  same-order (command.SetUp choices) = refl
  same-order (command.Off a) = rw (fine-same 0, n-same 0) refl
  same-order (command.Restart a) =
      let by : Bool → Order = λ b. if_good (fine_table (survey_of t) (length t)) Unsound (if_good (node_number (survey_of t).cable.n a) NodeNumber (if_good b NotOut (order.Restart a))) in
      rw (fine-same a, n-same a) (by_cases (node_number (survey_of t).cable.n a) (λ e. ap by (out-same a e)) (λ e. simp e))
  same-order (command.Slot lost missed jobs) = rw (fine-same 0, n-same 0, jobs-same 0, slots_same 0, sender-same 0, speaker-same 0) refl
  same-order (command.Look lost) = rw (fine-same 0, slots_same 0, sender-same 0, speaker-same 0) refl

  same-errand : (c : Command) → errand_of (order_of c (glimpse_of t (asked_by c)) (length t) 64 (beside_by c)) (glimpse_of t (asked_by c)) (beside_by c) ≡ errand_of (order_of c (survey_of t) (length t) 64 (beside_by c)) (survey_of t) (beside_by c)
  same-errand c = ap₂ (λ (o : Order) (v : Held). record { order = o; cable = (beside_by c).cable; row = v.row }) (same-order c) (speaker-same (asked_by c))

-- ---- an errand that is carried out

-- what is lent beside the table: no table but for set-up, the plain one for that
no_table : all_fit (cable_of 0 0) 0 ≡ all_fit (cable_with (record { n = 0; k = 0; m = 0; lag = 0 }) []) 0
unfolding kept plain numbers_from
no_table = refl

lent_is : (c : Command) → beside_by c ≡ all_fit (cable_with (choices_in c) (slots_for c)) (length (slots_for c))
unfolding numbers_from
lent_is (command.SetUp choices) =
    ap₂ (λ (order : List ℕ) (places : ℕ). all_fit (record { n = choices.n; k = choices.k; m = choices.m; lag = choices.lag; order = order }) places)
    (sym (numbers-kept choices.n)) (sym (count_of choices.n 1))
lent_is (command.Off a) = no_table
lent_is (command.Restart a) = no_table
lent_is (command.Slot lost missed jobs) = no_table
lent_is (command.Look lost) = no_table

carried-call : (c : Command) (t : HeldTable) → let b = beside_by c in done-by (errand_of (order_of c (survey_of t) (length t) 64 b) (survey_of t) b) t ≡ ended-by c t (called_of c (slots_for c) 64 (setted_all t))
unfolding order_for
carried-call c t =
    let u = setted_all t in
    let out : List ℕ = replicate 64 0 in
    let room : length out ≡ 64 = length-replicate {A = ℕ} 64 0 in
    ap (λ (l : ℕ). done-by (sent_on (beside_by c) (order_for c l (beside_by c) t) t) t) (sym room)
    ∙ is-ended c (beside_by c) t out
    ∙ ap (λ (l : ℕ). ended-by c t (called_fit c l (beside_by c) u)) room
    ∙ ap (λ (b : Beside). ended-by c t (called_fit c 64 b u)) (lent_is c)
    ∙ ap (ended-by c t) (called-fitting c (slots_for c) 64 u)

-- set-up looks at no row
abbrev Rowless : Beside → Order → Type 0
Rowless b o = (s s' : Survey) (t : HeldTable) → done-by (errand_of o s b) t ≡ done-by (errand_of o s' b) t

rowless-if : (b : Beside) (good : Bool) (cause : Refusal) (o : Order) → Rowless b o → Rowless b (if_good good cause o)
unfolding carried_by
rowless-if b true cause o h = h
rowless-if b false cause o h = λ s s' t. refl

start-rowless : (choices : Choices) (s : Survey) (size : ℕ) → let c = command.SetUp choices in Rowless (beside_by c) (order_of c s size 64 (beside_by c))
unfolding carried_by
start-rowless choices s size =
    let b = beside_by (command.SetUp choices) in
    let sized = if_good (eqb size b.cable.n) Unsound order.Start in
    rowless-if b (may_set_up b.cable b.places) (cause (fault_of b.cable b.places)) (if_good b.reports Unsound sized)
    (rowless-if b b.reports Unsound sized (rowless-if b (eqb size b.cable.n) Unsound order.Start (λ s s' t. refl)))

-- ---- a line

-- What a line leaves of the table, before the other rows, and what there is to print are those of specs/Run.
abbrev pub Does : ℕ → Rows → Act → Type 0
Does n rows a = (carried_from (errand_on a (take n rows)) 0 (take n rows) ++ drop n rows ≡ (ran_by n rows a).rows) × (outcome_on a (take n rows) ≡ (ran_by n rows a).outcome)

module _ (n : ℕ) (rows : Rows) where
  abbrev t : HeldTable
  t = take n rows

  called : (c : Command) → done-by (errand_on (Ok c) t) t ≡ done-by (errand_of (order_of c (survey_of t) (length t) 64 (beside_by c)) (survey_of t) (beside_by c)) t → Does n rows (Ok c)
  unfolding call_of
  called c is =
      let e = is ∙ carried-call c t in
      (ap (λ (x : HeldEnd). (ended n rows x.table x.reply).rows) e, ap (λ (x : HeldEnd). (ended n rows x.table x.reply).outcome) e)

  pub refused : (cause : Refusal) → Does n rows (Err cause)
  unfolding errand_on
  refused cause = (ap (λ (l : Rows). l ++ drop n rows) (refused-table cause (glimpse_of t 0) (beside_of (Err cause)) t) ∙ take-append-drop n rows, refl)

  pub opened : (choices : Choices) → Does n rows (Ok (command.SetUp choices))
  unfolding errand_on
  opened choices = called (command.SetUp choices) (start-rowless choices (survey_of t) (length t) (glimpse_of t 0) (survey_of t) t)

  pub later : table_sound (setted_all t) ≡ true → (a : Act) → Does n rows a
  unfolding errand_on
  later sound (Ok c) = called c (ap (λ (x : Errand). done-by x t) (same-errand t sound c))
  later sound (Err cause) = refused cause
