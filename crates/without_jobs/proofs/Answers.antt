-- A call that no new check refuses leaves and answers, but for m and the counts, what it does where there are no jobs (specs/Without). Assumes nothing.
use Rattle.std.specs.Prelude.{Err, Ok, Some}
use Prim.Native.Nat.{ℕ, suc, ◌+◌, max}
use mathlib.Core.Path.{◌≡◌, refl, sym, ap, ap₂, ◌∙◌}
use mathlib.Core.Bool.{Bool, true, cond}
use mathlib.Core.List.{List, [], ◌∷◌, ◌++◌}
use lib.Dec.{eqb, ltb}
use lib.ListN.{length, drop, length-map, length-replicate}
use borrow.Author.Tests.{eq-eqb, eqb-true}
use Rattle.ledger.specs.nodeset.Sets.{within}
use Rattle.ledger.proofs.nodeset.Tests.{both, all}
use Rattle.ledger.specs.cable.declared.Choices.{Choices}
use Rattle.ledger.specs.cable.Cable.{cable_with, job_count, fault_of}
use Rattle.ledger.specs.node_reports.Reports.{Counts, no_reports, no_reports_at}
use Rattle.ledger.proofs.node_reports.Laws.{none-within-all}
use Rattle.ledger.specs.message.Message.{jobs_within}
use Rattle.ledger.specs.node_record.declared.Node.{Node}
use Rattle.ledger.specs.node_record.declared.State.{State}
use Rattle.ledger.specs.node_record.States.{is_member}
use Rattle.ledger.specs.node_record.Soundness.{limit}
use Rattle.ledger.specs.node_changes.Changes.{starting}
use Rattle.ledger.specs.node.Answers.{Answer}
use Rattle.ledger.specs.bench.declared.Command.{Command}
use Rattle.ledger.specs.bench.declared.Command.TheVariants as command
use Rattle.ledger.specs.bench.declared.Fate.TheVariants as fate
use Rattle.ledger.specs.bench.Answers.{Listed}
use Rattle.ledger.specs.bench.Table.{Table, record_of, node_count, slots_of}
use Rattle.ledger.specs.bench.Calls.{Called, done, if_passed, start_table, set_up_of, set_up_given, slot_of, off_of, look_of, list_in, farthest, greatest, fate_of}
use Rattle.ledger.specs.bench.Reports.{reports_fit, jobs_on}
use Rattle.ledger.specs.bench.Outcomes.{slot_given, slot_outcome}
use Rattle.ledger.specs.bench.Pairs.{Pair, kind_from, pair_bytes, group_from, pairs_in, pairs_told, slot_bytes}
use Rattle.ledger.specs.bench.Ledger.{Ledger, Figures, ledger_fits, figures_after, entries_from}
use Rattle.ledger.specs.bench.Kept.{set_up_with, slot_with, off_with, called_with, if_done, kept_of, bytes_with}
use Rattle.ledger.specs.bench.Runs.{slot, off, restart, call_of}
use Rattle.without_jobs.specs.Without.{choices_without, forget, forget_all, jobs_kept, passes_new, command_without, SameKept, SameCall}
use Rattle.without_jobs.proofs.Records.{fits-same, may-same, fault-same}
use Rattle.without_jobs.proofs.Tables.{record_same, slots_same, speaker-same, sender-same, transmits-same, each_same, forget_called, called-alike, both-sound, sound-kept, node-number-same, call_same}

-- ---- what is told of a table

state-same : (t : Table) (i : ℕ) → (record_of (forget_all t) i).state ≡ (record_of t i).state
unfolding forget
state-same t i = ap (λ (v : Node). v.state) (record_same t i)

fate-same : (lost : Bool) (t : Table) → fate_of lost (forget_all t) ≡ fate_of lost t
unfolding forget fate_of
fate-same lost t =
    ap₂ (λ (b : Bool) (v : Node). cond b (cond lost fate.Lost (cond (is_member v.state) fate.Sent fate.Knock)) fate.Silent) (transmits-same t) (sender-same t)

list_same : (t : Table) → list_in (forget_all t) ≡ list_in t
unfolding forget list_in
list_same [] = refl
list_same (v ∷ t) = ap (λ (l : Listed). cond (is_member v.state) (Some v.set) l) (list_same t)

farthest-same : (n set : ℕ) (t : Table) → farthest n set (forget_all t) ≡ farthest n set t
unfolding forget farthest
farthest-same n set [] = refl
farthest-same n set (v ∷ t) = ap (max _) (farthest-same n set t)

greatest-same : (n : ℕ) (t : Table) → greatest n (forget_all t) ≡ greatest n t
unfolding forget greatest
greatest-same n [] = refl
greatest-same n (v ∷ t) = ap₂ (λ (a b : ℕ). max (cond (is_member v.state) a 0) b) (farthest-same n v.set t) (greatest-same n t)

outcome-same : (lost : Bool) (t u : Table) (a : Answer) → slot_outcome lost (forget_all t) (forget_all u) a ≡ slot_outcome lost t u a
outcome-same lost t u (Ok _) = rw (slots_same u, speaker-same t, fate-same lost t, list_same u, length-map u forget, greatest-same (length u) u)
outcome-same lost t u (Err cause) = refl

-- ---- the pairs

group-same : (group : State → State → Bool) (i : ℕ) (t u : Table) → group_from group i (forget_all t) (forget_all u) ≡ group_from group i t u
unfolding forget group_from
group-same group i [] u = refl
group-same group i (v ∷ t) [] = refl
group-same group i (v ∷ t) (w ∷ u) = ap (λ (rest : List Pair). cond (group v.state w.state) ((i, kind_from v.state w.state) ∷ rest) rest) (group-same group (suc i) t u)

pairs-same : (t u : Table) → pairs_in (forget_all t) (forget_all u) ≡ pairs_in t u
unfolding pairs_in
pairs-same t u = ap₂ (λ (a b : List Pair). a ++ b) (group-same _ 1 t u) (group-same _ 1 t u)

told_same : (t u : Table) (a : Answer) → pairs_told (forget_all t) (record { table = forget_all u; answer = a }) ≡ pairs_told t (record { table = u; answer = a })
told_same t u (Ok _) = ap length (pairs-same t u)
told_same t u (Err cause) = refl

-- the lent bytes
bytes_same : (t u : Table) (out : List ℕ) (a : Answer) → slot_bytes (forget_all t) (record { table = forget_all u; answer = a }) out ≡ slot_bytes t (record { table = u; answer = a }) out
bytes_same t u out (Ok _) = ap (λ (pairs : List Pair). pair_bytes pairs ++ drop (length (pair_bytes pairs)) out) (pairs-same t u)
bytes_same t u out (Err cause) = refl

-- ---- the ledger

entries-same : (date : ℕ) (t u : Table) (i : ℕ) (ledger : Ledger) → entries_from date (forget_all t) (forget_all u) i ledger ≡ entries_from date t u i ledger
unfolding entries_from
entries-same date t u i [] = refl
entries-same date t u i (f ∷ ledger) =
    ap₂ (λ (x : Figures) (rest : Ledger). x ∷ rest) (ap₂ (λ (a b : State). figures_after date a b f) (state-same t i) (state-same u i)) (entries-same date t u (suc i) ledger)

-- of a call, dated by the slots done
entered-same : (a : Answer) (date : ℕ → ℕ) (t u : Table) (ledger : Ledger)
    → if_done a (entries_from (date (slots_of (forget_all t))) (forget_all t) (forget_all u) 1 ledger) ledger ≡ if_done a (entries_from (date (slots_of t)) t u 1 ledger) ledger
entered-same a date t u ledger =
    ap (λ (after : Ledger). if_done a after ledger) (ap (λ (s : ℕ). entries_from (date s) (forget_all t) (forget_all u) 1 ledger) (slots_same t) ∙ entries-same (date (slots_of t)) t u 1 ledger)

-- ---- set-up

module _ (choices : Choices) (few : job_count choices.m ≡ true) (slots : List ℕ) (t : Table) where
  -- where the same test comes first, and refuses by the same fault
  fault-alike : {b' b : Bool} {c' : Called} (places : ℕ) (c : Called) → b' ≡ b → c' ≡ forget_called c
      → if_passed b' (fault_of (cable_with (choices_without choices) slots) places) (forget_all t) c' ≡ forget_called (if_passed b (fault_of (cable_with choices slots) places) t c)
  fault-alike {b' = b'} {c' = c'} places c e p =
      ap (λ (number : ℕ). if_passed b' number (forget_all t) c') (fault-same (cable_with choices slots) few places) ∙ called-alike (fault_of (cable_with choices slots) places) t c e p

  start-same : start_table (cable_with (choices_without choices) slots) (forget_all t) ≡ forget_all (start_table (cable_with choices slots) t)
  unfolding forget
  start-same = each_same (λ i v. starting (cable_with choices slots) i) (λ i v. starting (cable_with (choices_without choices) slots) i) t (λ i h l. refl)

  set-up-same : (counts : List Counts) → set_up_with (choices_without choices) slots (no_reports_at (length counts)) (forget_all t) ≡ forget_called (set_up_with choices slots counts t)
  unfolding set_up_with set_up_given set_up_of
  set-up-same counts =
      let cable = cable_with choices slots in
      let may = may-same cable few (length slots) in
      fault-alike (length slots) _ may
      (called-alike 4 t _ (ap (λ (n : ℕ). eqb n choices.n) (length-replicate {A = Counts} (length counts) no_reports))
      (fault-alike (length slots) _ may
      (fault-alike choices.n _ (fits-same cable few)
      (called-alike 4 t (done (start_table cable t)) (ap (λ (n : ℕ). eqb n choices.n) (length-map t forget)) (ap done start-same)))))

-- ---- the calls

none-fit : (t : Table) (counts : List Counts) → reports_fit t counts ≡ true → reports_fit (forget_all t) (no_reports_at (length counts)) ≡ true
unfolding reports_fit
none-fit t counts e =
    let one_each = eqb-true (length counts) (length t) (both (eqb (length counts) (length t)) _ e).0 in
    all (eq-eqb _ _ (length-replicate {A = Counts} (length counts) no_reports ∙ one_each ∙ sym (length-map t forget))) (none-within-all (slots_of (forget_all t)) (length counts))

none-given : (t : Table) → jobs_within (jobs_on (forget_all t)) 0 ≡ true
unfolding jobs_on forget
none-given t = ap (λ (v : Node). jobs_within v.cable.m 0) (record_same t 1)

ledger-test : (ledger : Ledger) (t : Table) → ledger_fits (node_count (forget_all t)) (slots_of (forget_all t)) ledger ≡ ledger_fits (node_count t) (slots_of t) ledger
ledger-test ledger t = ap₂ (λ (n s : ℕ). ledger_fits n s ledger) (length-map t forget) (slots_same t)

called_same : (c : Command) (slots : List ℕ) (room : ℕ) (ledger : Ledger) (counts : List Counts) (t : Table) → passes_new c counts t ≡ true
    → called_with (command_without c) slots room ledger (no_reports_at (length counts)) (forget_all t) ≡ forget_called (called_with c slots room ledger counts t)
unfolding slot_with slot_given off_with call_of look_of
called_same (command.SetUp choices) slots room ledger counts t e = set-up-same choices (both (job_count choices.m) _ e).0 slots t counts
called_same (command.Off a) slots room ledger counts t K =
    called-alike 4 t _ (both-sound t K)
    (called-alike 3 t _ (node-number-same t a)
    (called-alike 13 t (off_of a t) (ledger-test ledger t) (call_same t K (off a))))
called_same (command.Restart a) slots room ledger counts t K = call_same t K (restart a)
called_same (command.Slot lost missed jobs) slots room ledger counts t e =
    let kept = both (jobs_kept (jobs_on t) t) _ e in
    let new = both (reports_fit t counts) _ kept.1 in
    let sounds = both-sound t kept.0 in
    let numbers = ap (λ (n : ℕ). within n missed) (length-map t forget) in
    called-alike 4 t _ sounds
    (called-alike 4 t _ (none-fit t counts new.0 ∙ sym new.0)
    (called-alike 3 t _ numbers
    (called-alike 13 t _ (ledger-test ledger t)
    (called-alike 4 t _ sounds
    (called-alike 3 t _ numbers
    (called-alike 5 t _ (ap (λ (n : ℕ). ltb n limit) (slots_same t))
    (called-alike 8 t (slot_of lost missed room t) (none-given t ∙ sym new.1) (call_same t kept.0 (slot lost missed room)))))))))
called_same (command.Look lost) slots room ledger counts t K = called-alike 4 t (done t) (both-sound t K) refl

-- what is kept of such calls
module _ (slots : List ℕ) (ledger : Ledger) (counts : List Counts) (t : Table) (out : List ℕ) where
  kept-by : (c : Command) → called_with (command_without c) slots (length out) ledger (no_reports_at (length counts)) (forget_all t) ≡ forget_called (called_with c slots (length out) ledger counts t)
      → SameKept (kept_of c slots (length out) ledger counts t) (kept_of (command_without c) slots (length out) ledger (no_reports_at (length counts)) (forget_all t))
      (bytes_with c slots ledger counts t out) (bytes_with (command_without c) slots ledger (no_reports_at (length counts)) (forget_all t) out)
  unfolding kept_of
  kept-by (command.SetUp choices) e = rw e (record { table = refl; ledger = refl; reply = refl; bytes = refl })
  kept-by (command.Off a) e =
      let made = called_with (command.Off a) slots (length out) ledger counts t in
      rw e (record { table = refl; ledger = sym (entered-same made.answer (λ s. s) t made.table ledger); reply = refl; bytes = refl })
  kept-by (command.Restart a) e = rw e (record { table = refl; ledger = refl; reply = refl; bytes = refl })
  kept-by (command.Slot lost missed jobs) e =
      let made = called_with (command.Slot lost missed jobs) slots (length out) ledger counts t in
      rw e (record {
        table = refl;
        ledger = sym (entered-same made.answer (λ s. s + 1) t made.table ledger);
        reply = sym (rw (outcome-same lost t made.table made.answer, told_same t made.table made.answer));
        bytes = sym (bytes_same t made.table out made.answer);
      })
  kept-by (command.Look lost) e =
      let made = called_with (command.Look lost) slots (length out) ledger counts t in
      rw e (record { table = refl; ledger = refl; reply = sym (rw (outcome-same lost t made.table made.answer)); bytes = refl })

pub same-call : SameCall
same-call = record {
  calls = λ c slots ledger counts t out e. kept-by slots ledger counts t out c (called_same c slots (length out) ledger counts t e);
  keeps = sound-kept;
}
