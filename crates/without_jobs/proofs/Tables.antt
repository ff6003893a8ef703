-- No call of the bench looks at the number of jobs: on a table whose kept m is in range and the same throughout, with m forgotten, a call answers and leaves what it does on the table, with m forgotten. Assumes nothing.
use Prim.Native.Nat.{ℕ, zero, suc, ◌+◌, ◌-◌, ◌≤◌, ◌<◌}
use mathlib.Core.Path.{◌≡◌, refl, sym, ap, ap₂, ◌∙◌}
use mathlib.Core.Bool.{Bool, true, false, cond, ◌&&◌, ◌||◌, true≢false}
use mathlib.Core.List.{[], ◌∷◌}
use native.Mathlib.Omega.{arith}
use native.Mathlib.Nat.{add-zero}
use lib.Dec.{eqb, leb, ltb}
use lib.ListN.{length, get_or, length-map, get_or-map}
use borrow.Author.Tests.{eq-eqb}
use Rattle.ledger.specs.nodeset.Sets.{has, within}
use Rattle.ledger.proofs.nodeset.Tests.{both, all}
use Rattle.ledger.specs.slot_table.Order.{same_order}
use Rattle.ledger.specs.cable.declared.Cable.{Cable}
use Rattle.ledger.specs.cable.Cable.{node_number, job_count}
use Rattle.ledger.specs.ring.Ring.{sender}
use Rattle.ledger.specs.message.Answers.{Reading}
use Rattle.ledger.specs.node_record.declared.Node.{Node}
use Rattle.ledger.specs.node_record.States.{is_out}
use Rattle.ledger.specs.node_record.Soundness.{limit}
use Rattle.ledger.proofs.node_record.Facts.{clauses}
use Rattle.ledger.specs.node_sending.Sending.{sends, bits_sent, return_sent}
use Rattle.ledger.specs.node.Calls as node
use Rattle.ledger.specs.node.Calls.{Stepped, no_node}
use Rattle.ledger.specs.bench.Table.{Table, record_of, each_from, each, in_place, placed_from, table_sound, slots_of, speaker}
use Rattle.ledger.specs.bench.Calls.{Called, done, if_passed, transmits, unheard, spoken, heard_by, table_after_slot, slot_of, table_after_off, off_of, table_after_restart, restart_of}
use Rattle.ledger.specs.bench.Reports.{jobs_on}
use Rattle.ledger.specs.bench.Runs.{Call, slot, off, restart, call_of}
use Rattle.ledger.proofs.bench.Places.{in-place}
use Rattle.without_jobs.specs.Without.{without_jobs, forget, forget_all, jobs_kept, forget_stepped}
use Rattle.without_jobs.proofs.Records.{alike, record-sound, step_same, off-same, restart-same, bits-sent}
use Rattle.ledger.specs.message.Answers.{heard_with}

-- ---- what a table says of the next slot

pub record_same : (t : Table) (i : ℕ) → record_of (forget_all t) i ≡ forget (record_of t i)
unfolding forget record_of
record_same t i = get_or-map forget t (i - 1) no_node

pub slots_same : (t : Table) → slots_of (forget_all t) ≡ slots_of t
unfolding forget slots_of
slots_same t = ap (λ (v : Node). v.slots) (record_same t 1)

pub speaker-same : (t : Table) → speaker (forget_all t) ≡ speaker t
unfolding speaker forget sender
speaker-same t = ap₂ (λ (v : Node) (slots : ℕ). sender v.cable (slots + 1)) (record_same t 1) (slots_same t)

-- the sender's record
pub sender-same : (t : Table) → record_of (forget_all t) (speaker (forget_all t)) ≡ forget (record_of t (speaker t))
sender-same t = ap (record_of (forget_all t)) (speaker-same t) ∙ record_same t (speaker t)

pub transmits-same : (t : Table) → transmits (forget_all t) ≡ transmits t
unfolding forget transmits
transmits-same t = ap sends (sender-same t)

spoken-same : (t : Table) → spoken (forget_all t) ≡ spoken t
unfolding forget spoken
spoken-same t =
    let v = record_of t (speaker t) in
    ap₂ (λ (b : Bool) (heard : Reading). cond b heard unheard) (transmits-same t)
    (ap (λ (w : Node). heard_with (bits_sent w) (return_sent w)) (sender-same t) ∙ ap (λ (bits : ℕ). heard_with bits (return_sent v)) (bits-sent v))

heard-same : (lost : Bool) (missed : ℕ) (t : Table) (i : ℕ) → heard_by lost missed (forget_all t) i ≡ heard_by lost missed t i
unfolding heard_by
heard-same lost missed t i = ap (λ (heard : Reading). cond (lost || has missed i) unheard heard) (spoken-same t)

-- ---- tables made anew

-- by f, and by g where m is forgotten
each-from : (f g : ℕ → Node → Node) (i : ℕ) (t : Table) → ((j : ℕ) → j < length t → g (i + j) (forget (get_or t j no_node)) ≡ forget (f (i + j) (get_or t j no_node)))
    → each_from g i (forget_all t) ≡ forget_all (each_from f i t)
unfolding each_from
each-from f g i [] h = refl
each-from f g i (v ∷ t) h =
    let first : g i (forget v) ≡ forget (f i v) = rw (add-zero i) at (h 0 (omega arith)) in
    ap₂ (λ (w : Node) (u : Table). w ∷ u) first
    (each-from f g (suc i) t (λ j l. let z : suc i + j ≡ i + suc j = omega arith in rw z (h (suc j) (omega arith))))

pub each_same : (f g : ℕ → Node → Node) (t : Table) → ((i : ℕ) → 1 ≤ i → i ≤ length t → g i (forget (record_of t i)) ≡ forget (f i (record_of t i)))
    → each g (forget_all t) ≡ forget_all (each f t)
unfolding record_of
each_same f g t h = each-from f g 1 t (λ j l. let z : 1 + j - 1 ≡ j = omega arith in rw z at (h (1 + j) (omega arith) (omega arith)))

-- ---- tests in a row

-- what a call leaves and answers, with m forgotten
abbrev pub forget_called : Called → Called
forget_called c = record { table = forget_all c.table; answer = c.answer }

pub called-alike : {b' b : Bool} {c' : Called} (number : ℕ) (t : Table) (c : Called) → b' ≡ b → c' ≡ forget_called c → if_passed b' number (forget_all t) c' ≡ forget_called (if_passed b number t c)
called-alike {b = b} {c' = c'} number t c e p = ap (λ (x : Bool). if_passed x number (forget_all t) c') e ∙ go b
  where
    go : (x : Bool) → if_passed x number (forget_all t) c' ≡ forget_called (if_passed x number t c)
    go true = p
    go false = refl

-- ---- tables whose kept m is in range and the same throughout

-- a record in its place
in-place-same : (cable : Cable) (slots i : ℕ) (v : Node) → job_count v.cable.m ≡ true → eqb v.cable.m cable.m ≡ true → in_place (without_jobs cable) slots i (forget v) ≡ in_place cable slots i v
unfolding forget
in-place-same cable slots i v few same =
    ap₂ (λ (a b : Bool). a && ((eqb v.cable.n cable.n && (eqb v.cable.k cable.k && (b && (eqb v.cable.lag cable.lag && same_order v.cable.order cable.order)))) && (eqb v.slots slots && eqb v.own i)))
    (record-sound v few) (sym same)

placed_same : (cable : Cable) (slots i : ℕ) (t : Table) → jobs_kept cable.m t ≡ true → placed_from (without_jobs cable) slots i (forget_all t) ≡ placed_from cable slots i t
unfolding jobs_kept placed_from
placed_same cable slots i [] e = refl
placed_same cable slots i (v ∷ t) e =
    let r = both (job_count v.cable.m && eqb v.cable.m cable.m) (jobs_kept cable.m t) e in
    let first = both (job_count v.cable.m) (eqb v.cable.m cable.m) r.0 in
    ap₂ (λ (a b : Bool). a && b) (in-place-same cable slots i v first.0 first.1) (placed_same cable slots (suc i) t r.1)

pub both-sound : (t : Table) → jobs_kept (jobs_on t) t ≡ true → table_sound (forget_all t) ≡ table_sound t
unfolding forget table_sound jobs_on record_of
both-sound [] K = refl
both-sound (v ∷ t) K = ap₂ (λ (n : ℕ) (b : Bool). eqb v.cable.n (suc n) && b) (length-map t forget) (placed_same v.cable v.slots 1 (v ∷ t) K)

few-from : (m j : ℕ) (t : Table) → jobs_kept m t ≡ true → j < length t → job_count (get_or t j no_node).cable.m ≡ true
unfolding jobs_kept
few-from m j [] e h = absurd (elim h [ ])
few-from m zero (v ∷ t) e h = (both (job_count v.cable.m) (eqb v.cable.m m) (both (job_count v.cable.m && eqb v.cable.m m) (jobs_kept m t) e).0).0
few-from m (suc j) (v ∷ t) e h = few-from m j t (both (job_count v.cable.m && eqb v.cable.m m) (jobs_kept m t) e).1 (omega arith)

-- such is each sound table
placed-kept : (cable : Cable) (slots i : ℕ) (t : Table) → placed_from cable slots i t ≡ true → jobs_kept cable.m t ≡ true
unfolding jobs_kept placed_from
placed-kept cable slots i [] e = refl
placed-kept cable slots i (v ∷ t) e =
    let r = both (in_place cable slots i v) (placed_from cable slots (suc i) t) e in
    let p = in-place cable slots i v r.0 in
    all (all (clauses v p.is-sound).choices.jobs (eq-eqb v.cable.m cable.m (ap (λ (c : Cable). c.m) p.cable-is))) (placed-kept cable slots (suc i) t r.1)

pub sound-kept : (t : Table) → table_sound t ≡ true → jobs_kept (jobs_on t) t ≡ true
unfolding table_sound jobs_on record_of
sound-kept [] e = absurd (true≢false (sym e))
sound-kept (v ∷ t) e = placed-kept v.cable v.slots 1 (v ∷ t) (both (eqb v.cable.n (suc (length t))) (placed_from v.cable v.slots 1 (v ∷ t)) e).1

-- ---- the calls

pub node-number-same : (t : Table) (a : ℕ) → node_number (length (forget_all t)) a ≡ node_number (length t) a
node-number-same t a = ap (λ (n : ℕ). node_number n a) (length-map t forget)

out-same : (t : Table) (a : ℕ) → is_out (record_of (forget_all t) a).state ≡ is_out (record_of t a).state
unfolding forget
out-same t a = ap (λ (v : Node). is_out v.state) (record_same t a)

module _ (t : Table) (K : jobs_kept (jobs_on t) t ≡ true) where
  few : (i : ℕ) → 1 ≤ i → i ≤ length t → job_count (record_of t i).cable.m ≡ true
  unfolding record_of
  few i h l = few-from (jobs_on t) (i - 1) t K (omega arith)

  after-slot : (lost : Bool) (missed : ℕ) → table_after_slot lost missed (forget_all t) ≡ forget_all (table_after_slot lost missed t)
  unfolding table_after_slot
  after-slot lost missed =
      each_same (λ i v. (node.step_of (heard_by lost missed t i) v).node) (λ i v. (node.step_of (heard_by lost missed (forget_all t) i) v).node) t
      (λ i h l. ap (λ (heard : Reading). (node.step_of heard (forget (record_of t i))).node) (heard-same lost missed t i) ∙ ap (λ (x : Stepped). x.node) (step_same (record_of t i) (few i h l) (heard_by lost missed t i)))

  -- one record is made anew
  after_one : (a : ℕ) (f : Node → Stepped) → ((v : Node) → job_count v.cable.m ≡ true → f (forget v) ≡ forget_stepped (f v))
      → each (λ i v. cond (eqb i a) (f v).node v) (forget_all t) ≡ forget_all (each (λ i v. cond (eqb i a) (f v).node v) t)
  after_one a f same =
      each_same (λ i v. cond (eqb i a) (f v).node v) (λ i v. cond (eqb i a) (f v).node v) t
      (λ i h l. alike (eqb i a) (f (record_of t i)).node (record_of t i) (ap (λ (x : Stepped). x.node) (same (record_of t i) (few i h l))) refl)

  pub call_same : (c : Call) → call_of c (forget_all t) ≡ forget_called (call_of c t)
  unfolding call_of slot_of off_of restart_of
  call_same (slot lost missed room) =
      called-alike 4 t _ (both-sound t K)
      (called-alike 3 t _ (ap (λ (n : ℕ). within n missed) (length-map t forget))
      (called-alike 5 t _ (ap (λ (n : ℕ). ltb n limit) (slots_same t))
      (called-alike {b = leb 64 room} 9 t (done (table_after_slot lost missed t)) refl (ap done (after-slot lost missed)))))
  call_same (off a) =
      called-alike 4 t _ (both-sound t K)
      (called-alike 3 t (done (table_after_off a t)) (node-number-same t a) (ap done (after_one a node.off_of off-same)))
  call_same (restart a) =
      called-alike 4 t _ (both-sound t K)
      (called-alike 3 t _ (node-number-same t a)
      (called-alike 11 t (done (table_after_restart a t)) (out-same t a) (ap done (after_one a node.restart_of restart-same))))
