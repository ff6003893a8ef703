-- A call with a ledger, counts, a job byte and a slot table that is made is the call without them; a refused one leaves the table (specs/Runs). Assumes nothing.
use Prim.Native.Nat.{ℕ}
use mathlib.Core.Path.{◌≡◌, refl, ◌∙◌}
use mathlib.Core.Bool.{Bool, true, false, true≢false}
use lib.Dec.{leb, ltb}
use Rattle.nodeset.specs.Sets.{within}
use Rattle.bench.specs.cable.Cable.{node_number}
use Rattle.bench.specs.message.Message.{jobs_within}
use Rattle.bench.specs.node_record.States.{is_out}
use Rattle.bench.specs.node_record.Soundness.{limit}
use Rattle.bench.specs.node.Calls.{is_done}
use Rattle.bench.specs.Table.{Table, record_of, node_count, slots_of, table_sound}
use Rattle.bench.specs.Calls.{Called, done, if_passed, table_after_slot, slot_of, table_after_off, off_of, table_after_restart, restart_of}
use Rattle.bench.specs.Reports.{reports_fit, jobs_on}
use Rattle.bench.specs.Outcomes.{slot_given}
use Rattle.bench.specs.Ledger.{Ledger, ledger_fits}
use Rattle.bench.specs.Kept.{slot_with, off_with}
use Rattle.bench.specs.Runs.{Call, slot, off, restart, call_of}
use Rattle.bench.proofs.Ledgers.{past, after, given_made}
use Rattle.ledger.specs.Runs.{Given, called_by}

-- ---- one test after the other

-- a refused call leaves the table
abbrev Keeps : Table → Called → Type 0
Keeps t c = is_done c.answer ≡ false → c.table ≡ t

keeps-if : (b : Bool) (number : ℕ) (t : Table) (c : Called) → Keeps t c → Keeps t (if_passed b number t c)
keeps-if true number t c k = k
keeps-if false number t c k = λ e. refl

keeps-done : (t u : Table) → Keeps t (done u)
keeps-done t u e = absurd (true≢false e)

-- ---- the calls

slot-keeps : (lost : Bool) (missed room : ℕ) (t : Table) → Keeps t (slot_of lost missed room t)
unfolding slot_of
slot-keeps lost missed room t =
    keeps-if (table_sound t) 4 t _ (keeps-if (within (node_count t) missed) 3 t _ (keeps-if (ltb (slots_of t) limit) 5 t _ (keeps-if (leb 64 room) 9 t _ (keeps-done t (table_after_slot lost missed t)))))

off-keeps : (a : ℕ) (t : Table) → Keeps t (off_of a t)
unfolding off_of
off-keeps a t = keeps-if (table_sound t) 4 t _ (keeps-if (node_number (node_count t) a) 3 t _ (keeps-done t (table_after_off a t)))

restart-keeps : (a : ℕ) (t : Table) → Keeps t (restart_of a t)
unfolding restart_of
restart-keeps a t = keeps-if (table_sound t) 4 t _ (keeps-if (node_number (node_count t) a) 3 t _ (keeps-if (is_out (record_of t a).state) 11 t _ (keeps-done t (table_after_restart a t))))

given-keeps : (lost : Bool) (missed jobs room : ℕ) (t : Table) → Keeps t (slot_given lost missed jobs room t)
unfolding slot_given
given-keeps lost missed jobs room t =
    keeps-if (table_sound t) 4 t _ (keeps-if (within (node_count t) missed) 3 t _ (keeps-if (ltb (slots_of t) limit) 5 t _ (keeps-if (jobs_within (jobs_on t) jobs) 8 t _ (slot-keeps lost missed room t))))

module _ (g : Given) (ledger : Ledger) (t : Table) where
  pub refused-stays : is_done (called_by g ledger t).answer ≡ false → (called_by g ledger t).table ≡ t
  unfolding slot_with off_with
  refused-stays = go g.call
    where
      go : (c : Call) → Keeps t (called_by (record { call = c; counts = g.counts; jobs = g.jobs; slots = g.slots }) ledger t)
      go (slot lost missed room) =
          keeps-if (table_sound t) 4 t _ (keeps-if (reports_fit t g.counts) 4 t _ (keeps-if (within (node_count t) missed) 3 t _ (keeps-if (ledger_fits (node_count t) (slots_of t) ledger) 13 t _ (given-keeps lost missed g.jobs room t))))
      go (off a) = keeps-if (table_sound t) 4 t _ (keeps-if (node_number (node_count t) a) 3 t _ (keeps-if (ledger_fits (node_count t) (slots_of t) ledger) 13 t _ (off-keeps a t)))
      go (restart a) = restart-keeps a t

  pub made-is : is_done (called_by g ledger t).answer ≡ true → called_by g ledger t ≡ call_of g.call t
  unfolding slot_with off_with call_of
  made-is = go g.call
    where
      go : (c : Call) → let called = called_by (record { call = c; counts = g.counts; jobs = g.jobs; slots = g.slots }) ledger t in is_done called.answer ≡ true → called ≡ call_of c t
      go (slot lost missed room) e =
          let e₁ = after (table_sound t) 4 t _ e in
          let e₂ = after (reports_fit t g.counts) 4 t _ e₁ in
          let e₃ = after (within (node_count t) missed) 3 t _ e₂ in
          let e₄ = after (ledger_fits (node_count t) (slots_of t) ledger) 13 t _ e₃ in
          past (table_sound t) 4 t _ e ∙ past (reports_fit t g.counts) 4 t _ e₁ ∙ past (within (node_count t) missed) 3 t _ e₂ ∙ past (ledger_fits (node_count t) (slots_of t) ledger) 13 t _ e₃
          ∙ given_made lost missed g.jobs room t e₄
      go (off a) e =
          let e₁ = after (table_sound t) 4 t _ e in
          let e₂ = after (node_number (node_count t) a) 3 t _ e₁ in
          past (table_sound t) 4 t _ e ∙ past (node_number (node_count t) a) 3 t _ e₁ ∙ past (ledger_fits (node_count t) (slots_of t) ledger) 13 t _ e₂
      go (restart a) e = refl
