-- Conversion each way loses nothing of a sound table, and what a call leaves of any held table stands for what the rules leave (specs/Held). Assumes nothing.
use Rattle.std.specs.Prelude.{Err, Ok}
use Prim.Native.Nat.{ℕ, suc, ◌≤◌}
use mathlib.Core.Path.{◌≡◌, refl, sym, ap₂, subst}
use mathlib.Core.Bool.{Bool, true, false, true≢false}
use mathlib.Core.List.{List, [], ◌∷◌}
use native.Mathlib.Omega.{arith}
use lib.Dec.{eqb, leb, ltb}
use lib.ListN.{length, length-map}
use borrow.Author.Tests.{eqb-true}
use Rattle.cable.specs.nodeset.Sets.{within}
use Rattle.cable.proofs.nodeset.Tests.{both}
use Rattle.cable.specs.declared.Cable.{Cable}
use Rattle.cable.specs.Cable.{cable_with, cable_fits, may_set_up, node_number}
use Rattle.cable.proofs.Ranges.{fitting, ring-size}
use Rattle.node.specs.message.Message.{jobs_within}
use Rattle.node.specs.node_reports.Reports.{Counts}
use Rattle.node.specs.node_record.declared.Node.{Node}
use Rattle.node.specs.node_record.States.{is_out}
use Rattle.node.specs.node_record.Soundness.{limit, sound}
use Rattle.node.specs.node_record.Held.{setted}
use Rattle.node.proofs.node_record.Holding.{node-back, held_back}
use Rattle.node.specs.Answers.{Answer}
use Rattle.node.specs.Calls.{is_done}
use Rattle.bench.specs.declared.Command.{Command}
use Rattle.bench.specs.declared.Command.TheVariants as command
use Rattle.bench.specs.Table.{Table, record_of, in_place, placed_from, table_sound, node_count, slots_of}
use Rattle.bench.specs.Calls.{Called, done, if_passed, start_table, set_up_of, set_up_given, table_after_slot, slot_of, table_after_off, off_of, table_after_restart, restart_of, look_of}
use Rattle.bench.specs.Reports.{reports_fit, jobs_on}
use Rattle.bench.specs.Outcomes.{slot_given}
use Rattle.bench.specs.Ledger.{Ledger, ledger_fits}
use Rattle.bench.specs.Kept.{set_up_with, slot_with, off_with, called_with, kept_of, if_done}
use Rattle.bench.specs.Runs.{Call, slot, off, restart, call_of}
use Rattle.bench.specs.Held.{HeldTable, rowed_all, setted_all, held_by, kept_held, CallStands}
use Rattle.bench.proofs.Places.{in-place, sound-placed, placed-sound}
use Rattle.bench.proofs.Runs.{placed-call, start-placed}
use Rattle.bench.proofs.Ledgers.{after, given_made}

-- ---- conversion

pub length-setted : (t : HeldTable) → length (setted_all t) ≡ length t
length-setted t = length-map t setted

-- a record in its place is sound
placed-head : (cable : Cable) (slots i : ℕ) (v : Node) (t : Table) → placed_from cable slots i (v ∷ t) ≡ true → (sound v ≡ true) × (placed_from cable slots (suc i) t ≡ true)
unfolding placed_from
placed-head cable slots i v t e =
    let a = both (in_place cable slots i v) (placed_from cable slots (suc i) t) e in
    ((in-place cable slots i v a.0).is-sound, a.1)

-- records in their places come back
pub rows_back : (cable : Cable) (slots i : ℕ) (t : HeldTable) → placed_from cable slots i (setted_all t) ≡ true → rowed_all (setted_all t) ≡ t
rows_back cable slots i [] e = refl
rows_back cable slots i (v ∷ t) e =
    let p = placed-head cable slots i (setted v) (setted_all t) e in
    ap₂ {C = HeldTable} (λ w r. w ∷ r) (held_back v p.0) (rows_back cable slots (suc i) t p.1)

pub sets-back : (cable : Cable) (slots i : ℕ) (t : Table) → placed_from cable slots i t ≡ true → setted_all (rowed_all t) ≡ t
sets-back cable slots i [] e = refl
sets-back cable slots i (v ∷ t) e =
    let p = placed-head cable slots i v t e in
    ap₂ {C = Table} (λ w r. w ∷ r) (node-back v p.0) (sets-back cable slots (suc i) t p.1)

-- of a sound table the records are in their places
places : (t : Table) → table_sound t ≡ true → (cable : Cable) × (slots : ℕ) × (placed_from cable slots 1 t ≡ true)
unfolding table_sound
places [] e = absurd (true≢false (sym e))
places (v ∷ t) e = (v.cable, v.slots, (both (eqb v.cable.n (suc (length t))) (placed_from v.cable v.slots 1 (v ∷ t)) e).1)

pub table-back : (t : HeldTable) → table_sound (setted_all t) ≡ true → rowed_all (setted_all t) ≡ t
table-back t e = let p = places (setted_all t) e in rows_back p.0 p.1 1 t p.2

pub table_kept : (t : Table) → table_sound t ≡ true → setted_all (rowed_all t) ≡ t
table_kept t e = let p = places t e in sets-back p.0 p.1 1 t p.2

-- ---- a refused call leaves the table

abbrev pub Keeps : Table → Called → Type 0
Keeps t c = is_done c.answer ≡ false → c.table ≡ t

pub keeps-if : (b : Bool) (number : ℕ) (t : Table) (c : Called) → Keeps t c → Keeps t (if_passed b number t c)
keeps-if true number t c h = h
keeps-if false number t c h = λ _. refl

keeps-done : (t x : Table) → Keeps t (done x)
keeps-done t x e = absurd (true≢false e)

pub set-up-keeps : (cable : Cable) (t : Table) → Keeps t (set_up_of cable t)
unfolding set_up_of
set-up-keeps cable t = keeps-if (cable_fits cable) _ t _ (keeps-if (eqb (length t) cable.n) 4 t _ (keeps-done t (start_table cable t)))

slot-keeps : (lost : Bool) (missed room : ℕ) (t : Table) → Keeps t (slot_of lost missed room t)
unfolding slot_of
slot-keeps lost missed room t =
    keeps-if (table_sound t) 4 t _ (keeps-if (within (node_count t) missed) 3 t _ (keeps-if (ltb (slots_of t) limit) 5 t _ (keeps-if (leb 64 room) 9 t _ (keeps-done t (table_after_slot lost missed t)))))

pub off-keeps : (a : ℕ) (t : Table) → Keeps t (off_of a t)
unfolding off_of
off-keeps a t = keeps-if (table_sound t) 4 t _ (keeps-if (node_number (node_count t) a) 3 t _ (keeps-done t (table_after_off a t)))

pub restart-keeps : (a : ℕ) (t : Table) → Keeps t (restart_of a t)
unfolding restart_of
restart-keeps a t =
    keeps-if (table_sound t) 4 t _ (keeps-if (node_number (node_count t) a) 3 t _ (keeps-if (is_out (record_of t a).state) 11 t _ (keeps-done t (table_after_restart a t))))

-- with a job byte
pub given-keeps : (lost : Bool) (missed jobs room : ℕ) (t : Table) → Keeps t (slot_given lost missed jobs room t)
unfolding slot_given
given-keeps lost missed jobs room t =
    keeps-if (table_sound t) 4 t _ (keeps-if (within (node_count t) missed) 3 t _ (keeps-if (ltb (slots_of t) limit) 5 t _ (keeps-if (jobs_within (jobs_on t) jobs) 8 t _ (slot-keeps lost missed room t))))

pub look-keeps : (t : Table) → Keeps t (look_of t)
unfolding look_of
look-keeps t = keeps-if (table_sound t) 4 t _ (keeps-done t t)

pub refused-keeps : (c : Command) (slots : List ℕ) (room : ℕ) (ledger : Ledger) (counts : List Counts) (t : Table) → Keeps t (called_with c slots room ledger counts t)
unfolding set_up_with set_up_given slot_with off_with
refused-keeps (command.SetUp choices) slots room ledger counts t =
    let cable = cable_with choices slots in
    keeps-if (may_set_up cable (length slots)) _ t _ (keeps-if (eqb (length counts) cable.n) 4 t _ (keeps-if (may_set_up cable (length slots)) _ t _ (set-up-keeps cable t)))
refused-keeps (command.Off a) slots room ledger counts t =
    keeps-if (table_sound t) 4 t _ (keeps-if (node_number (node_count t) a) 3 t _ (keeps-if (ledger_fits (node_count t) (slots_of t) ledger) 13 t _ (off-keeps a t)))
refused-keeps (command.Restart a) slots room ledger counts t = restart-keeps a t
refused-keeps (command.Slot lost missed jobs) slots room ledger counts t =
    keeps-if (table_sound t) 4 t _ (keeps-if (reports_fit t counts) 4 t _ (keeps-if (within (node_count t) missed) 3 t _ (keeps-if (ledger_fits (node_count t) (slots_of t) ledger) 13 t _ (given-keeps lost missed jobs room t))))
refused-keeps (command.Look lost) slots room ledger counts t = look-keeps t

-- ---- a call that is made leaves a sound table

-- the first test of a call that is made holds
first-held : (b : Bool) (number : ℕ) (t : Table) (c : Called) → is_done (if_passed b number t c).answer ≡ true → b ≡ true
first-held true number t c e = refl
first-held false number t c e = absurd (true≢false (sym e))

pub some-node : (t : Table) → table_sound t ≡ true → 1 ≤ (record_of t 1).cable.n
unfolding table_sound record_of
some-node [] e = absurd (true≢false (sym e))
some-node (v ∷ t) e =
    let n-is = eqb-true v.cable.n (suc (length t)) (both (eqb v.cable.n (suc (length t))) (placed_from v.cable v.slots 1 (v ∷ t)) e).0 in
    omega (arith, n-is)

pub call-sound : (c : Call) (t : Table) → table_sound t ≡ true → table_sound (call_of c t).table ≡ true
call-sound c t ok =
    let cable = (record_of t 1).cable in
    let some = some-node t ok in
    placed-sound cable _ (call_of c t).table some (placed-call cable (slots_of t) t some (sound-placed t ok) c)

-- set-up that is made is asked for a cable that fits, with a record for each node
set-up-tests : (cable : Cable) (t : Table) → is_done (set_up_of cable t).answer ≡ true → (cable_fits cable ≡ true) × (eqb (length t) cable.n ≡ true)
unfolding set_up_of
set-up-tests cable t e = (first-held (cable_fits cable) _ t _ e, first-held (eqb (length t) cable.n) 4 t _ (after (cable_fits cable) _ t _ e))

pub set-up-made : (cable : Cable) (t : Table) → is_done (set_up_of cable t).answer ≡ true → table_sound (set_up_of cable t).table ≡ true
set-up-made cable t e =
    let h = set-up-tests cable t e in
    placed-sound cable 0 (set_up_of cable t).table (omega (arith, (ring-size cable.n (fitting cable h.0).ring).0)) (start-placed cable h.0 t (eqb-true (length t) cable.n h.1))

abbrev pub SoundIfMade : Called → Type 0
SoundIfMade c = is_done c.answer ≡ true → table_sound c.table ≡ true

-- one test more
pub made-if : (b : Bool) (number : ℕ) (t : Table) (c : Called) → (b ≡ true → SoundIfMade c) → SoundIfMade (if_passed b number t c)
made-if true number t c h e = h refl e
made-if false number t c h e = absurd (true≢false (sym e))

pub off-made : (a : ℕ) (t : Table) → table_sound t ≡ true → SoundIfMade (off_of a t)
unfolding call_of
off-made a t ok e = call-sound (off a) t ok

restart-tests : (a : ℕ) (t : Table) → is_done (restart_of a t).answer ≡ true → table_sound t ≡ true
unfolding restart_of
restart-tests a t e = first-held (table_sound t) 4 t _ e

pub restart-made : (a : ℕ) (t : Table) → SoundIfMade (restart_of a t)
unfolding call_of
restart-made a t e = call-sound (restart a) t (restart-tests a t e)

pub slot-made : (lost : Bool) (missed jobs room : ℕ) (t : Table) → table_sound t ≡ true → SoundIfMade (slot_given lost missed jobs room t)
unfolding call_of
slot-made lost missed jobs room t ok e =
    subst (λ (c : Called). table_sound c.table ≡ true) (sym (given_made lost missed jobs room t e)) (call-sound (slot lost missed room) t ok)

pub look-made : (t : Table) → SoundIfMade (look_of t)
unfolding look_of
look-made t = made-if (table_sound t) 4 t _ (λ ok _. ok)

pub made-sound : (c : Command) (slots : List ℕ) (room : ℕ) (ledger : Ledger) (counts : List Counts) (t : Table) → SoundIfMade (called_with c slots room ledger counts t)
unfolding set_up_with set_up_given slot_with off_with
made-sound (command.SetUp choices) slots room ledger counts t =
    let cable = cable_with choices slots in
    made-if (may_set_up cable (length slots)) _ t _ (λ _. made-if (eqb (length counts) cable.n) 4 t _ (λ _. made-if (may_set_up cable (length slots)) _ t _ (λ _. set-up-made cable t)))
made-sound (command.Off a) slots room ledger counts t =
    made-if (table_sound t) 4 t _ (λ ok. made-if (node_number (node_count t) a) 3 t _ (λ _. made-if (ledger_fits (node_count t) (slots_of t) ledger) 13 t _ (λ _. off-made a t ok)))
made-sound (command.Restart a) slots room ledger counts t = restart-made a t
made-sound (command.Slot lost missed jobs) slots room ledger counts t =
    made-if (table_sound t) 4 t _ (λ ok. made-if (reports_fit t counts) 4 t _ (λ _. made-if (within (node_count t) missed) 3 t _ (λ _. made-if (ledger_fits (node_count t) (slots_of t) ledger) 13 t _ (λ _. slot-made lost missed jobs room t ok))))
made-sound (command.Look lost) slots room ledger counts t = look-made t

-- ---- so what is left stands for what the rules leave

pub stands : (t : HeldTable) (called : Called) → Keeps (setted_all t) called → SoundIfMade called → setted_all (held_by t called) ≡ called.table
stands t called keeps made = go called.answer keeps made
  where
    go : (a : Answer) → (is_done a ≡ false → called.table ≡ setted_all t) → (is_done a ≡ true → table_sound called.table ≡ true) → setted_all (if_done a (rowed_all called.table) t) ≡ called.table
    go (Ok _) k m = table_kept called.table (m refl)
    go (Err cause) k m = sym (k refl)

pub call-stands : CallStands
unfolding kept_held kept_of
call-stands c slots room ledger counts t =
    let u = setted_all t in
    stands t (called_with c slots room ledger counts u) (refused-keeps c slots room ledger counts u) (made-sound c slots room ledger counts u)
