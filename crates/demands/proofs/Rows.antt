-- What is promised of members as a row (specs/Rows). Assumes nothing.
use Rattle.std.specs.Prelude.{Err, Ok}
use Prim.Native.Nat.{ℕ}
use mathlib.Core.Path.{◌≡◌, refl, sym, ap, ◌∙◌}
use mathlib.Core.Bool.{true, false, cond, false≢true}
use mathlib.Core.List.{List, [], ◌∷◌}
use lib.Dec.{eqb}
use lib.ListN.{length}
use Rattle.cover_light.specs.nodeset.Sets.{within}
use Rattle.cover_light.proofs.nodeset.Tests.{by_cases, both}
use Rattle.cover_light.specs.cable.declared.Choices.{Choices}
use Rattle.cover_light.specs.cable.Cable.{cable_with, may_set_up}
use Rattle.cover_light.specs.row.Rows.{sound_row}
use Rattle.cover_light.proofs.row_laws.Laws.{set-within}
use Rattle.cover_light.specs.node_reports.Reports.{Counts}
use Rattle.cover_light.specs.node_record.declared.Held.{Held}
use Rattle.cover_light.specs.node_record.Soundness.{sound}
use Rattle.cover_light.specs.node_record.Held.{rowed, setted}
use Rattle.cover_light.proofs.node_record.Facts.{clauses}
use Rattle.cover_light.proofs.node_record.Holding.{node-back, held_back}
use Rattle.cover_light.specs.node.Answers.{Answer}
use Rattle.cover_light.specs.node.Calls.{Stepped, is_done, slot_of, counted_of, off_of, restart_of}
use Rattle.cover_light.specs.node.Held.{held_as}
use Rattle.cover_light.proofs.node.Standing.{start-stands, slot-stands, counted-stands, off-stands, restart-stands}
use Rattle.agreement.specs.bench.declared.Command.{Command}
use Rattle.agreement.specs.bench.declared.Command.TheVariants as command
use Rattle.agreement.specs.bench.Table.{Table}
use Rattle.agreement.specs.bench.Calls.{Called, set_up_of, set_up_given}
use Rattle.agreement.specs.bench.Ledger.{Ledger}
use Rattle.agreement.specs.bench.Kept.{set_up_with, called_with, kept_of}
use Rattle.agreement.specs.bench.Held.{HeldTable, setted_all, kept_held}
use Rattle.agreement.proofs.bench.Ledgers.{past, after}
use Rattle.agreement.proofs.bench.Standing.{call-stands}
use Rattle.plan_report.specs.ledger.Runs.{Lent, kept_by, table_lent}
use Rattle.plan_report.proofs.ledger.AnyLent.{any_lent}
use Rattle.plan_report.proofs.plan_program.OnSets.{shown-as-before}
use Rattle.demands.specs.Demand1.{Keeps, ending}
use Rattle.demands.specs.Rows.{held_lent, AsRows}
use Rattle.demands.proofs.Refused.{refused-call}

-- ---- a record

-- a sound record's row is sound
bad-row-refused : (v : Held) → sound_row v.cable.n v.cable.order v.row ≡ false → sound (setted v) ≡ false
bad-row-refused v bad = by_cases (sound (setted v)) (λ good. absurd (false≢true (sym bad ∙ sound-row good))) (λ e. e)
  where
    sound-row : sound (setted v) ≡ true → sound_row v.cable.n v.cable.order v.row ≡ true
    sound-row good =
        let c = clauses (setted v) good in
        sym (set-within v.cable.n v.cable.order c.choices.order v.row) ∙ (both (within v.cable.n (setted v).set) _ c.sets).0

refused-record : (v : Held) (s : Stepped) → Keeps (ending s.answer) v (held_as v s).node
refused-record v s = go s.answer
  where
    go : (a : Answer) → Keeps (ending a) v (cond (is_done a) (rowed s.node) v)
    go (Ok _) = tt
    go (Err cause) = refl

-- ---- sequences of calls

-- set-up that is made is set-up on the cable
set-up-made : (choices : Choices) (slots : List ℕ) (counts : List Counts) (u : Table) → is_done (set_up_with choices slots counts u).answer ≡ true → set_up_with choices slots counts u ≡ set_up_of (cable_with choices slots) u
unfolding set_up_with set_up_given
set-up-made choices slots counts u e =
    let cable = cable_with choices slots in
    let e₁ = after (may_set_up cable (length slots)) _ u _ e in
    let e₂ = after (eqb (length counts) cable.n) 4 u _ e₁ in
    past (may_set_up cable (length slots)) _ u _ e ∙ past (eqb (length counts) cable.n) 4 u _ e₁ ∙ past (may_set_up cable (length slots)) _ u _ e₂

kept_table : (c : Command) (slots : List ℕ) (room : ℕ) (ledger : Ledger) (counts : List Counts) (u : Table) → (kept_of c slots room ledger counts u).table ≡ (called_with c slots room ledger counts u).table
unfolding kept_of
kept_table c slots room ledger counts u = refl

start-stands-for : (choices : Choices) (slots : List ℕ) (room : ℕ) (ledger : Ledger) (counts : List Counts) (t : HeldTable) → is_done (set_up_with choices slots counts (setted_all t)).answer ≡ true
    → setted_all (kept_held (command.SetUp choices) slots room ledger counts t).table ≡ (set_up_of (cable_with choices slots) (setted_all t)).table
start-stands-for choices slots room ledger counts t e =
    let c : Command = command.SetUp choices in
    call-stands c slots room ledger counts t
    ∙ kept_table c slots room ledger counts (setted_all t)
    ∙ ap (λ (x : Called). x.table) (set-up-made choices slots counts (setted_all t) e)

lent-stands : (start : HeldTable) (ls : List Lent) → setted_all (held_lent start ls) ≡ table_lent (setted_all start) ls
unfolding held_lent table_lent
lent-stands start [] = refl
lent-stands start (l ∷ ls) =
    call-stands _ _ _ l.ledger l.given.counts (held_lent start ls) ∙ ap (λ (u : Table). (kept_by l.given l.ledger u).table) (lent-stands start ls)

-- ---- all of it

pub as_rows : AsRows
as_rows = record {
  set_back = node-back;
  row_back = held_back;
  bad-row = bad-row-refused;
  set-up = start-stands;
  slot = slot-stands;
  step = counted-stands;
  off = off-stands;
  restart = restart-stands;
  slot-refused = λ bytes v counts. refused-record v (slot_of bytes (setted v) counts).stepped;
  step-refused = λ received v counts. refused-record v (counted_of received (setted v) counts).stepped;
  off-refused = λ v. refused-record v (off_of (setted v));
  restart-refused = λ v. refused-record v (restart_of (setted v));
  call = call-stands;
  call-refused = refused-call;
  start = start-stands-for;
  runs = λ start ls. lent-stands start ls ∙ any_lent (setted_all start) ls;
  shown = shown-as-before;
}
