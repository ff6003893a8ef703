-- The rule before request f (specs/Repeated): by what is read, and that each call counts the slots as it does now. Assumes nothing.
use Prim.Native.Nat.{ℕ, suc, ◌+◌, ◌-◌, ◌≤◌, ◌<◌}
use mathlib.Core.Path.{◌≡◌, refl, sym, ap, ◌∙◌, subst}
use mathlib.Core.Bool.{Bool, true, false, cond}
use mathlib.Core.List.{List, [], ◌∷◌}
use native.Mathlib.Omega.{arith}
use native.Mathlib.Nat.{add-zero}
use lib.Dec.{eqb}
use lib.ListN.{length, get_or}
use Rattle.bench.specs.nodeset.Sums.{num}
use Rattle.bench.proofs.nodeset.Tests.{by_cases, chosen, otherwise}
use Rattle.bench.specs.cable.Cable.{node_number}
use Rattle.bench.specs.message.Answers.{Reading}
use Rattle.bench.specs.node_record.declared.Node.{Node}
use Rattle.bench.specs.node_record.declared.State.{State}
use Rattle.bench.specs.node_record.declared.State.TheVariants.{Member, Listening, Following, Knocking, Out}
use Rattle.bench.specs.node_record.States.{is_out}
use Rattle.bench.specs.node_changes.Changes.{counted}
use Rattle.bench.specs.node_slot.Slot.{slot_by}
use Rattle.bench.specs.node_slot.Inner.{heard_from, read_in}
use Rattle.bench.proofs.node_slot.Read.{slot_read, listening-read}
use Rattle.bench.specs.node.Calls as node
use Rattle.bench.specs.node.Calls.{no_node}
use Rattle.bench.specs.Table.{Table, record_of, each_from, each, table_sound, node_count, slots_of, speaker}
use Rattle.bench.specs.Calls.{Called, done, if_passed, heard_by, slot_of, table_after_off, off_of, table_after_restart, restart_of}
use Rattle.bench.specs.Runs.{Call, slot, off, restart, call_of, is_slot}
use Rattle.bench.proofs.Counted.{Same, read_same, off-same, restart-same}
use Rattle.agreement.specs.Repeated.{call_by, run_by, rule_before, run_before}
use Rattle.agreement.proofs.History.{num-is, num-isnt}

-- ---- tables

-- two tables with the same records are the same
same-table : (a b : Table) → length a ≡ length b → ((j : ℕ) → j < length a → get_or a j no_node ≡ get_or b j no_node) → a ≡ b
same-table [] [] l h = refl
same-table [] (w ∷ b) l h = let z : ⊥ = omega arith in absurd z
same-table (v ∷ a) [] l h = let z : ⊥ = omega arith in absurd z
same-table (v ∷ a) (w ∷ b) l h = ap (λ (x : Node). x ∷ a) (h 0 (omega arith)) ∙ ap (λ (t : Table). w ∷ t) (same-table a b (omega arith) (λ j q. h (suc j) (omega arith)))

pub same-records : (a b : Table) → length a ≡ length b → ((i : ℕ) → 1 ≤ i → i ≤ length a → record_of a i ≡ record_of b i) → a ≡ b
unfolding record_of
same-records a b l h = same-table a b l (λ j q.
    let z : suc j - 1 ≡ j = omega arith in
    ap (λ (x : ℕ). get_or a x no_node) (sym z) ∙ h (suc j) (omega arith) (omega arith) ∙ ap (λ (x : ℕ). get_or b x no_node) z)

-- ---- the rule before

-- by what is read
pub before-read : (st : State) (s : ℕ) (heard : Reading) (v : Node) → slot_by rule_before st s heard v ≡ read_in 1 st s (heard_from s heard v) v
before-read Member s heard v = slot_read 1 s heard v
before-read Listening s heard v = listening-read s heard v
before-read Following s heard v = slot_read 1 s heard v
before-read Knocking s heard v = slot_read 1 s heard v
before-read (Out cause) s heard v = refl

before_same : (st : State) (s : ℕ) (heard : Reading) (v : Node) → Same v (slot_by rule_before st s heard v)
before_same st s heard v = subst (Same v) (sym (before-read st s heard v)) (read_same 1 st s (heard_from s heard v) v)

-- each call counts the slots as it does now
slots-each : (f : ℕ → Node → Node) (d : ℕ) (v : Node) (t : Table) → (f 1 v).slots ≡ v.slots + d → slots_of (each f (v ∷ t)) ≡ slots_of (v ∷ t) + d
unfolding slots_of record_of each_from
slots-each f d v t e = e

slots-passed : (b : Bool) (number : ℕ) (t : Table) (called : Called) → slots_of called.table ≡ slots_of t → slots_of (if_passed b number t called).table ≡ slots_of t
slots-passed true number t called e = e
slots-passed false number t called e = refl

pub slots-before : (c : Call) (t : Table) → slots_of (call_by rule_before c t) ≡ slots_of t + num (is_slot c t)
unfolding is_slot slot_of table_sound call_of off_of restart_of
slots-before (slot lost missed room) [] = omega arith
slots-before (slot lost missed room) (v ∷ t) =
    by_cases (is_slot (slot lost missed room) (v ∷ t))
    (λ e. ap slots_of (chosen _ _ e) ∙ slots-each (λ i w. slot_by rule_before w.state (speaker (v ∷ t)) (heard_by lost missed (v ∷ t) i) (counted w)) 1 v t (before_same v.state (speaker (v ∷ t)) (heard_by lost missed (v ∷ t) 1) (counted v)).slots-is ∙ ap (λ (x : ℕ). slots_of (v ∷ t) + x) (sym (num-is e)))
    (λ e. ap slots_of (otherwise _ _ e) ∙ omega (arith, num-isnt e))
slots-before (off a) [] = omega arith
slots-before (off a) (v ∷ t) =
    slots-passed (table_sound (v ∷ t)) 4 (v ∷ t) (if_passed (node_number (node_count (v ∷ t)) a) 3 (v ∷ t) (done (table_after_off a (v ∷ t))))
    (slots-passed (node_number (node_count (v ∷ t)) a) 3 (v ∷ t) (done (table_after_off a (v ∷ t)))
    (slots-each (λ i w. cond (eqb i a) (node.off_of w).node w) 0 v t (one (eqb 1 a)) ∙ add-zero (slots_of (v ∷ t))))
    ∙ sym (add-zero (slots_of (v ∷ t)))
  where
    one : (b : Bool) → (cond b (node.off_of v).node v).slots ≡ v.slots + 0
    one true = (off-same v).slots-is ∙ sym (add-zero v.slots)
    one false = sym (add-zero v.slots)
slots-before (restart a) [] = omega arith
slots-before (restart a) (v ∷ t) =
    slots-passed (table_sound (v ∷ t)) 4 (v ∷ t) (if_passed (node_number (node_count (v ∷ t)) a) 3 (v ∷ t) (if_passed (is_out (record_of (v ∷ t) a).state) 11 (v ∷ t) (done (table_after_restart a (v ∷ t)))))
    (slots-passed (node_number (node_count (v ∷ t)) a) 3 (v ∷ t) (if_passed (is_out (record_of (v ∷ t) a).state) 11 (v ∷ t) (done (table_after_restart a (v ∷ t))))
    (slots-passed (is_out (record_of (v ∷ t) a).state) 11 (v ∷ t) (done (table_after_restart a (v ∷ t)))
    (slots-each (λ i w. cond (eqb i a) (node.restart_of w).node w) 0 v t (one (eqb 1 a)) ∙ add-zero (slots_of (v ∷ t)))))
    ∙ sym (add-zero (slots_of (v ∷ t)))
  where
    one : (b : Bool) → (cond b (node.restart_of v).node v).slots ≡ v.slots + 0
    one true = (restart-same v).slots-is ∙ sym (add-zero v.slots)
    one false = sym (add-zero v.slots)

-- ---- the run

pub before-none : (start : Table) → run_before start [] ≡ start
unfolding run_by
before-none start = refl

pub before-one : (start : Table) (c : Call) (cs : List Call) → run_before start (c ∷ cs) ≡ call_by rule_before c (run_before start cs)
unfolding run_by
before-one start c cs = refl

pub before-next : (start : Table) (c : Call) (cs : List Call) → slots_of (run_before start (c ∷ cs)) ≡ slots_of (run_before start cs) + num (is_slot c (run_before start cs))
before-next start c cs = ap slots_of (before-one start c cs) ∙ slots-before c (run_before start cs)
