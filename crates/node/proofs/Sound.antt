-- Sound records stay sound: set-up's record is sound, and a slot, off and restart keep it (specs/Calls). A refused call returns the record that
-- came. Assumes nothing.
use Rattle.std.specs.Prelude.{Err, Ok}
use Prim.Native.Nat.{ℕ, ◌+◌, ◌<◌}
use mathlib.Core.Path.{◌≡◌, refl}
use mathlib.Core.Bool.{Bool, true, false, cond}
use mathlib.Core.List.{List}
use native.Mathlib.Omega.{arith}
use lib.Dec.{eqb, leb}
use borrow.Author.Tests.{le-leb, leb-false}
use Rattle.refusal.specs.declared.Refusal.{Refusal}
use Rattle.refusal.specs.declared.Refusal.TheVariants.{NodeNumber}
use Rattle.refusal.specs.Causes.{cause}
use Rattle.ring.proofs.nodeset.Tests.{by_cases, both}
use Rattle.cable.specs.declared.Cable.{Cable}
use Rattle.cable.specs.Cable.{cable_fits, may_set_up, node_number, fault_of}
use Rattle.ring.specs.Ring.{sender}
use Rattle.cable.proofs.Ranges.{fitting}
use Rattle.node_record.proofs.ring_laws.Senders.{turns-of, sender-range}
use Rattle.message.specs.declared.Received.{Received}
use Rattle.node_reports.specs.Reports.{Counts, counts_within}
use Rattle.message.specs.Answers.{Reading}
use Rattle.message.specs.Message.{read_of}
use Rattle.node_record.specs.declared.Node.{Node}
use Rattle.node_record.specs.declared.Cause.TheVariants.{SwitchedOff}
use Rattle.node_record.specs.States.{is_out}
use Rattle.node_record.specs.Soundness.{limit, sound}
use Rattle.node_record.proofs.Facts.{clauses, sound-by}
use Rattle.node_changes.specs.Changes.{counted, starting}
use Rattle.node_changes.proofs.Sound.{in-range, out-sound, fresh-sound, starting-sound}
use Rattle.node_slot.specs.Slot.{after_slot}
use Rattle.node_slot.proofs.Sound.{after-slot-sound}
use Rattle.node.specs.Answers.{Answer}
use Rattle.node.specs.Calls.{done, refused, no_node, set_up_of, step_of, slot_of, off_of, restart_of, counted_of, with_counts, is_done, counts_after}

-- ---- one slot

counted-sound : (v : Node) → sound v ≡ true → v.slots < limit → sound (counted v) ≡ true
counted-sound v e h =
    let c = clauses v e in
    sound-by (counted v)
    (record {
      choices = c.choices;
      own = c.own;
      slots = le-leb (v.slots + 1) limit (omega arith);
      sets = c.sets;
      returning = c.returning;
      own_in = c.own_in;
      knock = c.knock;
      empty = c.empty;
      heard = c.heard;
      yes = c.yes;
      window = c.window;
      enough = c.enough;
    })

pub step-sound : (heard : Reading) (v : Node) → sound v ≡ true → sound (step_of heard v).node ≡ true
unfolding step_of
step-sound heard v e =
    rw e (by_cases (leb limit v.slots)
    (λ t. rw t e)
    (λ t. rw t (done-slot (leb-false limit v.slots t))))
  where
    done-slot : v.slots < limit → sound (after_slot (sender v.cable (v.slots + 1)) heard (counted v)) ≡ true
    done-slot l =
        let r = sender-range v.cable (turns-of v.cable (clauses v e).choices) (v.slots + 1) in
        after-slot-sound (sender v.cable (v.slots + 1)) heard (counted v) r.0 r.1 (counted-sound v e l)

pub counted-slot-sound : (received : Received) (v : Node) (counts : Counts) → sound v ≡ true → sound (counted_of received v counts).stepped.node ≡ true
unfolding counted_of
counted-slot-sound received v counts e = go (counts_within v.slots counts)
  where
    after : Counts
    after = cond (is_done (step_of received.reading v).answer) (counts_after received v counts) counts

    go : (b : Bool) → sound (cond b (with_counts (step_of received.reading v) after) (with_counts (refused 4 v) counts)).stepped.node ≡ true
    go true = step-sound received.reading v e
    go false = e

pub slot-sound : (bytes : List ℕ) (v : Node) (counts : Counts) → sound v ≡ true → sound (slot_of bytes v counts).stepped.node ≡ true
slot-sound bytes v counts e = counted-slot-sound (read_of v.cable.k v.cable.m bytes) v counts e

-- ---- off, restart and set-up

pub off-sound : (v : Node) → sound v ≡ true → sound (off_of v).node ≡ true
unfolding off_of
off-sound v e = rw e (out-sound SwitchedOff v (in-range v e))

pub restart-sound : (v : Node) → sound v ≡ true → sound (restart_of v).node ≡ true
unfolding restart_of
restart-sound v e = rw e (by_cases (is_out v.state) (λ t. rw t (fresh-sound v (in-range v e))) (λ t. rw t e))

refused-not-done : (r : Refusal) → ◌≡◌ {A = Answer} (Err r) (Ok tt) → ⊥
refused-not-done r e = let z : ◌≡◌ {A = ℕ} 0 1 = cc in omega arith

pub set-up-sound : (cable : Cable) (places own : ℕ) → (set_up_of cable places own).answer ≡ Ok tt → sound (set_up_of cable places own).node ≡ true
unfolding set_up_of
set-up-sound cable places own e = go (may_set_up cable places) (node_number cable.n own) refl refl e
  where
    go : (a b : Bool) → may_set_up cable places ≡ a → node_number cable.n own ≡ b
        → (cond a (cond b (done (starting cable own)) (refused 3 no_node)) (refused (fault_of cable places) no_node)).answer ≡ Ok tt
        → sound (cond a (cond b (done (starting cable own)) (refused 3 no_node)) (refused (fault_of cable places) no_node)).node ≡ true
    go true true p q e = starting-sound cable own (fitting cable (both (cable_fits cable) (eqb places cable.n) p).0) q
    go true false p q e = absurd (refused-not-done NodeNumber e)
    go false b p q e = absurd (refused-not-done (cause (fault_of cable places)) e)
