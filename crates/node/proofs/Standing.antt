-- What a call leaves of any held record stands for what the rules leave of the record that it stands for (specs/Held): so a sequence of calls on held records is that of the rules. Assumes nothing.
use Rattle.std.specs.Prelude.{Err, Ok}
use Prim.Native.Nat.{ℕ}
use mathlib.Core.Path.{◌≡◌, refl, sym, ap, ◌∙◌}
use mathlib.Core.Bool.{Bool, true, false, cond, true≢false}
use native.Mathlib.Omega.{arith}
use mathlib.Core.List.{List}
use lib.Dec.{leb}
use lib.ListN.{length}
use Rattle.ring.proofs.nodeset.Tests.{by_cases, chosen, otherwise}
use Rattle.cable.proofs.slot_table.Numbers.{plain-kept}
use Rattle.cable.specs.declared.Choices.{Choices}
use Rattle.cable.specs.declared.Cable.{Cable}
use Rattle.cable.specs.Cable.{cable_with, node_number, may_set_up, fault_of}
use Rattle.message.specs.Answers.{Reading}
use Rattle.message.specs.declared.Received.{Received}
use Rattle.message.specs.Message.{read_of}
use Rattle.node_reports.specs.Reports.{Counts, counts_within}
use Rattle.node_record.specs.declared.Node.{Node}
use Rattle.node_record.specs.declared.Held.{Held}
use Rattle.node_record.specs.States.{is_out}
use Rattle.node_record.specs.Soundness.{limit, sound}
use Rattle.node_record.specs.Held.{rowed, setted}
use Rattle.node_record.proofs.Holding.{node-back, set-kept}
use Rattle.node_changes.specs.Changes.{starting}
use Rattle.node.specs.Answers.{Answer}
use Rattle.node.specs.Calls.{Stepped, done, refused, is_done, no_node, set_up_of, start_of, step_of, counted_of, slot_of, off_of, restart_of}
use Rattle.node.specs.Held.{held_as, start_held, step_held, counted_held, slot_held, off_held, restart_held}
use Rattle.node.proofs.Sound.{step-sound, off-sound, restart-sound, set-up-sound}

-- ---- a call that is made is made of a sound record, and a refused one leaves the record that came

record Fair (w : Node) (s : Stepped) : Type 0 where
  made : is_done s.answer ≡ true → sound w ≡ true
  kept : is_done s.answer ≡ false → s.node ≡ w

-- one that tests soundness first
tested : (w : Node) (s : Stepped) → (sound w ≡ true → is_done s.answer ≡ false → s.node ≡ w) → Fair w (cond (sound w) s (refused 4 w))
tested w s f = by_cases (sound w) (λ t. rw t (record { made = λ e. t; kept = f t })) (λ t. rw t (record { made = λ e. absurd (true≢false (sym e)); kept = λ e. refl }))

refused-kept : (w x : Node) (number : ℕ) (b : Bool) → is_done (cond b (refused number w) (done x)).answer ≡ false → (cond b (refused number w) (done x)).node ≡ w
refused-kept w x number true e = refl
refused-kept w x number false e = absurd (true≢false e)

done-kept : (w x : Node) (number : ℕ) (b : Bool) → is_done (cond b (done x) (refused number w)).answer ≡ false → (cond b (done x) (refused number w)).node ≡ w
done-kept w x number true e = absurd (true≢false e)
done-kept w x number false e = refl

step-fair : (heard : Reading) (w : Node) → Fair w (step_of heard w)
unfolding step_of
step-fair heard w = tested w _ (λ t. refused-kept w _ 5 (leb limit w.slots))

off-fair : (w : Node) → Fair w (off_of w)
unfolding off_of
off-fair w = tested w _ (λ t e. absurd (true≢false e))

restart-fair : (w : Node) → Fair w (restart_of w)
unfolding restart_of
restart-fair w = tested w _ (λ t. done-kept w _ 11 (is_out w.state))

stands : (v : Held) (s : Stepped) → Fair (setted v) s → (sound (setted v) ≡ true → sound s.node ≡ true) → setted (held_as v s).node ≡ s.node
stands v s f keeps =
    by_cases (is_done s.answer)
    (λ t. ap setted (chosen _ _ t) ∙ node-back s.node (keeps (f.made t)))
    (λ t. ap setted (otherwise _ _ t) ∙ sym (f.kept t))

-- ---- the calls

pub step-stands : (heard : Reading) (v : Held) → setted (step_held heard v).node ≡ (step_of heard (setted v)).node
step-stands heard v = stands v (step_of heard (setted v)) (step-fair heard (setted v)) (step-sound heard (setted v))

pub counted-stands : (received : Received) (v : Held) (counts : Counts) → setted (counted_held received v counts).stepped.node ≡ (counted_of received (setted v) counts).stepped.node
unfolding counted_of
counted-stands received v counts = by_cases (counts_within v.slots counts) (λ t. rw t (step-stands received.reading v)) (λ t. rw t refl)

pub slot-stands : (bytes : List ℕ) (v : Held) (counts : Counts) → setted (slot_held bytes v counts).stepped.node ≡ (slot_of bytes (setted v) counts).stepped.node
slot-stands bytes v counts = counted-stands (read_of v.cable.k v.cable.m bytes) v counts

pub off-stands : (v : Held) → setted (off_held v).node ≡ (off_of (setted v)).node
off-stands v = stands v (off_of (setted v)) (off-fair (setted v)) (off-sound (setted v))

pub restart-stands : (v : Held) → setted (restart_held v).node ≡ (restart_of (setted v)).node
restart-stands v = stands v (restart_of (setted v)) (restart-fair (setted v)) (restart-sound (setted v))

-- set-up: a refused one leaves the record of no node
no_record : setted (rowed no_node) ≡ no_node
no_record = set-kept no_node (plain-kept 0 (omega arith)) (omega arith)

refused_none : (cable : Cable) (places own : ℕ) → is_done (set_up_of cable places own).answer ≡ false → (set_up_of cable places own).node ≡ no_node
unfolding set_up_of
refused_none cable places own = go (may_set_up cable places) (node_number cable.n own)
  where
    go : (fits there : Bool)
        → is_done (cond fits (cond there (done (starting cable own)) (refused 3 no_node)) (refused (fault_of cable places) no_node)).answer ≡ false
        → (cond fits (cond there (done (starting cable own)) (refused 3 no_node)) (refused (fault_of cable places) no_node)).node ≡ no_node
    go true true e = absurd (true≢false e)
    go true false e = refl
    go false there e = refl

pub start-stands : (choices : Choices) (slots : List ℕ) (own : ℕ) → setted (start_held choices slots own).stepped.node ≡ (start_of choices slots own).stepped.node
start-stands choices slots own =
    by_cases (is_done s.answer)
    (λ t. ap setted (chosen _ _ t) ∙ node-back s.node (set-up-sound cable (length slots) own (is-done s.answer t)))
    (λ t. ap setted (otherwise _ _ t) ∙ no_record ∙ sym (refused_none cable (length slots) own t))
  where
    cable : Cable
    cable = cable_with choices slots

    s : Stepped
    s = set_up_of cable (length slots) own

    is-done : (a : Answer) → is_done a ≡ true → a ≡ Ok tt
    is-done (Ok _) e = refl
    is-done (Err r) e = absurd (true≢false (sym e))
