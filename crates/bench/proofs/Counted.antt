-- The calls on a record keep its cable and own number; a slot counts one, off and restart count none (node's specs/Calls). Assumes nothing.
use Prim.Native.Nat.{ℕ, zero, suc, ◌+◌, ◌<◌}
use mathlib.Core.Path.{◌≡◌, refl, sym, ap, subst, ◌∙◌}
use mathlib.Core.Bool.{Bool, true, false, cond, not, ◌&&◌}
use lib.Dec.{eqb, ltb}
use borrow.Author.Tests.{lt-leb}
use Rattle.cable.specs.nodeset.Sets.{has, without}
use Rattle.cable.proofs.nodeset.Tests.{chosen, otherwise}
use Rattle.cable.specs.declared.Cable.{Cable}
use Rattle.node.specs.ring.Ring.{member_in, sender}
use Rattle.node.specs.message.Answers.{Reading}
use Rattle.node.specs.node_record.declared.Node.{Node}
use Rattle.node.specs.node_record.declared.Window.{Window}
use Rattle.node.specs.node_record.declared.State.{State}
use Rattle.node.specs.node_record.declared.State.TheVariants.{Member, Listening, Following, Knocking, Out}
use Rattle.node.specs.node_record.declared.Cause.{Cause}
use Rattle.node.specs.node_record.declared.Cause.TheVariants.{Unconfirmed, NothingHeard, MissedReturn, SwitchedOff}
use Rattle.node.specs.node_record.States.{is_member, is_following, is_knocking, is_out}
use Rattle.node.specs.node_record.Soundness.{limit, sound}
use Rattle.node.specs.node_record.Sponsoring.{decided_in}
use Rattle.node.specs.node_changes.Changes.{listening_after, following_with, with_window, out_for, fresh, leave, counted, with_set, with_returning}
use Rattle.node.specs.node_steps.Steps.{is_heard, noted, leaves, too_few, nothing_heard, joins, joined, join, settle}
use Rattle.node.specs.node_steps.Inner.{read_return, read_marked, departing, inside_slot, outside_slot, slot_by_cases}
use Rattle.node.specs.node_hearing.Hearing.{overheard, clean, window_end, goes_on, listening_by}
use Rattle.node.specs.node_slot.Slot.{after_slot}
use Rattle.node.specs.node_slot.Inner.{heard_from, read_in}
use Rattle.node.proofs.node_slot.Read.{after_read}
use Rattle.node.specs.Calls.{Stepped, done, refused, step_of, off_of, restart_of}
use Rattle.bench.proofs.Choices.{choose}

pub record Numbers (cable : Cable) (own slots : ℕ) (v : Node) : Type 0 where
  pub cable-is : v.cable ≡ cable
  pub own_is : v.own ≡ own
  pub slots-is : v.slots ≡ slots

-- the same cable, place and count
abbrev pub Same : Node → Node → Type 0
Same v w = Numbers v.cable v.own v.slots w

-- a copy of v with those three fields
pub same : (v w : Node) → w.cable ≡ v.cable → w.own ≡ v.own → w.slots ≡ v.slots → Same v w
same v w p q r = record { cable-is = p; own_is = q; slots-is = r }

pub same_then : (v w x : Node) → Same v w → Same w x → Same v x
same_then v w x p q = record {
  cable-is = q.cable-is ∙ p.cable-is;
  own_is = q.own_is ∙ p.own_is;
  slots-is = q.slots-is ∙ p.slots-is;
}

-- ---- a slot of a tracking node

leave_same : (c : Cause) (v : Node) → Same v (leave c v)
unfolding leave
leave_same c v = choose (λ (w : Node). Same v w) (is_member v.state) (out_for c v) (fresh v) (λ _. same v _ refl refl refl) (λ _. same v _ refl refl refl)

join-same : (v : Node) → Same v (join v)
unfolding join
join-same v = choose (λ (w : Node). Same v w) (is_knocking v.state && not v.return_heard) (with_returning Following 0 v) (joined v) (λ _. same v _ refl refl refl) (λ _. same v _ refl refl refl)

settle-same : (inside : Bool) (s : ℕ) (v : Node) → Same v (settle inside s v)
unfolding settle
settle-same inside s v =
    choose (λ (w : Node). Same v w) (too_few v) (fresh v) (cond (nothing_heard v) (leave NothingHeard v) (cond (inside && joins s v) (join v) v))
    (λ _. same v _ refl refl refl)
    (λ _. choose (λ (w : Node). Same v w) (nothing_heard v) (leave NothingHeard v) (cond (inside && joins s v) (join v) v)
    (λ _. leave_same NothingHeard v)
    (λ _. choose (λ (w : Node). Same v w) (inside && joins s v) (join v) v (λ _. join-same v) (λ _. same v _ refl refl refl)))

departing-same : (times s : ℕ) (v : Node) → Same v (departing times s v)
unfolding departing
departing-same zero s v = settle-same true s v
departing-same (suc times) s v =
    let m = member_in (decided_in s v) in
    choose (λ (w : Node). Same v w) (leaves s v m) (cond (eqb m v.own) (leave Unconfirmed v) (departing times s (with_set (without v.set m) v))) (settle true s v)
    (λ _. choose (λ (w : Node). Same v w) (eqb m v.own) (leave Unconfirmed v) (departing times s (with_set (without v.set m) v))
    (λ _. leave_same Unconfirmed v)
    (λ _. departing-same times s (with_set (without v.set m) v)))
    (λ _. settle-same true s v)

inside-same : (times s : ℕ) (r : Reading) (v : Node) → Same v (inside_slot times s r v)
unfolding inside_slot
inside-same times s r v =
    choose (λ (w : Node). Same v w) (read_return r v) (leave MissedReturn v) (departing times s (read_marked s r v))
    (λ _. leave_same MissedReturn v)
    (λ _. departing-same times s (read_marked s r v))

noted-same : (s : ℕ) (r : Reading) (v : Node) → Same v (noted s r v)
unfolding noted
noted-same s r v =
    choose (λ (w : Node). Same v w) (eqb s v.own)
    (cond (is_following v.state && eqb v.returning 0) (with_returning Knocking v.own v) v)
    (cond (is_heard r && eqb v.returning 0) (with_returning v.state s v) v)
    (λ _. choose (λ (w : Node). Same v w) (is_following v.state && eqb v.returning 0) (with_returning Knocking v.own v) v (λ _. same v _ refl refl refl) (λ _. same v _ refl refl refl))
    (λ _. choose (λ (w : Node). Same v w) (is_heard r && eqb v.returning 0) (with_returning v.state s v) v (λ _. same v _ refl refl refl) (λ _. same v _ refl refl refl))

outside-same : (s : ℕ) (r : Reading) (v : Node) → Same v (outside_slot s r v)
unfolding outside_slot
outside-same s r v = same_then v (noted s r v) (settle false s (noted s r v)) (noted-same s r v) (settle-same false s (noted s r v))

by-cases-same : (times s : ℕ) (r : Reading) (v : Node) → Same v (slot_by_cases times s r v)
unfolding slot_by_cases
by-cases-same times s r v = choose (λ (w : Node). Same v w) (has v.set s) (inside_slot times s r v) (outside_slot s r v) (λ _. inside-same times s r v) (λ _. outside-same s r v)

-- ---- a slot of a listening node

window-end-same : (l : Window) (v : Node) → Same v (window_end l v)
unfolding window_end
window-end-same l v =
    choose (λ (w : Node). Same v w) (clean v.cable l) (cond (eqb l.last l.heard) (following_with l.heard v) (listening_after l.heard v)) (listening_after 0 v)
    (λ _. choose (λ (w : Node). Same v w) (eqb l.last l.heard) (following_with l.heard v) (listening_after l.heard v) (λ _. same v _ refl refl refl) (λ _. same v _ refl refl refl))
    (λ _. same v _ refl refl refl)

listening-same : (s : ℕ) (r : Reading) (v : Node) → Same v (listening_by s r v)
unfolding listening_by goes_on
listening-same s r v = go (overheard s r v.listening)
  where
    go : (l : Window) → Same v (cond (ltb l.done v.cable.n) (with_window l v) (window_end l v))
    go l = choose (λ (w : Node). Same v w) (ltb l.done v.cable.n) (with_window l v) (window_end l v) (λ _. same v _ refl refl refl) (λ _. window-end-same l v)

-- ---- the calls

pub read_same : (times : ℕ) (st : State) (s : ℕ) (r : Reading) (v : Node) → Same v (read_in times st s r v)
read_same times Member s r v = by-cases-same times s r v
read_same times Listening s r v = listening-same s r v
read_same times Following s r v = by-cases-same times s r v
read_same times Knocking s r v = by-cases-same times s r v
read_same times (Out cause) s r v = same v v refl refl refl

pub after-slot-same : (s : ℕ) (r : Reading) (v : Node) → Same v (after_slot s r v)
after-slot-same s r v = subst (Same v) (sym (after_read s r v)) (read_same v.cable.n v.state s (heard_from s r v) v)

-- a slot that is not refused
pub step-done : (r : Reading) (v : Node) → sound v ≡ true → v.slots < limit → step_of r v ≡ done (after_slot (sender v.cable (v.slots + 1)) r (counted v))
unfolding step_of
step-done r v e h = chosen _ _ e ∙ otherwise _ _ (lt-leb limit v.slots h)

pub step-numbers : (r : Reading) (v : Node) → sound v ≡ true → v.slots < limit → Numbers v.cable v.own (v.slots + 1) (step_of r v).node
step-numbers r v e h =
    let z : (step_of r v).node ≡ after_slot (sender v.cable (v.slots + 1)) r (counted v) = ap (λ (x : Stepped). x.node) (step-done r v e h) in
    rw z (after-slot-same (sender v.cable (v.slots + 1)) r (counted v))

pub off-same : (v : Node) → Same v (off_of v).node
unfolding off_of
off-same v = choose (λ (x : Stepped). Same v x.node) (sound v) (done (out_for SwitchedOff v)) (refused 4 v) (λ _. same v _ refl refl refl) (λ _. same v _ refl refl refl)

pub restart-same : (v : Node) → Same v (restart_of v).node
unfolding restart_of
restart-same v =
    choose (λ (x : Stepped). Same v x.node) (sound v) (cond (is_out v.state) (done (fresh v)) (refused 11 v)) (refused 4 v)
    (λ _. choose (λ (x : Stepped). Same v x.node) (is_out v.state) (done (fresh v)) (refused 11 v) (λ _. same v _ refl refl refl) (λ _. same v _ refl refl refl))
    (λ _. same v _ refl refl refl)
