-- The slot of specs/Steps, which does the steps in their order, is the slot by cases of specs/Inner. Assumes nothing.
use Rattle.std.specs.Prelude.{Err, None, Option, Ok, Some}
use Prim.Native.Nat.{ℕ, zero, suc}
use mathlib.Core.Path.{◌≡◌, refl, sym, ap, ap₂, ◌∙◌}
use mathlib.Core.Bool.{Bool, true, false, cond, not, ◌&&◌, ◌||◌, and-true, and-false}
use lib.Dec.{eqb}
use borrow.Author.Tests.{eqb-true, eq-eqb, ne_eqb}
use Rattle.nodeset.specs.Sets.{has, without}
use Rattle.nodeset.proofs.Tests.{by_cases, chosen, otherwise}
use Rattle.row.specs.ring.declared.Found.{Found}
use Rattle.row.specs.ring.Ring.{member_in, is_found}
use Rattle.message.specs.Answers.{Reading}
use Rattle.message.proofs.From.{FromOther}
use Rattle.node_record.specs.declared.Node.{Node}
use Rattle.node_record.specs.States.{leaving_cause}
use Rattle.node_record.specs.Sponsoring.{decided_in}
use Rattle.node_changes.specs.Changes.{leave, with_set, with_marks}
use Rattle.node_steps.specs.Steps.{is_own, return_in, hears_return, marks_after, yes_after, missed_return, heard_return, marked, noted, leaves, departed, departed_in, leaves_in, settle, slot_from, slot_with}
use Rattle.node_steps.specs.Inner.{read_return, read_heard, read_marked, departing, inside_slot, outside_slot, slot_by_cases}

-- ---- step 1: what is heard of the own slot is a refused reading

returns-read : (s : ℕ) (heard : Reading) (v : Node) → FromOther s heard v.own → hears_return s heard v ≡ return_in heard
returns-read s (Ok h) v f = rw (ne_eqb s v.own f) refl
returns-read s (Err r) v f = by_cases (is_own s v) (λ e. rw e refl) (λ e. rw e refl)

marked-read : (s : ℕ) (heard : Reading) (v : Node) → FromOther s heard v.own → marked s heard v ≡ read_marked s heard v
marked-read s heard v f =
    let h : heard_return s heard v ≡ read_heard heard v = rw (returns-read s heard v f) refl in
    ap (λ (b : Bool). with_marks (marks_after s heard v) (yes_after s heard v) b v) h

-- ---- step 3, so many times

-- the node itself leaves where it is the decided member, and that leaves
own-leaves : (s : ℕ) (v : Node) → leaves s v v.own ≡ (leaves s v (member_in (decided_in s v)) && eqb (member_in (decided_in s v)) v.own)
own-leaves s v = go (decided_in s v)
  where
    go : (f : Option Found) → (is_found v.own f && not (has v.present v.own)) ≡ ((is_found (member_in f) f && not (has v.present (member_in f))) && eqb (member_in f) v.own)
    go (Some f) =
        let self : eqb f.member f.member ≡ true = eq-eqb f.member f.member refl in
        by_cases (eqb f.member v.own)
        (λ e. rw (self, e) (ap (λ (x : ℕ). not (has v.present x)) (sym (eqb-true f.member v.own e)) ∙ sym (and-true (not (has v.present f.member)))))
        (λ e. rw (self, e) (sym (and-false (not (has v.present f.member)))))
    go None = refl

-- a step in which nobody leaves changes nothing, and no further one does
unchanged : (s : ℕ) (v : Node) → leaves s v (member_in (decided_in s v)) ≡ false → departed s v ≡ v
unchanged s v e = ap (λ (set : ℕ). with_set set v) (otherwise _ _ e)

none-departs : (times s : ℕ) (v : Node) → leaves s v (member_in (decided_in s v)) ≡ false → (leaves_in times s v ≡ false) × (departed_in times s v ≡ v)
unfolding leaves_in departed_in
none-departs zero s v e = (refl, refl)
none-departs (suc times) s v e =
    let r = none-departs times s v e in
    let stays : leaves s v v.own ≡ false = own-leaves s v ∙ ap (λ (b : Bool). b && eqb (member_in (decided_in s v)) v.own) e in
    (ap₂ (λ (b : Bool) (w : Node). b || leaves_in times s w) stays (unchanged s v e) ∙ r.0, ap (departed_in times s) (unchanged s v e) ∙ r.1)

-- who leaves does so whatever its set is
leave-set : (set : ℕ) (v : Node) → leave (leaving_cause 1) (with_set set v) ≡ leave (leaving_cause 1) v
unfolding leave
leave-set set v = refl

departing-is : (times s : ℕ) (v : Node) → cond (leaves_in times s v) (leave (leaving_cause 1) v) (settle true s (departed_in times s v)) ≡ departing times s v
unfolding leaves_in departed_in departing
departing-is zero s v = refl
departing-is (suc times) s v =
    by_cases (leaves s v m)
    (λ e.
    by_cases (eqb m v.own)
    (λ o. rw e (rw o (rw (own-leaves s v ∙ ap₂ ◌&&◌ e o) refl)))
    (λ o.
    let w = with_set (without v.set m) v in
    let stays : leaves s v v.own ≡ false = own-leaves s v ∙ ap₂ ◌&&◌ e o in
    let goes : departed s v ≡ w = ap (λ (set : ℕ). with_set set v) (chosen _ _ e) in
    let rest : cond (leaves_in times s w) (leave (leaving_cause 1) v) (settle true s (departed_in times s w)) ≡ departing times s w
    = ap (λ (x : Node). cond (leaves_in times s w) x (settle true s (departed_in times s w))) (sym (leave-set (without v.set m) v)) ∙ departing-is times s w in
    ap₂ (λ (b : Bool) (x : Node). cond (b || leaves_in times s x) (leave (leaving_cause 1) v) (settle true s (departed_in times s x))) stays goes ∙ rest ∙ sym (chosen _ _ e ∙ otherwise _ _ o)))
    (λ e.
    let r = none-departs (suc times) s v e in
    ap₂ (λ (b : Bool) (x : Node). cond b (leave (leaving_cause 1) v) (settle true s x)) r.0 r.1 ∙ sym (otherwise _ _ e))
  where
    m : ℕ
    m = member_in (decided_in s v)

-- ---- the slot

pub slot-by-cases : (times s : ℕ) (heard : Reading) (v : Node) → FromOther s heard v.own → slot_with times s heard v ≡ slot_by_cases times s heard v
unfolding slot_from slot_by_cases inside_slot outside_slot
slot-by-cases times s heard v f =
    by_cases (has v.set s)
    (λ e.
    let r : missed_return s heard v ≡ read_return heard v = rw (returns-read s heard v f) refl in
    rw e (ap (λ (b : Bool). cond b (leave (leaving_cause 3) v) (cond (leaves_in times s (marked s heard v)) (leave (leaving_cause 1) (marked s heard v)) (settle true s (departed_in times s (marked s heard v))))) r
    ∙ ap (cond (read_return heard v) (leave (leaving_cause 3) v)) (departing-is times s (marked s heard v) ∙ ap (departing times s) (marked-read s heard v f))))
    (λ e. rw e refl)

pub slot-inside : (times s : ℕ) (heard : Reading) (v : Node) → has v.set s ≡ true → slot_by_cases times s heard v ≡ inside_slot times s heard v
unfolding slot_by_cases
slot-inside times s heard v e = chosen _ _ e

pub slot-outside : (times s : ℕ) (heard : Reading) (v : Node) → has v.set s ≡ false → slot_by_cases times s heard v ≡ outside_slot s heard v
unfolding slot_by_cases
slot-outside times s heard v e = otherwise _ _ e

-- a message handed over in the own slot is ignored
pub slot-ignores : (times s : ℕ) (a b : Reading) (v : Node) → is_own s v ≡ true → slot_with times s a v ≡ slot_with times s b v
unfolding slot_from noted
slot-ignores times s a b v e = rw e refl
