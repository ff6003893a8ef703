-- One slot of a member, following or knocking node (specs/Steps) keeps its record sound. Each step keeps the facts of `Tracking`; at the end
-- either the node has left or started afresh, or the set is large enough. Assumes nothing.
use Rattle.std.specs.Prelude.{Err, None, Option, Ok, Some}
use Prim.Native.Nat.{ℕ, zero, suc, ◌^◌, ◌≤◌, ◌<◌}
use mathlib.Core.Path.{◌≡◌, refl, sym, ap, ◌∙◌}
use mathlib.Core.Logic.{◌≢◌}
use mathlib.Core.Bool.{Bool, true, false, not, ◌&&◌, ◌||◌, true≢false}
use native.Mathlib.Omega.{arith}
use native.Mathlib.Decide.{ℕ_discrete}
use lib.Dec.{eqb, ltb}
use borrow.Author.Tests.{eqb-true, eqb-false, eq-eqb, ne_eqb, ltb-false, not-true, le-leb}
use Rattle.nodeset.specs.Sets.{has, with, without, size}
use Rattle.nodeset.proofs.Tests.{by_cases, both, all, or_else}
use Rattle.nodeset.proofs.Laws.{has-with, has-with-other, has-without, has-without-other, with-lt, without-lt, has-range}
use Rattle.nodeset.proofs.Counts.{size-with}
use Rattle.row.specs.ring.declared.Found.{Found}
use Rattle.cable.specs.Cable.{node_number}
use Rattle.row.specs.ring.Ring.{member_in, is_found}
use Rattle.cable.proofs.Ranges.{ring-size, node-number}
use Rattle.row.proofs.ring.Members.{sponsored-member}
use Rattle.message.specs.Answers.{Reading}
use Rattle.node_record.specs.declared.Node.{Node}
use Rattle.node_record.specs.declared.State.{State}
use Rattle.node_record.specs.declared.State.TheVariants.{Member, Listening, Following, Knocking, Out}
use Rattle.node_record.specs.declared.Cause.TheVariants.{Unconfirmed, NothingHeard, MissedReturn}
use Rattle.node_record.specs.States.{is_member, is_following, is_knocking}
use Rattle.node_record.specs.Soundness.{sound}
use Rattle.node_record.specs.Sponsoring.{sponsors_in, sponsored_in, decided_in}
use Rattle.node_record.proofs.Tracking.{Tracking, tracks, tracking-sound}
use Rattle.node_changes.specs.Changes.{with_set, with_returning}
use Rattle.node_changes.proofs.Sound.{InRange, fresh-sound, leave-sound}
use Rattle.node_steps.specs.Steps.{is_heard, return_in, is_own, confirmed, says, hears_no, hears_yes, heard_marks, read_marks, marks_after, read_yes, noted, leaves, too_few, nothing_heard, joins, state_on_list, joined, join, settle}
use Rattle.node_steps.proofs.Answers.{told-by}
use Rattle.node_steps.specs.Inner.{read_return, read_marked, departing, inside_slot, outside_slot, slot_by_cases}
use Rattle.row.specs.ring.Ring.{found}

numbers : (v : Node) → Tracking v → InRange v.cable v.own v.slots
numbers v k = record { choices = k.choices; own-in = k.own; slots-in = k.slots }

-- ---- marks within a set

record Marks (n set marks : ℕ) : Type 0 where
  lt : marks < 2 ^ n
  within : (x : ℕ) → has marks x ≡ true → has set x ≡ true

-- a member more is marked
with-marks : (n set marks m : ℕ) → n ≤ 32 → set < 2 ^ n → has set m ≡ true → Marks n set marks → Marks n set (with marks m)
with-marks n set marks m h l e k =
    let r = has-range n set m l e in
    record { lt = with-lt n marks m r.1 k.lt; within = λ x f. go x (ℕ_discrete m x) f }
  where
    go : (x : ℕ) → Dec (m ≡ x) → has (with marks m) x ≡ true → has set x ≡ true
    go x (yes p) f = ap (has set) (sym p) ∙ e
    go x (no p) f = k.within x (sym (has-with-other marks m x p) ∙ f)

without-marks : (n set marks m : ℕ) → Marks n set marks → Marks n set (without marks m)
without-marks n set marks m k = record { lt = without-lt n marks m k.lt; within = λ x f. go x (ℕ_discrete m x) f }
  where
    go : (x : ℕ) → Dec (m ≡ x) → has (without marks m) x ≡ true → has set x ≡ true
    go x (yes p) f = absurd (true≢false (sym f ∙ ap (has (without marks m)) (sym p) ∙ has-without marks m))
    go x (no p) f = k.within x (sym (has-without-other marks m x p) ∙ f)

-- ---- step 1

-- a sponsored member, if there is one, is marked
found-marks : (n set marks : ℕ) (f : Option Found) → n ≤ 32 → set < 2 ^ n → ((m back : ℕ) → f ≡ found m back → has set m ≡ true) → Marks n set marks → Marks n set (with marks (member_in f))
unfolding with
found-marks n set marks (Some f) h l e k = with-marks n set marks f.member h l (e f.member f.back refl) k
found-marks n set marks None h l e k = k

confirmed-marks : (j s bits : ℕ) (v : Node) → v.cable.n ≤ 32 → v.set < 2 ^ v.cable.n → has v.set s ≡ true → Marks v.cable.n v.set v.present → Marks v.cable.n v.set (confirmed j s bits v)
unfolding confirmed
confirmed-marks zero s bits v h l e k = with-marks v.cable.n v.set v.present s h l e k
confirmed-marks (suc j) s bits v h l e k =
    let r = confirmed-marks j s bits v h l e k in
    let f = sponsored_in s (suc j) v in
    by_cases (has bits (suc j))
    (λ t. rw t (found-marks v.cable.n v.set (confirmed j s bits v) f h l (λ m q. sponsored-member v.cable v.set s (suc j) m q) r))
    (λ t. rw t r)

heard-marks : (s bits : ℕ) (v : Node) → v.cable.n ≤ 32 → v.set < 2 ^ v.cable.n → has v.set s ≡ true → Marks v.cable.n v.set v.present → Marks v.cable.n v.set (heard_marks s bits v)
unfolding heard_marks
heard-marks s bits v h l e k =
    let marks = confirmed (sponsors_in v) s bits v in
    let m = confirmed-marks (sponsors_in v) s bits v h l e k in
    by_cases (hears_no s bits v && not v.yes_heard) (λ t. rw t (without-marks v.cable.n v.set marks v.own m)) (λ t. rw t m)

read-marks : (s : ℕ) (heard : Reading) (v : Node) → v.cable.n ≤ 32 → v.set < 2 ^ v.cable.n → has v.set s ≡ true → Marks v.cable.n v.set v.present → Marks v.cable.n v.set (read_marks s heard v)
read-marks s (Ok said) v h l e k = heard-marks s said.acknowledgements v h l e k
read-marks s (Err r) v h l e k = without-marks v.cable.n v.set v.present s k

marks-after : (s : ℕ) (heard : Reading) (v : Node) → v.cable.n ≤ 32 → v.set < 2 ^ v.cable.n → has v.set s ≡ true → Marks v.cable.n v.set v.present → Marks v.cable.n v.set (marks_after s heard v)
marks-after s heard v h l e k =
    by_cases (is_own s v)
    (λ t. rw t (with-marks v.cable.n v.set v.present v.own h l (ap (has v.set) (sym (eqb-true s v.own t)) ∙ e) k))
    (λ t. rw t (read-marks s heard v h l e k))

-- an acknowledgement is for a node in the set
says-in : (answer : Bool) (j s bits : ℕ) (v : Node) → says answer j s bits v ≡ true → has v.set v.own ≡ true
says-in answer j s bits v e =
    let t = told-by answer j s bits v e in
    sponsored-member v.cable v.set s (suc t.i) v.own t.it.back t.it.it

-- a yes is heard by a member only
yes-member : (s : ℕ) (heard : Reading) (v : Node) → Tracking v → read_yes s heard v ≡ true → is_member v.state ≡ true
yes-member s (Ok h) v k e =
    by_cases v.yes_heard (λ t. k.yes t) (λ t. k.own_in ∙ says-in true (sponsors_in v) s h.acknowledgements v (or_else v.yes_heard (hears_yes s h.acknowledgements v) e t))
yes-member s (Err r) v k e = k.yes e

-- return heard is set only while knocking
heard-knocking : (a b c : Bool) → (a ≡ true → b ≡ true) → (a || (b && c)) ≡ true → b ≡ true
heard-knocking true b c f e = f refl
heard-knocking false true c f e = refl
heard-knocking false false c f e = e

marked-tracks : (s : ℕ) (heard : Reading) (v : Node) → has v.set s ≡ true → Tracking v → Tracking (read_marked s heard v)
marked-tracks s heard v e k =
    let m = marks-after s heard v (ring-size v.cable.n k.choices.ring).1 k.set-in e (record { lt = k.marks-in; within = k.marked }) in
    record {
      choices = k.choices;
      own = k.own;
      slots = k.slots;
      tracking = k.tracking;
      set-in = k.set-in;
      marks-in = m.lt;
      marked = m.within;
      returning = k.returning;
      outside = k.outside;
      own_in = k.own_in;
      knock = k.knock;
      heard = heard-knocking v.return_heard (is_knocking v.state) (return_in heard) k.heard;
      yes = λ y. yes-member s heard v k (both (not (is_own s v)) (read_yes s heard v) y).1;
      window = k.window;
    }

-- ---- step 2

tracks-following : (s : State) → is_following s ≡ true → (is_member s ≡ false) × (is_knocking s ≡ false)
tracks-following Member e = absurd (true≢false (sym e))
tracks-following Listening e = (refl, refl)
tracks-following Following e = (refl, refl)
tracks-following Knocking e = absurd (true≢false (sym e))
tracks-following (Out cause) e = (refl, refl)

-- a following node knocks
knock-tracks : (v : Node) → is_following v.state ≡ true → Tracking v → Tracking (with_returning Knocking v.own v)
knock-tracks v e k =
    let f = tracks-following v.state e in
    let absent : has v.set v.own ≡ false = sym k.own_in ∙ f.0 in
    record {
      choices = k.choices;
      own = k.own;
      slots = k.slots;
      tracking = refl;
      set-in = k.set-in;
      marks-in = k.marks-in;
      marked = k.marked;
      returning = (node-number v.cable.n v.own k.own).1;
      outside = absent;
      own_in = sym absent;
      knock = sym (eq-eqb v.own v.own refl);
      heard = λ h. refl;
      yes = λ y. absurd (true≢false (sym (k.yes y) ∙ f.0));
      window = k.window;
    }

-- another node's knock is noted
note-tracks : (s : ℕ) (v : Node) → s ≤ v.cable.n → s ≢ v.own → has v.set s ≡ false → v.returning ≡ 0 → Tracking v → Tracking (with_returning v.state s v)
note-tracks s v l d e z k =
    let none : is_knocking v.state ≡ false = k.knock ∙ ne_eqb v.returning v.own (λ q. omega (arith, node-number v.cable.n v.own k.own)) in
    record {
      choices = k.choices;
      own = k.own;
      slots = k.slots;
      tracking = k.tracking;
      set-in = k.set-in;
      marks-in = k.marks-in;
      marked = k.marked;
      returning = l;
      outside = e;
      own_in = k.own_in;
      knock = none ∙ sym (ne_eqb s v.own d);
      heard = k.heard;
      yes = k.yes;
      window = k.window;
    }

noted-tracks : (s : ℕ) (heard : Reading) (v : Node) → s ≤ v.cable.n → has v.set s ≡ false → Tracking v → Tracking (noted s heard v)
unfolding noted
noted-tracks s heard v l e k =
    by_cases (eqb s v.own)
    (λ t. rw t (by_cases (is_following v.state && eqb v.returning 0)
    (λ f. rw f (knock-tracks v (both (is_following v.state) (eqb v.returning 0) f).0 k))
    (λ f. rw f k)))
    (λ t. rw t (by_cases (is_heard heard && eqb v.returning 0)
    (λ f. rw f (note-tracks s v l (eqb-false s v.own t) e (eqb-true v.returning 0 (both (is_heard heard) (eqb v.returning 0) f).1) k))
    (λ f. rw f k)))

-- ---- step 3

departed-tracks : (m : ℕ) (v : Node) → has v.present m ≡ false → m ≢ v.own → Tracking v → Tracking (with_set (without v.set m) v)
departed-tracks m v off d k =
    record {
      choices = k.choices;
      own = k.own;
      slots = k.slots;
      tracking = k.tracking;
      set-in = without-lt v.cable.n v.set m k.set-in;
      marks-in = k.marks-in;
      marked = λ x h. kept x h (ℕ_discrete m x);
      returning = k.returning;
      outside = still (ℕ_discrete m v.returning);
      own_in = k.own_in ∙ sym (has-without-other v.set m v.own d);
      knock = k.knock;
      heard = k.heard;
      yes = k.yes;
      window = k.window;
    }
  where
    kept : (x : ℕ) → has v.present x ≡ true → Dec (m ≡ x) → has (without v.set m) x ≡ true
    kept x h (yes p) = absurd (true≢false (sym h ∙ ap (has v.present) (sym p) ∙ off))
    kept x h (no p) = has-without-other v.set m x p ∙ k.marked x h

    still : Dec (m ≡ v.returning) → has (without v.set m) v.returning ≡ false
    still (yes p) = ap (has (without v.set m)) (sym p) ∙ has-without v.set m
    still (no p) = has-without-other v.set m v.returning p ∙ k.outside

-- ---- step 5

not-node-0 : (v : Node) → Tracking v → eqb 0 v.own ≡ false
not-node-0 v k = ne_eqb 0 v.own (λ z. omega (arith, node-number v.cable.n v.own k.own))

has-0 : (s : ℕ) → has s 0 ≡ false
unfolding has
has-0 s = refl

knocking-no-member : (s : State) → is_knocking s ≡ true → is_member s ≡ false
knocking-no-member Member e = sym e
knocking-no-member Listening e = refl
knocking-no-member Following e = refl
knocking-no-member Knocking e = refl
knocking-no-member (Out cause) e = refl

-- a knocking node that was not answered follows again
refollow-tracks : (v : Node) → is_knocking v.state ≡ true → v.return_heard ≡ false → Tracking v → Tracking (with_returning Following 0 v)
refollow-tracks v e f k =
    record {
      choices = k.choices;
      own = k.own;
      slots = k.slots;
      tracking = refl;
      set-in = k.set-in;
      marks-in = k.marks-in;
      marked = k.marked;
      returning = omega arith;
      outside = has-0 v.set;
      own_in = sym (knocking-no-member v.state e) ∙ k.own_in;
      knock = sym (not-node-0 v k);
      heard = λ h. absurd (true≢false (sym h ∙ f));
      yes = λ y. absurd (true≢false (sym (k.yes y) ∙ knocking-no-member v.state e));
      window = k.window;
    }

on-list-stays : (s : State) → is_knocking s ≡ false → state_on_list s ≡ s
on-list-stays Member e = refl
on-list-stays Listening e = refl
on-list-stays Following e = refl
on-list-stays Knocking e = absurd (true≢false e)
on-list-stays (Out cause) e = refl

on-list-member : (s : State) → is_knocking s ≡ true → state_on_list s ≡ Member
on-list-member Member e = refl
on-list-member Listening e = absurd (true≢false (sym e))
on-list-member Following e = absurd (true≢false (sym e))
on-list-member Knocking e = refl
on-list-member (Out cause) e = absurd (true≢false (sym e))

on-list-tracks : (s : State) → tracks s ≡ true → (tracks (state_on_list s) ≡ true) × (is_knocking (state_on_list s) ≡ false)
on-list-tracks Member e = (refl, refl)
on-list-tracks Listening e = (e, refl)
on-list-tracks Following e = (refl, refl)
on-list-tracks Knocking e = (refl, refl)
on-list-tracks (Out cause) e = (e, refl)

on-list-still : (s : State) → is_member s ≡ true → is_member (state_on_list s) ≡ true
on-list-still Member e = refl
on-list-still Listening e = e
on-list-still Following e = e
on-list-still Knocking e = refl
on-list-still (Out cause) e = e

joined-tracks : (v : Node) → node_number v.cable.n v.returning ≡ true → Tracking v → Tracking (joined v)
joined-tracks v e k =
    let r = node-number v.cable.n v.returning e in
    let l = on-list-tracks v.state k.tracking in
    record {
      choices = k.choices;
      own = k.own;
      slots = k.slots;
      tracking = l.0;
      set-in = with-lt v.cable.n v.set v.returning r.1 k.set-in;
      marks-in = with-lt v.cable.n v.present v.returning r.1 k.marks-in;
      marked = λ x h. kept x h (ℕ_discrete v.returning x);
      returning = omega arith;
      outside = has-0 (with v.set v.returning);
      own_in = by_cases (is_knocking v.state) itself others;
      knock = l.1 ∙ sym (not-node-0 v k);
      heard = λ h. absurd (true≢false (sym h));
      yes = λ y. on-list-still v.state (k.yes y);
      window = k.window;
    }
  where
    there : has (with v.set v.returning) v.returning ≡ true
    there =
        let r = node-number v.cable.n v.returning e in
        has-with v.set v.returning r.0 (omega (arith, r.1, ring-size v.cable.n k.choices.ring))

    kept : (x : ℕ) → has (with v.present v.returning) x ≡ true → Dec (v.returning ≡ x) → has (with v.set v.returning) x ≡ true
    kept x h (yes p) = ap (has (with v.set v.returning)) (sym p) ∙ there
    kept x h (no p) =
        has-with-other v.set v.returning x p ∙ k.marked x (sym (has-with-other v.present v.returning x p) ∙ h)

    itself : is_knocking v.state ≡ true → is_member (state_on_list v.state) ≡ has (with v.set v.returning) v.own
    itself t =
        let own : v.returning ≡ v.own = eqb-true v.returning v.own (sym k.knock ∙ t) in
        ap is_member (on-list-member v.state t) ∙ sym there ∙ ap (has (with v.set v.returning)) own

    others : is_knocking v.state ≡ false → is_member (state_on_list v.state) ≡ has (with v.set v.returning) v.own
    others t =
        ap is_member (on-list-stays v.state t) ∙ k.own_in
        ∙ sym (has-with-other v.set v.returning v.own (eqb-false v.returning v.own (sym k.knock ∙ t)))

-- ---- the order of the steps

-- "if fewer remain after step 3": they do not
enough-left : (v : Node) → too_few v ≡ false → is_member v.state ≡ false → 2 ≤ size v.cable.n v.set
enough-left v e m = ltb-false (size v.cable.n v.set) 2 (sym (ap (λ (b : Bool). not b && ltb (size v.cable.n v.set) 2) m) ∙ e)

joined-enough : (v : Node) → node_number v.cable.n v.returning ≡ true → Tracking v → (is_member v.state ≡ false → 2 ≤ size v.cable.n v.set)
    → is_member (state_on_list v.state) ≡ false → 2 ≤ size v.cable.n (with v.set v.returning)
joined-enough v e k two m =
    let r = node-number v.cable.n v.returning e in
    by_cases (is_knocking v.state)
    (λ t. absurd (true≢false (sym (ap is_member (on-list-member v.state t)) ∙ m)))
    (λ t.
    let h : 2 ≤ size v.cable.n v.set = two (sym (ap is_member (on-list-stays v.state t)) ∙ m) in
    omega (arith, size-with v.cable.n v.set v.returning r.0 r.1 (omega (arith, r.1, ring-size v.cable.n k.choices.ring)) k.outside))

join-sound : (s : ℕ) (v : Node) → joins s v ≡ true → Tracking v → (is_member v.state ≡ false → 2 ≤ size v.cable.n v.set) → sound (join v) ≡ true
unfolding join
join-sound s v j k two =
    by_cases (is_knocking v.state && not v.return_heard)
    (λ t.
    let b = both (is_knocking v.state) (not v.return_heard) t in
    rw t (tracking-sound (with_returning Following 0 v) (refollow-tracks v b.0 (not-true v.return_heard b.1) k) (λ m. two (knocking-no-member v.state b.0))))
    (λ t. rw t (tracking-sound (joined v) (joined-tracks v known k) (joined-enough v known k two)))
  where
    ne-pos : (x : ℕ) → x ≢ 0 → 1 ≤ x
    ne-pos zero e = absurd (e refl)
    ne-pos (suc x) e = omega arith

    known : node_number v.cable.n v.returning ≡ true
    known =
        let some = eqb-false v.returning 0 (not-true (eqb v.returning 0) (both (not (eqb v.returning 0)) _ j).0) in
        all (le-leb 1 v.returning (ne-pos v.returning some)) (le-leb v.returning v.cable.n k.returning)

settle-sound : (inside : Bool) (s : ℕ) (v : Node) → Tracking v → sound (settle inside s v) ≡ true
unfolding settle
settle-sound inside s v k =
    by_cases (too_few v)
    (λ t. rw t (fresh-sound v (numbers v k)))
    (λ t. rw t (by_cases (nothing_heard v)
    (λ h. rw h (leave-sound NothingHeard v (numbers v k)))
    (λ h. rw h (by_cases (inside && joins s v)
    (λ j. rw j (join-sound s v (both inside (joins s v) j).1 k (enough-left v t)))
    (λ j. rw j (tracking-sound v k (enough-left v t)))))))

leaves-found : (s m : ℕ) (f : Option Found) (v : Node) → (is_found m f && not (has v.present m)) ≡ true → has v.present m ≡ false
leaves-found s m f v e = not-true (has v.present m) (both (is_found m f) (not (has v.present m)) e).1

departing-sound : (times s : ℕ) (v : Node) → Tracking v → sound (departing times s v) ≡ true
unfolding departing
departing-sound zero s v k = settle-sound true s v k
departing-sound (suc times) s v k =
    let m = member_in (decided_in s v) in
    by_cases (leaves s v m)
    (λ t. rw t (by_cases (eqb m v.own)
    (λ o. rw o (leave-sound Unconfirmed v (numbers v k)))
    (λ o. rw o (departing-sound times s (with_set (without v.set m) v) (departed-tracks m v (leaves-found s m (decided_in s v) v t) (eqb-false m v.own o) k)))))
    (λ t. rw t (settle-sound true s v k))

pub slot-sound : (times s : ℕ) (heard : Reading) (v : Node) → s ≤ v.cable.n → Tracking v → sound (slot_by_cases times s heard v) ≡ true
unfolding slot_by_cases inside_slot outside_slot
slot-sound times s heard v l k =
    by_cases (has v.set s)
    (λ t. rw t (by_cases (read_return heard v)
    (λ m. rw m (leave-sound MissedReturn v (numbers v k)))
    (λ m. rw m (departing-sound times s (read_marked s heard v) (marked-tracks s heard v t k)))))
    (λ t. rw t (settle-sound false s (noted s heard v) (noted-tracks s heard v l t k)))
