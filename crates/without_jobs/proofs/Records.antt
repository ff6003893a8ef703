-- No rule of a record looks at the number of jobs: a rule on a record with m forgotten makes what it makes of the record, with m forgotten. Assumes nothing.
use Rattle.std.specs.Prelude.{Err, Option, Ok}
use Prim.Native.Nat.{ℕ, zero, suc, ◌+◌}
use mathlib.Core.Path.{◌≡◌, refl, sym, ap, ap₂, ◌∙◌}
use mathlib.Core.Bool.{Bool, true, false, cond, not, ◌&&◌, ◌||◌, true≢false}
use lib.Dec.{eqb, leb, ltb}
use Rattle.ledger.specs.nodeset.Sets.{has, with, without, with_if}
use Rattle.ledger.proofs.nodeset.Tests.{by_cases}
use Rattle.ledger.specs.cable.declared.Cable.{Cable}
use Rattle.ledger.specs.slot_table.Order.{is_kept}
use Rattle.ledger.specs.cable.Cable.{ring_size, lag_fits, sponsor_count, job_count, cable_fits, may_set_up, fault_of}
use Rattle.ledger.specs.ring.declared.Found.{Found}
use Rattle.ledger.specs.ring.Ring.{member_before, member_in, is_found, sender, sponsors, sponsored, decided}
use Rattle.ledger.proofs.ring_laws.Alike.{before-alike, sponsored-alike, decided-alike}
use Rattle.ledger.specs.message.Answers.{Reading}
use Rattle.ledger.specs.node_record.declared.Node.{Node}
use Rattle.ledger.specs.node_record.declared.Window.{Window}
use Rattle.ledger.specs.node_record.declared.Cause.{Cause}
use Rattle.ledger.specs.node_record.declared.State.{State}
use Rattle.ledger.specs.node_record.declared.State.TheVariants.{Member, Listening, Following, Knocking, Out}
use Rattle.ledger.specs.node_record.States.{is_member, is_following, is_knocking, is_out, leaving_cause}
use Rattle.ledger.specs.node_record.Soundness.{sound, limit}
use Rattle.ledger.specs.node_record.Sponsoring.{sponsors_in}
use Rattle.ledger.proofs.node_record.Facts.{clauses, sound-by}
use Rattle.ledger.specs.node_changes.Changes.{with_set, out_for, fresh, leave, listening_after, following_with, with_window, with_marks, with_returning, counted}
use Rattle.ledger.specs.node_steps.Steps.{is_heard, is_own, own_marks, confirmed, says_so, says, heard_marks, read_marks, marks_after, read_yes, yes_after, missed_return, heard_return, marked, noted, leaves, departed, departed_in, leaves_in, too_few, nothing_heard, joins, joined, join, after_message, settle, slot_from, tracking_slot}
use Rattle.ledger.specs.node_hearing.Hearing.{window_after, clean, window_end, goes_on, listening_slot}
use Rattle.ledger.specs.node_sending.Sending.{mark_bits, bits_sent}
use Rattle.ledger.specs.node_slot.Slot.{slot_in, after_slot}
use Rattle.ledger.specs.node.Calls.{Stepped, done, refused, step_of, off_of, restart_of}
use Rattle.without_jobs.specs.Without.{without_jobs, forget, forget_stepped}

-- ---- choices

-- of two records that are alike but for m, by one test
pub alike : (b : Bool) {x' y' : Node} (x y : Node) → x' ≡ forget x → y' ≡ forget y → cond b x' y' ≡ forget (cond b x y)
alike true x y p q = p
alike false x y p q = q

pub answers-alike : {b' b : Bool} {x' y' : Stepped} (x y : Stepped) → b' ≡ b → x' ≡ forget_stepped x → y' ≡ forget_stepped y → cond b' x' y' ≡ forget_stepped (cond b x y)
answers-alike {b = b} {x' = x'} {y' = y'} x y e p q = ap (λ (c : Bool). cond c x' y') e ∙ go b
  where
    go : (c : Bool) → cond c x' y' ≡ forget_stepped (cond c x y)
    go true = p
    go false = q

-- ---- the choices of a set-up, of which the number of jobs is in range

module _ (cable : Cable) (few : job_count cable.m ≡ true) where
  pub fits-same : cable_fits (without_jobs cable) ≡ cable_fits cable
  fits-same = ap (λ (b : Bool). ring_size cable.n && (lag_fits cable.lag && (sponsor_count cable && (b && is_kept cable.n cable.order)))) (sym few)

  pub may-same : (places : ℕ) → may_set_up (without_jobs cable) places ≡ may_set_up cable places
  may-same places = ap (λ (b : Bool). b && eqb places cable.n) fits-same

  pub fault-same : (places : ℕ) → fault_of (without_jobs cable) places ≡ fault_of cable places
  fault-same places =
      ap (λ (b : Bool). cond (ring_size cable.n) (cond (lag_fits cable.lag) (cond (sponsor_count cable) (cond b (cond (eqb places cable.n) 18 17) 14) 2) 16) 1) (sym few)

-- ---- the ring

before_same : (cable : Cable) (set x j : ℕ) → member_before (without_jobs cable) set x j ≡ member_before cable set x j
before_same cable = before-alike (without_jobs cable) cable refl refl

sponsored-same : (cable : Cable) (set x j : ℕ) → sponsored (without_jobs cable) set x j ≡ sponsored cable set x j
sponsored-same cable = sponsored-alike (without_jobs cable) cable refl refl refl refl

decided-same : (cable : Cable) (set x : ℕ) → decided (without_jobs cable) set x ≡ decided cable set x
decided-same cable = decided-alike (without_jobs cable) cable refl refl refl refl

-- ---- step 1

confirmed-same : (j s bits : ℕ) (v : Node) → confirmed j s bits (forget v) ≡ confirmed j s bits v
unfolding forget confirmed
confirmed-same zero s bits v = refl
confirmed-same (suc j) s bits v =
    ap₂ (λ (marks : ℕ) (f : Option Found). cond (has bits (suc j)) (with marks (member_in f)) marks) (confirmed-same j s bits v) (sponsored-same v.cable v.set s (suc j))

says_same : (answer : Bool) (j s bits : ℕ) (v : Node) → says answer j s bits (forget v) ≡ says answer j s bits v
unfolding forget says
says_same answer zero s bits v = refl
says_same answer (suc j) s bits v =
    ap₂ (λ (b : Bool) (f : Option Found). b || (is_found v.own f && says_so answer (has bits (suc j)))) (says_same answer j s bits v) (sponsored-same v.cable v.set s (suc j))

heard-marks : (s bits : ℕ) (v : Node) → heard_marks s bits (forget v) ≡ heard_marks s bits v
unfolding forget heard_marks sponsors
heard-marks s bits v =
    ap₂ (λ (marks : ℕ) (no : Bool). cond (no && not v.yes_heard) (without marks v.own) marks)
    (confirmed-same (sponsors_in v) s bits v) (says_same false (sponsors_in v) s bits v)

read-marks : (s : ℕ) (heard : Reading) (v : Node) → read_marks s heard (forget v) ≡ read_marks s heard v
unfolding forget
read-marks s (Ok h) v = heard-marks s h.acknowledgements v
read-marks s (Err r) v = refl

marks-after : (s : ℕ) (heard : Reading) (v : Node) → marks_after s heard (forget v) ≡ marks_after s heard v
unfolding forget
marks-after s heard v = ap (λ (marks : ℕ). cond (is_own s v) (own_marks v) marks) (read-marks s heard v)

read-yes : (s : ℕ) (heard : Reading) (v : Node) → read_yes s heard (forget v) ≡ read_yes s heard v
unfolding forget sponsors
read-yes s (Ok h) v = ap (λ (b : Bool). v.yes_heard || b) (says_same true (sponsors_in v) s h.acknowledgements v)
read-yes s (Err r) v = refl

yes-after : (s : ℕ) (heard : Reading) (v : Node) → yes_after s heard (forget v) ≡ yes_after s heard v
unfolding forget
yes-after s heard v = ap (λ (b : Bool). not (is_own s v) && b) (read-yes s heard v)

marked-same : (s : ℕ) (heard : Reading) (v : Node) → marked s heard (forget v) ≡ forget (marked s heard v)
unfolding forget
marked-same s heard v = ap₂ (λ (marks : ℕ) (yes : Bool). with_marks marks yes (heard_return s heard v) (forget v)) (marks-after s heard v) (yes-after s heard v)

-- ---- step 2

noted-same : (s : ℕ) (heard : Reading) (v : Node) → noted s heard (forget v) ≡ forget (noted s heard v)
unfolding forget noted
noted-same s heard v =
    alike (is_own s v) _ _
    (alike (is_following v.state && eqb v.returning 0) (with_returning Knocking v.own v) v refl refl)
    (alike (is_heard heard && eqb v.returning 0) (with_returning v.state s v) v refl refl)

-- ---- step 3

leaves-same : (s : ℕ) (v : Node) (x : ℕ) → leaves s (forget v) x ≡ leaves s v x
unfolding forget
leaves-same s v x = ap (λ (f : Option Found). is_found x f && not (has v.present x)) (decided-same v.cable v.set s)

departed-same : (s : ℕ) (v : Node) → departed s (forget v) ≡ forget (departed s v)
unfolding forget
departed-same s v = ap (λ (f : Option Found). with_set (cond (is_found (member_in f) f && not (has v.present (member_in f))) (without v.set (member_in f)) v.set) (forget v)) (decided-same v.cable v.set s)

departed-in : (times s : ℕ) (v : Node) → departed_in times s (forget v) ≡ forget (departed_in times s v)
unfolding departed_in
departed-in zero s v = refl
departed-in (suc times) s v = ap (departed_in times s) (departed-same s v) ∙ departed-in times s (departed s v)

leaves-in : (times s : ℕ) (v : Node) → leaves_in times s (forget v) ≡ leaves_in times s v
unfolding forget leaves_in
leaves-in zero s v = refl
leaves-in (suc times) s v = ap₂ (λ (a b : Bool). a || b) (leaves-same s v v.own) (ap (leaves_in times s) (departed-same s v) ∙ leaves-in times s (departed s v))

-- ---- steps 4 and 5

leave_same : (cause : Cause) (v : Node) → leave cause (forget v) ≡ forget (leave cause v)
unfolding forget leave
leave_same cause v = alike (is_member v.state) (out_for cause v) (fresh v) refl refl

join-same : (v : Node) → join (forget v) ≡ forget (join v)
unfolding forget join
join-same v = alike (is_knocking v.state && not v.return_heard) (with_returning Following 0 v) (joined v) refl refl

settle-same : (inside : Bool) (s : ℕ) (v : Node) → settle inside s (forget v) ≡ forget (settle inside s v)
unfolding forget settle
settle-same inside s v =
    alike (too_few v) _ _ refl
    (alike (nothing_heard v) _ _ (leave_same (leaving_cause 2) v)
    (ap (λ (f : Option Found). cond (inside && (not (eqb v.returning 0) && is_found s f)) (join (forget v)) (forget v)) (before_same v.cable v.set v.returning 1)
    ∙ alike (inside && joins s v) _ _ (join-same v) refl))

-- ---- one slot

after-message : (inside : Bool) (s : ℕ) (heard : Reading) (v : Node) → after_message inside s heard (forget v) ≡ forget (after_message inside s heard v)
after-message inside s heard v = alike inside (marked s heard v) (noted s heard v) (marked-same s heard v) (noted-same s heard v)

slot-from : (times s : ℕ) (heard : Reading) (v w : Node) → slot_from times s heard (forget v) (forget w) ≡ forget (slot_from times s heard v w)
unfolding forget slot_from
slot-from times s heard v w =
    let inside = has v.set s in
    ap (λ (b : Bool). cond (inside && missed_return s heard v) (leave (leaving_cause 3) (forget v)) (cond (inside && b) (leave (leaving_cause 1) (forget w)) (settle inside s (cond inside (departed_in times s (forget w)) (forget w))))) (leaves-in times s w)
    ∙ alike (inside && missed_return s heard v) _ _ (leave_same (leaving_cause 3) v)
    (alike (inside && leaves_in times s w) _ _ (leave_same (leaving_cause 1) w)
    (ap (settle inside s) (alike inside (departed_in times s w) w (departed-in times s w) refl) ∙ settle-same inside s (cond inside (departed_in times s w) w)))

tracking-same : (s : ℕ) (heard : Reading) (v : Node) → tracking_slot s heard (forget v) ≡ forget (tracking_slot s heard v)
unfolding forget tracking_slot
tracking-same s heard v =
    ap (slot_from v.cable.n s heard (forget v)) (after-message (has v.set s) s heard v)
    ∙ slot-from v.cable.n s heard v (after_message (has v.set s) s heard v)

window-end : (w : Window) (v : Node) → window_end w (forget v) ≡ forget (window_end w v)
unfolding forget window_end clean
window-end w v =
    alike (clean v.cable w) _ (listening_after 0 v)
    (alike (eqb w.last w.heard) (following_with w.heard v) (listening_after w.heard v) refl refl)
    refl

goes-on : (w : Window) (v : Node) → goes_on w (forget v) ≡ forget (goes_on w v)
unfolding forget goes_on
goes-on w v = alike (ltb w.done v.cable.n) (with_window w v) (window_end w v) refl (window-end w v)

listening-same : (s : ℕ) (heard : Reading) (v : Node) → listening_slot s heard (forget v) ≡ forget (listening_slot s heard v)
unfolding forget listening_slot
listening-same s heard v = goes-on (window_after s heard v) v

slot-in : (state : State) (s : ℕ) (heard : Reading) (v : Node) → slot_in state s heard (forget v) ≡ forget (slot_in state s heard v)
slot-in Member s heard v = tracking-same s heard v
slot-in Listening s heard v = listening-same s heard v
slot-in Following s heard v = tracking-same s heard v
slot-in Knocking s heard v = tracking-same s heard v
slot-in (Out cause) s heard v = refl

after-slot : (s : ℕ) (heard : Reading) (v : Node) → after_slot s heard (forget v) ≡ forget (after_slot s heard v)
unfolding forget after_slot
after-slot s heard v = slot-in v.state s heard v

-- ---- soundness: a record with another number of jobs in range is sound too

-- a record with so many jobs
abbrev with_jobs : ℕ → Node → Node
with_jobs m v = record { cable = record { n = v.cable.n; k = v.cable.k; m = m; lag = v.cable.lag; order = v.cable.order }; own = v.own; slots = v.slots; state = v.state; set = v.set; present = v.present; returning = v.returning; return_heard = v.return_heard; yes_heard = v.yes_heard; listening = v.listening }

sound-with : (m : ℕ) (v : Node) → job_count m ≡ true → sound v ≡ true → sound (with_jobs m v) ≡ true
sound-with m v few e =
    let c = clauses v e in
    sound-by (with_jobs m v) (record {
      choices = record { ring = c.choices.ring; lag = c.choices.lag; sponsors = c.choices.sponsors; jobs = few; order = c.choices.order };
      own = c.own;
      slots = c.slots;
      sets = c.sets;
      returning = c.returning;
      own_in = c.own_in;
      knock = c.knock;
      empty = c.empty;
      heard = c.heard;
      yes = c.yes;
      window = c.window;
      enough = c.enough;
    })

sound-same : (v : Node) → sound v ≡ true → sound (forget v) ≡ true
unfolding forget
sound-same v e = sound-with 0 v refl e

-- ---- the calls on a record whose number of jobs is in range

module _ (v : Node) (few : job_count v.cable.m ≡ true) where
  pub record-sound : sound (forget v) ≡ sound v
  unfolding forget
  record-sound =
      by_cases (sound v)
      (λ e. sound-same v e ∙ sym e)
      (λ e. by_cases (sound (forget v)) (λ f. absurd (true≢false (sym (sound-with v.cable.m (forget v) few f) ∙ e))) (λ f. f ∙ sym e))

  pub step_same : (heard : Reading) → step_of heard (forget v) ≡ forget_stepped (step_of heard v)
  unfolding forget step_of sender
  step_same heard =
      let s = sender v.cable (v.slots + 1) in
      let after = done (after_slot s heard (counted v)) in
      answers-alike (cond (leb limit v.slots) (refused 5 v) after) (refused 4 v) record-sound
      (answers-alike {b = leb limit v.slots} (refused 5 v) after refl refl (ap done (after-slot s heard (counted v))))
      refl

  pub off-same : off_of (forget v) ≡ forget_stepped (off_of v)
  unfolding forget off_of
  off-same = answers-alike (done (out_for (leaving_cause 4) v)) (refused 4 v) record-sound refl refl

  pub restart-same : restart_of (forget v) ≡ forget_stepped (restart_of v)
  unfolding forget restart_of
  restart-same =
      answers-alike (cond (is_out v.state) (done (fresh v)) (refused 11 v)) (refused 4 v) record-sound
      (answers-alike {b = is_out v.state} (done (fresh v)) (refused 11 v) refl refl refl)
      refl

-- ---- sending

mark-bits : (j : ℕ) (v : Node) → mark_bits j (forget v) ≡ mark_bits j v
unfolding forget mark_bits
mark-bits zero v = refl
mark-bits (suc j) v =
    ap₂ (λ (bits : ℕ) (f : Option Found). with_if (has v.present (member_in f)) bits (suc j)) (mark-bits j v) (sponsored-same v.cable v.set v.own (suc j))

pub bits-sent : (v : Node) → bits_sent (forget v) ≡ bits_sent v
unfolding forget bits_sent sponsors
bits-sent v = ap (λ (bits : ℕ). cond (is_member v.state) bits 0) (mark-bits (sponsors_in v) v)
