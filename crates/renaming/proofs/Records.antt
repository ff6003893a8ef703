-- The rules know a node by its place alone: a rule on a renamed record makes the renamed one of what it makes of the record (`step-renamed`, `off-renamed`, `restart-renamed`, with equal answers;
-- `starting-renamed`), what is sent is equal (`sends-renamed`, `bits-renamed`, `return-renamed`), and a renamed record is sound (`sound-renamed`). Assumes that the cable's choices are in range and that the
-- record is a sound one with the plain table; within a slot it is only asked that the record's numbers are in range (`Good`).
use Rattle.std.specs.Prelude.{Err, Option, Ok}
use Prim.Native.Nat.{ℕ, zero, suc, ◌+◌, ◌^◌, ◌≤◌, ◌<◌}
use mathlib.Core.Path.{◌≡◌, refl, sym, ap, ap₂, ◌∙◌, subst⁻¹}
use mathlib.Core.Bool.{Bool, true, false, cond, not, ◌&&◌, ◌||◌}
use native.Mathlib.Omega.{arith}
use lib.Dec.{eqb, leb, ltb}
use borrow.Author.Tests.{eqb-true, eqb-false, leb-true, le-leb, ltb-true, lt-ltb}
use Rattle.ledger.specs.nodeset.Sets.{has, with, without, with_if, within, subset, size}
use Rattle.ledger.proofs.nodeset.Tests.{by_cases, both, all}
use Rattle.ledger.proofs.nodeset.Laws.{with-lt}
use Rattle.ledger.specs.cable.declared.Cable.{Cable}
use Rattle.ledger.specs.ring.declared.Found.{Found}
use Rattle.ledger.specs.cable.Cable.{cable_fits}
use Rattle.ledger.specs.ring.Ring.{sender, ks, member_before, sponsors, sponsored, decided, member_in, is_found}
use Rattle.ledger.proofs.cable.Ranges.{fitting, node-number}
use Rattle.ledger.specs.message.Answers.{Reading}
use Rattle.ledger.specs.node_record.declared.Node.{Node}
use Rattle.ledger.specs.node_record.declared.Window.{Window}
use Rattle.ledger.specs.node_record.declared.Cause.{Cause}
use Rattle.ledger.specs.node_record.declared.State.{State}
use Rattle.ledger.specs.node_record.declared.State.TheVariants.{Member, Listening, Following, Knocking, Out}
use Rattle.ledger.specs.node_record.States.{is_member, is_listening, is_following, is_knocking, is_out, leaving_cause}
use Rattle.ledger.specs.node_record.Soundness.{sound, limit, implies}
use Rattle.ledger.specs.node_record.Sponsoring.{sponsors_in, sponsored_in, decided_in}
use Rattle.ledger.proofs.node_record.Facts.{Clauses, clauses, sound-by, window-listening, window-other}
use Rattle.ledger.specs.node_changes.Changes.{starting, with_set, out_for, fresh, leave, listening_after, following_with, with_window, with_marks, with_returning, counted}
use Rattle.ledger.specs.node_steps.Steps.{is_heard, return_in, is_own, own_marks, confirmed, says_so, says, heard_marks, read_marks, marks_after, read_yes, yes_after, missed_return, heard_return, marked, noted, leaves, departed, departed_in, leaves_in, too_few, nothing_heard, joins, joined, join, after_message, settle, slot_from, tracking_slot}
use Rattle.ledger.specs.node_hearing.Hearing.{slot_unheard, overheard, window_after, clean, window_end, goes_on, listening_slot}
use Rattle.ledger.specs.node_sending.Sending.{sends, mark_bits, bits_sent, return_sent}
use Rattle.ledger.specs.node_slot.Slot.{slot_in, after_slot}
use Rattle.ledger.specs.node.Calls.{Stepped, done, refused, step_of, off_of, restart_of}
use Rattle.ledger.proofs.bench.Choices.{choose}
use Rattle.renaming.specs.Renamed.{plain_of, name_of, renamed}
use Rattle.renaming.proofs.Names.{cond-by, R, R-lt, R-none, R-full, R-with, R-without, R-size, R-subset, has-name, eqb-name, eqb-none, eqb-sets, eqb-empty, name-none, name-le, name-number, Named, named_in, named-is, before-name, sponsors-name, sponsored-name, decided-name, sender-name, plain-sender}

-- the record with other choices of set-up
abbrev with_cable : Cable → Node → Node
with_cable c v = record { cable = c; own = v.own; slots = v.slots; state = v.state; set = v.set; present = v.present; returning = v.returning; return_heard = v.return_heard; yes_heard = v.yes_heard; listening = v.listening }

-- the record with the plain table
abbrev pub on_plain : Cable → Node → Node
on_plain cable v = with_cable (plain_of cable) v

pub is_plain : (cable : Cable) (v : Node) → v.cable ≡ plain_of cable → v ≡ on_plain cable v
is_plain cable v e = ap (λ (c : Cable). with_cable c v) e

-- renamed, it is on the cable, whatever choices it had
abbrev pub renamed_plain : Cable → Node → Node
renamed_plain cable v = renamed cable (on_plain cable v)

-- what a call on a record answers, renamed
abbrev pub renamed_stepped : Cable → Stepped → Stepped
renamed_stepped cable x = record { node = renamed_plain cable x.node; answer = x.answer }

module _ (cable : Cable) (fits : cable_fits cable ≡ true) where
  open cable use {n}

  -- a node renamed, a set, a record and its listening data
  abbrev f : ℕ → ℕ
  f x = name_of cable x

  abbrev S : ℕ → ℕ
  S s = R cable fits s

  abbrev ren : Node → Node
  ren v = renamed_plain cable v

  abbrev ren_window : Window → Window
  ren_window w = record { done = w.done; heard = S w.heard; shortest = w.shortest; return_seen = w.return_seen; last = S w.last }

  -- The record has the plain table, and its numbers are in range.
  record Fit (c : Cable) (own returning heard last : ℕ) : Type 0 where
    on-plain : c ≡ plain_of cable
    own-pos : 1 ≤ own
    own-le : own ≤ n
    returning-le : returning ≤ n
    heard-lt : heard < 2 ^ n
    last-lt : last < 2 ^ n

  abbrev Good : Node → Type 0
  Good v = Fit v.cable v.own v.returning v.listening.heard v.listening.last

  -- ---- the ring of a record

  module _ (v : Node) (e : v.cable ≡ plain_of cable) where
    n-is : v.cable.n ≡ n
    n-is = ap (λ (c : Cable). c.n) e

    size-ren : (s : ℕ) → size n (S s) ≡ size v.cable.n s
    size-ren s = R-size cable fits s ∙ sym (ap (λ (m : ℕ). size m s) n-is)

    sponsors-ren : sponsors cable (S v.set) ≡ sponsors_in v
    sponsors-ren = sponsors-name cable fits v.set ∙ sym (ap (λ (c : Cable). sponsors c v.set) e)

    -- what is found with the plain table is found with the record's
    found-ren : {found' : Option Found} (look : Cable → Option Found) → Named cable fits found' (look (plain_of cable)) → Named cable fits found' (look v.cable)
    found-ren {found'} look r = subst⁻¹ (λ (c : Cable). Named cable fits found' (look c)) e r

    module _ (s : ℕ) (pos : 1 ≤ s) (le : s ≤ n) where
      sponsored-ren : (j : ℕ) → Named cable fits (sponsored cable (S v.set) (f s) j) (sponsored_in s j v)
      sponsored-ren j = found-ren (λ c. sponsored c v.set s j) (sponsored-name cable fits v.set s j pos le)

      decided-ren : Named cable fits (decided cable (S v.set) (f s)) (decided_in s v)
      decided-ren = found-ren (λ c. decided c v.set s) (decided-name cable fits v.set s pos le)

      before-ren : (j : ℕ) → Named cable fits (member_before cable (S v.set) (f s) j) (member_before v.cable v.set s j)
      before-ren j = found-ren (λ c. member_before c v.set s j) (before-name cable fits v.set s j pos le)

  -- ---- records made anew

  out-ren : (cause : Cause) (v : Node) → out_for cause (ren v) ≡ ren (out_for cause v)
  unfolding renamed
  out-ren cause v = rw (R-none cable fits, name-none cable fits) refl

  listening-ren : (last : ℕ) (v : Node) → v.cable ≡ plain_of cable → listening_after (S last) (ren v) ≡ ren (listening_after last v)
  unfolding renamed
  listening-ren last v e = rw (R-none cable fits, name-none cable fits, ap (λ (c : Cable). c.k) e) refl

  fresh-ren : (v : Node) → v.cable ≡ plain_of cable → fresh (ren v) ≡ ren (fresh v)
  fresh-ren v e = ap (λ (last : ℕ). listening_after last (ren v)) (sym (R-none cable fits)) ∙ listening-ren 0 v e

  following-ren : (s : ℕ) (v : Node) → following_with (S s) (ren v) ≡ ren (following_with s v)
  unfolding renamed
  following-ren s v = rw (R-none cable fits, name-none cable fits) refl

  pub starting-renamed : (p : ℕ) → starting cable (f p) ≡ ren (starting (plain_of cable) p)
  unfolding renamed
  starting-renamed p = rw (R-none cable fits, R-full cable fits, name-none cable fits) refl

  leave-ren : (cause : Cause) (v : Node) → v.cable ≡ plain_of cable → leave cause (ren v) ≡ ren (leave cause v)
  unfolding renamed leave
  leave-ren cause v e = cond-by ren (is_member v.state) (out_for cause v) (fresh v) refl (out-ren cause v) (fresh-ren v e)

  -- ---- what a node sends

  pub sends-renamed : (v : Node) → sends (ren v) ≡ sends v
  unfolding renamed
  sends-renamed v = ap (λ (b : Bool). is_member v.state || (is_following v.state && b)) (eqb-none cable fits v.returning)

  pub return-renamed : (v : Node) → return_sent (ren v) ≡ return_sent v
  unfolding renamed
  return-renamed v = ap (λ (b : Bool). is_member v.state && not b) (eqb-none cable fits v.returning)

  mark-bits : (j : ℕ) (v : Node) → Good v → mark_bits j (ren v) ≡ mark_bits j v
  unfolding renamed mark_bits
  mark-bits zero v G = refl
  mark-bits (suc j) v G =
      let r = sponsored-ren v G.on-plain v.own G.own-pos G.own-le (suc j) in
      let found = sponsored_in v.own (suc j) v in
      ap₂ (λ (bits : ℕ) (b : Bool). with_if b bits (suc j)) (mark-bits j v G)
      (ap (λ (x : Option Found). has (S v.present) (member_in x)) r.0 ∙ ap (has (S v.present)) (named_in cable fits found) ∙ has-name cable fits v.present (member_in found) r.1)

  bits-ren : (v : Node) → Good v → bits_sent (ren v) ≡ bits_sent v
  unfolding renamed bits_sent
  bits-ren v G =
      ap (λ (j : ℕ). cond (is_member v.state) (mark_bits j (ren v)) 0) (sponsors-ren v G.on-plain)
      ∙ ap (λ (bits : ℕ). cond (is_member v.state) bits 0) (mark-bits (sponsors_in v) v G)

  -- ---- one slot with sender s

  module _ (s : ℕ) (pos : 1 ≤ s) (le : s ≤ n) where
    -- ---- step 1

    own-ren : (v : Node) → is_own (f s) (ren v) ≡ is_own s v
    unfolding renamed
    own-ren v = eqb-name cable fits s v.own

    confirmed-ren : (j bits : ℕ) (v : Node) → Good v → confirmed j (f s) bits (ren v) ≡ S (confirmed j s bits v)
    unfolding renamed confirmed
    confirmed-ren zero bits v G = sym (R-with cable fits v.present s le)
    confirmed-ren (suc j) bits v G =
        let r = sponsored-ren v G.on-plain s pos le (suc j) in
        let m = member_in (sponsored_in s (suc j) v) in
        let marks = confirmed j s bits v in
        ap₂ (λ (found : Option Found) (old : ℕ). cond (has bits (suc j)) (with old (member_in found)) old) r.0 (confirmed-ren j bits v G)
        ∙ cond-by S (has bits (suc j)) (with marks m) marks refl (ap (with (S marks)) (named_in cable fits (sponsored_in s (suc j) v)) ∙ sym (R-with cable fits marks m r.1)) refl

    says-ren : (answer : Bool) (j bits : ℕ) (v : Node) → Good v → says answer j (f s) bits (ren v) ≡ says answer j s bits v
    unfolding renamed says
    says-ren answer zero bits v G = refl
    says-ren answer (suc j) bits v G =
        ap₂ (λ (a b : Bool). a || (b && says_so answer (has bits (suc j)))) (says-ren answer j bits v G)
        (ap (is_found (f v.own)) (sponsored-ren v G.on-plain s pos le (suc j)).0 ∙ named-is cable fits v.own (sponsored_in s (suc j) v))

    -- the same of all that s sponsors
    says_all : (answer : Bool) (bits : ℕ) (v : Node) → Good v → says answer (sponsors_in (ren v)) (f s) bits (ren v) ≡ says answer (sponsors_in v) s bits v
    unfolding renamed
    says_all answer bits v G =
        ap (λ (j : ℕ). says answer j (f s) bits (ren v)) (sponsors-ren v G.on-plain) ∙ says-ren answer (sponsors_in v) bits v G

    heard-marks : (bits : ℕ) (v : Node) → Good v → heard_marks (f s) bits (ren v) ≡ S (heard_marks s bits v)
    unfolding renamed heard_marks
    heard-marks bits v G =
        let marks = confirmed (sponsors_in v) s bits v in
        let e = ap (λ (j : ℕ). confirmed j (f s) bits (ren v)) (sponsors-ren v G.on-plain) ∙ confirmed-ren (sponsors_in v) bits v G in
        cond-by S (says false (sponsors_in v) s bits v && not v.yes_heard) (without marks v.own) marks
        (ap (λ (no : Bool). no && not v.yes_heard) (says_all false bits v G))
        (ap (λ (old : ℕ). without old (f v.own)) e ∙ sym (R-without cable fits marks v.own G.own-le))
        e

    read-marks : (heard : Reading) (v : Node) → Good v → read_marks (f s) heard (ren v) ≡ S (read_marks s heard v)
    unfolding renamed
    read-marks (Ok h) v G = heard-marks h.acknowledgements v G
    read-marks (Err r) v G = sym (R-without cable fits v.present s le)

    marks-after : (heard : Reading) (v : Node) → Good v → marks_after (f s) heard (ren v) ≡ S (marks_after s heard v)
    unfolding renamed
    marks-after heard v G =
        cond-by S (is_own s v) (own_marks v) (read_marks s heard v) (own-ren v) (sym (R-with cable fits v.present v.own G.own-le)) (read-marks heard v G)

    read-yes : (heard : Reading) (v : Node) → Good v → read_yes (f s) heard (ren v) ≡ read_yes s heard v
    unfolding renamed
    read-yes (Ok h) v G = ap (λ (b : Bool). v.yes_heard || b) (says_all true h.acknowledgements v G)
    read-yes (Err r) v G = refl

    yes-after : (heard : Reading) (v : Node) → Good v → yes_after (f s) heard (ren v) ≡ yes_after s heard v
    yes-after heard v G = ap₂ (λ (own yes : Bool). not own && yes) (own-ren v) (read-yes heard v G)

    missed-ren : (heard : Reading) (v : Node) → missed_return (f s) heard (ren v) ≡ missed_return s heard v
    unfolding renamed
    missed-ren heard v = ap₂ (λ (own none : Bool). (not own && return_in heard) && none) (own-ren v) (eqb-none cable fits v.returning)

    marked-ren : (heard : Reading) (v : Node) → Good v → marked (f s) heard (ren v) ≡ ren (marked s heard v)
    unfolding renamed
    marked-ren heard v G =
        ap₂ (λ (marks : ℕ) (own : Bool). with_marks marks (yes_after (f s) heard (ren v)) (v.return_heard || (is_knocking v.state && (not own && return_in heard))) (ren v)) (marks-after heard v G) (own-ren v)
        ∙ ap (λ (yes : Bool). with_marks (S (marks_after s heard v)) yes (heard_return s heard v) (ren v)) (yes-after heard v G)

    -- ---- step 2

    noted-ren : (heard : Reading) (v : Node) → noted (f s) heard (ren v) ≡ ren (noted s heard v)
    unfolding renamed noted
    noted-ren heard v =
        let none = eqb-none cable fits v.returning in
        cond-by ren (is_own s v) _ _ (own-ren v)
        (cond-by ren (is_following v.state && eqb v.returning 0) (with_returning Knocking v.own v) v (ap (λ (b : Bool). is_following v.state && b) none) refl refl)
        (cond-by ren (is_heard heard && eqb v.returning 0) (with_returning v.state s v) v (ap (λ (b : Bool). is_heard heard && b) none) refl refl)

    noted-good : (heard : Reading) (v : Node) → Good v → Good (noted s heard v)
    unfolding noted
    noted-good heard v G =
        choose Good (is_own s v) _ _
        (λ _. choose Good (is_following v.state && eqb v.returning 0) (with_returning Knocking v.own v) v (λ _. back_to v.own G.own-le) (λ _. G))
        (λ _. choose Good (is_heard heard && eqb v.returning 0) (with_returning v.state s v) v (λ _. back_to s le) (λ _. G))
      where
        back_to : (r : ℕ) → r ≤ n → Fit v.cable v.own r v.listening.heard v.listening.last
        back_to r l = record { on-plain = G.on-plain; own-pos = G.own-pos; own-le = G.own-le; returning-le = l; heard-lt = G.heard-lt; last-lt = G.last-lt }

    -- ---- step 3

    leaves-ren : (v : Node) → Good v → (x : ℕ) → x ≤ n → leaves (f s) (ren v) (f x) ≡ leaves s v x
    unfolding renamed
    leaves-ren v G x l =
        ap₂ (λ (a b : Bool). a && not b)
        (ap (is_found (f x)) (decided-ren v G.on-plain s pos le).0 ∙ named-is cable fits x (decided_in s v))
        (has-name cable fits v.present x l)

    departed-ren : (v : Node) → Good v → departed (f s) (ren v) ≡ ren (departed s v)
    unfolding renamed
    departed-ren v G =
        let r = decided-ren v G.on-plain s pos le in
        let m = member_in (decided_in s v) in
        let e = ap member_in r.0 ∙ named_in cable fits (decided_in s v) in
        ap (λ (set : ℕ). with_set set (ren v)) (
        ap (λ (x : ℕ). cond (leaves (f s) (ren v) x) (without (S v.set) x) (S v.set)) e
        ∙ cond-by S (leaves s v m) (without v.set m) v.set (leaves-ren v G m r.1) (sym (R-without cable fits v.set m r.1)) refl
        )

    departed-in : (times : ℕ) (v : Node) → Good v → departed_in times (f s) (ren v) ≡ ren (departed_in times s v)
    unfolding departed_in
    departed-in zero v G = refl
    departed-in (suc times) v G = ap (departed_in times (f s)) (departed-ren v G) ∙ departed-in times (departed s v) G

    leaves-in : (times : ℕ) (v : Node) → Good v → leaves_in times (f s) (ren v) ≡ leaves_in times s v
    unfolding renamed leaves_in
    leaves-in zero v G = refl
    leaves-in (suc times) v G =
        ap₂ (λ (a b : Bool). a || b) (leaves-ren v G v.own G.own-le) (ap (leaves_in times (f s)) (departed-ren v G) ∙ leaves-in times (departed s v) G)

    departed-good : (times : ℕ) (v : Node) → Good v → Good (departed_in times s v)
    unfolding departed_in
    departed-good zero v G = G
    departed-good (suc times) v G = departed-good times (departed s v) G

    -- ---- steps 4 and 5

    too-few : (v : Node) → Good v → too_few (ren v) ≡ too_few v
    unfolding renamed
    too-few v G = ap (λ (c : ℕ). not (is_member v.state) && ltb c 2) (size-ren v G.on-plain v.set)

    nothing-heard : (v : Node) → Good v → nothing_heard (ren v) ≡ nothing_heard v
    unfolding renamed
    nothing-heard v G =
        ap (λ (marks : ℕ). eqb (size n marks) 0) (sym (R-without cable fits v.present v.own G.own-le))
        ∙ ap (λ (c : ℕ). eqb c 0) (size-ren v G.on-plain (without v.present v.own))

    joins-ren : (v : Node) → Good v → joins (f s) (ren v) ≡ joins s v
    unfolding renamed
    joins-ren v G = ap (λ (b : Bool). not b && is_found (f s) found') (eqb-none cable fits v.returning) ∙ by_cases (eqb v.returning 0)
        (λ e. rw e refl)
        (λ e.
        let some = eqb-false v.returning 0 e in
        ap (λ (b : Bool). not (eqb v.returning 0) && b)
        (ap (is_found (f s)) (before-ren v G.on-plain v.returning (omega arith) G.returning-le 1).0 ∙ named-is cable fits s found))
      where
        found : Option Found
        found = member_before v.cable v.set v.returning 1

        found' : Option Found
        found' = member_before cable (S v.set) (f v.returning) 1

    joined-ren : (v : Node) → Good v → joined (ren v) ≡ ren (joined v)
    unfolding renamed
    joined-ren v G = rw (R-with cable fits v.set v.returning G.returning-le, R-with cable fits v.present v.returning G.returning-le, name-none cable fits) refl

    join-ren : (v : Node) → Good v → join (ren v) ≡ ren (join v)
    unfolding renamed join
    join-ren v G =
        cond-by ren (is_knocking v.state && not v.return_heard) (with_returning Following 0 v) (joined v) refl
        (ap (λ (r : ℕ). with_returning Following r (ren v)) (sym (name-none cable fits))) (joined-ren v G)

    settle-ren : (inside : Bool) (v : Node) → Good v → settle inside (f s) (ren v) ≡ ren (settle inside s v)
    unfolding settle
    settle-ren inside v G =
        cond-by ren (too_few v) _ _ (too-few v G) (fresh-ren v G.on-plain)
        (cond-by ren (nothing_heard v) _ _ (nothing-heard v G) (leave-ren (leaving_cause 2) v G.on-plain)
        (cond-by ren (inside && joins s v) (join v) v (ap (λ (b : Bool). inside && b) (joins-ren v G)) (join-ren v G) refl))

    -- ---- the steps in their order

    message-ren : (inside : Bool) (heard : Reading) (v : Node) → Good v → after_message inside (f s) heard (ren v) ≡ ren (after_message inside s heard v)
    message-ren inside heard v G = cond-by ren inside (marked s heard v) (noted s heard v) refl (marked-ren heard v G) (noted-ren heard v)

    message-good : (inside : Bool) (heard : Reading) (v : Node) → Good v → Good (after_message inside s heard v)
    message-good inside heard v G = choose Good inside (marked s heard v) (noted s heard v) (λ _. G) (λ _. noted-good heard v G)

    inside-ren : (v : Node) → has (ren v).set (f s) ≡ has v.set s
    unfolding renamed
    inside-ren v = has-name cable fits v.set s le

    slot-from : (times : ℕ) (heard : Reading) (v w : Node) → Good v → Good w → slot_from times (f s) heard (ren v) (ren w) ≡ ren (slot_from times s heard v w)
    unfolding slot_from
    slot-from times heard v w G H =
        let inside = has v.set s in
        ap rest (inside-ren v)
        ∙ cond-by ren (inside && missed_return s heard v) _ _ (ap (λ (b : Bool). inside && b) (missed-ren heard v)) (leave-ren (leaving_cause 3) v G.on-plain)
        (cond-by ren (inside && leaves_in times s w) _ _ (ap (λ (b : Bool). inside && b) (leaves-in times w H)) (leave-ren (leaving_cause 1) w H.on-plain)
        (ap (settle inside (f s)) (cond-by ren inside (departed_in times s w) w refl (departed-in times w H) refl)
        ∙ settle-ren inside (cond inside (departed_in times s w) w) (choose Good inside (departed_in times s w) w (λ _. departed-good times w H) (λ _. H))))
      where
        rest : Bool → Node
        rest inside =
            cond (inside && missed_return (f s) heard (ren v)) (leave (leaving_cause 3) (ren v))
            (cond (inside && leaves_in times (f s) (ren w)) (leave (leaving_cause 1) (ren w))
            (settle inside (f s) (cond inside (departed_in times (f s) (ren w)) (ren w))))

    tracking-ren : (heard : Reading) (v : Node) → Good v → tracking_slot (f s) heard (ren v) ≡ ren (tracking_slot s heard v)
    unfolding renamed tracking_slot
    tracking-ren heard v G =
        let inside = has v.set s in
        ap₂ (λ (times : ℕ) (b : Bool). slot_from times (f s) heard (ren v) (after_message b (f s) heard (ren v))) (sym (n-is v G.on-plain)) (inside-ren v)
        ∙ ap (slot_from v.cable.n (f s) heard (ren v)) (message-ren inside heard v G)
        ∙ slot-from v.cable.n heard v (after_message inside s heard v) G (message-good inside heard v G)

    -- ---- listening

    overheard-ren : (heard : Reading) (w : Window) → overheard (f s) heard (ren_window w) ≡ ren_window (overheard s heard w)
    overheard-ren (Ok h) w = rw (R-with cable fits w.heard s le) refl
    overheard-ren (Err r) w = refl

    window-after : (heard : Reading) (v : Node) → window_after (f s) heard (ren v) ≡ ren_window (window_after s heard v)
    unfolding renamed
    window-after heard v = cond-by ren_window (is_own s v) (slot_unheard v.listening) (overheard s heard v.listening) (own-ren v) refl (overheard-ren heard v.listening)

    -- the nodes heard and those of the last clean window are nodes
    InRange : Window → Type 0
    InRange w = (w.heard < 2 ^ n) × (w.last < 2 ^ n)

    window-in : (heard : Reading) (v : Node) → Good v → InRange (window_after s heard v)
    unfolding InRange
    window-in heard v G = choose InRange (is_own s v) (slot_unheard v.listening) (overheard s heard v.listening) (λ _. (G.heard-lt, G.last-lt)) (λ _. go heard)
      where
        go : (heard : Reading) → InRange (overheard s heard v.listening)
        go (Ok h) = (with-lt n v.listening.heard s le G.heard-lt, G.last-lt)
        go (Err r) = (G.heard-lt, G.last-lt)

    clean-ren : (w : Window) → clean cable (ren_window w) ≡ clean (plain_of cable) w
    unfolding clean
    clean-ren w = ap (λ (count : ℕ). leb 2 count && (not w.return_seen && leb (ks cable count) w.shortest)) (R-size cable fits w.heard)

    window-end : (w : Window) (v : Node) → InRange w → v.cable ≡ plain_of cable → window_end (ren_window w) (ren v) ≡ ren (window_end w v)
    unfolding renamed window_end InRange
    window-end w v r e =
        cond-by ren (clean v.cable w) _ _ (clean-ren w ∙ sym (ap (λ (c : Cable). clean c w) e))
        (cond-by ren (eqb w.last w.heard) (following_with w.heard v) (listening_after w.heard v) (eqb-sets cable fits w.last w.heard r.1 r.0) (following-ren w.heard v) (listening-ren w.heard v e))
        (fresh-ren v e)

    listening-slot : (heard : Reading) (v : Node) → Good v → listening_slot (f s) heard (ren v) ≡ ren (listening_slot s heard v)
    unfolding renamed listening_slot goes_on
    listening-slot heard v G =
        let w = window_after s heard v in
        ap (λ (w : Window). cond (ltb w.done n) (with_window w (ren v)) (window_end w (ren v))) (window-after heard v)
        ∙ cond-by ren (ltb w.done v.cable.n) (with_window w v) (window_end w v) (ap (ltb w.done) (sym (n-is v G.on-plain))) refl (window-end w v (window-in heard v G) G.on-plain)

    -- ---- a slot in any state

    slot-in : (state : State) (heard : Reading) (v : Node) → Good v → slot_in state (f s) heard (ren v) ≡ ren (slot_in state s heard v)
    slot-in Member heard v G = tracking-ren heard v G
    slot-in Listening heard v G = listening-slot heard v G
    slot-in Following heard v G = tracking-ren heard v G
    slot-in Knocking heard v G = tracking-ren heard v G
    slot-in (Out cause) heard v G = refl

    slot-ren : (heard : Reading) (v : Node) → Good v → after_slot (f s) heard (ren v) ≡ ren (after_slot s heard v)
    unfolding renamed after_slot
    slot-ren heard v G = slot-in v.state heard v G

  -- ---- soundness

  module _ (v : Node) (c : Clauses (on_plain cable v)) where
    own_range : (1 ≤ v.own) × (v.own ≤ n)
    own_range = node-number n v.own c.own

    returning-parts : (v.returning ≤ n) × (not (has v.set v.returning) ≡ true)
    returning-parts = let r = both (leb v.returning n) (not (has v.set v.returning)) c.returning in (leb-true v.returning n r.0, r.1)

    sets-parts : (v.set < 2 ^ n) × (v.present < 2 ^ n) × (subset v.present v.set ≡ true)
    sets-parts =
        let a = both (within n v.set) (within n v.present && subset v.present v.set) c.sets in
        let b = both (within n v.present) (subset v.present v.set) a.1 in
        (ltb-true v.set (2 ^ n) a.0, ltb-true v.present (2 ^ n) b.0, b.1)

    window-parts : (v.listening.heard < 2 ^ n) × (v.listening.last < 2 ^ n)
    window-parts =
        let w = v.listening in
        by_cases (is_listening v.state)
        (λ l.
        let b₁ = both (ltb w.done n) _ (window-listening (on_plain cable v) c.window l) in
        let b₂ = both (within n w.heard) _ b₁.1 in
        let b₃ = both (leb w.shortest cable.k) _ b₂.1 in
        let b₄ = both (implies (eqb w.heard 0) (eqb w.shortest cable.k)) _ b₃.1 in
        let b₅ = both (within n w.last) _ b₄.1 in
        (ltb-true w.heard (2 ^ n) b₂.0, ltb-true w.last (2 ^ n) b₅.0))
        (λ l.
        let b₁ = both (eqb w.done 0) _ (window-other (on_plain cable v) c.window l) in
        let b₂ = both (eqb w.heard 0) _ b₁.1 in
        let b₃ = both (eqb w.shortest 0) _ b₂.1 in
        let b₄ = both (not w.return_seen) (eqb w.last 0) b₃.1 in
        (omega (arith, eqb-true w.heard 0 b₂.0, lib.Pow.pow_pos n), omega (arith, eqb-true w.last 0 b₄.1, lib.Pow.pow_pos n)))

    good-plain : Good (on_plain cable v)
    good-plain = record {
      on-plain = refl;
      own-pos = own_range.0;
      own-le = own_range.1;
      returning-le = returning-parts.0;
      heard-lt = window-parts.0;
      last-lt = window-parts.1;
    }

    within-ren : (s : ℕ) → s < 2 ^ n → within n (S s) ≡ within n s
    within-ren s l = lt-ltb (S s) (2 ^ n) (R-lt cable fits s) ∙ sym (lt-ltb s (2 ^ n) l)

    sound-ren : sound (ren v) ≡ true
    unfolding renamed
    sound-ren =
        let w = v.listening in
        let heard = window-parts.0 in
        let last = window-parts.1 in
        sound-by (ren v) (record {
          choices = fitting cable fits;
          own = name-number cable fits v.own ∙ c.own;
          slots = c.slots;
          sets = all (lt-ltb (S v.set) (2 ^ n) (R-lt cable fits v.set)) (all (lt-ltb (S v.present) (2 ^ n) (R-lt cable fits v.present)) (R-subset cable fits v.present v.set sets-parts.1 sets-parts.2));
          returning = all (le-leb (f v.returning) n (name-le cable fits v.returning returning-parts.0)) (ap not (has-name cable fits v.set v.returning returning-parts.0) ∙ returning-parts.1);
          own_in = rw (has-name cable fits v.set v.own own_range.1) c.own_in;
          knock = rw (eqb-name cable fits v.returning v.own) c.knock;
          empty = rw (eqb-empty cable fits v.set sets-parts.0, eqb-empty cable fits v.present sets-parts.1, eqb-none cable fits v.returning) c.empty;
          heard = c.heard;
          yes = c.yes;
          window = rw (
            within-ren w.heard heard,
            eqb-empty cable fits w.heard heard,
            within-ren w.last last,
            eqb-empty cable fits w.last last,
            R-size cable fits w.last,
            has-name cable fits w.heard v.own own_range.1,
            has-name cable fits w.last v.own own_range.1,
          ) c.window;
          enough = rw (R-size cable fits v.set) c.enough;
        })

  -- ---- the calls on a sound record with the plain table

  module _ (v : Node) (on-plain : v.cable ≡ plain_of cable) (good : sound v ≡ true) where
    plain-clauses : Clauses (on_plain cable v)
    plain-clauses = clauses (on_plain cable v) (sym (ap sound (is_plain cable v on-plain)) ∙ good)

    pub sound-renamed : sound (ren v) ≡ true
    sound-renamed = sound-ren v plain-clauses

    good_of : Good v
    good_of = subst⁻¹ Good (is_plain cable v on-plain) (good-plain v plain-clauses)

    -- both are answered as sound records are
    answered : {x' : Stepped} (x : Stepped) → x' ≡ renamed_stepped cable x → cond (sound (ren v)) x' (refused 4 (ren v)) ≡ renamed_stepped cable (cond (sound v) x (refused 4 v))
    answered x p = cond-by (renamed_stepped cable) (sound v) x (refused 4 v) (sound-renamed ∙ sym good) p refl

    pub bits-renamed : bits_sent (ren v) ≡ bits_sent v
    bits-renamed = bits-ren v good_of

    pub off-renamed : off_of (ren v) ≡ renamed_stepped cable (off_of v)
    unfolding off_of
    off-renamed = answered (done (out_for (leaving_cause 4) v)) (ap done (out-ren (leaving_cause 4) v))

    pub restart-renamed : restart_of (ren v) ≡ renamed_stepped cable (restart_of v)
    unfolding renamed restart_of
    restart-renamed =
        answered (cond (is_out v.state) (done (fresh v)) (refused 11 v))
        (cond-by (renamed_stepped cable) (is_out v.state) (done (fresh v)) (refused 11 v) refl (ap done (fresh-ren v on-plain)) refl)

  after-ren : (heard : Reading) (v : Node) → Good v → after_slot (sender cable (v.slots + 1)) heard (counted (ren v)) ≡ ren (after_slot (sender v.cable (v.slots + 1)) heard (counted v))
  unfolding renamed
  after-ren heard v G =
      let s = sender (plain_of cable) (v.slots + 1) in
      let r = plain-sender cable fits (v.slots + 1) in
      ap (λ (x : ℕ). after_slot x heard (counted (ren v))) (sender-name cable fits (v.slots + 1))
      ∙ slot-ren s r.0 r.1 heard (counted v) G
      ∙ sym (ap (λ (c : Cable). ren (after_slot (sender c (v.slots + 1)) heard (counted v))) G.on-plain)

  pub step-renamed : (heard : Reading) (v : Node) → v.cable ≡ plain_of cable → sound v ≡ true → step_of heard (ren v) ≡ renamed_stepped cable (step_of heard v)
  unfolding renamed step_of
  step-renamed heard v on-plain good =
      let after = done (after_slot (sender v.cable (v.slots + 1)) heard (counted v)) in
      answered v on-plain good (cond (leb limit v.slots) (refused 5 v) after)
      (cond-by (renamed_stepped cable) (leb limit v.slots) (refused 5 v) after refl refl (ap done (after-ren heard v (good_of v on-plain good))))
