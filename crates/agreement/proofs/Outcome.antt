-- What a slot makes of a tracking node, as the cases of the rules: the order of the steps (node_steps' specs/Steps) is opened here and nowhere else. Assumes nothing.
use Rattle.std.specs.Prelude.{Option}
use Prim.Native.Nat.{ℕ, suc}
use mathlib.Core.Path.{◌≡◌, refl, sym, ap, ◌∙◌, subst}
use mathlib.Core.Logic.{◌≢◌, ◌⊎◌, inl, inr}
use mathlib.Core.Bool.{Bool, true, false, cond, not, ◌&&◌, true≢false, false≢true}
use lib.Dec.{eqb}
use borrow.Author.Tests.{eqb-true, eqb-false, eq-eqb}
use Rattle.bench.specs.nodeset.Sets.{has, with, without}
use Rattle.bench.proofs.nodeset.Tests.{both, chosen, otherwise}
use Rattle.bench.specs.ring.declared.Found.{Found}
use Rattle.bench.specs.ring.Ring.{member_in, is_found}
use Rattle.bench.specs.message.Answers.{Reading}
use Rattle.bench.specs.node_record.declared.Node.{Node}
use Rattle.bench.specs.node_record.declared.State.{State}
use Rattle.bench.specs.node_record.declared.State.TheVariants.{Member, Listening, Following, Knocking, Out}
use Rattle.bench.specs.node_record.declared.Cause.{Cause}
use Rattle.bench.specs.node_record.declared.Cause.TheVariants.{Unconfirmed, NothingHeard, MissedReturn}
use Rattle.bench.specs.node_record.States.{is_member, is_following, is_knocking}
use Rattle.bench.specs.node_record.Sponsoring.{decided_in}
use Rattle.bench.specs.node_changes.Changes.{out_for, fresh, leave, with_set, with_returning}
use Rattle.bench.specs.node_steps.Steps.{is_heard, noted, leaves, too_few, nothing_heard, joins, state_on_list, settled_as, join, settle}
use Rattle.bench.specs.node_steps.Inner.{read_return, read_marked, departing, inside_slot}
use Rattle.bench.proofs.Choices.{choose}
use Rattle.bench.specs.ring.Ring.{found}

-- no longer tracking
pub data Gone (v w : Node) : Type 0 where
  isout : (c : Cause) → w ≡ out_for c v → Gone v w
  listens : w ≡ fresh v → Gone v w

pub leave-law : (c : Cause) (v : Node) → Gone v (leave c v)
unfolding leave
leave-law c v = choose (λ (w : Node). Gone v w) (is_member v.state) (out_for c v) (fresh v) (λ e. isout c refl) (λ e. listens refl)

-- ---- steps 4 and 5

-- with the returning node on the list, in a state
abbrev pub listed_as : State → Node → Node
listed_as state v = settled_as state (with v.set v.returning) (with v.present v.returning) v

pub data Settled (inside : Bool) (s : ℕ) (v w : Node) : Type 0 where
  gone : Gone v w → Settled inside s v w
  kept : (inside && joins s v) ≡ false → w ≡ v → Settled inside s v w
  backed : joins s v ≡ true → is_knocking v.state ≡ true → v.return_heard ≡ false → w ≡ with_returning Following 0 v → Settled inside s v w
  became : joins s v ≡ true → is_knocking v.state ≡ true → v.return_heard ≡ true → w ≡ listed_as Member v → Settled inside s v w
  joined : joins s v ≡ true → is_knocking v.state ≡ false → w ≡ listed_as v.state v → Settled inside s v w

knocking-on-list : (st : State) → is_knocking st ≡ true → state_on_list st ≡ Member
knocking-on-list Member e = refl
knocking-on-list Listening e = absurd (false≢true e)
knocking-on-list Following e = absurd (false≢true e)
knocking-on-list Knocking e = refl
knocking-on-list (Out c) e = absurd (false≢true e)

other-on-list : (st : State) → is_knocking st ≡ false → state_on_list st ≡ st
other-on-list Member e = refl
other-on-list Listening e = refl
other-on-list Following e = refl
other-on-list Knocking e = absurd (true≢false e)
other-on-list (Out c) e = refl

join-law : (inside : Bool) (s : ℕ) (v : Node) → joins s v ≡ true → Settled inside s v (join v)
unfolding join
join-law inside s v j = go (is_knocking v.state) v.return_heard refl refl
  where
    state-is : (st : State) → state_on_list v.state ≡ st → listed_as (state_on_list v.state) v ≡ listed_as st v
    state-is st e = ap (λ (x : State). listed_as x v) e

    go : (a b : Bool) → is_knocking v.state ≡ a → v.return_heard ≡ b
        → Settled inside s v (cond (a && not b) (with_returning Following 0 v) (listed_as (state_on_list v.state) v))
    go true true p q = became j p q (state-is Member (knocking-on-list v.state p))
    go true false p q = backed j p q refl
    go false b p q = joined j p (state-is v.state (other-on-list v.state p))

pub settle-law : (inside : Bool) (s : ℕ) (v : Node) → Settled inside s v (settle inside s v)
unfolding settle
settle-law inside s v =
    choose (λ (w : Node). Settled inside s v w) (too_few v) (fresh v) _
    (λ e. gone (listens refl))
    (λ e. choose (λ (w : Node). Settled inside s v w) (nothing_heard v) (leave _ v) (cond (inside && joins s v) (join v) v)
    (λ f. gone (leave-law _ v))
    (λ f. choose (λ (w : Node). Settled inside s v w) (inside && joins s v) (join v) v
    (λ g. join-law inside s v (both inside (joins s v) g).1)
    (λ g. kept g refl)))

-- step 4, where the sender is outside the set
pub settle-outside : (s : ℕ) (v : Node) → Gone v (settle false s v) ⊎ (settle false s v ≡ v)
unfolding settle
settle-outside s v =
    choose (λ (w : Node). Gone v w ⊎ (w ≡ v)) (too_few v) (fresh v) (cond (nothing_heard v) (leave NothingHeard v) v)
    (λ e. inl (listens refl))
    (λ e. choose (λ (w : Node). Gone v w ⊎ (w ≡ v)) (nothing_heard v) (leave NothingHeard v) v
    (λ f. inl (leave-law NothingHeard v))
    (λ f. inr refl))

-- ---- step 3, where m is the decided member

-- the set after step 3
abbrev pub set_after : ℕ → Node → ℕ
set_after m v = cond (has v.present m) v.set (without v.set m)

-- step 3 and what follows, from the node as step 1 leaves it
pub data Departed (s m : ℕ) (v w : Node) : Type 0 where
  left : Gone v w → Departed s m v w
  settled : (has v.present m ≡ false → m ≢ v.own) → Settled true s (with_set (set_after m v) v) w → Departed s m v w

departed-law : (s m : ℕ) (v : Node) → Departed s m v (cond (not (has v.present m)) (cond (eqb m v.own) (leave Unconfirmed v) (settle true s (with_set (without v.set m) v))) (settle true s v))
departed-law s m v = go (has v.present m) refl
  where
    one : has v.present m ≡ false → m ≢ v.own → Departed s m v (settle true s (with_set (without v.set m) v))
    one e f =
        let z : set_after m v ≡ without v.set m = otherwise _ _ e in
        settled (λ _. f) (rw z (settle-law true s (with_set (without v.set m) v)))

    go : (b : Bool) → has v.present m ≡ b
        → Departed s m v (cond (not b) (cond (eqb m v.own) (leave Unconfirmed v) (settle true s (with_set (without v.set m) v))) (settle true s v))
    go true e =
        let z : set_after m v ≡ v.set = chosen _ _ e in
        settled (λ p. absurd (true≢false (sym e ∙ p))) (rw z (settle-law true s v))
    go false e =
        choose (λ (w : Node). Departed s m v w) (eqb m v.own) (leave Unconfirmed v) (settle true s (with_set (without v.set m) v))
        (λ f. left (leave-law _ v))
        (λ f. one e (eqb-false m v.own f))

-- whether the decided member leaves
pub leaves-is : (s m back : ℕ) (v : Node) → decided_in s v ≡ found m back → leaves s v (member_in (decided_in s v)) ≡ not (has v.present m)
leaves-is s m back v e =
    ap (λ (f : Option Found). is_found (member_in f) f && not (has v.present (member_in f))) e ∙ ap (λ (b : Bool). b && not (has v.present m)) (eq-eqb m m refl)

-- one look, and what comes after it
pub look : (times s m back : ℕ) (v : Node) → decided_in s v ≡ found m back
    → departing (suc times) s v ≡ cond (not (has v.present m)) (cond (eqb m v.own) (leave Unconfirmed v) (departing times s (with_set (without v.set m) v))) (settle true s v)
unfolding departing
look times s m back v e =
    ap (λ (b : Bool). cond b (cond (eqb (member_in (decided_in s v)) v.own) (leave Unconfirmed v) (departing times s (with_set (without v.set (member_in (decided_in s v))) v))) (settle true s v)) (leaves-is s m back v e)
    ∙ ap (λ (x : ℕ). cond (not (has v.present m)) (cond (eqb x v.own) (leave Unconfirmed v) (departing times s (with_set (without v.set x) v))) (settle true s v)) (ap member_in e)

pub no-look : (s : ℕ) (v : Node) → departing 0 s v ≡ settle true s v
unfolding departing
no-look s v = refl

-- one departure at the most
depart-law : (s m back : ℕ) (v : Node) → decided_in s v ≡ found m back → Departed s m v (departing 1 s v)
depart-law s m back v e =
    subst (Departed s m v) (sym (look 0 s m back v e ∙ ap (λ (x : Node). cond (not (has v.present m)) (cond (eqb m v.own) (leave Unconfirmed v) x) (settle true s v)) (no-look s (with_set (without v.set m) v))))
    (departed-law s m v)

-- ---- a slot whose sender is in the set

pub data Inside (s m : ℕ) (r : Reading) (v w : Node) : Type 0 where
  missed : Gone v w → Inside s m r v w
  went : read_return r v ≡ false → Departed s m (read_marked s r v) w → Inside s m r v w

pub inside-law : (s m back : ℕ) (r : Reading) (v : Node) → decided_in s v ≡ found m back → Inside s m r v (inside_slot 1 s r v)
unfolding inside_slot
inside-law s m back r v e =
    choose (λ (w : Node). Inside s m r v w) (read_return r v) (leave MissedReturn v) (departing 1 s (read_marked s r v))
    (λ f. missed (leave-law MissedReturn v))
    (λ f. went f (depart-law s m back (read_marked s r v) e))

-- ---- step 2

pub data Noted (s : ℕ) (r : Reading) (v w : Node) : Type 0 where
  knocks : s ≡ v.own → is_following v.state ≡ true → v.returning ≡ 0 → w ≡ with_returning Knocking v.own v → Noted s r v w
  silent : s ≡ v.own → (is_following v.state && eqb v.returning 0) ≡ false → w ≡ v → Noted s r v w
  awaits : s ≢ v.own → is_heard r ≡ true → v.returning ≡ 0 → w ≡ with_returning v.state s v → Noted s r v w
  ignores : s ≢ v.own → (is_heard r && eqb v.returning 0) ≡ false → w ≡ v → Noted s r v w

pub noted-law : (s : ℕ) (r : Reading) (v : Node) → Noted s r v (noted s r v)
unfolding noted
noted-law s r v =
    choose (λ (w : Node). Noted s r v w) (eqb s v.own)
    (cond (is_following v.state && eqb v.returning 0) (with_returning Knocking v.own v) v)
    (cond (is_heard r && eqb v.returning 0) (with_returning v.state s v) v)
    (λ e. choose (λ (w : Node). Noted s r v w) (is_following v.state && eqb v.returning 0) (with_returning Knocking v.own v) v
    (λ f. knocks (eqb-true s v.own e) (both _ _ f).0 (eqb-true v.returning 0 (both (is_following v.state) _ f).1) refl)
    (λ f. silent (eqb-true s v.own e) f refl))
    (λ e. choose (λ (w : Node). Noted s r v w) (is_heard r && eqb v.returning 0) (with_returning v.state s v) v
    (λ f. awaits (eqb-false s v.own e) (both _ _ f).0 (eqb-true v.returning 0 (both (is_heard r) _ f).1) refl)
    (λ f. ignores (eqb-false s v.own e) f refl))
