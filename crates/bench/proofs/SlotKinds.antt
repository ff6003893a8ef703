-- A slot changes no state but in the ways that have a kind (specs/Pairs): after the node call `step` a record has the state that it had, or the change is
-- of kind 1 to 6. So no pair of a slot has kind 0. It holds of every record; one that is not sound is left as it was. Assumes nothing.
use Prim.Native.Nat.{ℕ, zero, suc, ◌+◌, ◌≤◌}
use mathlib.Core.Path.{◌≡◌, refl, sym, ap, ap₂, subst, ◌∙◌}
use mathlib.Core.Bool.{Bool, true, false, cond, not, ◌&&◌, ◌||◌, true≢false}
use mathlib.Core.Logic.{◌⊎◌, inl, inr}
use native.Mathlib.Omega.{arith}
use lib.Dec.{eqb, leb, ltb}
use Rattle.cable.specs.nodeset.Sets.{has, without, size}
use Rattle.cable.proofs.nodeset.Tests.{both}
use Rattle.node.specs.ring.Ring.{sender, member_in}
use Rattle.node.specs.message.Answers.{Reading}
use Rattle.node.specs.node_record.declared.Node.{Node}
use Rattle.node.specs.node_record.declared.Cause.{Cause}
use Rattle.node.specs.node_record.declared.Cause.TheVariants.{Unconfirmed, NothingHeard, MissedReturn}
use Rattle.node.specs.node_record.declared.State.{State}
use Rattle.node.specs.node_record.declared.State.TheVariants.{Member, Listening, Following, Knocking, Out}
use Rattle.node.specs.node_record.States.{is_member, is_listening, is_following, is_knocking, is_out}
use Rattle.node.specs.node_record.Soundness.{sound, limit}
use Rattle.node.specs.node_record.Sponsoring.{decided_in}
use Rattle.node.specs.node_changes.Changes.{out_for, fresh, leave, counted, with_set, with_returning}
use Rattle.node.specs.node_steps.Steps.{is_heard, nothing_heard, joins, state_on_list, noted, leaves, join, settle}
use Rattle.node.specs.node_steps.Inner.{read_return, read_marked, departing, inside_slot, outside_slot, slot_by_cases}
use Rattle.node.specs.node_hearing.Hearing.{clean, window_end, overheard, goes_on, listening_by}
use Rattle.node.specs.node_slot.Slot.{after_slot}
use Rattle.node.specs.node_slot.Inner.{heard_from, read_in}
use Rattle.node.proofs.node_slot.Read.{after_read}
use Rattle.node.specs.Calls.{Stepped, step_of}
use Rattle.bench.specs.Pairs.{same_state, kind_from}

-- the states that may follow a state
abbrev allowed : State → State → Bool
allowed Member b = is_member b || is_out b
allowed Listening b = is_listening b || is_following b
allowed Following b = is_following b || (is_knocking b || is_listening b)
allowed Knocking b = is_knocking b || (is_member b || (is_following b || is_listening b))
allowed (Out cause) b = is_out b

abbrev Ok : State → Node → Type 0
Ok a w = allowed a w.state ≡ true

-- each of two ways
ways : {X : Type 0} (P : X → Type 0) (b : Bool) {x y : X} → P x → P y → P (cond b x y)
ways P true p q = p
ways P false p q = q

abbrev tracked : State → Bool
tracked Member = true
tracked Listening = false
tracked Following = true
tracked Knocking = true
tracked (Out cause) = false

-- ---- leaving, and what comes after step 3

leave-state : (cause : Cause) (v : Node) → (leave cause v).state ≡ cond (is_member v.state) (Out cause) Listening
unfolding leave
leave-state cause v = go (is_member v.state)
  where
    go : (b : Bool) → (cond b (out_for cause v) (fresh v)).state ≡ cond b (Out cause) Listening
    go true = refl
    go false = refl

left : (a : State) (cause : Cause) → tracked a ≡ true → allowed a (cond (is_member a) (Out cause) Listening) ≡ true
left Member cause t = refl
left Listening cause t = absurd (true≢false (sym t))
left Following cause t = refl
left Knocking cause t = refl
left (Out c) cause t = absurd (true≢false (sym t))

leave-ok : (a : State) (cause : Cause) (v : Node) → tracked a ≡ true → v.state ≡ a → Ok a (leave cause v)
leave-ok a cause v t e =
    ap (allowed a) (leave-state cause v ∙ ap (λ (b : State). cond (is_member b) (Out cause) Listening) e) ∙ left a cause t

-- the state after `settle`, from the state before it and what is tested
abbrev settled : State → Bool → Bool → Bool → Bool → State
settled b few none joining heard =
    cond (not (is_member b) && few) Listening (cond none (cond (is_member b) (Out NothingHeard) Listening) (cond joining (cond (is_knocking b && not heard) Following (state_on_list b)) b))

state-of : (b : Bool) (x y : Node) → (cond b x y).state ≡ cond b x.state y.state
state-of true x y = refl
state-of false x y = refl

settle-state : (inside : Bool) (s : ℕ) (v : Node) → (settle inside s v).state ≡ settled v.state (ltb (size v.cable.n v.set) 2) (nothing_heard v) (inside && joins s v) v.return_heard
unfolding settle join
settle-state inside s v =
    state-of (not (is_member v.state) && ltb (size v.cable.n v.set) 2) (fresh v) _
    ∙ ap (cond (not (is_member v.state) && ltb (size v.cable.n v.set) 2) Listening)
    (state-of (nothing_heard v) (leave NothingHeard v) _
    ∙ ap₂ (cond (nothing_heard v)) (leave-state NothingHeard v)
    (state-of (inside && joins s v) (join v) v
    ∙ ap (λ (b : State). cond (inside && joins s v) b v.state) (state-of (is_knocking v.state && not v.return_heard) _ _)))

settled-ok : (a : State) (few none joining heard : Bool) → tracked a ≡ true → allowed a (settled a few none joining heard) ≡ true
settled-ok Member few true joining heard t = refl
settled-ok Member few false true heard t = refl
settled-ok Member few false false heard t = refl
settled-ok Listening few none joining heard t = absurd (true≢false (sym t))
settled-ok Following true none joining heard t = refl
settled-ok Following false true joining heard t = refl
settled-ok Following false false true heard t = refl
settled-ok Following false false false heard t = refl
settled-ok Knocking true none joining heard t = refl
settled-ok Knocking false true joining heard t = refl
settled-ok Knocking false false true true t = refl
settled-ok Knocking false false true false t = refl
settled-ok Knocking false false false heard t = refl
settled-ok (Out c) few none joining heard t = absurd (true≢false (sym t))

-- a node that has just knocked joins nobody
knocked-ok : (few none heard : Bool) → allowed Following (settled Knocking few none false heard) ≡ true
knocked-ok true none heard = refl
knocked-ok false true heard = refl
knocked-ok false false heard = refl

settle-ok : (a : State) (inside : Bool) (s : ℕ) (v : Node) → tracked a ≡ true → v.state ≡ a → Ok a (settle inside s v)
settle-ok a inside s v t e =
    ap (allowed a) (settle-state inside s v ∙ ap (λ (b : State). settled b (ltb (size v.cable.n v.set) 2) (nothing_heard v) (inside && joins s v) v.return_heard) e)
    ∙ settled-ok a (ltb (size v.cable.n v.set) 2) (nothing_heard v) (inside && joins s v) v.return_heard t

-- ---- a slot of a node that tracks the list

departing-ok : (a : State) (times s : ℕ) (v : Node) → tracked a ≡ true → v.state ≡ a → Ok a (departing times s v)
unfolding departing
departing-ok a zero s v t e = settle-ok a true s v t e
departing-ok a (suc times) s v t e =
    let m = member_in (decided_in s v) in
    ways (Ok a) (leaves s v m)
    (ways (Ok a) (eqb m v.own) (leave-ok a Unconfirmed v t e) (departing-ok a times s (with_set (without v.set m) v) t e))
    (settle-ok a true s v t e)

inside-ok : (a : State) (times s : ℕ) (heard : Reading) (v : Node) → tracked a ≡ true → v.state ≡ a → Ok a (inside_slot times s heard v)
unfolding inside_slot
inside-ok a times s heard v t e =
    ways (Ok a) (read_return heard v) (leave-ok a MissedReturn v t e) (departing-ok a times s (read_marked s heard v) t e)

-- a follower may knock first
outside_ok : (a : State) (s : ℕ) (heard : Reading) (v : Node) → tracked a ≡ true → v.state ≡ a → Ok a (outside_slot s heard v)
unfolding outside_slot noted
outside_ok a s heard v t e =
    ways P (eqb s v.own) (knocks (is_following v.state && eqb v.returning 0) refl) (ways P (is_heard heard && eqb v.returning 0) (settle-ok a false s (with_returning v.state s v) t e) (settle-ok a false s v t e))
  where
    P : Node → Type 0
    P w = Ok a (settle false s w)

    following : (b : State) → is_following b ≡ true → b ≡ Following
    following Member h = absurd (true≢false (sym h))
    following Listening h = absurd (true≢false (sym h))
    following Following h = refl
    following Knocking h = absurd (true≢false (sym h))
    following (Out c) h = absurd (true≢false (sym h))

    knocks : (b : Bool) → (is_following v.state && eqb v.returning 0) ≡ b → P (cond b (with_returning Knocking v.own v) v)
    knocks true h =
        let is : a ≡ Following = sym e ∙ following v.state (both (is_following v.state) (eqb v.returning 0) h).0 in
        let w = with_returning Knocking v.own v in
        ap₂ allowed is (settle-state false s w) ∙ knocked-ok (ltb (size w.cable.n w.set) 2) (nothing_heard w) w.return_heard
    knocks false h = settle-ok a false s v t e

tracking-ok : (a : State) (times s : ℕ) (heard : Reading) (v : Node) → tracked a ≡ true → v.state ≡ a → Ok a (slot_by_cases times s heard v)
unfolding slot_by_cases
tracking-ok a times s heard v t e = ways (Ok a) (has v.set s) (inside-ok a times s heard v t e) (outside_ok a s heard v t e)

-- ---- any slot

listening-ok : (s : ℕ) (heard : Reading) (v : Node) → v.state ≡ Listening → Ok Listening (listening_by s heard v)
unfolding listening_by goes_on window_end
listening-ok s heard v e =
    ways (Ok Listening) (ltb (overheard s heard v.listening).done v.cable.n) (ap (allowed Listening) e)
    (ways (Ok Listening) (clean v.cable (overheard s heard v.listening)) (ways (Ok Listening) (eqb (overheard s heard v.listening).last (overheard s heard v.listening).heard) refl refl) refl)

stays : (a : State) → allowed a a ≡ true
stays Member = refl
stays Listening = refl
stays Following = refl
stays Knocking = refl
stays (Out cause) = refl

slot_ok : (s : ℕ) (heard : Reading) (v : Node) → Ok v.state (after_slot s heard v)
slot_ok s heard v = subst (Ok v.state) (sym (after_read s heard v)) (go v.state refl)
  where
    go : (a : State) → v.state ≡ a → Ok a (read_in v.cable.n a s (heard_from s heard v) v)
    go Member e = tracking-ok Member v.cable.n s (heard_from s heard v) v refl e
    go Listening e = listening-ok s (heard_from s heard v) v e
    go Following e = tracking-ok Following v.cable.n s (heard_from s heard v) v refl e
    go Knocking e = tracking-ok Knocking v.cable.n s (heard_from s heard v) v refl e
    go (Out cause) e = ap (allowed (Out cause)) e

step_ok : (heard : Reading) (v : Node) → Ok v.state (step_of heard v).node
unfolding step_of
step_ok heard v =
    ways P (sound v) (ways P (leb limit v.slots) (stays v.state) (slot_ok (sender v.cable (v.slots + 1)) heard (counted v))) (stays v.state)
  where
    P : Stepped → Type 0
    P r = Ok v.state r.node

-- ---- kinds

abbrev HasKind : State → State → Type 0
HasKind a b = (same_state a b ≡ true) ⊎ ((1 ≤ kind_from a b) × (kind_from a b ≤ 6))

kind-of : (a b : State) → allowed a b ≡ true → HasKind a b
kind-of Member Member h = inl refl
kind-of Member Listening h = absurd (true≢false (sym h))
kind-of Member Following h = absurd (true≢false (sym h))
kind-of Member Knocking h = absurd (true≢false (sym h))
kind-of Member (Out c) h = inr (omega arith, omega arith)
kind-of Listening Member h = absurd (true≢false (sym h))
kind-of Listening Listening h = inl refl
kind-of Listening Following h = inr (omega arith, omega arith)
kind-of Listening Knocking h = absurd (true≢false (sym h))
kind-of Listening (Out c) h = absurd (true≢false (sym h))
kind-of Following Member h = absurd (true≢false (sym h))
kind-of Following Listening h = inr (omega arith, omega arith)
kind-of Following Following h = inl refl
kind-of Following Knocking h = inr (omega arith, omega arith)
kind-of Following (Out c) h = absurd (true≢false (sym h))
kind-of Knocking Member h = inr (omega arith, omega arith)
kind-of Knocking Listening h = inr (omega arith, omega arith)
kind-of Knocking Following h = inr (omega arith, omega arith)
kind-of Knocking Knocking h = inl refl
kind-of Knocking (Out c) h = absurd (true≢false (sym h))
kind-of (Out d) Member h = absurd (true≢false (sym h))
kind-of (Out d) Listening h = absurd (true≢false (sym h))
kind-of (Out d) Following h = absurd (true≢false (sym h))
kind-of (Out d) Knocking h = absurd (true≢false (sym h))
kind-of (Out d) (Out c) h = inl refl

pub kinds : (heard : Reading) (v : Node) → HasKind v.state (step_of heard v).node.state
kinds heard v = kind-of v.state (step_of heard v).node.state (step_ok heard v)
