-- The invariant of a table where nodes only fall silent: the start has it, every call keeps it, and it gives request g. Assumes nothing.
use Rattle.std.specs.Prelude.{Err, Ok}
use Prim.Native.Nat.{ℕ, suc, ◌+◌, ◌-◌, ◌≤◌, ◌<◌}
use mathlib.Core.Path.{◌≡◌, refl, sym, ap, ap₂, ◌∙◌, subst}
use mathlib.Core.Logic.{◌≢◌}
use mathlib.Core.Bool.{Bool, true, false, cond, not, ◌&&◌, ◌||◌, true≢false, false≢true}
use mathlib.Core.List.{List, [], ◌∷◌}
use native.Mathlib.Omega.{arith}
use native.Mathlib.Decide.{ℕ_discrete, dec_le, dec_lt}
use lib.Dec.{eqb}
use lib.ListN.{length}
use borrow.Author.Tests.{eq-eqb, ne_eqb}
use Rattle.agreement.specs.nodeset.Sets.{has, full, size}
use Rattle.agreement.proofs.nodeset.Tests.{by_cases, chosen, otherwise}
use Rattle.agreement.proofs.nodeset.Laws.{has-full}
use Rattle.agreement.proofs.nodeset.Counts.{size-le}
use Rattle.agreement.specs.cable.declared.Cable.{Cable}
use Rattle.agreement.specs.cable.Cable.{node_number, cable_fits}
use Rattle.agreement.specs.ring.Ring.{sender, sponsors, sponsored}
use Rattle.agreement.proofs.cable.Ranges.{ring-size, lag-fits, sponsor-count, fitting}
use Rattle.agreement.proofs.ring_laws.Senders.{Turns, turns-of, sender-range, sender-period, its-slot}
use Rattle.agreement.specs.node.Calls.{Stepped, is_done}
use Rattle.agreement.specs.message.Answers.{Reading}
use Rattle.agreement.specs.node_record.declared.Node.{Node}
use Rattle.agreement.specs.node_record.declared.State.{State}
use Rattle.agreement.specs.node_record.declared.State.TheVariants.{Member, Listening, Following, Knocking, Out}
use Rattle.agreement.specs.node_record.States.{is_member, is_following, is_out}
use Rattle.agreement.specs.node_record.Soundness.{sound, limit}
use Rattle.agreement.specs.node_record.declared.Cause.TheVariants.{SwitchedOff}
use Rattle.agreement.specs.node_changes.Changes.{starting, out_for, counted}
use Rattle.agreement.specs.node_steps.Steps.{is_heard, return_in}
use Rattle.agreement.specs.node_steps.Inner.{inside_slot, outside_slot, slot_by_cases}
use Rattle.agreement.specs.node_steps.Digests.{bits_heard}
use Rattle.agreement.proofs.node_steps.Answers.{At}
use Rattle.agreement.proofs.node_steps.Cases.{slot-inside, slot-outside}
use Rattle.agreement.specs.node_sending.Sending.{sends, bits_sent, return_sent}
use Rattle.agreement.specs.node_slot.Inner.{read_in}
use Rattle.agreement.specs.node.Calls as node
use Rattle.agreement.specs.bench.Table.{Table, record_of, table_sound, node_count, slots_of, speaker}
use Rattle.agreement.specs.bench.Calls.{Called, done, if_passed, set_up_of, transmits, table_after_slot, table_after_off, table_after_restart, restart_of}
use Rattle.agreement.specs.bench.Runs.{Call, slot, off, restart, call_of, is_slot, misses, table_after, Entry, entry}
use Rattle.agreement.proofs.bench.Accepted.{slot-done, slot-refused, off-done, off-refused, off-no-slot, restart-no-slot}
use Rattle.agreement.proofs.bench.Places.{Placed, length-each, slots-of-placed}
use Rattle.agreement.proofs.bench.Choices.{choose}
use Rattle.agreement.proofs.bench.Runs.{after-slot-length, after-off-record, start-placed, start-record, placed-run, never-unsound, run_length, below-limit, slots_next}
use Rattle.agreement.specs.Demand.{AtEach, EverySequence}
use Rattle.agreement.proofs.Past.{Past, past, entry-is}
use Rattle.agreement.proofs.Entries.{past-zero, past-old, past-new}
use Rattle.agreement.proofs.History.{num-is, num-isnt}
use Rattle.agreement.proofs.Marks.{no_both, not-true}
use Rattle.agreement.proofs.Reached.{hear, hear-message}
use Rattle.agreement.proofs.Records.{read_of, record-after, sent-bits}
use Rattle.agreement.proofs.Parts.{size-three}
use Rattle.many_dead.specs.Many.{Undisturbed, OnlyOffs, StaysOn, TwoStayOn, Survives, ManyDead}
use Rattle.many_dead.proofs.Shrinking.{sponsored-node, shrunk, shrunk-keeps}
use Rattle.many_dead.proofs.Lists.{marks_next, Lists, lists-same, lists-start, inside-lists, outside-lists}
use Rattle.many_dead.proofs.Members.{Alive, Gets, marked_next, inside-alive, outside-alive}
use Rattle.agreement.specs.message.Answers.{heard_with}

-- ---- states

member-or-out : (st : State) (b : Bool) → (is_member st ≡ false → is_out st ≡ true) → (is_member st || (is_following st && b)) ≡ is_member st
member-or-out Member b h = refl
member-or-out Listening b h = absurd (false≢true (h refl))
member-or-out Following b h = absurd (false≢true (h refl))
member-or-out Knocking b h = absurd (false≢true (h refl))
member-or-out (Out c) b h = refl

slot-member : (times : ℕ) (st : State) (s : ℕ) (r : Reading) (v : Node) → is_member st ≡ true → read_in times st s r v ≡ slot_by_cases times s r v
slot-member times Member s r v e = refl
slot-member times Listening s r v e = absurd (false≢true e)
slot-member times Following s r v e = absurd (false≢true e)
slot-member times Knocking s r v e = absurd (false≢true e)
slot-member times (Out c) s r v e = absurd (false≢true e)

slot-out : (times : ℕ) (st : State) (s : ℕ) (r : Reading) (v : Node) → is_out st ≡ true → read_in times st s r v ≡ v
slot-out times Member s r v e = absurd (false≢true e)
slot-out times Listening s r v e = absurd (false≢true e)
slot-out times Following s r v e = absurd (false≢true e)
slot-out times Knocking s r v e = absurd (false≢true e)
slot-out times (Out c) s r v e = refl

not-both : (st : State) → is_member st ≡ true → is_out st ≡ true → ⊥
not-both Member e f = false≢true f
not-both Listening e f = false≢true e
not-both Following e f = false≢true e
not-both Knocking e f = false≢true e
not-both (Out c) e f = false≢true e

-- a sound node that is switched off is out
off-is : (v : Node) → sound v ≡ true → (node.off_of v).node ≡ out_for SwitchedOff v
unfolding node.off_of
off-is v e = ap (λ (x : Stepped). x.node) (chosen _ _ e)

module _ (cable : Cable) (turns : Turns cable) (n-most : cable.n ≤ 32) (k-pos : 1 ≤ cable.k) (bounds : (cable.k < cable.n) × (cable.lag ≤ 1)) where
  open cable use {n, k}

  n-some : 1 ≤ cable.n
  n-some = turns.some

  -- any node: a member like all others, or out
  pub record Stands (T L P i : ℕ) (v : Node) : Type 0 where
    pub cable-is : v.cable ≡ cable
    pub own_is : v.own ≡ i
    pub clock : v.slots ≡ T
    pub alive : is_member v.state ≡ true → Alive cable turns n-most k-pos T L P i v
    pub gone : is_member v.state ≡ false → is_out v.state ≡ true

  pub record TableInv (S : ℕ → Bool) (N T L P : ℕ) (t : Table) : Type 0 where
    pub len : length t ≡ n
    pub at : T + n ≡ N
    pub lists : Lists cable turns n-most k-pos S N L P
    pub nodes : (i : ℕ) → 1 ≤ i → i ≤ n → Stands T L P i (record_of t i)

  pub record MemberOf (t : Table) (a : ℕ) : Type 0 where
    pub pos : 1 ≤ a
    pub le : a ≤ n
    pub member : is_member (record_of t a).state ≡ true

  from-alive : (T L P i : ℕ) (v : Node) → Alive cable turns n-most k-pos T L P i v → Stands T L P i v
  from-alive T L P i v a = record { cable-is = a.cable-is; own_is = a.own_is; clock = a.clock; alive = λ _. a; gone = λ f. absurd (no_both a.member f) }

  slots_at : (S : ℕ → Bool) (N T L P : ℕ) (t : Table) → TableInv S N T L P t → slots_of t ≡ T
  unfolding slots_of
  slots_at S N T L P t inv = (inv.nodes 1 (omega arith) n-some).clock

  sponsors-most : (L : ℕ) → sponsors cable L ≤ k
  unfolding sponsors
  sponsors-most L = omega arith

  -- ---- a slot

  module _ (S : ℕ → Bool) (N T L P : ℕ) (t : Table) (inv : TableInv S N T L P t) (lost : Bool) (missed : ℕ)
      (sent_is : S (suc N) ≡ (transmits t && not lost))
      (calm : transmits t ≡ true → (lost ≡ false) × ((i : ℕ) → 1 ≤ i → i ≤ n → misses lost missed t i ≡ false))
      (a b : ℕ) (ma : MemberOf t a) (mb : MemberOf t b) (ab : a ≢ b)
      (good : (i : ℕ) → 1 ≤ i → i ≤ n → sound (record_of t i) ≡ true) (below : slots_of t < limit) where
    abbrev s : ℕ
    s = sender cable (suc N)

    s-pos : 1 ≤ sender cable (suc N)
    s-pos = (sender-range cable turns (suc N)).0

    s-le : sender cable (suc N) ≤ n
    s-le = (sender-range cable turns (suc N)).1

    -- the slot that the count T comes to
    turn : sender cable (T + 1) ≡ sender cable (suc N)
    turn = let z : T + 1 + n ≡ suc N = omega (arith, inv.at) in sym (sender-period cable turns (T + 1) (omega arith)) ∙ ap (sender cable) z

    speaker-is : speaker t ≡ sender cable (suc N)
    unfolding speaker
    speaker-is = ap₂ (λ (c : Cable) (y : ℕ). sender c (y + 1)) (inv.nodes 1 (omega arith) n-some).cable-is (slots_at S N T L P t inv) ∙ turn

    transmits-is : transmits t ≡ is_member (record_of t (sender cable (suc N))).state
    unfolding transmits
    transmits-is =
        ap (λ (x : ℕ). sends (record_of t x)) speaker-is
        ∙ member-or-out (record_of t s).state (eqb (record_of t s).returning 0) (inv.nodes s s-pos s-le).gone

    sent-transmits : S (suc N) ≡ transmits t
    sent-transmits = by_cases (transmits t)
        (λ e. sent_is ∙ ap (λ (y : Bool). transmits t && not y) (calm e).0 ∙ ap (λ (x : Bool). x && true) e ∙ sym e)
        (λ e. sent_is ∙ ap (λ (x : Bool). x && not lost) e ∙ sym e)

    sent-member : S (suc N) ≡ is_member (record_of t (sender cable (suc N))).state
    sent-member = sent-transmits ∙ transmits-is

    abbrev hd : ℕ → Reading
    hd i = read_of s lost missed t i

    alive-of : (i : ℕ) → MemberOf t i → Alive cable turns n-most k-pos T L P i (record_of t i)
    alive-of i mi = (inv.nodes i mi.pos mi.le).alive mi.member

    heard-is : (i : ℕ) → is_heard (hd i) ≡ ((transmits t && (not lost && not (has missed i))) && not (eqb s (record_of t i).own))
    heard-is i = hear (eqb s (record_of t i).own) lost (has missed i) (transmits t) (heard_with (bits_sent (record_of t s)) (return_sent (record_of t s))) refl

    message-is : (i : ℕ) → is_heard (hd i) ≡ true → hd i ≡ heard_with (bits_sent (record_of t (sender cable (suc N)))) (return_sent (record_of t (sender cable (suc N))))
    message-is i e = hear-message (eqb s (record_of t i).own) lost (has missed i) (transmits t) (heard_with (bits_sent (record_of t s)) (return_sent (record_of t s))) e

    -- whoever hears anything hears a member
    speaks : (i : ℕ) → is_heard (hd i) ≡ true → MemberOf t (sender cable (suc N))
    speaks i e = record { pos = s-pos; le = s-le; member = sym transmits-is ∙ first (transmits t) _ _ (sym (heard-is i) ∙ e) }
      where
        first : (x y z : Bool) → ((x && y) && z) ≡ true → x ≡ true
        first true y z q = refl
        first false y z q = absurd (false≢true q)

    gets : (i : ℕ) → MemberOf t i → Gets cable turns n-most k-pos L P (sender cable (suc N)) i (S (suc N)) (hd i)
    unfolding misses
    gets i mi = record {
      own = λ e. sent-member ∙ ap (λ (x : ℕ). is_member (record_of t x).state) e ∙ mi.member;
      mute = λ e. ap is_heard (chosen _ _ (eq-eqb s (record_of t i).own (e ∙ sym st.own_is)));
      others = λ ne. heard-is i ∙ by_cases (transmits t)
          (λ e. all-hear (transmits t) lost (has missed i) (eqb s (record_of t i).own) e (calm e).0 (unnamed ne e) (ne_eqb s (record_of t i).own (λ p. ne (p ∙ st.own_is))) ∙ sym e ∙ sym sent-transmits)
          (λ e. ap (λ (x : Bool). (x && (not lost && not (has missed i))) && not (eqb s (record_of t i).own)) e ∙ sym e ∙ sym sent-transmits);
      bits = λ p j x l e.
          let al = alive-of s (speaks i p) in
          let r = sponsored-range j x l e in
          ap (λ (y : Reading). has (bits_heard y) (suc j)) (message-is i p)
          ∙ sent-bits cable L s (record_of t s) al.member al.cable-is al.set_is al.own_is (omega (arith, sponsors-most L, bounds.0, n-most)) j x l e
          ∙ al.marks x r.0 r.1;
      ret = by_cases (is_heard (hd i)) (λ p. ap return_in (message-is i p) ∙ quiet (alive-of s (speaks i p))) (λ p. unheard-return (hd i) p);
    }
      where
        st : Stands T L P i (record_of t i)
        st = inv.nodes i mi.pos mi.le

        all-hear : (w x y z : Bool) → w ≡ true → x ≡ false → y ≡ false → z ≡ false → ((w && (not x && not y)) && not z) ≡ true
        all-hear w x y z p q r u = rw (p, q, r, u) refl

        un : (w x y z u : Bool) → w ≡ true → x ≡ true → y ≡ false → u ≡ false → (w && (x && (not y && (z && not u)))) ≡ false → z ≡ false
        un w x y true u p q r f g = absurd (true≢false (sym (rw (p, q, r, f) refl) ∙ g))
        un w x y false u p q r f g = refl

        unnamed : s ≢ i → transmits t ≡ true → has missed i ≡ false
        unnamed ne e = un (is_member (record_of t i).state) (transmits t) lost (has missed i) (eqb i (speaker t)) mi.member e (calm e).0 (ne_eqb i (speaker t) (λ p. ne (sym (p ∙ speaker-is)))) ((calm e).1 i mi.pos mi.le)

        quiet : Alive cable turns n-most k-pos T L P s (record_of t s) → return_sent (record_of t s) ≡ false
        quiet al = let z : eqb (record_of t s).returning 0 ≡ true = eq-eqb (record_of t s).returning 0 al.ret in rw (al.member, z) refl

        unheard-return : (r : Reading) → is_heard r ≡ false → return_in r ≡ false
        unheard-return (Ok h) e = absurd (true≢false e)
        unheard-return (Err c) e = refl

        sponsored-range : (j x : ℕ) → j < sponsors cable L → At x (sponsored cable L s (suc j)) → (1 ≤ x) × (x ≤ n)
        sponsored-range j x l e = sponsored-node cable turns k-pos N L j x inv.lists.late l e

    abbrev P' : ℕ
    P' = marks_next (S (suc N)) s P

    abbrev L' : ℕ
    L' = shrunk cable turns k-pos n P' s L

    alive-counted : (i : ℕ) → MemberOf t i → Alive cable turns n-most k-pos (suc T) L P i (counted (record_of t i))
    alive-counted i mi =
        let al = alive-of i mi in
        record { cable-is = al.cable-is; clock = omega (arith, al.clock); own_is = al.own_is; member = al.member; set_is = al.set_is; marks = al.marks; ret = al.ret; listed = al.listed; marked = al.marked }

    -- a member is marked after the slot
    marked-of : (i : ℕ) → MemberOf t i → has P' i ≡ true
    marked-of i mi = marked_next cable turns n-most k-pos N T L P i inv.lists.late (S (suc N)) (hd i) (record_of t i) (alive-of i mi) (gets i mi) mi.pos mi.le

    -- another member
    record Another (i : ℕ) : Type 0 where
      c : ℕ
      is : MemberOf t c
      other : c ≢ i

    another : (i : ℕ) → Another i
    another i = go (ℕ_discrete a i)
      where
        go : Dec (a ≡ i) → Another i
        go (yes e) = record { c = b; is = mb; other = λ p. ab (e ∙ sym p) }
        go (no e) = record { c = a; is = ma; other = e }

    abbrev after : Table
    after = table_after_slot lost missed t

    node-after : (i : ℕ) → 1 ≤ i → i ≤ n → record_of (table_after_slot lost missed t) i ≡ read_in n (record_of t i).state s (hd i) (counted (record_of t i))
    node-after i h l =
        let st = inv.nodes i h l in
        record-after s lost missed t i h (omega (arith, inv.len)) (good i h l) (omega (arith, st.clock, slots_at S N T L P t inv, below))
        (ap₂ (λ (c : Cable) (x : ℕ). sender c (x + 1)) st.cable-is st.clock ∙ turn) speaker-is
        ∙ ap (λ (c : Cable). read_in c.n (record_of t i).state s (hd i) (counted (record_of t i))) st.cable-is

    -- a node that is out counts
    out-after : (L₁ P₁ i : ℕ) → 1 ≤ i → i ≤ n → is_member (record_of t i).state ≡ false → Stands (suc T) L₁ P₁ i (read_in n (record_of t i).state s (hd i) (counted (record_of t i)))
    out-after L₁ P₁ i h l f =
        let st = inv.nodes i h l in
        subst (Stands (suc T) L₁ P₁ i) (sym (slot-out n (record_of t i).state s (hd i) (counted (record_of t i)) (st.gone f)))
        (record { cable-is = st.cable-is; own_is = st.own_is; clock = omega (arith, st.clock); alive = λ e. absurd (no_both e f); gone = λ _. st.gone f })

    alive-listed : has L s ≡ true → (i : ℕ) → MemberOf t i → Alive cable turns n-most k-pos (suc T) L' P' i (read_in n (record_of t i).state s (hd i) (counted (record_of t i)))
    alive-listed on i mi = subst (Alive cable turns n-most k-pos (suc T) L' P' i) (sym goes) (step (another i))
      where
        goes : read_in n (record_of t i).state s (hd i) (counted (record_of t i)) ≡ inside_slot n s (hd i) (counted (record_of t i))
        goes = slot-member n (record_of t i).state s (hd i) (counted (record_of t i)) mi.member ∙ slot-inside n s (hd i) (counted (record_of t i)) (ap (λ (x : ℕ). has x s) (alive-of i mi).set_is ∙ on)

        step : Another i → Alive cable turns n-most k-pos (suc T) L' P' i (inside_slot n s (hd i) (counted (record_of t i)))
        step o = inside-alive cable turns n-most k-pos N (suc T) L P i inv.lists.late (S (suc N)) (hd i) (counted (record_of t i)) (alive-counted i mi) (gets i mi) mi.pos mi.le
            o.c o.is.pos o.is.le o.other (marked-of o.c o.is)

    -- outside the list nothing is sent
    unsent : has L s ≡ false → S (suc N) ≡ false
    unsent f = sent-member ∙ not-true (is_member (record_of t s).state) (λ m. no_both ((inv.nodes s s-pos s-le).alive m).listed f)

    alive-outside : has L s ≡ false → (i : ℕ) → MemberOf t i → Alive cable turns n-most k-pos (suc T) L P i (read_in n (record_of t i).state s (hd i) (counted (record_of t i)))
    alive-outside away i mi = subst (Alive cable turns n-most k-pos (suc T) L P i) (sym goes) (step (another i))
      where
        goes : read_in n (record_of t i).state s (hd i) (counted (record_of t i)) ≡ outside_slot s (hd i) (counted (record_of t i))
        goes = slot-member n (record_of t i).state s (hd i) (counted (record_of t i)) mi.member ∙ slot-outside n s (hd i) (counted (record_of t i)) (ap (λ (x : ℕ). has x s) (alive-of i mi).set_is ∙ away)

        step : Another i → Alive cable turns n-most k-pos (suc T) L P i (outside_slot s (hd i) (counted (record_of t i)))
        step o = outside-alive cable turns n-most k-pos N (suc T) L P i inv.lists.late (S (suc N)) (hd i) (counted (record_of t i)) (alive-counted i mi) (gets i mi) mi.pos mi.le
            away (unsent away) o.c o.is.pos o.is.le o.other (alive-of o.c o.is).marked

    -- a member that is not marked is another than the two that stay on
    many-left : (x : ℕ) → 1 ≤ x → x ≤ n → has L' x ≡ true → has P' x ≡ false → 2 + cable.lag ≤ size n L'
    many-left x h l on unmarked =
        omega (arith, bounds.1, size-three n L' a b x ma.pos ma.le mb.pos mb.le h l ab (other a ma) (other b mb) (stays a ma) (stays b mb) on)
      where
        stays : (i : ℕ) → MemberOf t i → has L' i ≡ true
        stays i mi = shrunk-keeps cable turns k-pos n P' s L i (marked-of i mi) (alive-of i mi).listed

        other : (i : ℕ) → MemberOf t i → i ≢ x
        other i mi e = no_both (marked-of i mi) (ap (has P') e ∙ unmarked)

    -- the table after the slot, and who is still a member
    pub record Next : Type 0 where
      pub L₁ : ℕ
      pub P₁ : ℕ
      pub inv₁ : TableInv S (suc N) (suc T) L₁ P₁ (table_after_slot lost missed t)
      pub members : (i : ℕ) → MemberOf t i → is_member (record_of (table_after_slot lost missed t) i).state ≡ true

    pub slot-keeps : Next
    slot-keeps = by_cases (has L s)
        (λ on. made L' P' (inside-lists cable turns n-most k-pos S N L P inv.lists on many-left (size-le n L)) (alive-listed on))
        (λ away. made L P (outside-lists cable turns n-most k-pos S N L P inv.lists away (unsent away)) (alive-outside away))
      where
        made : (L₁ P₁ : ℕ) → Lists cable turns n-most k-pos S (suc N) L₁ P₁
            → ((i : ℕ) → MemberOf t i → Alive cable turns n-most k-pos (suc T) L₁ P₁ i (read_in n (record_of t i).state s (hd i) (counted (record_of t i)))) → Next
        made L₁ P₁ ls al = record {
          L₁ = L₁;
          P₁ = P₁;
          inv₁ = record {
            len = after-slot-length lost missed t ∙ inv.len;
            at = omega (arith, inv.at);
            lists = ls;
            nodes = λ i h l. subst (Stands (suc T) L₁ P₁ i) (sym (node-after i h l)) (by_cases (is_member (record_of t i).state)
                (λ m. from-alive (suc T) L₁ P₁ i _ (al i (record { pos = h; le = l; member = m })))
                (λ m. out-after L₁ P₁ i h l m));
          };
          members = λ i mi. ap (λ (v : Node). is_member v.state) (node-after i mi.pos mi.le) ∙ (al i mi).member;
        }

  -- ---- off, and the start

  -- only the slots up to now count
  same-slots : (S R : ℕ → Bool) (N T L P : ℕ) (t : Table) → ((q : ℕ) → q ≤ N → R q ≡ S q) → TableInv S N T L P t → TableInv R N T L P t
  same-slots S R N T L P t h v = record { len = v.len; at = v.at; lists = lists-same cable turns n-most k-pos S R N L P h v.lists; nodes = v.nodes }

  off-keeps : (S : ℕ → Bool) (N T L P : ℕ) (t : Table) → TableInv S N T L P t → (x : ℕ) → ((i : ℕ) → 1 ≤ i → i ≤ n → sound (record_of t i) ≡ true) → TableInv S N T L P (table_after_off x t)
  off-keeps S N T L P t v x good = record {
    len = length-each (λ i w. cond (eqb i x) (node.off_of w).node w) t ∙ v.len;
    at = v.at;
    lists = v.lists;
    nodes = λ i h l. subst (Stands T L P i) (sym (after-off-record x t i h (omega (arith, v.len)))) (choose (Stands T L P i) (eqb i x) (node.off_of (record_of t i)).node (record_of t i)
        (λ _. subst (Stands T L P i) (sym (is-out i h l)) (gone i h l))
        (λ _. v.nodes i h l));
  }
    where
      is-out : (i : ℕ) → 1 ≤ i → i ≤ n → (node.off_of (record_of t i)).node ≡ out_for SwitchedOff (record_of t i)
      is-out i h l = off-is (record_of t i) (good i h l)

      gone : (i : ℕ) → 1 ≤ i → i ≤ n → Stands T L P i (out_for SwitchedOff (record_of t i))
      gone i h l =
          let st = v.nodes i h l in
          record { cable-is = st.cable-is; own_is = st.own_is; clock = st.clock; alive = λ e. absurd (false≢true e); gone = λ _. refl }

  start-stands : (i : ℕ) → 1 ≤ i → i ≤ n → Stands 0 (full n) (full n) i (starting cable i)
  start-stands i h l = from-alive 0 (full n) (full n) i (starting cable i) (record {
    cable-is = refl;
    clock = refl;
    own_is = refl;
    member = refl;
    set_is = refl;
    marks = λ x _ _. refl;
    ret = refl;
    listed = has-full n i h l (omega (arith, n-most));
    marked = has-full n i h l (omega (arith, n-most));
  })

-- ---- every sequence of calls

-- a restart that is not taken leaves the table
passed-leaves : (b : Bool) (number : ℕ) (t : Table) (c : Called) → (is_done c.answer ≡ false → c.table ≡ t) → is_done (if_passed b number t c).answer ≡ false → (if_passed b number t c).table ≡ t
passed-leaves true number t c h e = h e
passed-leaves false number t c h e = refl

restart-leaves : (x : ℕ) (t : Table) → is_done (call_of (restart x) t).answer ≡ false → (call_of (restart x) t).table ≡ t
unfolding call_of restart_of
restart-leaves x t =
    passed-leaves (table_sound t) 4 t (if_passed (node_number (node_count t) x) 3 t last)
    (passed-leaves (node_number (node_count t) x) 3 t last (passed-leaves (is_out (record_of t x).state) 11 t (done (table_after_restart x t)) (λ e. absurd (true≢false e))))
  where
    last : Called
    last = if_passed (is_out (record_of t x).state) 11 t (done (table_after_restart x t))

module _ (cable : Cable) (fits : cable_fits cable ≡ true) (lent : Table) (one_each : length lent ≡ cable.n) where
  open cable use {n, k}

  abbrev start : Table
  start = (set_up_of cable lent).table

  begins : Placed cable 0 start
  begins = start-placed cable fits lent one_each

  turns : Turns cable
  turns = turns-of cable (fitting cable fits)

  n_pos : 1 ≤ cable.n
  n_pos = turns.some

  n-most : cable.n ≤ 32
  n-most = (ring-size cable.n (fitting cable fits).ring).1

  k-pos : 1 ≤ cable.k
  k-pos = omega (arith, sponsor-count cable (fitting cable fits).sponsors)

  bounds : (cable.k < cable.n) × (cable.lag ≤ 1)
  bounds = (omega (arith, sponsor-count cable (fitting cable fits).sponsors), lag-fits cable.lag (fitting cable fits).lag)

  -- something was sent in slot q; the first n are those of the round before the start
  abbrev sent_in : List Call → ℕ → Bool
  sent_in cs q = (past start cs (q - n)).sent

  abbrev t : List Call → Table
  t cs = table_after start cs

  record Run (cs : List Call) : Type 0 where
    L : ℕ
    P : ℕ
    inv : TableInv cable turns n-most k-pos bounds (sent_in cs) (slots_of (table_after start cs) + n) (slots_of (table_after start cs)) L P (table_after start cs)
    on : (i : ℕ) → StaysOn n i cs → is_member (record_of (table_after start cs) i).state ≡ true

  sound-at : (cs : List Call) (i : ℕ) → 1 ≤ i → i ≤ n → sound (record_of (table_after start cs) i) ≡ true
  sound-at cs i h l = ((placed-run cable n_pos start begins cs).at i h l).is-sound

  -- the calls before the last
  earlier : (c : Call) (cs : List Call) (i : ℕ) → StaysOn n i (c ∷ cs) → StaysOn n i cs
  unfolding AtEach
  earlier c cs i o = record { pos = o.pos; le = o.le; on = o.on.0 }

  spared : (x : ℕ) (cs : List Call) (i : ℕ) → StaysOn n i (off x ∷ cs) → x ≢ i
  unfolding AtEach
  spared x cs i o = o.on.1

  two-earlier : (c : Call) (cs : List Call) → TwoStayOn n (c ∷ cs) → TwoStayOn n cs
  two-earlier c cs w = record { a = w.a; b = w.b; first = earlier c cs w.a w.first; second = earlier c cs w.b w.second; two = w.two }

  -- the invariant of another table, after the calls c ∷ cs
  moved : (c : Call) (cs : List Call) (N T L P : ℕ) (u : Table) → table_after start (c ∷ cs) ≡ u → slots_of (table_after start (c ∷ cs)) ≡ T → T + n ≡ N
      → TableInv cable turns n-most k-pos bounds (sent_in (c ∷ cs)) N T L P u
      → TableInv cable turns n-most k-pos bounds (sent_in (c ∷ cs)) (slots_of (table_after start (c ∷ cs)) + n) (slots_of (table_after start (c ∷ cs))) L P (table_after start (c ∷ cs))
  moved c cs N T L P u e q z v =
      let y : slots_of (table_after start (c ∷ cs)) + n ≡ N = omega arith in
      subst (λ (x : ℕ). TableInv cable turns n-most k-pos bounds (sent_in (c ∷ cs)) x (slots_of (table_after start (c ∷ cs))) L P (table_after start (c ∷ cs))) (sym y)
      (subst (λ (x : ℕ). TableInv cable turns n-most k-pos bounds (sent_in (c ∷ cs)) N x L P (table_after start (c ∷ cs))) (sym q)
      (subst (λ (x : Table). TableInv cable turns n-most k-pos bounds (sent_in (c ∷ cs)) N T L P x) (sym e) v))

  -- the same table, with the calls c ∷ cs counted
  again : (c : Call) (cs : List Call) (r : Run cs) → TableInv cable turns n-most k-pos bounds (sent_in (c ∷ cs)) (slots_of (table_after start cs) + n) (slots_of (table_after start cs)) r.L r.P (table_after start cs)
  again c cs r = same-slots cable turns n-most k-pos bounds (sent_in cs) (sent_in (c ∷ cs)) (slots_of (t cs) + n) (slots_of (t cs)) r.L r.P (t cs)
      (λ q h. ap (λ (e : Past). e.sent) (past-old start c cs (q - n) (omega arith))) r.inv

  same-table : (c : Call) (cs : List Call) → Run cs → is_slot c (table_after start cs) ≡ false → table_after start (c ∷ cs) ≡ table_after start cs → Run (c ∷ cs)
  same-table c cs r f e = record {
    L = r.L;
    P = r.P;
    inv = moved c cs (slots_of (t cs) + n) (slots_of (t cs)) r.L r.P (t cs) e (ap slots_of e) refl (again c cs r);
    on = λ i o. ap (λ (x : Table). is_member (record_of x i).state) e ∙ r.on i (earlier c cs i o);
  }

  one-more : (c : Call) (cs : List Call) → Undisturbed n c (table_after start cs) → TwoStayOn n cs → Run cs → Run (c ∷ cs)
  unfolding table_after
  one-more (slot lost missed room) cs un tw r = by_cases (is_slot (slot lost missed room) (t cs)) go (λ e. same-table (slot lost missed room) cs r e (slot-refused lost missed room (t cs) e))
    where
      member_of : (i : ℕ) → StaysOn n i cs → MemberOf cable turns n-most k-pos bounds (table_after start cs) i
      member_of i o = record { pos = o.pos; le = o.le; member = r.on i o }

      go : is_slot (slot lost missed room) (table_after start cs) ≡ true → Run (slot lost missed room ∷ cs)
      go e = made (slot-keeps cable turns n-most k-pos bounds (sent_in (slot lost missed room ∷ cs)) (slots_of (t cs) + n) (slots_of (t cs)) r.L r.P (t cs) (again (slot lost missed room) cs r) lost missed now (un e)
          tw.a tw.b (member_of tw.a tw.first) (member_of tw.b tw.second) tw.two (sound-at cs) (below-limit cable _ _ n_pos (placed-run cable n_pos start begins cs) lost missed room e))
        where
          now : sent_in (slot lost missed room ∷ cs) (suc (slots_of (table_after start cs) + n)) ≡ (transmits (table_after start cs) && not lost)
          now =
              let z : suc (slots_of (table_after start cs) + n) - n ≡ slots_of (table_after start cs) + 1 = omega arith in
              ap (λ (x : ℕ). (past start (slot lost missed room ∷ cs) x).sent) z ∙ ap (λ (x : Past). x.sent) (past-new start (slot lost missed room) cs e)

          table_is : table_after start (slot lost missed room ∷ cs) ≡ table_after_slot lost missed (table_after start cs)
          table_is = slot-done lost missed room (t cs) e

          made : Next cable turns n-most k-pos bounds (sent_in (slot lost missed room ∷ cs)) (slots_of (t cs) + n) (slots_of (t cs)) r.L r.P (t cs) (again (slot lost missed room) cs r) lost missed now (un e)
              tw.a tw.b (member_of tw.a tw.first) (member_of tw.b tw.second) tw.two (sound-at cs) (below-limit cable _ _ n_pos (placed-run cable n_pos start begins cs) lost missed room e) → Run (slot lost missed room ∷ cs)
          made x = record {
            L = x.L₁;
            P = x.P₁;
            inv = moved (slot lost missed room) cs (suc (slots_of (t cs) + n)) (suc (slots_of (t cs))) x.L₁ x.P₁ (table_after_slot lost missed (t cs)) table_is (omega (arith, slots_next cable n_pos start begins (slot lost missed room) cs, num-is e)) (omega arith) x.inv₁;
            on = λ i o. ap (λ (y : Table). is_member (record_of y i).state) table_is ∙ x.members i (member_of i (earlier (slot lost missed room) cs i o));
          }
  one-more (off x) cs un tw r = by_cases (node_number (node_count (t cs)) x) go (λ e. same-table (off x) cs r (off-no-slot x (t cs)) (off-refused x (t cs) ordered e))
    where
      ordered : table_sound (table_after start cs) ≡ true
      ordered = never-unsound cable n_pos start begins cs

      go : node_number (node_count (table_after start cs)) x ≡ true → Run (off x ∷ cs)
      go e = record {
        L = r.L;
        P = r.P;
        inv = moved (off x) cs (slots_of (t cs) + n) (slots_of (t cs)) r.L r.P (table_after_off x (t cs)) table_is (omega (arith, slots_next cable n_pos start begins (off x) cs, num-isnt (off-no-slot x (t cs)))) refl
            (off-keeps cable turns n-most k-pos bounds (sent_in (off x ∷ cs)) (slots_of (t cs) + n) (slots_of (t cs)) r.L r.P (t cs) (again (off x) cs r) x (sound-at cs));
        on = λ i o. ap (λ (y : Table). is_member (record_of y i).state) table_is
            ∙ ap (λ (v : Node). is_member v.state) (after-off-record x (t cs) i o.pos (omega (arith, o.le, run_length cable n_pos start begins cs)) ∙ otherwise _ _ (ne_eqb i x (λ p. spared x cs i o (sym p))))
            ∙ r.on i (earlier (off x) cs i o);
      }
        where
          table_is : table_after start (off x ∷ cs) ≡ table_after_off x (table_after start cs)
          table_is = off-done x (t cs) ordered e
  one-more (restart x) cs un tw r = same-table (restart x) cs r (restart-no-slot x (t cs)) (restart-leaves x (t cs) un)

  early : (cs : List Call) (q : ℕ) → q ≤ n → sent_in cs q ≡ true
  early cs q h = let z : q - n ≡ 0 = omega arith in ap (λ (x : ℕ). (past start cs x).sent) z ∙ ap (λ (e : Past). e.sent) (past-zero start cs)

  none_yet : slots_of (table_after start []) ≡ 0
  unfolding table_after
  none_yet = slots-of-placed cable 0 start n_pos begins

  first : Run []
  unfolding table_after
  first = record {
    L = full n;
    P = full n;
    inv = subst (λ (x : ℕ). TableInv cable turns n-most k-pos bounds (sent_in []) (x + n) x (full n) (full n) start) (sym none_yet) (record {
      len = run_length cable n_pos start begins [];
      at = refl;
      lists = let z : n ≡ 0 + n = omega arith in subst (λ (x : ℕ). Lists cable turns n-most k-pos (sent_in []) x (full n) (full n)) z (lists-start cable turns n-most k-pos (sent_in []) (λ q h. early [] q h));
      nodes = λ i h l. subst (Stands cable turns n-most k-pos bounds 0 (full n) (full n) i) (sym (start-record cable fits lent one_each i h l)) (start-stands cable turns n-most k-pos bounds i h l);
    });
    on = λ i o. ap (λ (v : Node). is_member v.state) (start-record cable fits lent one_each i o.pos o.le);
  }

  run : (cs : List Call) → OnlyOffs cable (table_after start) cs → TwoStayOn n cs → Run cs
  unfolding AtEach
  run [] oo tw = first
  run (c ∷ cs) oo tw = one-more c cs oo.1 (two-earlier c cs tw) (run cs oo.0 (two-earlier c cs tw))

  -- ---- what it gives

  survives : (cs : List Call) → Run cs → Survives cable (table_after start) cs
  survives cs r = record {
    equal = λ i j oi oj. (al i oi).set_is ∙ sym (al j oj).set_is;
    remain = r.on;
    listed = λ i j oi oj. ap (λ (x : ℕ). has x j) (al i oi).set_is ∙ (al j oj).listed;
    not-before = λ x h l p i oi. ap (λ (y : ℕ). has y x) (al i oi).set_is ∙ there x (its-slot cable turns T x h l) p;
    gone = λ s h w p i oi. ap (λ (y : ℕ). has y (sender cable s)) (al i oi).set_is ∙ away s h w p;
  }
    where
      T : ℕ
      T = slots_of (table_after start cs)

      al : (i : ℕ) → StaysOn n i cs → Alive cable turns n-most k-pos (slots_of (table_after start cs)) r.L r.P i (record_of (table_after start cs) i)
      al i o = (r.inv.nodes i o.pos o.le).alive (r.on i o)

      ls : Lists cable turns n-most k-pos (sent_in cs) (slots_of (table_after start cs) + n) r.L r.P
      ls = r.inv.lists

      -- slot u of the round before the start and since
      real : (u : ℕ) → n < u → sender cable (u - n) ≡ sender cable u
      real u h = let z : u - n + n ≡ u = omega arith in sym (sender-period cable turns (u - n) (omega arith)) ∙ ap (sender cable) z

      there : (x : ℕ) → (u : ℕ) × (slots_of (table_after start cs) < u) × (u ≤ slots_of (table_after start cs) + n) × (sender cable u ≡ x)
          → ((s : ℕ) → 1 ≤ s → s < slots_of (table_after start cs) → sender cable s ≡ x → (entry start cs s).sent ≡ true) → has r.L x ≡ true
      there x (u, a, b, e) p = by_cases (sent_in cs u)
          (λ q. ap (has r.L) (sym e) ∙ ls.spoke u (T + n - u) (omega arith) (omega arith) q)
          (λ q. silent q (ℕ_discrete u (slots_of (table_after start cs) + n)))
        where
          sent-before : (w : ℕ) → w < slots_of (table_after start cs) + n → sender cable w ≡ x → sent_in cs w ≡ true
          sent-before w h y = go (dec_le w n)
            where
              go : Dec (w ≤ n) → sent_in cs w ≡ true
              go (yes q) = early cs w q
              go (no q) = ap (λ (z : Entry). z.sent) (sym (entry-is start cs (w - n))) ∙ p (w - n) (omega arith) (omega arith) (real w (omega arith) ∙ y)

          silent : sent_in cs u ≡ false → Dec (u ≡ slots_of (table_after start cs) + n) → has r.L x ≡ true
          silent q (no z) = absurd (no_both (sent-before u (omega arith) e) q)
          silent q (yes z) = go (dec_lt n u)
            where
              go : Dec (n < u) → has r.L x ≡ true
              go (no h) = absurd (no_both (early cs u (omega arith)) q)
              go (yes h) =
                  let d : sender cable (slots_of (table_after start cs)) ≡ x = (let y : slots_of (table_after start cs) ≡ u - n = omega arith in ap (sender cable) y ∙ real u h ∙ e) in
                  ap (has r.L) (sym (ap (sender cable) (sym z) ∙ e)) ∙ ls.waits (slots_of (table_after start cs)) refl (sent-before (slots_of (table_after start cs)) (omega (arith, n_pos)) d)

      away : (s : ℕ) → 1 ≤ s → s + (n - 1) ≤ slots_of (table_after start cs) → (entry start cs s).sent ≡ false → has r.L (sender cable s) ≡ false
      away s h w p =
          let z : s + n - n ≡ s = omega arith in
          let q : sent_in cs (s + n) ≡ false = ap (λ (x : ℕ). (past start cs x).sent) z ∙ ap (λ (y : Entry). y.sent) (sym (entry-is start cs s)) ∙ p in
          ap (has r.L) (sym (sender-period cable turns s h)) ∙ ls.gone (s + n) (slots_of (table_after start cs) + n - (s + n)) (omega arith) (omega (arith, n_pos)) q

  -- at the start and after each call
  each : (cs : List Call) → OnlyOffs cable (table_after start) cs → TwoStayOn n cs → AtEach (λ c before. Survives cable (table_after start) (c ∷ before)) cs
  unfolding AtEach
  each [] oo tw = tt
  each (c ∷ cs) oo tw = (each cs oo.0 (two-earlier c cs tw), survives (c ∷ cs) (run (c ∷ cs) oo tw))

  at-start : Survives cable (table_after start) []
  at-start = survives [] first

pub many-dead : ManyDead
unfolding EverySequence
many-dead cable fits lent one_each cs (oo, tw) = (at-start cable fits lent one_each, each cable fits lent one_each cs oo tw)
