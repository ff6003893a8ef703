-- One slot of a node in the member state, where no message is lost or missed and nobody returns: all such nodes hold one list and one set of marks. Assumes nothing.
use Prim.Native.Nat.{ℕ, zero, suc, ◌≤◌, ◌<◌}
use mathlib.Core.Path.{◌≡◌, refl, sym, ap, ap₂, ◌∙◌, subst}
use mathlib.Core.Logic.{◌≢◌, ◌⊎◌, inl, inr}
use mathlib.Core.Bool.{Bool, true, false, cond, not, ◌&&◌, true≢false}
use native.Mathlib.Omega.{arith}
use native.Mathlib.Decide.{ℕ_discrete}
use lib.Dec.{eqb, ltb}
use borrow.Author.Tests as tests
use borrow.Author.Tests.{eqb-true, eq-eqb, ne_eqb}
use Rattle.agreement.specs.nodeset.Sets.{has, without, size}
use Rattle.agreement.proofs.nodeset.Tests.{by_cases, both, chosen, otherwise}
use Rattle.agreement.proofs.nodeset.Laws.{has-with, has-with-other, has-without, has-without-other}
use Rattle.agreement.proofs.nodeset.Counts.{size-without}
use Rattle.agreement.specs.cable.declared.Cable.{Cable}
use Rattle.agreement.specs.ring.Ring.{sender, member_before, sponsors, sponsored, decided, member_in, is_found}
use Rattle.agreement.proofs.ring_laws.Senders.{Turns, sender-range}
use Rattle.agreement.specs.message.Answers.{Reading}
use Rattle.agreement.specs.node_record.declared.Node.{Node}
use Rattle.agreement.specs.node_record.declared.Cause.TheVariants.{MissedReturn}
use Rattle.agreement.specs.node_record.States.{is_member}
use Rattle.agreement.specs.node_record.Sponsoring.{sponsors_in, decided_in}
use Rattle.agreement.specs.node_changes.Changes.{leave, with_set}
use Rattle.agreement.specs.node_steps.Steps.{is_heard, return_in, marks_after, noted, leaves, too_few, nothing_heard, joins, settle}
use Rattle.agreement.specs.node_steps.Inner.{read_return, read_marked, departing, inside_slot, outside_slot}
use Rattle.agreement.specs.node_steps.Digests.{bits_heard}
use Rattle.agreement.proofs.node_steps.Answers.{At, Told}
use Rattle.agreement.proofs.Marks.{no_both, not-true, WasOff, unmarked, denied, mark-own, mark-of-sender, off-before, on-before}
use Rattle.many_dead.proofs.Shrinking.{goes, shrunk, shrunk-alike, shrunk-keeps}
use Rattle.many_dead.proofs.Lists.{marks_next}

-- two sets of marks have the same nodes
abbrev pub Alike : ℕ → ℕ → ℕ → Type 0
Alike n p q = (x : ℕ) → 1 ≤ x → x ≤ n → has p x ≡ has q x

-- steps 4 and 5 do nothing where another node is marked and nobody returns
pub settle-stays : (inside : Bool) (s : ℕ) (v : Node) → is_member v.state ≡ true → v.returning ≡ 0 → (a : ℕ) → 1 ≤ a → a ≤ v.cable.n → a ≢ v.own → has v.present a ≡ true → settle inside s v ≡ v
unfolding settle
settle-stays inside s v mb ret a h l ne on = otherwise _ _ enough ∙ otherwise _ _ heard ∙ otherwise _ _ none
  where
    enough : too_few v ≡ false
    enough = ap (λ (b : Bool). not b && ltb (size v.cable.n v.set) 2) mb

    heard : nothing_heard v ≡ false
    heard = ne_eqb (size v.cable.n (without v.present v.own)) 0 (λ z.
        omega (arith, size-without v.cable.n (without v.present v.own) a h l (has-without-other v.present v.own a (λ p. ne (sym p)) ∙ on)))

    none : (inside && joins s v) ≡ false
    none = no_one inside (eqb v.returning 0) (is_found s (member_before v.cable v.set v.returning 1)) (eq-eqb v.returning 0 ret)
      where
        no_one : (a b c : Bool) → b ≡ true → (a && (not b && c)) ≡ false
        no_one true true c e = refl
        no_one false b c e = refl
        no_one true false c e = absurd (true≢false (sym e))

module _ (cable : Cable) (turns : Turns cable) (n-most : cable.n ≤ 32) (k-pos : 1 ≤ cable.k) where
  open cable use {n}

  -- the repeated departure, where the own mark is on
  departs-by : (times s : ℕ) (v : Node) → v.cable ≡ cable → has v.present v.own ≡ true
      → departing times s v ≡ settle true s (with_set (shrunk cable turns k-pos times v.present s v.set) v)
  unfolding departing shrunk goes
  departs-by zero s v c on = refl
  departs-by (suc times) s v c on =
      by_cases (leaves s v m)
      (λ e.
      let own : eqb m v.own ≡ false = not-true (eqb m v.own) (λ o. no_both on (ap (has v.present) (sym (eqb-true m v.own o)) ∙ tests.not-true (has v.present m) (both (is_found m (decided_in s v)) (not (has v.present m)) e).1)) in
      chosen _ _ e ∙ otherwise _ _ own ∙ departs-by times s (with_set (without v.set m) v) c on
      ∙ ap (λ (x : ℕ). settle true s (with_set x v)) (same e))
      (λ e. otherwise _ _ e ∙ ap (λ (x : ℕ). settle true s (with_set x v)) (sym (otherwise _ _ (is-goes ∙ e))))
    where
      m : ℕ
      m = member_in (decided_in s v)

      is-goes : goes cable turns k-pos v.present s v.set ≡ leaves s v (member_in (decided_in s v))
      is-goes = ap (λ (c : Cable). is_found (member_in (decided c v.set s)) (decided c v.set s) && not (has v.present (member_in (decided c v.set s)))) (sym c)

      same : leaves s v (member_in (decided_in s v)) ≡ true → shrunk cable turns k-pos times v.present s (without v.set (member_in (decided_in s v))) ≡ shrunk cable turns k-pos (suc times) v.present s v.set
      same e =
          ap (λ (c : Cable). shrunk cable turns k-pos times v.present s (without v.set (member_in (decided c v.set s)))) c
          ∙ sym (chosen _ _ (is-goes ∙ e))

  -- a node in the member state: its set is the list, its marks are those of all, nobody returns, it is on the list and marked
  pub record Alive (T L P i : ℕ) (v : Node) : Type 0 where
    pub cable-is : v.cable ≡ cable
    pub clock : v.slots ≡ T
    pub own_is : v.own ≡ i
    pub member : is_member v.state ≡ true
    pub set_is : v.set ≡ L
    pub marks : Alike n v.present P
    pub ret : v.returning ≡ 0
    pub listed : has L i ≡ true
    pub marked : has P i ≡ true

  -- what node i reads of a slot of s; `sent` says whether s sends
  pub record Gets (L P s i : ℕ) (sent : Bool) (r : Reading) : Type 0 where
    pub own : s ≡ i → sent ≡ true
    pub mute : s ≡ i → is_heard r ≡ false
    pub others : s ≢ i → is_heard r ≡ sent
    pub bits : is_heard r ≡ true → (j x : ℕ) → j < sponsors cable L → At x (sponsored cable L s (suc j)) → has (bits_heard r) (suc j) ≡ has P x
    pub ret : return_in r ≡ false

  module _ (N T L P i : ℕ) (late : n ≤ N) (sent : Bool) (r : Reading) (v : Node) (al : Alive T L P i v) (g : Gets L P (sender cable (suc N)) i sent r) (i-pos : 1 ≤ i) (i-le : i ≤ n) where
    abbrev s : ℕ
    s = sender cable (suc N)

    s-pos : 1 ≤ sender cable (suc N)
    s-pos = (sender-range cable turns (suc N)).0

    s-le : sender cable (suc N) ≤ n
    s-le = (sender-range cable turns (suc N)).1

    abbrev P' : ℕ
    P' = marks_next sent s P

    mark-here : has (marks_next sent (sender cable (suc N)) P) (sender cable (suc N)) ≡ sent
    mark-here = go sent
      where
        go : (b : Bool) → has (marks_next b (sender cable (suc N)) P) (sender cable (suc N)) ≡ b
        go true = has-with P (sender cable (suc N)) s-pos (omega (arith, s-le, n-most))
        go false = has-without P (sender cable (suc N))

    mark-other : (x : ℕ) → sender cable (suc N) ≢ x → has (marks_next sent (sender cable (suc N)) P) x ≡ has P x
    mark-other x ne = go sent
      where
        go : (b : Bool) → has (marks_next b (sender cable (suc N)) P) x ≡ has P x
        go true = has-with-other P (sender cable (suc N)) x ne
        go false = has-without-other P (sender cable (suc N)) x ne

    -- what is told of node x is its mark
    told_is : (answer : Bool) (x : ℕ) → is_heard r ≡ true → (t : Told answer s (bits_heard r) v x (sponsors_in v)) → has (bits_heard r) (suc t.i) ≡ has P x
    told_is answer x p t =
        g.bits p t.i x (omega (arith, t.below, ap₂ sponsors al.cable-is al.set_is))
        (record { back = t.it.back; it = sym (ap₂ (λ (c : Cable) (set : ℕ). sponsored c set s (suc t.i)) al.cable-is al.set_is) ∙ t.it.it })

    mute : s ≡ v.own → is_heard r ≡ false
    mute e = g.mute (e ∙ al.own_is)

    pub marks-next : Alike n (marks_after (sender cable (suc N)) r v) (marks_next sent (sender cable (suc N)) P)
    marks-next x h l = two (ℕ_discrete s x) (ℕ_discrete s v.own)
      where
        here : Dec (s ≡ v.own) → has (marks_after s r v) s ≡ sent
        here (yes o) = mark-own s v r s-pos (omega (arith, s-le, n-most)) o ∙ sym (g.own (o ∙ al.own_is))
        here (no o) = mark-of-sender s v r s-pos (omega (arith, s-le, n-most)) o ∙ g.others (λ p. o (p ∙ sym al.own_is))

        off : WasOff s r v x → has P x ≡ false
        off (unmarked f _) = sym (al.marks x h l) ∙ f
        off (denied p own t) =
            absurd (no_both al.marked (ap (has P) (sym al.own_is) ∙ sym (told_is false v.own p t) ∙ tests.not-true (has (bits_heard r) (suc t.i)) t.bit))

        on : (has v.present x ≡ true) ⊎ ((is_heard r ≡ true) × Told true s (bits_heard r) v x (sponsors_in v)) → has P x ≡ true
        on (inl p) = sym (al.marks x h l) ∙ p
        on (inr t) = sym (told_is true x t.0 t.1) ∙ t.1.bit

        other : s ≢ x → has (marks_after s r v) x ≡ has P x
        other ne = by_cases (has (marks_after s r v) x)
            (λ e. e ∙ sym (on (on-before s v r mute x h (omega (arith, l, n-most)) ne e).was))
            (λ e. e ∙ sym (off (off-before s v r mute x h (omega (arith, l, n-most)) ne e)))

        two : Dec (s ≡ x) → Dec (s ≡ v.own) → has (marks_after s r v) x ≡ has (marks_next sent s P) x
        two (yes e) o = subst (λ (y : ℕ). has (marks_after s r v) y ≡ has (marks_next sent s P) y) e (here o ∙ sym mark-here)
        two (no e) o = other e ∙ sym (mark-other x e)

    pub marked_next : has (marks_next sent (sender cable (suc N)) P) i ≡ true
    marked_next = two (ℕ_discrete s i)
      where
        two : Dec (s ≡ i) → has (marks_next sent s P) i ≡ true
        two (yes e) = subst (λ (y : ℕ). has (marks_next sent s P) y ≡ true) e (mark-here ∙ g.own e)
        two (no e) = mark-other i e ∙ al.marked

    -- a slot of a listed node; another node a is marked after it
    pub inside-alive : (a : ℕ) → 1 ≤ a → a ≤ n → a ≢ i → has (marks_next sent (sender cable (suc N)) P) a ≡ true
        → Alive T (shrunk cable turns k-pos n (marks_next sent (sender cable (suc N)) P) (sender cable (suc N)) L) (marks_next sent (sender cable (suc N)) P) i (inside_slot n (sender cable (suc N)) r v)
    unfolding inside_slot
    inside-alive a ha la ne on = subst (Alive T L' P' i) (sym goes-on) (record {
      cable-is = al.cable-is;
      clock = al.clock;
      own_is = al.own_is;
      member = al.member;
      set_is = set_next;
      marks = marks-next;
      ret = al.ret;
      listed = shrunk-keeps cable turns k-pos n P' s L i marked_next al.listed;
      marked = marked_next;
    })
      where
        w : Node
        w = read_marked s r v

        L' : ℕ
        L' = shrunk cable turns k-pos n (marks_next sent (sender cable (suc N)) P) (sender cable (suc N)) L

        set_next : shrunk cable turns k-pos n (marks_after s r v) s v.set ≡ shrunk cable turns k-pos n (marks_next sent (sender cable (suc N)) P) (sender cable (suc N)) L
        set_next = shrunk-alike cable turns k-pos n (marks_after s r v) P' N v.set late marks-next ∙ ap (shrunk cable turns k-pos n P' s) al.set_is

        own_on : has (marks_after s r v) v.own ≡ true
        own_on = ap (has (marks_after s r v)) al.own_is ∙ marks-next i i-pos i-le ∙ marked_next

        le-own : a ≤ v.cable.n
        le-own = omega (arith, la, ap (λ (c : Cable). c.n) al.cable-is)

        goes-on : cond (read_return r v) (leave MissedReturn v) (departing n s w) ≡ with_set (shrunk cable turns k-pos n (marks_after s r v) s v.set) w
        goes-on =
            otherwise _ _ (ap (λ (b : Bool). b && eqb v.returning 0) g.ret)
            ∙ departs-by n s w al.cable-is own_on
            ∙ settle-stays true s (with_set (shrunk cable turns k-pos n (marks_after s r v) s v.set) w) al.member al.ret a ha le-own (λ q. ne (q ∙ al.own_is)) (marks-next a ha la ∙ on)

    -- a slot outside the list: nothing is sent
    pub outside-alive : has L (sender cable (suc N)) ≡ false → sent ≡ false → (a : ℕ) → 1 ≤ a → a ≤ n → a ≢ i → has P a ≡ true → Alive T L P i (outside_slot (sender cable (suc N)) r v)
    unfolding outside_slot noted
    outside-alive off unsent a ha la ne on =
        subst (Alive T L P i) (sym (ap (settle false s) same ∙ settle-stays false s v al.member al.ret a ha (omega (arith, la, ap (λ (c : Cable). c.n) al.cable-is)) (λ q. ne (q ∙ al.own_is)) (al.marks a ha la ∙ on))) al
      where
        other : s ≢ i
        other e = no_both al.listed (ap (has L) (sym e) ∙ off)

        same : noted s r v ≡ v
        same = otherwise _ _ (ne_eqb s v.own (λ p. other (p ∙ al.own_is))) ∙ otherwise _ _ (ap (λ (b : Bool). b && eqb v.returning 0) (g.others other ∙ unsent))
