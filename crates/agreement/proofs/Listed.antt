-- A listed slot, step 1: the marks (M). Assumes nothing.
use Prim.Native.Nat.{ℕ, zero, suc, ◌+◌, ◌-◌, ◌^◌, ◌≤◌, ◌<◌}
use mathlib.Core.Path.{◌≡◌, refl, sym, ap, ap₂, ◌∙◌, subst}
use mathlib.Core.Logic.{◌≢◌, ◌⊎◌, inl, inr}
use mathlib.Core.Bool.{Bool, true, false, not}
use native.Mathlib.Omega.{arith}
use native.Mathlib.Decide.{ℕ_discrete}
use lib.Dec.{eqb}
use borrow.Author.Tests as tests
use Rattle.bench.specs.nodeset.Sums.{sum, num}
use Rattle.bench.specs.nodeset.Sets.{has, size}
use Rattle.bench.proofs.nodeset.Tests.{by_cases}
use Rattle.bench.proofs.nodeset.Sums.{sum-at, num-le}
use Rattle.bench.specs.cable.declared.Cable.{Cable}
use Rattle.bench.specs.ring.Ring.{sender, sponsors, sponsored}
use Rattle.bench.proofs.ring_laws.Senders.{sender-range, sender-once, same-slot}
use Rattle.bench.specs.message.Answers.{Reading}
use Rattle.bench.specs.node_record.declared.Node.{Node}
use Rattle.bench.specs.node_record.States.{is_member}
use Rattle.bench.specs.node_record.Sponsoring.{sponsors_in, sponsored_in}
use Rattle.bench.specs.node_steps.Steps.{is_heard, return_in, marks_after, yes_after}
use Rattle.bench.specs.node_steps.Digests.{bits_heard}
use Rattle.bench.proofs.node_steps.Answers.{At, Told}
use Rattle.agreement.proofs.History.{World, sender-most, Untold, K, lst, told-in-time, sponsors-are, Decision, sponsored-since, Sponsored, num-is}
use Rattle.agreement.proofs.Invariant.{Tracking, Off, Lost}
use Rattle.agreement.proofs.Marks.{no_both, not-true, not-false, WasOff, unmarked, denied, WasOn, mark-own, mark-of-sender, off-before, on-before, yes-own, yes-before}
use Rattle.bench.specs.ring.Ring.{found}

module _ (W : World) where
  open W use {cable, n_pos, turns, E, fair}
  open cable use {n, k, lag}

  -- a slot begins
  pub record Begins (N L : ℕ) : Type 0 where
    pub late : n ≤ N
    pub kept : K W N L
    pub enough : k + lag < size n L
    pub small : L < 2 ^ n

  -- what tracking node i hears of slot N + 1
  pub record Hears (N i : ℕ) (v : Node) (r : Reading) : Type 0 where
    pub own : i ≡ sender cable (suc N) → is_heard r ≡ false
    pub unsent : (E (suc N)).sent ≡ false → is_heard r ≡ false
    pub missing : is_heard r ≡ false → (E (suc N)).sent ≡ true → i ≢ sender cable (suc N) → (is_member v.state ≡ true) × ((E (suc N)).missed i ≡ true)

  -- what a member says in slot N + 1
  pub record Says (N L : ℕ) (r : Reading) : Type 0 where
    pub z : Node
    pub inv : Tracking W N L (sender cable (suc N)) z
    pub member : is_member z.state ≡ true
    pub bits : (j x : ℕ) → j < k → At x (sponsored cable L (sender cable (suc N)) (suc j)) → has (bits_heard r) (suc j) ≡ has z.present x
    pub ret : return_in r ≡ not (eqb z.returning 0)

  -- the sender of an earlier slot of the round is another
  pub other-sender : (N u e : ℕ) → n ≤ N → u + suc e ≡ suc N → suc e < n → sender cable (suc N) ≢ sender cable u
  other-sender N u e hn z h p = sender-once cable turns u (suc e) (omega arith) (omega arith) h (ap (sender cable) z ∙ p)

  pub same-window : (N u v a b : ℕ) → n ≤ N → u + a ≡ N → v + b ≡ N → a < n → b < n → sender cable u ≡ sender cable v → u ≡ v
  same-window N u v a b hn p q ha hb e = same-slot cable turns (N - n) u v (omega arith) (omega arith) (omega arith) (omega arith) e

  -- one slot more, which says something of u only after `lag` listed ones
  pub extend : (N u : ℕ) → Untold W u N → ((d : ℕ) → u + d ≡ N → lag ≤ sum (lst W) (suc u) d → lst W (suc N) ≤ (E (suc N)).failures + num ((E u).missed (sender cable (suc N)))) → Untold W u (suc N)
  extend N u un h q d y r past = go (ℕ_discrete q (suc N))
    where
      go : Dec (q ≡ suc N) → lst W q ≤ (E q).failures + num ((E u).missed (sender cable q))
      go (yes x) = rw x (h d (omega arith) past)
      go (no x) = un q d y (omega arith) past

  pub missed-failure : (t i : ℕ) → (E t).missed i ≡ true → 1 ≤ i → i ≤ n → 1 ≤ (E t).failures
  missed-failure t i m h l =
      omega (arith, (fair t).count, sum-at (λ j. num ((E t).missed j)) 1 n i h (omega arith), num-is m)

  -- a slot whose sender is on the list
  pub record ListedSlot : Type 0 where
    pub N : ℕ  -- the slots before it
    pub L : ℕ  -- the list as it begins
    pub B : Begins N L
    pub l_t : (E (suc N)).listed ≡ true
    pub on_l : has L (sender cable (suc N)) ≡ true
    pub D : Decision W N L  -- the member that its sender decides

  -- a tracking node i with the record v that reads r in slot N + 1
  pub record Hearer (N L : ℕ) : Type 0 where
    pub r : Reading
    pub says : is_heard r ≡ true → Says N L r
    pub i : ℕ
    pub i-pos : 1 ≤ i
    pub i-le : i ≤ n
    pub v : Node
    pub vc : v.cable ≡ cable
    pub vo : v.own ≡ i
    pub iv : Tracking W N L i v
    pub h : Hears N i v r

  module _ (S : ListedSlot) (T : Hearer S.N S.L) where
    open S use {N, L, B, l_t, on_l}
    open T use {r, says, i, i-pos, i-le, v, vc, vo, iv, h}

    abbrev s : ℕ
    s = sender cable (suc N)

    sponsors-is : sponsors_in v ≡ k
    sponsors-is = ap₂ sponsors vc iv.set_is ∙ sponsors-are W L B.enough

    sponsored-is : (j : ℕ) → sponsored_in s j v ≡ sponsored cable L s j
    sponsored-is j = ap₂ (λ (c : Cable) (set : ℕ). sponsored c set s j) vc iv.set_is

    -- of the own slot nothing is heard
    mute : s ≡ v.own → is_heard r ≡ false
    mute e = h.own (sym (e ∙ vo))

    -- what is told is the sender's mark
    said-mark : (answer : Bool) (x : ℕ) (Z : Says N L r) (t : Told answer s (bits_heard r) v x (sponsors_in v)) → has (bits_heard r) (suc t.i) ≡ has Z.z.present x
    said-mark answer x Z t = Z.bits t.i x (omega (arith, t.below, sponsors-is)) (record { back = t.it.back; it = sym (sponsored-is (suc t.i)) ∙ t.it.it })

    told-mark : (x : ℕ) (Z : Says N L r) → Told true s (bits_heard r) v x (sponsors_in v) → has Z.z.present x ≡ true
    told-mark x Z t = sym (said-mark true x Z t) ∙ t.bit

    denied-mark : (x : ℕ) (Z : Says N L r) → Told false s (bits_heard r) v x (sponsors_in v) → has Z.z.present x ≡ false
    denied-mark x Z t = sym (said-mark false x Z t) ∙ tests.not-true (has (bits_heard r) (suc t.i)) t.bit

    -- an earlier slot u of the round
    module _ (u e : ℕ) (ago : u + e ≡ N) (l : suc e < n) where
      ne : s ≢ sender cable u
      ne = other-sender N u e B.late (omega arith) l

      missed-it : (E u).missed s ≡ true → lst W (suc N) ≤ (E (suc N)).failures + num ((E u).missed s)
      missed-it p = omega (arith, num-is p, num-le (E (suc N)).listed)

      by-sender : ((E u).missed s ≡ true) ⊎ (s ≡ sender cable u) → lst W (suc N) ≤ (E (suc N)).failures + num ((E u).missed s)
      by-sender (inl p) = missed-it p
      by-sender (inr p) = absurd (ne p)

      -- a message that another node does not hear is a failure
      not-heard : i ≢ s → is_heard r ≡ false → lst W (suc N) ≤ (E (suc N)).failures + num ((E u).missed s)
      not-heard d q = by_cases (E (suc N)).sent
          (λ p. omega (arith, missed-failure (suc N) i (h.missing q p d).1 i-pos i-le, num-le (E (suc N)).listed))
          (λ p. omega (arith, (fair (suc N)).unsent p l_t, num-le (E (suc N)).listed))

      -- one slot more
      extended : Untold W u N → (lag ≤ sum (lst W) (suc u) e → lst W (suc N) ≤ (E (suc N)).failures + num ((E u).missed s)) → Untold W u (suc N)
      extended un f = extend N u un (λ d y past. let c : d ≡ e = omega arith in f (rw c at past))

      -- the bit of its sender, where no member told it
      said-of : has L (sender cable u) ≡ true → Untold W u N → lag ≤ sum (lst W) (suc u) e → Sponsored W N L u
      said-of on un past =
          let un' : Untold W u (u + e) = rw ago un in
          sponsored-since W N L B.late B.kept B.enough u e ago l on past (told-in-time W u e (omega (arith, B.late)) (omega arith) un')

      -- ---- it was not sent

      module _ (listed : (E u).listed ≡ true) (lost : (E u).sent ≡ false) where
        was : Lost W N i u v.present v.yes_heard
        was = iv.marks-off u e ago (omega arith) listed lost

        -- the mark of its sender is off at the sender of this slot
        sender-off : (Z : Says N L r) → has Z.z.present (sender cable u) ≡ false
        sender-off Z = not-true (has Z.z.present (sender cable u)) (λ y. ne ((Z.inv.marks-off u e ago (omega arith) listed lost).on y).0)

        not-told : is_heard r ≡ true → Told true s (bits_heard r) v (sender cable u) (sponsors_in v) → ⊥
        not-told p t = no_both (told-mark (sender cable u) (says p) t) (sender-off (says p))

        -- its sender, where it hears this slot, hears a no
        denial : is_heard r ≡ true → i ≡ sender cable u → Untold W u N → lag ≤ sum (lst W) (suc u) e → Told false s (bits_heard r) v v.own (sponsors_in v)
        denial p y un past = go (says p) (said-of still un past)
          where
            still : has L (sender cable u) ≡ true
            still =
                let un' : Untold W u (u + e) = rw ago un in
                (B.kept u e ago (omega arith)).waits listed lost (told-in-time W u e (omega (arith, B.late)) (omega arith) un')

            go : Says N L r → Sponsored W N L u → Told false s (bits_heard r) v v.own (sponsors_in v)
            go Z sp = record {
              i = sp.j;
              below = omega (arith, sp.few, sponsors-is);
              bit = ap not (Z.bits sp.j (sender cable u) sp.few (record { back = sp.back; it = sp.it }) ∙ sender-off Z);
              it = record { back = sp.back; it = sponsored-is (suc sp.j) ∙ sp.it ∙ ap (λ (x : ℕ). found x sp.back) (sym y ∙ sym vo) };
            }

        still-lost : Lost W (suc N) i u (marks_after s r v) (yes_after s r v)
        still-lost = record { on = λ y. older (on-before s v r mute (sender cable u) (sender-range cable turns u).0 (sender-most W u) ne y); unsaid = λ y. not-true (yes_after s r v) (λ a. said y (yes-before s v r a)) }
          where
            kept : (i ≡ sender cable u) × Untold W u N → (is_heard r ≡ true → sender cable u ≡ v.own → v.yes_heard ≡ false → Told false s (bits_heard r) v v.own (sponsors_in v) → ⊥) → (i ≡ sender cable u) × Untold W u (suc N)
            kept (y, un) f = (y, extended un (λ past. by_cases (is_heard r) (λ p. absurd (f p (sym y ∙ sym vo) (was.unsaid y) (denial p y un past))) (λ p. not-heard (λ c. ne (sym c ∙ y)) p)))

            older : WasOn s r v (sender cable u) → (i ≡ sender cable u) × Untold W u (suc N)
            older o = two o.was
              where
                two : (has v.present (sender cable u) ≡ true) ⊎ ((is_heard r ≡ true) × Told true s (bits_heard r) v (sender cable u) (sponsors_in v)) → (i ≡ sender cable u) × Untold W u (suc N)
                two (inl a) = kept (was.on a) o.undenied
                two (inr t) = absurd (not-told t.0 t.1)

            said : i ≡ sender cable u → (v.yes_heard ≡ true) ⊎ ((is_heard r ≡ true) × Told true s (bits_heard r) v v.own (sponsors_in v)) → ⊥
            said y (inl a) = no_both a (was.unsaid y)
            said y (inr t) = not-told t.0 (subst (λ (x : ℕ). Told true s (bits_heard r) v x (sponsors_in v)) (vo ∙ y) t.1)

      -- ---- it was sent

      module _ (sent : (E u).sent ≡ true) (on : has L (sender cable u) ≡ true) where
        untold-after : (is_heard r ≡ true → Told true s (bits_heard r) v (sender cable u) (sponsors_in v) → ⊥) → Off W N i u v → lag ≤ sum (lst W) (suc u) e → lst W (suc N) ≤ (E (suc N)).failures + num ((E u).missed s)
        untold-after nt o past = two (ℕ_discrete i s)
          where
            own-case : i ≡ s → ((E u).missed i ≡ true) ⊎ (i ≡ sender cable u) → lst W (suc N) ≤ (E (suc N)).failures + num ((E u).missed s)
            own-case c (inl p) = missed-it (rw c at p)
            own-case c (inr p) = absurd (ne (sym c ∙ p))

            heard-with : is_heard r ≡ true → (Z : Says N L r) → Sponsored W N L u → lst W (suc N) ≤ (E (suc N)).failures + num ((E u).missed s)
            heard-with p Z sp =
                let at-u : At (sender cable u) (sponsored cable L s (suc sp.j)) = record { back = sp.back; it = sp.it } in
                let nb : has (bits_heard r) (suc sp.j) ≡ false = not-true (has (bits_heard r) (suc sp.j)) (λ b. nt p (record { i = sp.j; below = omega (arith, sp.few, sponsors-is); bit = b; it = record { back = sp.back; it = sponsored-is (suc sp.j) ∙ sp.it } })) in
                by-sender (Z.inv.marks-on u e ago (omega arith) sent on (sym (Z.bits sp.j (sender cable u) sp.few at-u) ∙ nb)).who

            two : Dec (i ≡ s) → lst W (suc N) ≤ (E (suc N)).failures + num ((E u).missed s)
            two (yes c) = own-case c o.who
            two (no c) = by_cases (is_heard r) (λ p. heard-with p (says p) (said-of on o.untold past)) (λ p. not-heard c p)

        still-off : has (marks_after s r v) (sender cable u) ≡ false → Off W (suc N) i u v
        still-off off = go (off-before s v r mute (sender cable u) (sender-range cable turns u).0 (sender-most W u) ne off)
          where
            go : WasOff s r v (sender cable u) → Off W (suc N) i u v
            go (unmarked f nt) =
                let o : Off W N i u v = iv.marks-on u e ago (omega arith) sent on f in
                record { member = o.member; listed = o.listed; who = o.who; untold = extended o.untold (untold-after nt o) }
            go (denied p own t) = said-no (says p)
              where
                me : i ≡ sender cable u
                me = sym (own ∙ vo)

                said-no : Says N L r → Off W (suc N) i u v
                said-no Z =
                    let o : Off W N s u Z.z = Z.inv.marks-on u e ago (omega arith) sent on (ap (has Z.z.present) own ∙ denied-mark v.own Z t) in
                    record {
                      member = not-false (is_member v.state) (λ f. no_both (ap (has L) me ∙ on) (iv.own_out f));
                      listed = o.listed;
                      who = inr me;
                      untold = extended o.untold (λ past. by-sender o.who);
                    }

    -- ---- this slot, and an earlier one

    vacuous : (u : ℕ) → u ≡ suc N → Untold W u (suc N)
    vacuous u y t d a b past = let f : ⊥ = omega arith in absurd f

    other-own : i ≢ s → s ≢ v.own
    other-own d e = d (sym (e ∙ vo))

    pub off-after : (u e : ℕ) → u + e ≡ suc N → e < n → (E u).listed ≡ true → (E u).sent ≡ false → Lost W (suc N) i u (marks_after s r v) (yes_after s r v)
    off-after u zero z l p q = record { on = λ y. first y (ℕ_discrete i s); unsaid = λ y. yes-own s v r (ap (sender cable) (sym now) ∙ sym y ∙ sym vo) }
      where
        now : u ≡ suc N
        now = omega arith

        first : has (marks_after s r v) (sender cable u) ≡ true → Dec (i ≡ s) → (i ≡ sender cable u) × Untold W u (suc N)
        first y (yes c) = (c ∙ ap (sender cable) (sym now), vacuous u now)
        first y (no c) =
            let off : has (marks_after s r v) s ≡ false = mark-of-sender s v r (sender-range cable turns (suc N)).0 (sender-most W (suc N)) (other-own c) ∙ h.unsent (rw now at q) in
            absurd (no_both y (ap (λ (x : ℕ). has (marks_after s r v) (sender cable x)) now ∙ off))
    off-after u (suc e) z l p q = still-lost u e (omega arith) l p q

    pub on-after : (u e : ℕ) → u + e ≡ suc N → e < n → (E u).sent ≡ true → has L (sender cable u) ≡ true → has (marks_after s r v) (sender cable u) ≡ false → Off W (suc N) i u v
    on-after u zero z l p q off = rw now (new (rw now at p) (ℕ_discrete i s))
      where
        now : u ≡ suc N
        now = omega arith

        off-now : has (marks_after s r v) s ≡ false
        off-now = rw now at off

        new : (E (suc N)).sent ≡ true → Dec (i ≡ s) → Off W (suc N) i (suc N) v
        new sent (yes c) = absurd (no_both (mark-own s v r (sender-range cable turns (suc N)).0 (sender-most W (suc N)) (sym c ∙ sym vo)) off-now)
        new sent (no c) =
            let unheard : is_heard r ≡ false = sym (mark-of-sender s v r (sender-range cable turns (suc N)).0 (sender-most W (suc N)) (other-own c)) ∙ off-now in
            let m = h.missing unheard sent c in
            record { member = m.0; listed = l_t; who = inl m.1; untold = vacuous (suc N) refl }
    on-after u (suc e) z l p q off = still-off u e (omega arith) l p q off
