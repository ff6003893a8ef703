-- A slot of a sender outside the list: what stays tracking keeps the invariant. Assumes nothing.
use Prim.Native.Nat.{ℕ, zero, suc, ◌+◌, ◌≤◌, ◌<◌}
use mathlib.Core.Path.{◌≡◌, refl, sym, ap, ◌∙◌}
use mathlib.Core.Logic.{◌≢◌, ◌⊎◌, inl, inr}
use mathlib.Core.Bool.{Bool, true, false, ◌&&◌, ◌||◌, true≢false, false≢true}
use native.Mathlib.Omega.{arith}
use native.Mathlib.Decide.{ℕ_discrete}
use lib.Dec.{eqb}
use borrow.Author.Tests.{eq-eqb}
use Rattle.bench.specs.nodeset.Sets.{has}
use Rattle.bench.specs.ring.Ring.{sender}
use Rattle.bench.specs.message.Answers.{Reading}
use Rattle.bench.specs.node_record.declared.Node.{Node}
use Rattle.bench.specs.node_record.declared.State.{State}
use Rattle.bench.specs.node_record.declared.State.TheVariants.{Member, Listening, Following, Knocking, Out}
use Rattle.bench.specs.node_record.States.{is_member, is_following, is_knocking}
use Rattle.bench.specs.node_changes.Changes.{with_returning}
use Rattle.bench.specs.node_steps.Steps.{is_heard}
use Rattle.bench.specs.node_sending.Sending.{sends}
use Rattle.agreement.proofs.History.{World, Untold, one-knock, num-isnt}
use Rattle.agreement.proofs.Invariant.{Tracking, Off, Lost, Knock, Awaits, aware, unaware}
use Rattle.agreement.proofs.Marks.{no_both, not-true, not-false}
use Rattle.agreement.proofs.Outcome.{Noted, knocks, silent, awaits, ignores}
use Rattle.agreement.proofs.Listed.{Begins, Hears, other-sender, extend}
use Rattle.agreement.proofs.Rounds.{Ahead, ahead}

following-only : (st : State) → is_following st ≡ true → (is_member st ≡ false) × (is_knocking st ≡ false)
following-only Member f = absurd (false≢true f)
following-only Listening f = absurd (false≢true f)
following-only Following f = (refl, refl)
following-only Knocking f = absurd (false≢true f)
following-only (Out x) f = absurd (false≢true f)

module _ (W : World) where
  open W use {cable, n_pos, turns, E, fair}
  open cable use {n}

  -- the own slot of node i, outside the list
  pub record OwnSlot (N i : ℕ) (v : Node) : Type 0 where
    pub out : i ≡ sender cable (suc N) → sends v ≡ true → (E (suc N)).outside ≡ true
    pub sent : i ≡ sender cable (suc N) → (E (suc N)).sent ≡ true → sends v ≡ true

  module _ (N L : ℕ) (B : Begins W N L) (l_t : (E (suc N)).listed ≡ false) (off_l : has L (sender cable (suc N)) ≡ false)
      (i : ℕ) (i-pos : 1 ≤ i) (v : Node) (vo : v.own ≡ i)
      (iv : Tracking W N L i v) (r : Reading) (h : Hears W N i v r) (o : OwnSlot N i v) where
    abbrev s : ℕ
    s = sender cable (suc N)

    free : (u : ℕ) → Untold W u N → Untold W u (suc N)
    free u un = extend W N u un (λ _ _ _. omega (arith, num-isnt l_t))

    vacuous : Untold W (suc N) (suc N)
    vacuous t d a b past = let f : ⊥ = omega arith in absurd f

    off-after : (u e : ℕ) → u + e ≡ suc N → e < n → (E u).listed ≡ true → (E u).sent ≡ false → Lost W (suc N) i u v.present v.yes_heard
    off-after u zero z l p q = let y : u ≡ suc N = omega arith in absurd (no_both (rw y at p) l_t)
    off-after u (suc e) z l p q =
        let o = iv.marks-off u e (omega arith) (omega arith) p q in
        record { on = λ y. ((o.on y).0, free u (o.on y).1); unsaid = o.unsaid }

    on-after : (u e : ℕ) → u + e ≡ suc N → e < n → (E u).sent ≡ true → has L (sender cable u) ≡ true → has v.present (sender cable u) ≡ false → Off W (suc N) i u v
    on-after u zero z l p q off = let y : u ≡ suc N = omega arith in absurd (no_both (rw y at q) off_l)
    on-after u (suc e) z l p q off =
        let f = iv.marks-on u e (omega arith) (omega arith) p q off in
        record { member = f.member; listed = f.listed; who = f.who; untold = free u f.untold }

    knock-recent : (κ : Knock W N L v) → suc κ.e < n
    knock-recent κ = omega (arith, κ.ahead, κ.soon, κ.ago)

    -- while a knock is awaited nobody else transmits from outside
    no_other : (κ : Knock W N L v) → (E (suc N)).outside ≡ true → ⊥
    no_other κ out = one-knock W κ.w (suc κ.e) (suc N) (omega (arith, κ.ago, κ.recent, B.late)) (omega arith) (knock-recent κ) (omega (arith, κ.ago)) κ.outer out

    no-other-open : (w e : ℕ) → w + e ≡ N → suc e < n → (E w).listed ≡ false → (E w).sent ≡ true → (E (suc N)).outside ≡ true → ⊥
    no-other-open w e z l a b out = one-knock W w (suc e) (suc N) (omega (arith, B.late)) (omega arith) l (omega arith) ((fair w).outer b a) out

    knock-kept : Knock W N L v → Knock W (suc N) L v
    knock-kept κ = record {
      w = κ.w;
      e = suc κ.e;
      ago = omega (arith, κ.ago);
      recent = knock-recent κ;
      unlisted = κ.unlisted;
      outer = κ.outer;
      it = κ.it;
      away = κ.away;
      p = κ.p;
      ahead = omega (arith, κ.ahead, ne);
      soon = κ.soon;
      next = κ.next;
      how = κ.how;
    }
      where
        ne : κ.p ≢ suc N
        ne q = no_both κ.next (rw q off_l)

    copy : (w : ℕ) → Awaits W N i w v → Awaits W (suc N) i w v
    copy w (aware q f) = aware q (λ y. two (f y))
      where
        two : (v.return_heard ≡ true) ⊎ Untold W w N → (v.return_heard ≡ true) ⊎ Untold W w (suc N)
        two (inl p) = inl p
        two (inr un) = inr (free w un)
    copy w (unaware q f g x un) = unaware q f g x (free w un)

    heard-sent : is_heard r ≡ true → (E (suc N)).sent ≡ true
    heard-sent p = not-false (E (suc N)).sent (λ q. no_both p (h.unsent q))

    knock-own : (κ : Knock W N L v) → sender cable κ.w ≡ s → ⊥
    knock-own κ e = other-sender W N κ.w κ.e B.late (omega (arith, κ.ago)) (knock-recent κ) (sym e)

    -- what does not change, with the own claim on a new open knock
    same-inv : ((E (suc N)).sent ≡ true → Awaits W (suc N) i (suc N) v) → Tracking W (suc N) L i v
    same-inv new = record {
      set_is = iv.set_is;
      own-in = iv.own-in;
      own_out = iv.own_out;
      marks-off = off-after;
      marks-on = on-after;
      knock = λ nz. knock-kept (iv.knock nz);
      open-knock = opened;
      knocking-own = iv.knocking-own;
      own-knocking = iv.own-knocking;
      quiet = iv.quiet;
      lost-knock = lost;
    }
      where
        opened : (w e : ℕ) → w + e ≡ suc N → e < n → (E w).listed ≡ false → (E w).sent ≡ true → has L (sender cable w) ≡ false → Awaits W (suc N) i w v
        opened w zero z l a b c = let y : w ≡ suc N = omega arith in rw y (new (rw y at b))
        opened w (suc e) z l a b c = copy w (iv.open-knock w e (omega arith) (omega arith) a b c)

        lost : is_knocking v.state ≡ true → (w e : ℕ) → w + e ≡ suc N → e < n → sender cable w ≡ i → (E w).sent ≡ false → v.return_heard ≡ false
        lost kn w zero z l y f =
            let x : w ≡ suc N = omega arith in
            let κ = iv.knock (λ q. let bad : ⊥ = omega (arith, iv.knocking-own kn) in bad) in
            absurd (knock-own κ (κ.it ∙ iv.knocking-own kn ∙ sym y ∙ ap (sender cable) x))
        lost kn w (suc e) z l y f = iv.lost-knock kn w e (omega arith) (omega arith) y f

    at_last : Ahead W L (suc N)
    at_last = ahead W L (suc N) (omega (arith, B.enough)) (omega arith) off_l

    -- it hears a knock
    awaits-inv : s ≢ v.own → is_heard r ≡ true → v.returning ≡ 0 → Tracking W (suc N) L i (with_returning v.state s v)
    awaits-inv ne p q = record {
      set_is = iv.set_is;
      own-in = iv.own-in;
      own_out = iv.own_out;
      marks-off = off-after;
      marks-on = λ u e z l a b c. let f = on-after u e z l a b c in record { member = f.member; listed = f.listed; who = f.who; untold = f.untold };
      knock = λ nz. record {
        w = suc N;
        e = 0;
        ago = omega arith;
        recent = n_pos;
        unlisted = l_t;
        outer = out;
        it = refl;
        away = off_l;
        p = at_last.p;
        ahead = at_last.later;
        soon = at_last.soon;
        next = at_last.member;
        how = inl sent;
      };
      open-knock = opened;
      knocking-own = λ kn. let bad : ⊥ = omega (arith, iv.knocking-own kn) in absurd bad;
      own-knocking = λ q. absurd (ne (q ∙ sym vo));
      quiet = iv.quiet;
      lost-knock = λ kn. let bad : ⊥ = omega (arith, iv.knocking-own kn) in absurd bad;
    }
      where
        sent : (E (suc N)).sent ≡ true
        sent = heard-sent p

        out : (E (suc N)).outside ≡ true
        out = (fair (suc N)).outer sent l_t

        opened : (w e : ℕ) → w + e ≡ suc N → e < n → (E w).listed ≡ false → (E w).sent ≡ true → has L (sender cable w) ≡ false → Awaits W (suc N) i w (with_returning v.state s v)
        opened w zero z l a b c = let y : w ≡ suc N = omega arith in aware (ap (sender cable) (sym y)) (λ q. absurd (ne (ap (sender cable) (sym y) ∙ sym q ∙ sym vo)))
        opened w (suc e) z l a b c = absurd (no-other-open w e (omega arith) l a b out)

    -- it knocks
    knocks-inv : s ≡ v.own → is_following v.state ≡ true → v.returning ≡ 0 → sends v ≡ true → Tracking W (suc N) L i (with_returning Knocking v.own v)
    knocks-inv so fo q sd = record {
      set_is = iv.set_is;
      own-in = λ q. absurd (false≢true q);
      own_out = λ _. iv.own_out (following-only v.state fo).0;
      marks-off = off-after;
      marks-on = λ u e z l a b c. absurd (no_both (on-after u e z l a b c).member (following-only v.state fo).0);
      knock = λ nz. record {
        w = suc N;
        e = 0;
        ago = omega arith;
        recent = n_pos;
        unlisted = l_t;
        outer = out;
        it = so;
        away = off_l;
        p = at_last.p;
        ahead = at_last.later;
        soon = at_last.soon;
        next = at_last.member;
        how = inr refl;
      };
      open-knock = opened;
      knocking-own = λ _. vo;
      own-knocking = λ _. refl;
      quiet = λ q. absurd (true≢false q);
      lost-knock = λ _ _ _ _ _ _ _. iv.quiet (following-only v.state fo).1;
    }
      where
        out : (E (suc N)).outside ≡ true
        out = o.out (sym vo ∙ sym so) sd

        opened : (w e : ℕ) → w + e ≡ suc N → e < n → (E w).listed ≡ false → (E w).sent ≡ true → has L (sender cable w) ≡ false → Awaits W (suc N) i w (with_returning Knocking v.own v)
        opened w zero z l a b c = let y : w ≡ suc N = omega arith in aware (sym so ∙ ap (sender cable) (sym y)) (λ q. inr (rw y vacuous))
        opened w (suc e) z l a b c = absurd (no-other-open w e (omega arith) l a b out)

    sends-then : sends v ≡ true → is_member v.state ≡ false → (is_following v.state && eqb v.returning 0) ≡ true
    sends-then p q = rw q at p

    sends-if : is_following v.state ≡ true → v.returning ≡ 0 → sends v ≡ true
    sends-if p q =
        let z : eqb v.returning 0 ≡ true = eq-eqb v.returning 0 q in
        two (is_member v.state) (is_following v.state) (eqb v.returning 0) p z
      where
        two : (a b c : Bool) → b ≡ true → c ≡ true → (a || (b && c)) ≡ true
        two true b c x y = refl
        two false b c x y = rw (x, y) refl

    pub after-noted : (x : Node) → Noted s r v x → Tracking W (suc N) L i x
    after-noted x (knocks so fo q e) = rw e (knocks-inv so fo q (sends-if fo q))
    after-noted x (silent so f e) = rw e (same-inv (λ sent.
        let out : is_member v.state ≡ false = not-true (is_member v.state) (λ q. no_both (iv.own-in q) (rw (sym vo ∙ sym so) off_l)) in
        absurd (no_both (sends-then (o.sent (sym vo ∙ sym so) sent) out) f)))
    after-noted x (awaits ne p q e) = rw e (awaits-inv ne p q)
    after-noted x (ignores ne f e) = rw e (same-inv (λ sent. go sent (ℕ_discrete v.returning 0)))
      where
        no_own : i ≢ s
        no_own q = ne (sym q ∙ sym vo)

        go : (E (suc N)).sent ≡ true → Dec (v.returning ≡ 0) → Awaits W (suc N) i (suc N) v
        go sent (no nz) = absurd (no_other (iv.knock nz) ((fair (suc N)).outer sent l_t))
        go sent (yes z) =
            let y : eqb v.returning 0 ≡ true = eq-eqb v.returning 0 z in
            let unheard : is_heard r ≡ false = not-true (is_heard r) (λ p. no_both (rw (p, y) refl) f) in
            unaware (h.missing unheard sent no_own).0 z no_own (h.missing unheard sent no_own).1 vacuous
