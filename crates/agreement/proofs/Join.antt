-- A listed slot: joining; what stays tracking keeps the invariant. Assumes nothing.
use Prim.Native.Nat.{ℕ, zero, suc, ◌+◌, ◌-◌, ◌≤◌, ◌<◌}
use mathlib.Core.Path.{◌≡◌, refl, sym, ap, ap₂, ◌∙◌}
use mathlib.Core.Logic.{◌≢◌, ◌⊎◌, inl, inr}
use mathlib.Core.Bool.{true, false, true≢false, false≢true}
use native.Mathlib.Omega.{arith}
use native.Mathlib.Decide.{dec_lt}
use Rattle.bench.specs.nodeset.Sums.{sum}
use Rattle.bench.specs.nodeset.Sets.{has, with}
use Rattle.bench.proofs.nodeset.Sums.{sum-at, sum-rest}
use Rattle.bench.proofs.nodeset.Laws.{has-with, has-with-other}
use Rattle.bench.specs.cable.declared.Cable.{Cable}
use Rattle.bench.specs.ring.Ring.{sender, member_before}
use Rattle.bench.proofs.ring_laws.Senders.{sender-range}
use Rattle.bench.proofs.ring_laws.Walks as walks
use Rattle.bench.specs.node_record.declared.Node.{Node}
use Rattle.bench.specs.node_record.declared.State.TheVariants.{Member, Following}
use Rattle.bench.specs.node_record.States.{is_member, is_knocking}
use Rattle.bench.specs.node_changes.Changes.{with_set, with_returning}
use Rattle.bench.specs.node_steps.Steps.{marks_after, yes_after, joins}
use Rattle.bench.specs.node_steps.Inner.{read_return, read_heard, read_marked}
use Rattle.bench.proofs.node_steps.Answers.{At}
use Rattle.agreement.proofs.History.{World, sender-most, Untold, lst, told-in-time, num-is}
use Rattle.agreement.proofs.Invariant.{Tracking, Off, Lost, Knock, Awaits, aware, unaware}
use Rattle.agreement.proofs.Marks.{no_both, not-true, not-false, has-with-keeps}
use Rattle.agreement.proofs.Outcome.{Gone, Settled, gone, kept, backed, became, joined, listed_as}
use Rattle.agreement.proofs.Listed.{ListedSlot, Hearer, same-window, off-after, on-after}
use Rattle.agreement.proofs.Depart.{drop-sub, L₁, sender-stays, not-dropped, Nearest, nearest, enough-since}
use Rattle.agreement.proofs.Returns.{joins-yes, joins-if, not-member, same-knock, Stays, member-stays, outsider-stays, awaits-after, lost-after, quiet-after}
use Rattle.bench.specs.ring.Ring.{found}

module _ (W : World) where
  open W use {cable, n_pos, turns, n-most, E, fair}
  open cable use {n, k, lag}

  module _ (S : ListedSlot W) where
    open S use {N, L, B, l_t, D}

    -- the list after step 3
    abbrev pub A : ℕ
    A = L₁ W S

    -- the node of an open knock joins in this slot
    pub record Joining (w e : ℕ) : Type 0 where
      pub ago : w + e ≡ N
      pub recent : suc e < n
      pub unlisted : (E w).listed ≡ false
      pub sent : (E w).sent ≡ true
      pub away : has L (sender cable w) ≡ false
      pub since : k + lag ≤ sum (lst W) (suc w) (suc e)
      pub near : At (sender cable (suc N)) (member_before cable A (sender cable w) 1)

    pub data Next (L' : ℕ) : Type 0 where
      plain : ((w e : ℕ) → Joining w e → ⊥) → L' ≡ A → Next L'
      grown : (w e : ℕ) → Joining w e → L' ≡ with A (sender cable w) → Next L'

    module _ (T : Hearer W S.N S.L) where
      open T use {r, i, i-pos, i-le, v, vc, iv}

      abbrev s : ℕ
      s = sender cable (suc N)

      abbrev pub v₁ : Node
      v₁ = read_marked s r v

      -- a knock that is awaited was less than n - 1 slots ago
      knock-recent : (κ : Knock W N L v) → suc κ.e < n
      knock-recent κ = omega (arith, κ.ahead, κ.soon, κ.ago)

      away₁ : (w : ℕ) → has L (sender cable w) ≡ false → has A (sender cable w) ≡ false
      away₁ w f = not-true (has A (sender cable w)) (λ y. no_both (drop-sub W (E D.u).sent L (sender cable D.u) (sender cable w) y) f)

      -- off the list after step 3, and never listed: it was off before
      was-away : (w e : ℕ) → w + e ≡ N → e < n → (E w).listed ≡ false → has A (sender cable w) ≡ false → has L (sender cable w) ≡ false
      was-away w e z l u f = not-true (has L (sender cable w)) (λ y. no_both (not-dropped W S w e z l (λ _ q. no_both D.listed (rw (← q) u)) y) f)

      the-nearest : (κ : Knock W N L v) → Nearest W S κ.w
      the-nearest κ = nearest W S κ.w (omega (arith, κ.ago, κ.recent, B.late)) (away₁ κ.w κ.away)

      -- the nearest member before the returning node, where that is the sender of w
      nearest-is : (w : ℕ) → v.returning ≡ sender cable w → member_before v.cable A v.returning 1 ≡ member_before cable A (sender cable w) 1
      nearest-is w q = ap₂ (λ (c : Cable) (x : ℕ). member_before c A x 1) vc q

      joins_at : (w : ℕ) → v.returning ≡ sender cable w → At s (member_before cable A (sender cable w) 1) → joins s (with_set A v₁) ≡ true
      joins_at w q a = joins-if s (with_set A v₁) (λ z. omega (arith, sender-range cable turns w)) (record { back = a.back; it = nearest-is w q ∙ a.it })

      knock-kept : joins s (with_set A v₁) ≡ false → Knock W N L v → Knock W (suc N) A (with_set A v₁)
      knock-kept j κ = go (the-nearest κ)
        where
          go : Nearest W S κ.w → Knock W (suc N) A (with_set A v₁)
          go t = record {
            w = κ.w;
            e = suc κ.e;
            ago = omega (arith, κ.ago);
            recent = knock-recent κ;
            unlisted = κ.unlisted;
            outer = κ.outer;
            it = κ.it;
            away = away₁ κ.w κ.away;
            p = t.u;
            ahead = ahead;
            soon = omega (arith, t.upto, t.some-way);
            next = t.member;
            how = κ.how;
          }
            where
              ne : t.u ≢ suc N
              ne q = no_both (joins_at κ.w (sym κ.it) (record { back = t.e; it = t.it ∙ ap (λ (x : ℕ). found (sender cable x) t.e) q })) j

              not-before : t.u < suc N → ⊥
              not-before l =
                  let f : ℕ → ℕ = walks.member cable turns A in
                  let d : ℕ = κ.w + n - suc N in
                  omega (
                    arith,
                    sum-rest f t.u t.e (suc N) d l (omega (arith, t.upto, κ.ago, knock-recent κ)),
                    t.alone,
                    num-is t.member,
                    sum-at f (suc N) d (suc N) (omega arith) (omega (arith, κ.ago, knock-recent κ)),
                    num-is (sender-stays W S),
                  )

              go_on : Dec (t.u < suc N) → suc N < t.u
              go_on (yes l) = absurd (not-before l)
              go_on (no l) = omega (arith, ne)

              ahead : suc N < t.u
              ahead = go_on (dec_lt t.u (suc N))

      off_at : (w' : Node) → w'.state ≡ v.state → (u : ℕ) → Off W (suc N) i u v → Off W (suc N) i u w'
      off_at w' e u o = record { member = rw e o.member; listed = o.listed; who = o.who; untold = o.untold }

      kept-inv : read_return r v ≡ false → Stays W S T → joins s (with_set A v₁) ≡ false → Tracking W (suc N) A i (with_set A v₁)
      kept-inv ok ne j = record {
        set_is = refl;
        own-in = member-stays W S T ne;
        own_out = outsider-stays W S T;
        marks-off = off-after W S T;
        marks-on = λ u e z l p q off. off_at (with_set A v₁) refl u (on-after W S T u e z l p (drop-sub W (E D.u).sent L (sender cable D.u) (sender cable u) q) off);
        knock = λ nz. knock-kept j (iv.knock nz);
        open-knock = opened;
        knocking-own = iv.knocking-own;
        own-knocking = iv.own-knocking;
        quiet = quiet-after W S T;
        lost-knock = lost-after W S T;
      }
        where
          copy : (w : ℕ) → Awaits W (suc N) i w v₁ → Awaits W (suc N) i w (with_set A v₁)
          copy w (aware q f) = aware q f
          copy w (unaware q f g x un) = unaware q f g x un

          opened : (w e : ℕ) → w + e ≡ suc N → e < n → (E w).listed ≡ false → (E w).sent ≡ true → has A (sender cable w) ≡ false → Awaits W (suc N) i w (with_set A v₁)
          opened w zero z l a b c = let y : w ≡ suc N = omega arith in absurd (no_both l_t (rw (← y) a))
          opened w (suc e) z l a b c =
              let ago : w + e ≡ N = omega arith in
              copy w (awaits-after W S T ok w e ago (omega arith) a b (was-away w e ago (omega arith) a c))

      -- the joining node is known to all
      pub joining-known : read_return r v ≡ false → (w e : ℕ) → Joining w e → (v.returning ≡ sender cable w) × (i ≡ sender cable w → read_heard r v ≡ true)
      joining-known ok w e J = go (awaits-after W S T ok w e J.ago (omega (arith, J.recent)) J.unlisted J.sent J.away)
        where
          never : Untold W w (suc N) → ⊥
          never un =
              let z : w + suc e ≡ suc N = omega (arith, J.ago) in
              let un' : Untold W w (w + suc e) = rw z un in
              omega (arith, told-in-time W w (suc e) (omega (arith, J.ago, J.recent, B.late)) J.recent un', J.since)

          answered-it : (read_heard r v ≡ true) ⊎ Untold W w (suc N) → read_heard r v ≡ true
          answered-it (inl p) = p
          answered-it (inr un) = absurd (never un)

          go : Awaits W (suc N) i w v₁ → (v.returning ≡ sender cable w) × (i ≡ sender cable w → read_heard r v ≡ true)
          go (aware q f) = (q, λ y. answered-it (f y))
          go (unaware q f g x un) = absurd (never un)

      -- who joins somebody
      joining-from : joins s (with_set A v₁) ≡ true → (κ : Knock W N L v) → (E κ.w).sent ≡ true → Joining κ.w κ.e
      joining-from j κ sent =
          let yes = (joins-yes s (with_set A v₁) j).1 in
          let at-s : At s (member_before cable A (sender cable κ.w) 1) = record { back = yes.back; it = sym (nearest-is κ.w (sym κ.it)) ∙ yes.it } in
          record {
            ago = κ.ago;
            recent = knock-recent κ;
            unlisted = κ.unlisted;
            sent = sent;
            away = κ.away;
            since = enough-since W S κ.w κ.e κ.ago (knock-recent κ) κ.outer κ.away at-s;
            near = at-s;
          }

      -- a knocking node that was not answered had its knock lost
      unanswered : read_return r v ≡ false → joins s (with_set A v₁) ≡ true → is_knocking v.state ≡ true → read_heard r v ≡ false → (κ : Knock W N L v) → (E κ.w).sent ≡ false
      unanswered ok j kn f κ = not-true (E κ.w).sent (λ p.
          no_both ((joining-known ok κ.w κ.e (joining-from j κ p)).1 (sym (iv.knocking-own kn) ∙ sym κ.it)) f)

      -- a knocking node that was answered had its knock sent
      answered-knock : is_knocking v.state ≡ true → read_heard r v ≡ true → (κ : Knock W N L v) → (E κ.w).sent ≡ true
      answered-knock kn f κ = not-false (E κ.w).sent (λ p.
          no_both f (lost-after W S T kn κ.w (suc κ.e) (omega (arith, κ.ago)) (knock-recent κ) (κ.it ∙ iv.knocking-own kn) p))

      backed-inv : read_return r v ≡ false → joins s (with_set A v₁) ≡ true → is_knocking v.state ≡ true → read_heard r v ≡ false
          → Tracking W (suc N) A i (with_returning Following 0 (with_set A v₁))
      backed-inv ok j kn f = record {
        set_is = refl;
        own-in = λ q. absurd (false≢true q);
        own_out = λ _. outsider-stays W S T nm;
        marks-off = off-after W S T;
        marks-on = λ u e z l p q off. absurd (no_both (on-after W S T u e z l p (drop-sub W (E D.u).sent L (sender cable D.u) (sender cable u) q) off).member nm);
        knock = λ nz. absurd (nz refl);
        open-knock = λ w e z l a b c. absurd (none_open (iv.knock (joins-yes s (with_set A v₁) j).0) w e z l a b);
        knocking-own = λ q. absurd (false≢true q);
        own-knocking = λ q. let bad : ⊥ = omega arith in absurd bad;
        quiet = λ _. f;
        lost-knock = λ q. absurd (false≢true q);
      }
        where
          nm : is_member v.state ≡ false
          nm = not-member v.state kn

          none_open : Knock W N L v → (w e : ℕ) → w + e ≡ suc N → e < n → (E w).listed ≡ false → (E w).sent ≡ true → ⊥
          none_open κ w e z l a b =
              let same : κ.w ≡ w = same-knock W (suc N) κ.w (suc κ.e) w e (omega (arith, B.late)) (omega (arith, κ.ago)) (knock-recent κ) z l κ.outer ((fair w).outer b a) in
              no_both b (rw (← same) (unanswered ok j kn f κ))

      -- the marks and the open knocks after a joining
      module _ (w e : ℕ) (J : Joining w e) (it : v.returning ≡ sender cable w) where
        ago' : w + suc e ≡ suc N
        ago' = omega (arith, J.ago)

        off-grown : (u d : ℕ) → u + d ≡ suc N → d < n → (E u).listed ≡ true → (E u).sent ≡ false → Lost W (suc N) i u (with (marks_after s r v) v.returning) (yes_after s r v)
        off-grown u d z l p q =
            let ne : sender cable w ≢ sender cable u = λ y. no_both (rw (same-window W (suc N) u w d (suc e) (omega (arith, B.late)) z ago' l J.recent (sym y)) at p) J.unlisted in
            let o = off-after W S T u d z l p q in
            record {
              on = λ y. o.on (sym (ap (λ (x : ℕ). has (with (marks_after s r v) x) (sender cable u)) it ∙ has-with-other (marks_after s r v) (sender cable w) (sender cable u) ne) ∙ y);
              unsaid = o.unsaid;
            }

        on-grown : (u d : ℕ) → u + d ≡ suc N → d < n → (E u).sent ≡ true → has (with A (sender cable w)) (sender cable u) ≡ true → has (with (marks_after s r v) v.returning) (sender cable u) ≡ false → Off W (suc N) i u v
        on-grown u d z l p q off =
            let off' : has (with (marks_after s r v) (sender cable w)) (sender cable u) ≡ false = ap (λ (x : ℕ). has (with (marks_after s r v) x) (sender cable u)) (sym it) ∙ off in
            let ne : sender cable w ≢ sender cable u = λ y. no_both (rw y (has-with (marks_after s r v) (sender cable u) (sender-range cable turns u).0 (sender-most W u))) off' in
            let q' : has A (sender cable u) ≡ true = sym (has-with-other A (sender cable w) (sender cable u) ne) ∙ q in
            let off'' : has (marks_after s r v) (sender cable u) ≡ false = sym (has-with-other (marks_after s r v) (sender cable w) (sender cable u) ne) ∙ off' in
            on-after W S T u d z l p (drop-sub W (E D.u).sent L (sender cable D.u) (sender cable u) q') off''

        none-grown : (w' d : ℕ) → w' + d ≡ suc N → d < n → (E w').listed ≡ false → (E w').sent ≡ true → has (with A (sender cable w)) (sender cable w') ≡ false → ⊥
        none-grown w' d z l a b c =
            let same : w ≡ w' = same-knock W (suc N) w (suc e) w' d (omega (arith, B.late)) ago' J.recent z l ((fair w).outer J.sent J.unlisted) ((fair w').outer b a) in
            no_both (rw same (has-with A (sender cable w') (sender-range cable turns w').0 (sender-most W w'))) c

        joined-inv : Stays W S T → is_knocking v.state ≡ false → Tracking W (suc N) (with A (sender cable w)) i (listed_as v.state (with_set A v₁))
        joined-inv ne nk = record {
          set_is = ap (with A) it;
          own-in = λ p. has-with-keeps A (sender cable w) i i-pos (omega (arith, i-le, n-most)) (member-stays W S T ne p);
          own_out = λ p. has-with-other A (sender cable w) i (λ y. no_both (iv.own-knocking (it ∙ y)) nk) ∙ outsider-stays W S T p;
          marks-off = off-grown;
          marks-on = λ u d z l p q off. let o = on-grown u d z l p q off in record { member = o.member; listed = o.listed; who = o.who; untold = o.untold };
          knock = λ nz. absurd (nz refl);
          open-knock = λ w' d z l a b c. absurd (none-grown w' d z l a b c);
          knocking-own = λ q. absurd (no_both q nk);
          own-knocking = λ q. let bad : ⊥ = omega arith in absurd bad;
          quiet = λ _. refl;
          lost-knock = λ _ _ _ _ _ _ _. refl;
        }

        became-inv : is_knocking v.state ≡ true → Tracking W (suc N) (with A (sender cable w)) i (listed_as Member (with_set A v₁))
        became-inv kn = record {
          set_is = ap (with A) it;
          own-in = λ p. rw (sym (iv.knocking-own kn) ∙ it) (has-with A (sender cable w) (sender-range cable turns w).0 (sender-most W w));
          own_out = λ p. absurd (true≢false p);
          marks-off = off-grown;
          marks-on = λ u d z l p q off. let o = on-grown u d z l p q off in record { member = refl; listed = o.listed; who = o.who; untold = o.untold };
          knock = λ nz. absurd (nz refl);
          open-knock = λ w' d z l a b c. absurd (none-grown w' d z l a b c);
          knocking-own = λ q. absurd (false≢true q);
          own-knocking = λ q. let bad : ⊥ = omega arith in absurd bad;
          quiet = λ _. refl;
          lost-knock = λ _ _ _ _ _ _ _. refl;
        }

      -- what a joining somewhere means here
      must-join : read_return r v ≡ false → (w e : ℕ) → Joining w e → joins s (with_set A v₁) ≡ true
      must-join ok w e J = joins_at w (joining-known ok w e J).0 J.near

      knock-of : joins s (with_set A v₁) ≡ true → Knock W N L v
      knock-of j = iv.knock (joins-yes s (with_set A v₁) j).0

      -- nobody joins where the knocking node was not answered
      none-joins : read_return r v ≡ false → is_knocking v.state ≡ true → read_heard r v ≡ false → (w e : ℕ) → Joining w e → ⊥
      none-joins ok kn f w e J = no_both ((joining-known ok w e J).1 (sym (iv.knocking-own kn) ∙ (joining-known ok w e J).0)) f

      -- a knock that another node awaits was sent
      awaited-knock : is_knocking v.state ≡ false → (κ : Knock W N L v) → (E κ.w).sent ≡ true
      awaited-knock nk κ = go κ.how
        where
          go : ((E κ.w).sent ≡ true) ⊎ (is_knocking v.state ≡ true) → (E κ.w).sent ≡ true
          go (inl p) = p
          go (inr p) = absurd (no_both p nk)

      -- every case, given what the list is after the slot
      pub after-inside : (L' : ℕ) → Next L' → read_return r v ≡ false → Stays W S T → (x : Node) → Settled true s (with_set A v₁) x → Gone (with_set A v₁) x ⊎ Tracking W (suc N) L' i x
      after-inside L' nx ok ne x (gone g) = inl g
      after-inside L' nx ok ne x (kept f e) = inr (rw e (go nx))
        where
          go : Next L' → Tracking W (suc N) L' i (with_set A v₁)
          go (plain no-j q) = rw q (kept-inv ok ne f)
          go (grown w d J q) = absurd (no_both (must-join ok w d J) f)
      after-inside L' nx ok ne x (backed j kn f e) = inr (rw e (go nx))
        where
          go : Next L' → Tracking W (suc N) L' i (with_returning Following 0 (with_set A v₁))
          go (plain no-j q) = rw q (backed-inv ok j kn f)
          go (grown w d J q) = absurd (none-joins ok kn f w d J)
      after-inside L' nx ok ne x (became j kn f e) = inr (rw e (go nx))
        where
          go : Next L' → Tracking W (suc N) L' i (listed_as Member (with_set A v₁))
          go (plain no-j q) = absurd (no-j (knock-of j).w (knock-of j).e (joining-from j (knock-of j) (answered-knock kn f (knock-of j))))
          go (grown w d J q) = rw q (became-inv w d J (joining-known ok w d J).0 kn)
      after-inside L' nx ok ne x (joined j nk e) = inr (rw e (go nx))
        where
          go : Next L' → Tracking W (suc N) L' i (listed_as v.state (with_set A v₁))
          go (plain no-j q) = absurd (no-j (knock-of j).w (knock-of j).e (joining-from j (knock-of j) (awaited-knock nk (knock-of j))))
          go (grown w d J q) = rw q (joined-inv w d J (joining-known ok w d J).0 ne nk)

      -- what the list is after the slot, as any tracking node has it
      pub next-from : read_return r v ≡ false → (x : Node) → Settled true s (with_set A v₁) x → Gone (with_set A v₁) x ⊎ Next x.set
      next-from ok x (gone g) = inl g
      next-from ok x (kept f e) = inr (plain (λ w d J. no_both (must-join ok w d J) f) (ap (λ (y : Node). y.set) e))
      next-from ok x (backed j kn f e) = inr (plain (none-joins ok kn f) (ap (λ (y : Node). y.set) e))
      next-from ok x (became j kn f e) = go (knock-of j)
        where
          go : Knock W N L v → Gone (with_set A v₁) x ⊎ Next x.set
          go κ = inr (grown κ.w κ.e (joining-from j κ (answered-knock kn f κ)) (ap (λ (y : Node). y.set) e ∙ ap (with A) (sym κ.it)))
      next-from ok x (joined j nk e) = go (knock-of j)
        where
          go : Knock W N L v → Gone (with_set A v₁) x ⊎ Next x.set
          go κ = inr (grown κ.w κ.e (joining-from j κ (awaited-knock nk κ)) (ap (λ (y : Node). y.set) e ∙ ap (with A) (sym κ.it)))
