-- A listening node keeps its invariant (Q), and follows with the right set. Assumes nothing.
use Rattle.std.specs.Prelude.{Err, Ok}
use Prim.Native.Nat.{ℕ, zero, suc, ◌+◌, ◌-◌, ◌^◌, ◌≤◌, ◌<◌, min}
use mathlib.Core.Path.{◌≡◌, refl, sym, ap, ◌∙◌}
use mathlib.Core.Logic.{◌≢◌}
use mathlib.Core.Bool.{Bool, true, false, cond, not, ◌&&◌, false≢true}
use native.Mathlib.Omega.{arith}
use native.Mathlib.Decide.{dec_le}
use lib.Dec.{eqb, leb, ltb}
use borrow.Author.Tests.{eqb-true, leb-true, ltb-true, ltb-false}
use Rattle.bench.specs.nodeset.Sums.{num}
use Rattle.bench.specs.nodeset.Sets.{has, with, size, run, run_from}
use Rattle.bench.proofs.nodeset.Tests.{by_cases, otherwise}
use Rattle.bench.proofs.nodeset.Sums.{sum-le, sum-add, num-le}
use Rattle.bench.proofs.nodeset.Bits.{has-none}
use Rattle.bench.proofs.nodeset.Counts.{size_none}
use Rattle.bench.proofs.nodeset.Laws.{has-with, has-with-other, with-lt, set-ext}
use Rattle.bench.specs.cable.declared.Cable.{Cable}
use Rattle.bench.specs.ring.Ring.{sender, ks}
use Rattle.bench.proofs.ring_laws.Senders.{sender-range, sender-period, its-slot, size-round}
use Rattle.bench.specs.message.Answers.{Reading}
use Rattle.bench.specs.node_record.declared.Node.{Node}
use Rattle.bench.specs.node_record.declared.Window.{Window}
use Rattle.bench.specs.node_changes.Changes.{listening_after, following_with, with_window}
use Rattle.bench.specs.node_steps.Steps.{is_heard}
use Rattle.bench.specs.node_steps.Digests.{bits_heard}
use Rattle.bench.specs.node_hearing.Hearing.{overheard, clean, window_end, goes_on, listening_by}
use Rattle.agreement.proofs.Past.{Past}
use Rattle.agreement.proofs.History.{World, K, KFact, num-is, num-isnt}
use Rattle.agreement.proofs.Invariant.{Tracking, ListeningInv}
use Rattle.agreement.proofs.Marks.{no_both, not-true, not-false}
use Rattle.bench.proofs.Choices.{choose}
use Rattle.agreement.proofs.Listed.{other-sender}
use Rattle.agreement.proofs.Rounds.{K'}
use Rattle.bench.specs.message.Answers.{heard_with}

-- a knock's bits have no ones to run
run-zero : run 0 ≡ 0
unfolding run_from
run-zero = otherwise _ _ (has-none 1)

module _ (W : World) where
  open W use {cable, n_pos, turns, n-most, k_two, E, fair, early, few}
  open cable use {n, k, lag}

  -- a window begins with nothing heard, and nothing heard before
  pub fresh-inv : (N i : ℕ) (v : Node) → v.listening.done ≡ 0 → v.listening.heard ≡ 0 → v.listening.last ≡ 0 → ListeningInv W N i v
  fresh-inv N i v d h l = record {
    short = omega (arith, n_pos);
    heard-lt = omega (arith, lib.Pow.pow_pos n);
    last-lt = omega (arith, lib.Pow.pow_pos n);
    own-unheard = ap (λ (x : ℕ). has x i) h ∙ has-none i;
    heard-is = λ u e z q. let bad : ⊥ = omega arith in absurd bad;
    heard-only = λ x f. ap (λ (y : ℕ). has y x) h ∙ has-none x;
    knock-shows = λ u e z q. let bad : ⊥ = omega arith in absurd bad;
    last-is = λ nz. absurd (nz l);
  }

  -- what the data say after the slot, of the window so far
  pub record Heard (N i : ℕ) (l : Window) : Type 0 where
    pub heard-lt : l.heard < 2 ^ n
    pub last-lt : l.last < 2 ^ n
    pub own-unheard : has l.heard i ≡ false
    pub heard-is : (u e : ℕ) → u + e ≡ N → e < l.done → has l.heard (sender cable u) ≡ (E u).sent
    pub heard-only : (x : ℕ) → ((u e : ℕ) → u + e ≡ N → e < l.done → sender cable u ≢ x) → has l.heard x ≡ false
    pub knock-shows : (u e : ℕ) → u + e ≡ N → e < l.done → (E u).sent ≡ true → (E u).listed ≡ false → l.shortest ≡ 0
    pub last-is : l.last ≢ 0 → (u e : ℕ) → u + e + l.done ≡ N → e < n → (has l.last (sender cable u) ≡ (E u).sent) × ((E u).sent ≡ true → (E u).listed ≡ true)

  module _ (N i : ℕ) (late : n ≤ N) (v : Node) (iv : ListeningInv W N i v) (r : Reading)
      (hq : is_heard r ≡ (E (suc N)).sent) (own : i ≡ sender cable (suc N) → is_heard r ≡ false)
      (knock-bits : (E (suc N)).sent ≡ true → (E (suc N)).listed ≡ false → bits_heard r ≡ 0) where
    abbrev s : ℕ
    s = sender cable (suc N)

    earlier : (u e : ℕ) → u + e ≡ N → e < v.listening.done → s ≢ sender cable u
    earlier u e z l = other-sender W N u e late (omega arith) (omega (arith, iv.short))

    unheard-yet : has v.listening.heard s ≡ false
    unheard-yet = iv.heard-only s (λ u e z l p. earlier u e z l (sym p))

    yes-case : (bits : ℕ) (bit : Bool) → r ≡ heard_with bits bit → Heard (suc N) i (overheard s (heard_with bits bit) v.listening)
    yes-case bits bit it = record {
      heard-lt = with-lt n v.listening.heard s (sender-range cable turns (suc N)).1 iv.heard-lt;
      last-lt = iv.last-lt;
      own-unheard = has-with-other v.listening.heard s i (λ q. no_both p (own (sym q))) ∙ iv.own-unheard;
      heard-is = is;
      heard-only = only;
      knock-shows = shows;
      last-is = λ nz u e z l. iv.last-is nz u e (omega arith) l;
    }
      where
        p : is_heard r ≡ true
        p = ap is_heard it

        is : (u e : ℕ) → u + e ≡ suc N → e < v.listening.done + 1 → has (with v.listening.heard s) (sender cable u) ≡ (E u).sent
        is u zero z l =
            let y : u ≡ suc N = omega arith in
            rw y (has-with v.listening.heard s (sender-range cable turns (suc N)).0 (omega (arith, sender-range cable turns (suc N), n-most)) ∙ sym p ∙ hq)
        is u (suc e) z l =
            let ago : u + e ≡ N = omega arith in
            has-with-other v.listening.heard s (sender cable u) (earlier u e ago (omega arith)) ∙ iv.heard-is u e ago (omega arith)

        only : (x : ℕ) → ((u e : ℕ) → u + e ≡ suc N → e < v.listening.done + 1 → sender cable u ≢ x) → has (with v.listening.heard s) x ≡ false
        only x f = has-with-other v.listening.heard s x (f (suc N) 0 (omega arith) (omega arith)) ∙ iv.heard-only x (λ u e z l. f u (suc e) (omega arith) (omega arith))

        shows : (u e : ℕ) → u + e ≡ suc N → e < v.listening.done + 1 → (E u).sent ≡ true → (E u).listed ≡ false → min v.listening.shortest (run bits) ≡ 0
        shows u zero z l a b =
            let y : u ≡ suc N = omega arith in
            let z₁ : run bits ≡ 0 = ap run (sym (ap bits_heard it) ∙ knock-bits (rw y at a) (rw y at b)) ∙ run-zero in
            omega arith
        shows u (suc e) z l a b = omega (arith, iv.knock-shows u e (omega arith) (omega arith) a b)

    no-case : is_heard r ≡ false → Heard (suc N) i (record { done = v.listening.done + 1; heard = v.listening.heard; shortest = v.listening.shortest; return_seen = v.listening.return_seen; last = v.listening.last })
    no-case p = record {
      heard-lt = iv.heard-lt;
      last-lt = iv.last-lt;
      own-unheard = iv.own-unheard;
      heard-is = is;
      heard-only = only;
      knock-shows = shows;
      last-is = λ nz u e z l. iv.last-is nz u e (omega arith) l;
    }
      where
        is : (u e : ℕ) → u + e ≡ suc N → e < v.listening.done + 1 → has v.listening.heard (sender cable u) ≡ (E u).sent
        is u zero z l = let y : u ≡ suc N = omega arith in rw y (unheard-yet ∙ sym p ∙ hq)
        is u (suc e) z l = iv.heard-is u e (omega arith) (omega arith)

        only : (x : ℕ) → ((u e : ℕ) → u + e ≡ suc N → e < v.listening.done + 1 → sender cable u ≢ x) → has v.listening.heard x ≡ false
        only x f = iv.heard-only x (λ u e z l. f u (suc e) (omega arith) (omega arith))

        shows : (u e : ℕ) → u + e ≡ suc N → e < v.listening.done + 1 → (E u).sent ≡ true → (E u).listed ≡ false → v.listening.shortest ≡ 0
        shows u zero z l a b = let y : u ≡ suc N = omega arith in absurd (no_both (rw y at a) (sym hq ∙ p))
        shows u (suc e) z l a b = iv.knock-shows u e (omega arith) (omega arith) a b

    overheard-law : Heard (suc N) i (overheard s r v.listening)
    overheard-law = go r refl
      where
        go : (q : Reading) → r ≡ q → Heard (suc N) i (overheard s q v.listening)
        go (Ok h) e = yes-case h.acknowledgements h.return_bit e
        go (Err c) e = no-case (ap is_heard e)

    overheard-done : (overheard s r v.listening).done ≡ v.listening.done + 1
    overheard-done = go r
      where
        go : (q : Reading) → (overheard s q v.listening).done ≡ v.listening.done + 1
        go (Ok h) = refl
        go (Err c) = refl

    clean-runs : (l : Window) → clean cable l ≡ true → ks cable (size n l.heard) ≤ l.shortest
    unfolding clean
    clean-runs l e = go (leb 2 (size n l.heard)) l.return_seen (leb (ks cable (size n l.heard)) l.shortest) refl e
      where
        go : (a b c : Bool) → leb (ks cable (size n l.heard)) l.shortest ≡ c → (a && (not b && c)) ≡ true → ks cable (size n l.heard) ≤ l.shortest
        go false b c q f = absurd (false≢true f)
        go true true c q f = absurd (false≢true f)
        go true false false q f = absurd (false≢true f)
        go true false true q f = leb-true (ks cable (size n l.heard)) l.shortest q

    -- the end of a window, with the list at that slot's end
    module _ (l : Window) (hd : Heard (suc N) i l) (whole : l.done ≡ n) (cl : clean cable l ≡ true) (L' : ℕ) (κ : K W (suc N) L') (enough : k + lag < size n L') where
      heard-at : (u e : ℕ) → u + e ≡ suc N → e < n → has l.heard (sender cable u) ≡ (E u).sent
      heard-at u e z h = hd.heard-is u e z (omega arith)

      -- each member of the list was heard or has failed, and fewer than k have
      heard-most : 2 + lag ≤ size n l.heard
      heard-most =
          let a : ℕ = suc N - n in
          omega (
            arith,
            enough,
            size-round cable turns L' a,
            size-round cable turns l.heard a,
            sum-le (λ u. num (has L' (sender cable u))) (λ u. num (has l.heard (sender cable u)) + (E u).failures) (suc a) n (λ u p q. each u (suc N - u) (omega (arith, q, late)) (omega (arith, p, late))),
            sum-add (λ u. num (has l.heard (sender cable u))) (λ u. (E u).failures) (suc a) n,
            few a,
          )
        where
          each : (u e : ℕ) → u + e ≡ suc N → e < n → num (has L' (sender cable u)) ≤ num (has l.heard (sender cable u)) + (E u).failures
          each u e z h = by_cases (E u).sent
              (λ p. omega (arith, num-is (heard-at u e z h ∙ p), num-le (has L' (sender cable u))))
              (λ p. by_cases (E u).listed
              (λ q. omega (arith, (fair u).unsent p q, num-le (has L' (sender cable u))))
              (λ q. omega (arith, num-isnt (not-true (has L' (sender cable u)) (λ on. no_both ((κ u e z h).came q on).0 p)))))

      -- so that the run of a knock is too short
      some-run : 1 ≤ l.shortest
      some-run = omega (arith, clean-runs l cl, heard-most, k_two)

      all_listed : (u e : ℕ) → u + e ≡ suc N → e < n → (E u).sent ≡ true → (E u).listed ≡ true
      all_listed u e z h p = not-false (E u).listed (λ q. let bad : ⊥ = omega (arith, hd.knock-shows u e z (omega arith) p q, some-run) in bad)

      nonzero : l.heard ≢ 0
      nonzero q = let bad : ⊥ = omega (arith, ap (size n) q, size_none n, heard-most) in bad

      again-inv : ListeningInv W (suc N) i (listening_after l.heard v)
      again-inv = record {
        short = omega (arith, n_pos);
        heard-lt = omega (arith, lib.Pow.pow_pos n);
        last-lt = hd.heard-lt;
        own-unheard = has-none i;
        heard-is = λ u e z q. let bad : ⊥ = omega arith in absurd bad;
        heard-only = λ x f. has-none x;
        knock-shows = λ u e z q. let bad : ⊥ = omega arith in absurd bad;
        last-is = λ nz u e z h. (heard-at u e (omega arith) h, all_listed u e (omega arith) h);
      }

      module _ (κ' : K' W (suc N)) (small : L' < 2 ^ n) (same : l.last ≡ l.heard) where
        at_slot : (u e : ℕ) → u + e ≡ suc N → e < n → has l.heard (sender cable u) ≡ has L' (sender cable u)
        at_slot u e z h = by_cases (E u).sent sent-case unsent-case
          where
            f : KFact W L' u e
            f = κ u e z h

            sent-case : (E u).sent ≡ true → has l.heard (sender cable u) ≡ has L' (sender cable u)
            sent-case p = heard-at u e z h ∙ p ∙ sym (f.spoke (all_listed u e z h p) p)

            twice : (E u).sent ≡ false → (E u).listed ≡ true → Dec (u ≤ n) → ⊥
            twice p q (yes y) = no_both (ap (λ (b : Past). b.sent) (early u y)) p
            twice p q (no y) =
                let w : ℕ = u - n in
                let x : w + n ≡ u = omega arith in
                let w-sent : (E w).sent ≡ true = κ' w e (omega arith) h (rw x q) in
                let sw : sender cable u ≡ sender cable w = ap (sender cable) (sym x) ∙ sender-period cable turns w (omega arith) in
                let had : has l.last (sender cable w) ≡ true = (hd.last-is (λ b. nonzero (sym same ∙ b)) w e (omega arith) h).0 ∙ w-sent in
                let had' : has l.heard (sender cable u) ≡ true = ap (has l.heard) sw ∙ ap (λ (b : ℕ). has b (sender cable w)) (sym same) ∙ had in
                no_both had' (heard-at u e z h ∙ p)

            unsent-case : (E u).sent ≡ false → has l.heard (sender cable u) ≡ has L' (sender cable u)
            unsent-case p = heard-at u e z h ∙ p ∙ sym (not-true (has L' (sender cable u)) (λ on.
                by_cases (E u).listed (λ q. twice p q (dec_le u n)) (λ q. no_both (f.came q on).0 p)))

        set_is : l.heard ≡ L'
        set_is = set-ext n l.heard L' hd.heard-lt small (λ x a b. go x (its-slot cable turns (suc N - n) x a b))
          where
            go : (x : ℕ) → (u : ℕ) × (suc N - n < u) × (u ≤ suc N - n + n) × (sender cable u ≡ x) → has l.heard x ≡ has L' x
            go x r =
                let e : ℕ = suc N - r.0 in
                rw r.3 at (at_slot r.0 e (omega (arith, r.2)) (omega (arith, r.1)))

        following-inv : 1 ≤ i → Tracking W (suc N) L' i (following_with l.heard v)
        following-inv i-pos = record {
          set_is = set_is;
          own-in = λ q. absurd (false≢true q);
          own_out = λ _. ap (λ (x : ℕ). has x i) (sym set_is) ∙ hd.own-unheard;
          marks-off = λ u e z h p q. record { on = λ y. absurd (no_both y (heard-at u e z h ∙ q)); unsaid = λ _. refl };
          marks-on = λ u e z h p q off. absurd (no_both (heard-at u e z h ∙ p) off);
          knock = λ nz. absurd (nz refl);
          open-knock = λ w e z h a b c. absurd (no_both (all_listed w e z h b) a);
          knocking-own = λ q. absurd (false≢true q);
          own-knocking = λ q. let bad : ⊥ = omega arith in absurd bad;
          quiet = λ _. refl;
          lost-knock = λ q. absurd (false≢true q);
        }

    -- what a slot makes of a listening node
    pub data Hearkened (L' : ℕ) (x : Node) : Type 0 where
      on : (l : Window) → x ≡ with_window l v → ListeningInv W (suc N) i x → Hearkened L' x
      again : (b : ℕ) → x ≡ listening_after b v → ListeningInv W (suc N) i x → Hearkened L' x
      follows : (b : ℕ) → x ≡ following_with b v → Tracking W (suc N) L' i x → Hearkened L' x

    pub listening-law : v.cable ≡ cable → 1 ≤ i → (L' : ℕ) → K W (suc N) L' → k + lag < size n L' → K' W (suc N) → L' < 2 ^ n → Hearkened L' (listening_by s r v)
    unfolding listening_by goes_on window_end
    listening-law vc i-pos L' κ enough κ' small = go (overheard s r v.listening) overheard-law overheard-done
      where
        size_is : v.cable.n ≡ n
        size_is = ap (λ (c : Cable). c.n) vc

        go : (l : Window) → Heard (suc N) i l → l.done ≡ v.listening.done + 1 → Hearkened L' (cond (ltb l.done v.cable.n) (with_window l v) (window_end l v))
        go l hd dn =
            choose (λ (x : Node). Hearkened L' x) (ltb l.done v.cable.n) (with_window l v) (window_end l v)
            (λ e. on l refl (record {
              short = omega (arith, ltb-true l.done v.cable.n e, size_is);
              heard-lt = hd.heard-lt;
              last-lt = hd.last-lt;
              own-unheard = hd.own-unheard;
              heard-is = hd.heard-is;
              heard-only = hd.heard-only;
              knock-shows = hd.knock-shows;
              last-is = hd.last-is;
            }))
            (λ e. ends (omega (arith, ltb-false l.done v.cable.n e, iv.short, size_is)))
          where
            ends : l.done ≡ n → Hearkened L' (window_end l v)
            ends whole =
                choose (λ (x : Node). Hearkened L' x) (clean v.cable l)
                (cond (eqb l.last l.heard) (following_with l.heard v) (listening_after l.heard v)) (listening_after 0 v)
                (λ c. cleaned (ap (λ (q : Cable). clean q l) (sym vc) ∙ c))
                (λ c. again 0 refl (fresh-inv (suc N) i (listening_after 0 v) refl refl refl))
              where
                cleaned : clean cable l ≡ true → Hearkened L' (cond (eqb l.last l.heard) (following_with l.heard v) (listening_after l.heard v))
                cleaned c =
                    choose (λ (x : Node). Hearkened L' x) (eqb l.last l.heard) (following_with l.heard v) (listening_after l.heard v)
                    (λ q. follows l.heard refl (following-inv l hd whole c L' κ enough κ' small (eqb-true l.last l.heard q) i-pos))
                    (λ q. again l.heard refl (again-inv l hd whole c L' κ enough))
