-- The list after step 3 of a listed slot, and K of it; the nearest member before a returning node. Assumes nothing.
use Prim.Native.Nat.{ℕ, zero, suc, ◌+◌, ◌-◌, ◌^◌, ◌≤◌, ◌<◌}
use mathlib.Core.Path.{◌≡◌, refl, sym, ap, ◌∙◌}
use mathlib.Core.Logic.{◌≢◌}
use mathlib.Core.Bool.{Bool, true, false, cond}
use native.Mathlib.Omega.{arith}
use native.Mathlib.Decide.{dec_le}
use Rattle.bench.specs.nodeset.Sums.{sum, num}
use Rattle.bench.specs.nodeset.Sets.{has, without, size}
use Rattle.bench.proofs.nodeset.Tests.{by_cases}
use Rattle.bench.proofs.nodeset.Sums.{sum-le, sum_first, sum-none, sum-next, sum-split, one_place, num-le}
use Rattle.bench.proofs.nodeset.Laws.{has-without, has-without-other, without-lt, without-part}
use Rattle.bench.proofs.nodeset.Counts.{size-without}
use Rattle.bench.specs.ring.Ring.{turn, sender, walk, member_before}
use Rattle.bench.proofs.ring_laws.Senders.{turn-period, sender-range, sender-place, sender-period, same-slot}
use Rattle.bench.proofs.ring_laws.Walks as walks
use Rattle.bench.proofs.ring.Members.{same-member}
use Rattle.bench.proofs.ring_laws.Walks.{Met, walk_meets, before-is, others}
use Rattle.bench.proofs.node_steps.Answers.{At}
use Rattle.agreement.proofs.History.{World, K, KFact, lst, one-knock, size-from, num-is, num-isnt}
use Rattle.agreement.proofs.Marks.{no_both, not-true}
use Rattle.agreement.proofs.Listed.{ListedSlot, other-sender, same-window}
use Rattle.bench.specs.ring.Ring.{found}

module _ (W : World) where
  open W use {cable, n_pos, turns, k_two, E, fair}
  open cable use {n, k, lag}

  -- the list after step 3: the decided member leaves if its slot was not sent
  abbrev pub dropping : Bool → ℕ → ℕ → ℕ
  dropping sent L x = cond sent L (without L x)

  pub drop-sub : (b : Bool) (L x y : ℕ) → has (dropping b L x) y ≡ true → has L y ≡ true
  drop-sub true L x y e = e
  drop-sub false L x y e = without-part L x y e

  pub drop_keeps : (b : Bool) (L x y : ℕ) → has L y ≡ true → (b ≡ false → x ≢ y) → has (dropping b L x) y ≡ true
  drop_keeps true L x y e h = e
  drop_keeps false L x y e h = has-without-other L x y (h refl) ∙ e

  pub drop-size : (b : Bool) (L x : ℕ) → 1 ≤ x → x ≤ n → has L x ≡ true → size n L ≤ size n (dropping b L x) + 1
  drop-size true L x h l e = omega arith
  drop-size false L x h l e = omega (arith, size-without n L x h l e)

  pub drop-lt : (b : Bool) (L x : ℕ) → x ≤ n → L < 2 ^ n → dropping b L x < 2 ^ n
  drop-lt true L x h l = l
  drop-lt false L x h l = without-lt n L x l

  -- one slot more since u
  pub since-next : (N u e : ℕ) → u + e ≡ N → sum (lst W) (suc u) (suc e) ≡ sum (lst W) (suc u) e + lst W (suc N)
  since-next N u e z =
      let y : suc u + e ≡ suc N = omega arith in
      omega (arith, sum-next (lst W) (suc u) e, ap (lst W) y)

  module _ (S : ListedSlot W) where
    open S use {N, L, B, l_t, on_l, D}

    -- the list after step 3
    abbrev pub L₁ : ℕ
    L₁ = dropping (E D.u).sent L (sender cable D.u)

    pub sender-stays : has L₁ (sender cable (suc N)) ≡ true
    sender-stays = drop_keeps (E D.u).sent L (sender cable D.u) (sender cable (suc N)) on_l
        (λ _ p. other-sender W N D.u D.e B.late (omega (arith, D.ago)) D.recent (sym p))

    pub L₁-size : k + lag ≤ size n L₁
    L₁-size = omega (arith, B.enough, drop-size (E D.u).sent L (sender cable D.u) (sender-range cable turns D.u).0 (sender-range cable turns D.u).1 D.member)

    -- in the window, only slot D .u can have been dropped
    pub not-dropped : (u e : ℕ) → u + e ≡ N → e < n → ((E D.u).sent ≡ false → u ≢ D.u) → has L (sender cable u) ≡ true → has L₁ (sender cable u) ≡ true
    not-dropped u e z h ne on = drop_keeps (E D.u).sent L (sender cable D.u) (sender cable u) on
        (λ f p. ne f (same-window W N u D.u e D.e B.late z D.ago h (omega (arith, D.recent)) (sym p)))

    k-new : KFact W L₁ (suc N) 0
    k-new = record {
      spoke = λ p q. sender-stays;
      waits = λ p q r. sender-stays;
      dropped = λ p q r. let f : ⊥ = omega (arith, sum-none (lst W) (suc (suc N)), k_two) in absurd f;
      came = λ p q. absurd (no_both l_t p);
    }

    k_old : (u e : ℕ) → u + e ≡ N → suc e < n → KFact W L₁ u (suc e)
    k_old u e z h = record {
      spoke = λ p q. not-dropped u e z (omega arith) (λ f y. no_both q (rw (sym y) at f)) ((B.kept u e z (omega arith)).spoke p q);
      waits = λ p q r. not-dropped u e z (omega arith) (λ f y. apart y r)
          ((B.kept u e z (omega arith)).waits p q (omega (arith, since-next N u e z)));
      dropped = λ p q r. leaves p q r (dec_le (k + lag) (sum (lst W) (suc u) e));
      came = λ p q. let c = (B.kept u e z (omega arith)).came p (drop-sub (E D.u).sent L (sender cable D.u) (sender cable u) q) in
          (c.0, omega (arith, c.1, since-next N u e z));
    }
      where
        one : lst W (suc N) ≡ 1
        one = num-is l_t

        apart : u ≡ D.u → sum (lst W) (suc u) (suc e) < k + lag → ⊥
        apart y r =
            let x : e ≡ D.e = omega (arith, D.ago) in
            let w : sum (lst W) (suc u) e ≡ sum (lst W) (suc D.u) D.e = ap (λ (q : ℕ). sum (lst W) (suc q) e) y ∙ ap (sum (lst W) (suc D.u)) x in
            omega (arith, since-next N u e z, D.exact, one)

        leaves : (E u).listed ≡ true → (E u).sent ≡ false → k + lag ≤ sum (lst W) (suc u) (suc e) → Dec (k + lag ≤ sum (lst W) (suc u) e) → has L₁ (sender cable u) ≡ false
        leaves p q r (yes d) = not-true (has L₁ (sender cable u)) (λ y. no_both (drop-sub (E D.u).sent L (sender cable D.u) (sender cable u) y) ((B.kept u e z (omega arith)).dropped p q d))
        leaves p q r (no d) =
            let c₁ : sum (lst W) u (suc e) ≡ k + lag = omega (arith, since-next N u e z, one, sum_first (lst W) u e, num-is p) in
            let c₂ : sum (lst W) D.u (suc D.e) ≡ k + lag = omega (arith, sum_first (lst W) D.u D.e, num-is D.listed, D.exact) in
            let y : u ≡ D.u = one_place (lst W) (k + lag) u (suc e) D.u (suc D.e) (omega (arith, D.ago)) c₁ c₂ (omega (arith, num-is p)) (omega (arith, num-is D.listed)) in
            let f : (E D.u).sent ≡ false = rw y at q in
            rw (f, y) (has-without L (sender cable D.u))

    pub k-after : K W (suc N) L₁
    k-after u zero z h = let y : u ≡ suc N = omega arith in rw y k-new
    k-after u (suc e) z h = k_old u e (omega arith) h

    -- the nearest member before the sender of w, in the round after w
    pub record Nearest (w : ℕ) : Type 0 where
      pub u : ℕ
      pub e : ℕ
      pub later : w < u
      pub upto : u + e ≡ w + n
      pub some-way : 1 ≤ e
      pub member : has L₁ (sender cable u) ≡ true
      pub alone : sum (walks.member cable turns L₁) u e ≡ 1
      pub it : member_before cable L₁ (sender cable w) 1 ≡ found (sender cable u) e

    pub nearest : (w : ℕ) → 1 ≤ w → has L₁ (sender cable w) ≡ false → Nearest w
    nearest w hw off = go (walk_meets cable turns L₁ (n - 1) (suc w) 1 (omega arith) (omega arith) (omega (arith, others cable turns L₁ (suc w) (omega arith), L₁-size, k_two, its-last)))
      where
        z : suc w + (n - 1) ≡ w + n
        z = omega (arith, n_pos)

        its-last : walks.member cable turns L₁ (suc w + (n - 1)) ≡ 0
        its-last = ap (walks.member cable turns L₁) z ∙ ap (λ (x : ℕ). num (has L₁ x)) (sender-period cable turns w hw) ∙ num-isnt off

        go : Met cable turns L₁ (n - 1) (suc w) 1 → Nearest w
        go m =
            let back : n - suc (m.u - suc w) ≡ m.e = omega (arith, m.from, m.upto, m.back, n_pos) in
            record {
              u = m.u;
              e = m.e;
              later = m.from;
              upto = m.upto ∙ z;
              some-way = m.back;
              member = m.listed;
              alone = m.count;
              it = before-is cable turns L₁ (sender cable w) 1
                  ∙ ap (λ (p : ℕ). walk (n - 1) cable L₁ p 1) (sender-place cable turns w ∙ sym (turn-period n n_pos w hw) ∙ ap (turn n) (sym z)) ∙ m.found ∙ ap (found (sender cable m.u)) back;
            }

    -- If slot N + 1 is that of the nearest member, then k + lag listed slots have been since w.
    pub enough-since : (w e : ℕ) → w + e ≡ N → suc e < n → (E w).outside ≡ true → has L (sender cable w) ≡ false
        → At (sender cable (suc N)) (member_before cable L₁ (sender cable w) 1) → k + lag ≤ sum (lst W) (suc w) (suc e)
    enough-since w e z h out off q = go (nearest w hw off₁)
      where
        hw : 1 ≤ w
        hw = omega (arith, B.late)

        off₁ : has L₁ (sender cable w) ≡ false
        off₁ = not-true (has L₁ (sender cable w)) (λ y. no_both (drop-sub (E D.u).sent L (sender cable D.u) (sender cable w) y) off)

        m : ℕ → ℕ
        m = walks.member cable turns L₁

        each : (q : ℕ) → suc w ≤ q → q < suc w + e → m q ≤ lst W q
        each q a b = by_cases (has L₁ (sender cable q)) yes-case (λ f. omega (arith, num-isnt f))
          where
            yes-case : has L₁ (sender cable q) ≡ true → m q ≤ lst W q
            yes-case p = by_cases (E q).listed (λ l. omega (arith, num-is l, num-le (has L₁ (sender cable q))))
                (λ l. absurd (one-knock W w (q - w) q hw (omega arith) (omega arith) (omega arith) out
                ((fair q).outer ((B.kept q (N - q) (omega arith) (omega arith)).came l (drop-sub (E D.u).sent L (sender cable D.u) (sender cable q) p)).0 l)))

        go : Nearest w → k + lag ≤ sum (lst W) (suc w) (suc e)
        go r =
            let same : r.u ≡ suc N = same-slot cable turns (w - 1) r.u (suc N) (omega (arith, r.later)) (omega (arith, r.upto, r.some-way)) (omega arith) (omega arith) (same-member (sym r.it ∙ q.it)) in
            let a₁ : sum m (suc N) r.e ≡ 1 = rw (← same) r.alone in
            let a₂ : suc e + r.e ≡ n = omega (arith, r.upto) in
            let a₃ : w + suc e ≡ suc N = omega arith in
            let a₄ : sum m w (suc e + r.e) ≡ size n L₁ = ap (sum m w) a₂ ∙ size-from W L₁ w hw in
            let a₅ : sum m (w + suc e) r.e ≡ 1 = rw a₃ a₁ in
            omega (arith, sum-split m w (suc e) r.e, sum_first m w e, num-isnt off₁, sum-le m (lst W) (suc w) e each, since-next N w e z, num-is l_t, L₁-size)
