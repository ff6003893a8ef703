-- The list of those that stay on, from slot to slot. S q: something was sent in slot q. Slots are counted from n + 1 here: a round in which every node spoke stands
-- before the first. Assumes nothing.
use Prim.Native.Nat.{ℕ, zero, suc, ◌+◌, ◌-◌, ◌≤◌, ◌<◌}
use mathlib.Core.Path.{◌≡◌, refl, sym, ap, ◌∙◌}
use mathlib.Core.Logic.{◌≢◌, ◌⊎◌, inl, inr}
use mathlib.Core.Bool.{Bool, true, false, cond}
use native.Mathlib.Omega.{arith}
use native.Mathlib.Decide.{ℕ_discrete, dec_lt}
use Rattle.agreement.specs.nodeset.Sums.{sum}
use Rattle.agreement.specs.nodeset.Sets.{has, with, without, full, size}
use Rattle.agreement.proofs.nodeset.Tests.{by_cases}
use Rattle.agreement.proofs.nodeset.Sums.{sum-le, sum_first, sum-next, sum-none}
use Rattle.agreement.proofs.nodeset.Laws.{has-full, has-with, has-with-other, has-without, has-without-other}
use Rattle.agreement.specs.cable.declared.Cable.{Cable}
use Rattle.agreement.specs.ring.Ring.{sender, sponsors}
use Rattle.agreement.proofs.ring_laws.Senders.{Turns, sender-range, sender-once, sender-period}
use Rattle.agreement.proofs.ring_laws.Walks as walks
use Rattle.agreement.proofs.Backwards.{size-from}
use Rattle.agreement.proofs.History.{sum_more, num-is, num-isnt}
use Rattle.agreement.proofs.Marks.{no_both, not-true}
use Rattle.many_dead.proofs.Shrinking.{member, decided-is, goes-by-other, sponsors-of, shrunk, shrunk-part, shrunk-keeps, shrunk-sender, shrunk-ends}

-- the marks after a slot of s, for all nodes alike
abbrev pub marks_next : Bool → ℕ → ℕ → ℕ
marks_next sent s P = cond sent (with P s) (without P s)

module _ (cable : Cable) (turns : Turns cable) (n-most : cable.n ≤ 32) (k-pos : 1 ≤ cable.k) where
  open cable use {n, k, lag}

  -- the members that spoke, or had their slot, in the e slots after slot u
  abbrev pub since : ℕ → ℕ → ℕ → ℕ
  since L u e = sum (walks.member cable turns L) (suc u) e

  pub record Lists (S : ℕ → Bool) (N L P : ℕ) : Type 0 where
    pub late : n ≤ N
    -- a member is marked exactly if its last slot was sent
    pub marks : (u e : ℕ) → u + e ≡ N → e < n → has L (sender cable u) ≡ true → has P (sender cable u) ≡ S u
    -- who spoke in its last slot is a member
    pub spoke : (u e : ℕ) → u + e ≡ N → e < n → S u ≡ true → has L (sender cable u) ≡ true
    -- a member whose last slot was silent has had fewer than ks members, and the lag, speak since
    pub soon : (u e : ℕ) → u + e ≡ N → e < n → has L (sender cable u) ≡ true → S u ≡ false → (since L u e < k + lag) × (suc (since L u e) < size n L)
    -- who spoke a round ago is a member at the end of its slot
    pub waits : (u : ℕ) → u + n ≡ N → S u ≡ true → has L (sender cable N) ≡ true
    -- n - 1 slots after a silent one its node is gone
    pub gone : (u e : ℕ) → u + e ≡ N → n ≤ suc e → S u ≡ false → has L (sender cable u) ≡ false

  -- only the slots up to now count
  pub lists-same : (S R : ℕ → Bool) (N L P : ℕ) → ((q : ℕ) → q ≤ N → R q ≡ S q) → Lists S N L P → Lists R N L P
  lists-same S R N L P h l = record {
    late = l.late;
    marks = λ u e z w on. l.marks u e z w on ∙ sym (h u (omega arith));
    spoke = λ u e z w s. l.spoke u e z w (sym (h u (omega arith)) ∙ s);
    soon = λ u e z w on s. l.soon u e z w on (sym (h u (omega arith)) ∙ s);
    waits = λ u z s. l.waits u z (sym (h u (omega arith)) ∙ s);
    gone = λ u e z w s. l.gone u e z w (sym (h u (omega arith)) ∙ s);
  }

  -- the members of a part of a round
  within-round : (L u e : ℕ) → 1 ≤ u → suc e ≤ n → has L (sender cable u) ≡ true → suc (since L u e) ≤ size n L
  within-round L u e h l on =
      let m : ℕ → ℕ = walks.member cable turns L in
      let z : suc e + (n - suc e) ≡ n = omega arith in
      omega (arith, sum_first m u e, num-is on, sum_more m u (suc e) (n - suc e), ap (sum m u) z, size-from cable turns L u h)

  -- within a round the silent one is gone
  in-time : (S : ℕ → Bool) (N L u e : ℕ) → n ≤ N → u + e ≡ N → suc e ≡ n
      → (has L (sender cable u) ≡ true → S u ≡ false → (since L u e < k + lag) × (suc (since L u e) < size n L))
      → S u ≡ false → has L (sender cable u) ≡ false
  in-time S N L u e hn z w soon s = not-true (has L (sender cable u)) (λ on.
      let m : ℕ → ℕ = walks.member cable turns L in
      omega (arith, size-from cable turns L u (omega arith), ap (sum m u) w, sum_first m u e, num-is on, (soon on s).1))

  other-sender : (N u e : ℕ) → n ≤ N → u + suc e ≡ suc N → suc e < n → sender cable (suc N) ≢ sender cable u
  other-sender N u e hn z h p = sender-once cable turns u (suc e) (omega arith) (omega arith) h (ap (sender cable) z ∙ p)

  module _ (S : ℕ → Bool) (N L P : ℕ) (l : Lists S N L P) where
    abbrev s : ℕ
    s = sender cable (suc N)

    -- a slot outside the list
    pub outside-lists : has L (sender cable (suc N)) ≡ false → S (suc N) ≡ false → Lists S (suc N) L P
    outside-lists off sil = record {
      late = omega (arith, l.late);
      marks = marks;
      spoke = spoke;
      soon = soon;
      waits = λ u z p. absurd (no_both (l.spoke u (n - 1) (omega arith) (omega arith) p) (ap (has L) (sym (sender-period cable turns u (omega (arith, l.late))) ∙ ap (sender cable) z) ∙ off));
      gone = gone;
    }
      where
        here : (u : ℕ) → u + 0 ≡ suc N → u ≡ suc N
        here u z = omega arith

        marks : (u e : ℕ) → u + e ≡ suc N → e < n → has L (sender cable u) ≡ true → has P (sender cable u) ≡ S u
        marks u zero z w on = absurd (no_both on (ap (λ (x : ℕ). has L (sender cable x)) (here u z) ∙ off))
        marks u (suc e) z w on = l.marks u e (omega arith) (omega arith) on

        spoke : (u e : ℕ) → u + e ≡ suc N → e < n → S u ≡ true → has L (sender cable u) ≡ true
        spoke u zero z w p = absurd (no_both p (ap S (here u z) ∙ sil))
        spoke u (suc e) z w p = l.spoke u e (omega arith) (omega arith) p

        soon : (u e : ℕ) → u + e ≡ suc N → e < n → has L (sender cable u) ≡ true → S u ≡ false → (since L u e < k + lag) × (suc (since L u e) < size n L)
        soon u zero z w on p = absurd (no_both on (ap (λ (x : ℕ). has L (sender cable x)) (here u z) ∙ off))
        soon u (suc e) z w on p =
            let m : ℕ → ℕ = walks.member cable turns L in
            let y : suc u + e ≡ suc N = omega arith in
            let b = l.soon u e (omega arith) (omega arith) on p in
            let c : m (suc u + e) ≡ 0 = ap m y ∙ num-isnt off in
            (omega (arith, b.0, sum-next m (suc u) e), omega (arith, b.1, sum-next m (suc u) e))

        gone : (u e : ℕ) → u + e ≡ suc N → n ≤ suc e → S u ≡ false → has L (sender cable u) ≡ false
        gone u zero z w p = ap (λ (x : ℕ). has L (sender cable x)) (here u z) ∙ off
        gone u (suc e) z w p = go (ℕ_discrete (suc (suc e)) n)
          where
            go : Dec (suc (suc e) ≡ n) → has L (sender cable u) ≡ false
            go (yes q) = in-time S (suc N) L u (suc e) (omega (arith, l.late)) z q (λ on t. soon u (suc e) z (omega arith) on t) p
            go (no q) = l.gone u e (omega arith) (omega arith) p

    -- a listed slot: marks for all alike, then the repeated departure
    module _ (on : has L (sender cable (suc N)) ≡ true) where
      abbrev pub P' : ℕ
      P' = marks_next (S (suc N)) (sender cable (suc N)) P

      abbrev pub L' : ℕ
      L' = shrunk cable turns k-pos n P' (sender cable (suc N)) L

      mark-here : has P' (sender cable (suc N)) ≡ S (suc N)
      mark-here = go (S (suc N)) refl
        where
          go : (b : Bool) → S (suc N) ≡ b → has (marks_next b (sender cable (suc N)) P) (sender cable (suc N)) ≡ b
          go true e = let r = sender-range cable turns (suc N) in has-with P (sender cable (suc N)) r.0 (omega (arith, r.1, n-most))
          go false e = has-without P (sender cable (suc N))

      mark-other : (x : ℕ) → sender cable (suc N) ≢ x → has P' x ≡ has P x
      mark-other x ne = go (S (suc N))
        where
          go : (b : Bool) → has (marks_next b (sender cable (suc N)) P) x ≡ has P x
          go true = has-with-other P (sender cable (suc N)) x ne
          go false = has-without-other P (sender cable (suc N)) x ne

      part : (x : ℕ) → has L' x ≡ true → has L x ≡ true
      part x h = shrunk-part cable turns k-pos n P' (sender cable (suc N)) L x h

      marks-in : (u e : ℕ) → u + e ≡ suc N → e < n → has L' (sender cable u) ≡ true → has P' (sender cable u) ≡ S u
      marks-in u zero z w h = let y : u ≡ suc N = omega arith in rw y mark-here
      marks-in u (suc e) z w h = mark-other (sender cable u) (other-sender N u e l.late z w) ∙ l.marks u e (omega arith) (omega arith) (part (sender cable u) h)

      spoke-in : (u e : ℕ) → u + e ≡ suc N → e < n → S u ≡ true → has L' (sender cable u) ≡ true
      spoke-in u zero z w h = let y : u ≡ suc N = omega arith in rw y (shrunk-sender cable turns k-pos n P' N L l.late on)
      spoke-in u (suc e) z w h =
          let was : has L (sender cable u) ≡ true = l.spoke u e (omega arith) (omega arith) h in
          shrunk-keeps cable turns k-pos n P' (sender cable (suc N)) L (sender cable u) (mark-other (sender cable u) (other-sender N u e l.late z w) ∙ l.marks u e (omega arith) (omega arith) was ∙ h) was

      fewer : (a m : ℕ) → sum (walks.member cable turns L') a m ≤ sum (walks.member cable turns L) a m
      fewer a m = sum-le (walks.member cable turns L') (walks.member cable turns L) a m (λ q _ _. by_cases (has L' (sender cable q))
          (λ e. omega (arith, num-is e, num-is (part (sender cable q) e)))
          (λ e. omega (arith, num-isnt e)))

      -- with a member that is not marked the list has two more, and the lag
      module _ (many : (x : ℕ) → 1 ≤ x → x ≤ n → has L' x ≡ true → has P' x ≡ false → 2 + lag ≤ size n L') (small : size n L ≤ n) where
        many-at : (u e : ℕ) → u + e ≡ suc N → e < n → has L' (sender cable u) ≡ true → S u ≡ false → 2 + lag ≤ size n L'
        many-at u e z w h p = let r = sender-range cable turns u in many (sender cable u) r.0 r.1 h (marks-in u e z w h ∙ p)

        soon-in : (u e : ℕ) → u + e ≡ suc N → e < n → has L' (sender cable u) ≡ true → S u ≡ false → (since L' u e < k + lag) × (suc (since L' u e) < size n L')
        soon-in u zero z w h p = (omega (arith, sum-none (walks.member cable turns L') (suc u), k-pos), omega (arith, sum-none (walks.member cable turns L') (suc u), many-at u zero z w h p))
        soon-in u (suc e) z w h p = go (dec_lt (since L' u (suc e)) (k + lag)) (dec_lt (suc (since L' u (suc e))) (size n L'))
          where
            ago : u + e ≡ N
            ago = omega arith

            old : (since L u e < k + lag) × (suc (since L u e) < size n L)
            old = l.soon u e ago (omega arith) (part (sender cable u) h) p

            more : since L' u (suc e) ≡ suc (since L' u e)
            more =
                let m : ℕ → ℕ = walks.member cable turns L' in
                let y : suc u + e ≡ suc N = omega arith in
                let c : m (suc u + e) ≡ 1 = ap m y ∙ num-is (shrunk-sender cable turns k-pos n P' N L l.late on) in
                omega (arith, sum-next m (suc u) e)

            -- it would be decided, and would have left
            exact : suc (since L' u e) ≡ sponsors cable L' + lag → ⊥
            exact c =
                let d : member cable turns k-pos L' (sender cable (suc N)) ≡ sender cable u = decided-is cable turns k-pos N L' u e l.late ago w h (many-at u (suc e) z w h p) c in
                no_both (goes-by-other cable turns k-pos P' N L' l.late (many-at u (suc e) z w h p) (ap (has P') d ∙ marks-in u (suc e) z w h ∙ p)) (shrunk-ends cable turns k-pos n P' N L l.late small)

            -- all others, the sender included, are at most one less than the size
            most : suc (since L' u (suc e)) ≤ size n L'
            most = within-round L' u (suc e) (omega (arith, l.late)) (omega arith) h

            count : (suc (since L' u e) ≡ k + lag) ⊎ (suc (suc (since L' u e)) ≡ size n L') → suc (since L' u e) ≤ k + lag → suc (since L' u e) ≡ sponsors cable L' + lag
            count c b = sponsors-of cable turns k-pos L' (suc (since L' u e)) c b (omega (arith, most, more)) (many-at u (suc e) z w h p)

            go : Dec (since L' u (suc e) < k + lag) → Dec (suc (since L' u (suc e)) < size n L') → (since L' u (suc e) < k + lag) × (suc (since L' u (suc e)) < size n L')
            go (yes a) (yes b) = (a, b)
            go (yes a) (no b) = absurd (exact (count (inr (omega (arith, more, most))) (omega (arith, more))))
            go (no a) d = absurd (exact (count (inl (omega (arith, more, fewer (suc u) e, old.0))) (omega (arith, fewer (suc u) e, old.0))))

        gone-in : (u e : ℕ) → u + e ≡ suc N → n ≤ suc e → S u ≡ false → has L' (sender cable u) ≡ false
        gone-in u zero z w p = in-time S (suc N) L' u zero (omega (arith, l.late)) z (omega arith) (λ h t. soon-in u zero z (omega arith) h t) p
        gone-in u (suc e) z w p = go (ℕ_discrete (suc (suc e)) n)
          where
            go : Dec (suc (suc e) ≡ n) → has L' (sender cable u) ≡ false
            go (yes q) = in-time S (suc N) L' u (suc e) (omega (arith, l.late)) z q (λ h t. soon-in u (suc e) z (omega arith) h t) p
            go (no q) = not-true (has L' (sender cable u)) (λ h. no_both (part (sender cable u) h) (l.gone u e (omega arith) (omega arith) p))

        pub inside-lists : Lists S (suc N) L' P'
        inside-lists = record {
          late = omega (arith, l.late);
          marks = marks-in;
          spoke = spoke-in;
          soon = soon-in;
          waits = λ u z p. shrunk-sender cable turns k-pos n P' N L l.late on;
          gone = gone-in;
        }

  -- the start
  pub lists-start : (S : ℕ → Bool) → ((q : ℕ) → q ≤ n → S q ≡ true) → Lists S n (full n) (full n)
  lists-start S h = record {
    late = omega arith;
    marks = λ u e z w on. on ∙ sym (h u (omega arith));
    spoke = λ u e z w p. all u;
    soon = λ u e z w on p. absurd (no_both (h u (omega arith)) p);
    waits = λ u z p. all n;
    gone = λ u e z w p. absurd (no_both (h u (omega arith)) p);
  }
    where
      all : (u : ℕ) → has (full n) (sender cable u) ≡ true
      all u = let r = sender-range cable turns u in has-full n (sender cable u) r.0 r.1 (omega (arith, r.1, n-most))
