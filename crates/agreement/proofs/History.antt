-- The entries of a run, and what the list has to do with them (K). Slots are counted from n + 1 here: a round in which every node was listed,
-- spoke and was heard by all stands before the first. Assumes nothing.
use Prim.Native.Nat.{ℕ, zero, suc, ◌+◌, ◌-◌, ◌≤◌, ◌<◌}
use mathlib.Core.Path.{◌≡◌, refl, sym, ap, ◌∙◌}
use mathlib.Core.Bool.{Bool, true, false}
use native.Mathlib.Omega.{arith}
use Rattle.bench.specs.nodeset.Sums.{sum, num}
use Rattle.bench.specs.nodeset.Sets.{has, size}
use Rattle.bench.proofs.nodeset.Tests.{by_cases}
use Rattle.bench.proofs.nodeset.Sums.{sum-next, sum_first, sum-add, sum-split, sum-at, one_place, num-le}
use Rattle.bench.specs.cable.declared.Cable.{Cable}
use Rattle.bench.specs.ring.Ring.{sender, member_before, sponsors, sponsored, decided}
use Rattle.bench.proofs.ring_laws.Senders.{Turns, sender-range, round}
use Rattle.bench.proofs.ring_laws.Walks as walks
use Rattle.bench.proofs.ring.Members.{sponsored-before, decided-before}
use Rattle.agreement.proofs.Past.{Past, no_past}
use Rattle.agreement.proofs.Backwards as backwards
use Rattle.bench.specs.ring.Ring.{found}

-- a longer window has no smaller sum
pub sum_more : (f : ℕ → ℕ) (a m d : ℕ) → sum f a m ≤ sum f a (m + d)
sum_more f a m d = omega (arith, sum-split f a m d)

-- The first `lag` listed slots after slot u say nothing of it; each later one is paid for.
past-lag : (lag : ℕ) (listed paid : ℕ → ℕ) (u m : ℕ) → ((t : ℕ) → listed t ≤ 1) → ((t d : ℕ) → suc u + d ≡ t → t ≤ u + m → lag ≤ sum listed (suc u) d → listed t ≤ paid t)
    → sum listed (suc u) m ≤ lag + sum paid (suc u) m
unfolding sum
past-lag lag listed paid u zero one un = omega arith
past-lag lag listed paid u (suc m) one un = go (past-lag lag listed paid u m one (λ t d z h l. un t d z (omega (arith, h)) l)) (native.Mathlib.Decide.dec_le lag (sum listed (suc u) m))
  where
    go : sum listed (suc u) m ≤ lag + sum paid (suc u) m → Dec (lag ≤ sum listed (suc u) m) → sum listed (suc u) (suc m) ≤ lag + sum paid (suc u) (suc m)
    go r (yes h) = omega (arith, r, sum-next listed (suc u) m, sum-next paid (suc u) m, un (suc u + m) m refl (omega arith) h)
    go r (no h) = omega (arith, h, sum-next listed (suc u) m, one (suc u + m))

-- Counting lemma 2 of the paper proof: where nobody has told those who missed slot u what it was, no more listed slots have been since than there were failures, and the lag.
told : (n lag : ℕ) (speaks : ℕ → ℕ) (listed failures : ℕ → ℕ) (missed : ℕ → ℕ → ℕ) (u m : ℕ) → m < n
    → ((t : ℕ) → listed t ≤ 1)
    → ((t d : ℕ) → suc u + d ≡ t → t ≤ u + m → lag ≤ sum listed (suc u) d → listed t ≤ failures t + missed u (speaks t))
    → sum (λ t. missed u (speaks t)) (suc u) n ≤ failures u
    → sum listed (suc u) m ≤ lag + sum failures u (suc m)
told n lag speaks listed failures missed u m hm one un cm =
    let d : ℕ = n - suc m in
    let e₁ : m + suc d ≡ n = omega arith in
    let miss : ℕ → ℕ = λ t. missed u (speaks t) in
    let a₁ : sum listed (suc u) m ≤ lag + sum (λ t. failures t + miss t) (suc u) m = past-lag lag listed (λ t. failures t + miss t) u m one un in
    let a₂ : sum miss (suc u) m ≤ sum miss (suc u) n = rw (← e₁) (sum_more miss (suc u) m (suc d)) in
    omega (arith, a₁, a₂, sum-add failures miss (suc u) m, sum_first failures u m, cm)

pub record Fair (n : ℕ) (e : Past) : Type 0 where
  pub count : sum (λ i. num (e.missed i)) 1 n ≤ e.failures
  pub unsent : e.sent ≡ false → e.listed ≡ true → 1 ≤ e.failures
  pub outer : e.sent ≡ true → e.listed ≡ false → e.outside ≡ true

-- a run that keeps to the premises on failures and on transmissions from outside the list
pub record World : Type 0 where
  pub cable : Cable
  pub n_pos : 1 ≤ cable.n
  pub turns : Turns cable
  pub n-most : cable.n ≤ 32
  pub k_two : 2 ≤ cable.k
  pub k_lt : cable.k + cable.lag < cable.n
  pub E : ℕ → Past
  pub fair : (q : ℕ) → Fair cable.n (E q)
  pub early : (q : ℕ) → q ≤ cable.n → E q ≡ no_past
  pub few : (a : ℕ) → sum (λ u. (E u).failures) (suc a) cable.n < cable.k
  pub once : (a : ℕ) → sum (λ u. num (E u).outside) (suc a) cable.n ≤ 1

pub num-is : {b : Bool} → b ≡ true → num b ≡ 1
num-is e = ap num e

pub num-isnt : {b : Bool} → b ≡ false → num b ≡ 0
num-isnt e = ap num e

module _ (W : World) where
  open W use {cable, n_pos, turns, n-most, k_two, E, fair, few, once}
  open cable use {n, k, lag}

  -- senders are among the 32 nodes that a set can hold
  pub sender-most : (u : ℕ) → sender cable u ≤ 32
  sender-most u = omega (arith, sender-range cable turns u, n-most)

  abbrev pub lst : ℕ → ℕ
  lst q = num (E q).listed

  -- nobody told those who missed slot u what it was, up to slot N; the senders of the first `lag` listed slots after u do not sponsor its sender
  abbrev pub Untold : ℕ → ℕ → Type 0
  Untold u N = (t d : ℕ) → suc u + d ≡ t → t ≤ N → lag ≤ sum lst (suc u) d → lst t ≤ (E t).failures + num ((E u).missed (sender cable t))

  abbrev pub failed : ℕ → ℕ
  failed q = (E q).failures

  pub few-from : (u : ℕ) → 1 ≤ u → sum failed u n < k
  few-from u h = let z : suc (u - 1) ≡ u = omega arith in rw z at (few (u - 1))

  pub told-failures : (u e : ℕ) → e < n → Untold u (u + e) → sum lst (suc u) e ≤ lag + sum failed u (suc e)
  told-failures u e he un =
      told n lag (sender cable) lst failed (λ q x. num ((E q).missed x)) u e he (λ q. num-le (E q).listed) un (omega (arith, round cable turns (λ x. num ((E u).missed x)) u, (fair u).count))

  pub told-in-time : (u e : ℕ) → 1 ≤ u → e < n → Untold u (u + e) → sum lst (suc u) e < k + lag
  told-in-time u e hu he un =
      let d : ℕ = n - suc e in
      let z : suc e + d ≡ n = omega arith in
      omega (arith, told-failures u e he un, sum_more failed u (suc e) d, ap (sum failed u) z, few-from u hu)

  -- two transmissions from outside the list in one round
  pub one-knock : (w e q : ℕ) → 1 ≤ w → 1 ≤ e → e < n → w + e ≡ q → (E w).outside ≡ true → (E q).outside ≡ true → ⊥
  one-knock w e q hw he hn z a b =
      let f : ℕ → ℕ = λ u. num (E u).outside in
      let y : suc (w - 1) ≡ w = omega arith in
      let o : sum f w n ≤ 1 = rw y at (once (w - 1)) in
      let x : suc (n - 1) ≡ n = omega arith in
      let p : sum f w (suc (n - 1)) ≡ sum f w n = ap (sum f w) x in
      omega (arith, sum_first f w (n - 1), sum-at f (suc w) (n - 1) q (omega arith) (omega arith), num-is a, num-is b)

  -- what the list says of the sender of slot u, e slots ago
  pub record KFact (L u e : ℕ) : Type 0 where
    pub spoke : (E u).listed ≡ true → (E u).sent ≡ true → has L (sender cable u) ≡ true
    pub waits : (E u).listed ≡ true → (E u).sent ≡ false → sum lst (suc u) e < k + lag → has L (sender cable u) ≡ true
    pub dropped : (E u).listed ≡ true → (E u).sent ≡ false → k + lag ≤ sum lst (suc u) e → has L (sender cable u) ≡ false
    pub came : (E u).listed ≡ false → has L (sender cable u) ≡ true → ((E u).sent ≡ true) × (k + lag ≤ sum lst (suc u) e)

  abbrev pub K : ℕ → ℕ → Type 0
  K N L = (u e : ℕ) → u + e ≡ N → e < n → KFact L u e

  -- with fewer than k + lag listed slots since, the sender of u is on the list exactly if it was listed
  pub near : (N L : ℕ) → K N L → (u e : ℕ) → u + e ≡ N → e < n → sum lst (suc u) e < k + lag → has L (sender cable u) ≡ (E u).listed
  near N L κ u e z h l = go (E u).listed (E u).sent refl refl
    where
      go : (a b : Bool) → (E u).listed ≡ a → (E u).sent ≡ b → has L (sender cable u) ≡ a
      go true true p q = (κ u e z h).spoke p q
      go true false p q = (κ u e z h).waits p q l
      go false b p q = by_cases (has L (sender cable u))
          (λ y. let f : ⊥ = omega (arith, (κ u e z h).came p y) in absurd f)
          (λ y. y)

  pub span : (N L : ℕ) → K N L → (e u : ℕ) → u + e ≡ N → e ≤ n → sum lst (suc u) e < k + lag → sum (walks.member cable turns L) (suc u) e ≡ sum lst (suc u) e
  unfolding sum
  span N L κ zero u z h l = refl
  span N L κ (suc e) u z h l =
      let m : ℕ → ℕ = walks.member cable turns L in
      let y : suc u + e ≡ N = omega arith in
      let l' : sum lst (suc (suc u)) e < k + lag = omega (arith, sum_first lst (suc u) e) in
      omega (
        arith,
        sum_first lst (suc u) e,
        sum_first m (suc u) e,
        span N L κ e (suc u) y (omega arith) l',
        ap num (near N L κ (suc u) e y (omega arith) l'),
      )

  pub span-mem : (N L : ℕ) → K N L → (e u : ℕ) → u + e ≡ N → e ≤ n → sum (walks.member cable turns L) (suc u) e < k + lag → sum (walks.member cable turns L) (suc u) e ≡ sum lst (suc u) e
  unfolding sum
  span-mem N L κ zero u z h l = refl
  span-mem N L κ (suc e) u z h l =
      let m : ℕ → ℕ = walks.member cable turns L in
      let y : suc u + e ≡ N = omega arith in
      let r : sum m (suc (suc u)) e ≡ sum lst (suc (suc u)) e = span-mem N L κ e (suc u) y (omega arith) (omega (arith, sum_first m (suc u) e)) in
      let l' : sum lst (suc (suc u)) e < k + lag = omega (arith, sum_first m (suc u) e) in
      omega (arith, sum_first lst (suc u) e, sum_first m (suc u) e, r, ap num (near N L κ (suc u) e y (omega arith) l'))

  pub size-from : (L a : ℕ) → 1 ≤ a → sum (walks.member cable turns L) a n ≡ size n L
  size-from = backwards.size-from cable turns

  -- after n - 1 slots k + lag listed ones have been
  pub full-round : (N L : ℕ) → K N L → k + lag < size n L → (w e : ℕ) → 1 ≤ w → w + e ≡ N → suc e ≡ n → k + lag ≤ sum lst (suc w) e
  full-round N L κ hs w e hw z h = go (native.Mathlib.Decide.dec_le (k + lag) (sum lst (suc w) e))
    where
      go : Dec (k + lag ≤ sum lst (suc w) e) → k + lag ≤ sum lst (suc w) e
      go (yes p) = p
      go (no p) =
          let m : ℕ → ℕ = walks.member cable turns L in
          let f : ⊥ = omega (arith, span N L κ e w z (omega arith) (omega arith), size-from L w hw, ap (sum m w) h, sum_first m w e, num-le (has L (sender cable w))) in
          absurd f

  -- ---- the walk back, on the list as the slot after N begins

  -- with k + 1 members or more, and the lag, a member sponsors k of them
  pub sponsors-are : (L : ℕ) → k + lag < size n L → sponsors cable L ≡ k
  unfolding sponsors
  sponsors-are L h = omega arith

  abbrev pub Before : ℕ → ℕ → ℕ → Type 0
  Before N L j = backwards.Before cable turns N L j

  pub before : (N L j : ℕ) → n ≤ N → 1 ≤ j → j < size n L → Before N L j
  before = backwards.before cable turns

  -- the member that the sender of the next slot decides
  pub record Decision (N L : ℕ) : Type 0 where
    pub u : ℕ
    pub e : ℕ
    pub ago : u + e ≡ N
    pub recent : suc e < n
    pub listed : (E u).listed ≡ true
    pub member : has L (sender cable u) ≡ true
    pub exact : suc (sum lst (suc u) e) ≡ k + lag
    pub it : decided cable L (sender cable (suc N)) ≡ found (sender cable u) (suc e)

  pub decision : (N L : ℕ) → n ≤ N → K N L → k + lag < size n L → Decision N L
  decision N L hn κ hs = go (before N L (k + lag) hn (omega (arith, k_two)) hs)
    where
      go : Before N L (k + lag) → Decision N L
      go b =
          let m : ℕ → ℕ = walks.member cable turns L in
          let c₂ : suc (sum m (suc b.u) b.e) ≡ k + lag = omega (arith, sum_first m b.u b.e, num-is b.listed, b.count) in
          let c₃ : sum m (suc b.u) b.e ≡ sum lst (suc b.u) b.e = span-mem N L κ b.e b.u b.ago (omega (arith, b.recent)) (omega arith) in
          record {
            u = b.u;
            e = b.e;
            ago = b.ago;
            recent = b.recent;
            listed = sym (near N L κ b.u b.e b.ago (omega (arith, b.recent)) (omega arith)) ∙ b.listed;
            member = b.listed;
            exact = omega arith;
            it = decided-before cable L (sender cable (suc N)) (omega (arith, sponsors-are L hs, k_two)) ∙ ap (λ (j : ℕ). member_before cable L (sender cable (suc N)) (j + lag)) (sponsors-are L hs) ∙ b.it;
          }

  -- who is among the last k + lag listed senders, not among the last `lag`, and on the list is sponsored in the next slot
  pub record Sponsored (N L u : ℕ) : Type 0 where
    pub j : ℕ
    pub few : j < k
    pub back : ℕ
    pub it : sponsored cable L (sender cable (suc N)) (suc j) ≡ found (sender cable u) back

  pub sponsored-since : (N L : ℕ) → n ≤ N → K N L → k + lag < size n L → (u e : ℕ) → u + e ≡ N → suc e < n → has L (sender cable u) ≡ true
      → lag ≤ sum lst (suc u) e → sum lst (suc u) e < k + lag → Sponsored N L u
  sponsored-since N L hn κ hs u e z he hm past l = by (sum lst (suc u) e - lag) (omega (arith, past, span N L κ e u z (omega arith) l))
    where
      m : ℕ → ℕ
      m = walks.member cable turns L

      c : sum m (suc u) e ≡ sum lst (suc u) e
      c = span N L κ e u z (omega arith) l

      by : (j : ℕ) → j + lag ≡ sum m (suc u) e → Sponsored N L u
      by j q = go (before N L (suc j + lag) hn (omega arith) (omega (arith, c, q)))
        where
          go : Before N L (suc j + lag) → Sponsored N L u
          go b =
              let c' : sum m u (suc e) ≡ suc j + lag = omega (arith, sum_first m u e, num-is hm, q) in
              let same : b.u ≡ u = one_place m (suc j + lag) b.u (suc b.e) u (suc e) (omega (arith, b.ago)) b.count c' (omega (arith, num-is b.listed)) (omega (arith, num-is hm)) in
              record {
                j = j;
                few = omega (arith, c, q);
                back = suc b.e;
                it = sponsored-before cable L (sender cable (suc N)) (suc j) (omega arith) (omega (arith, c, q, sponsors-are L hs)) ∙ b.it ∙ ap (λ (x : ℕ). found (sender cable x) (suc b.e)) same;
              }
