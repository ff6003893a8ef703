-- The repeated departure as a function of the list and of the marks, and which members it takes. Assumes nothing.
use Rattle.std.specs.Prelude.{None, Option}
use Prim.Native.Nat.{ℕ, zero, suc, ◌+◌, ◌≤◌, ◌<◌}
use mathlib.Core.Path.{◌≡◌, refl, sym, ap, ap₂, ◌∙◌}
use mathlib.Core.Logic.{◌≢◌, ◌⊎◌, inl, inr}
use mathlib.Core.Bool.{Bool, true, false, cond, not, ◌&&◌}
use native.Mathlib.Omega.{arith}
use native.Mathlib.Decide.{dec_le}
use borrow.Author.Tests as tests
use borrow.Author.Tests.{eq-eqb}
use Rattle.agreement.specs.nodeset.Sums.{sum}
use Rattle.agreement.specs.nodeset.Sets.{has, without, size}
use Rattle.agreement.proofs.nodeset.Tests.{by_cases, both}
use Rattle.agreement.proofs.nodeset.Sums.{sum_first, one_place}
use Rattle.agreement.proofs.nodeset.Laws.{has-without-other, without-part}
use Rattle.agreement.proofs.nodeset.Counts.{size-without}
use Rattle.agreement.specs.cable.declared.Cable.{Cable}
use Rattle.agreement.specs.ring.declared.Found.{Found}
use Rattle.agreement.specs.ring.Ring.{sender, sponsors, sponsored, decided, member_in, is_found}
use Rattle.agreement.proofs.ring_laws.Senders.{Turns, sender-range, sender-once}
use Rattle.agreement.proofs.ring_laws.Walks as walks
use Rattle.agreement.proofs.ring.Members.{same-member, sponsored-before, decided-before}
use Rattle.agreement.proofs.node_steps.Answers.{At}
use Rattle.agreement.proofs.bench.Choices.{choose}
use Rattle.agreement.proofs.Backwards.{Before, before}
use Rattle.agreement.proofs.History.{num-is}
use Rattle.agreement.proofs.Marks.{no_both}
use Rattle.agreement.specs.ring.Ring.{found}

module _ (cable : Cable) (turns : Turns cable) (k-pos : 1 ≤ cable.k) where
  open cable use {n, k, lag}

  -- ---- the decided member

  -- with two members or more, and the lag, one is decided
  some-sponsored : (L : ℕ) → 2 + lag ≤ size n L → (1 ≤ sponsors cable L) × (sponsors cable L + lag < size n L)
  unfolding sponsors
  some-sponsored L h = (omega arith, omega arith)

  pub deciding : (N L : ℕ) → n ≤ N → 2 + lag ≤ size n L → Before cable turns N L (sponsors cable L + lag)
  deciding N L hn h = let q = some-sponsored L h in before cable turns N L (sponsors cable L + lag) hn (omega (arith, q.0)) q.1

  pub decided-at : (N L : ℕ) (hn : n ≤ N) (h : 2 + lag ≤ size n L) → decided cable L (sender cable (suc N)) ≡ found (sender cable (deciding N L hn h).u) (suc (deciding N L hn h).e)
  decided-at N L hn h = decided-before cable L (sender cable (suc N)) (some-sponsored L h).0 ∙ (deciding N L hn h).it

  decided-none : (L s : ℕ) → size n L ≤ 1 + lag → decided cable L s ≡ None
  unfolding decided sponsored sponsors
  decided-none L s h =
      let z : sponsors cable L ≡ 0 = omega arith in
      ap (sponsored cable L s) z

  -- a member with as many members from its slot on as are sponsored, and the lag, is the decided one
  pub decided-is : (N L u e : ℕ) → n ≤ N → u + e ≡ N → suc e < n → has L (sender cable u) ≡ true → 2 + lag ≤ size n L
      → suc (sum (walks.member cable turns L) (suc u) e) ≡ sponsors cable L + lag → member_in (decided cable L (sender cable (suc N))) ≡ sender cable u
  decided-is N L u e hn z he hm h c =
      let m : ℕ → ℕ = walks.member cable turns L in
      let b = deciding N L hn h in
      let c' : sum m u (suc e) ≡ sponsors cable L + lag = omega (arith, sum_first m u e, num-is hm) in
      let same : b.u ≡ u = one_place m (sponsors cable L + lag) b.u (suc b.e) u (suc e) (omega (arith, b.ago)) b.count c' (omega (arith, num-is b.listed)) (omega (arith, num-is hm)) in
      ap member_in (decided-at N L hn h) ∙ ap (sender cable) same

  -- whoever is sponsored is a node
  sponsored-few : (L j : ℕ) → j < sponsors cable L → suc j + lag < size n L
  unfolding sponsors
  sponsored-few L j h = omega arith

  pub sponsored-node : (N L j x : ℕ) → n ≤ N → j < sponsors cable L → At x (sponsored cable L (sender cable (suc N)) (suc j)) → (1 ≤ x) × (x ≤ n)
  sponsored-node N L j x hn h e =
      let b = before cable turns N L (suc j + lag) hn (omega arith) (sponsored-few L j h) in
      let same : sender cable b.u ≡ x = same-member (sym b.it ∙ sym (sponsored-before cable L (sender cable (suc N)) (suc j) (omega arith) (omega arith)) ∙ e.it) in
      let r = sender-range cable turns b.u in
      (omega arith, omega arith)

  -- ---- who leaves

  -- the member that s decides on the list L
  abbrev pub member : ℕ → ℕ → ℕ
  member L s = member_in (decided cable L s)

  -- it leaves, by the marks P
  unfoldable pub goes : ℕ → ℕ → ℕ → Bool
  goes P s L = is_found (member L s) (decided cable L s) && not (has P (member L s))

  pub unmarked : (P s L : ℕ) → goes P s L ≡ true → has P (member L s) ≡ false
  unfolding goes
  unmarked P s L e = tests.not-true (has P (member L s)) (both (is_found (member L s) (decided cable L s)) (not (has P (member L s))) e).1

  goes_by : (P s L m back : ℕ) → decided cable L s ≡ found m back → goes P s L ≡ not (has P m)
  unfolding goes
  goes_by P s L m back e =
      ap (λ (f : Option Found). is_found (member_in f) f && not (has P (member_in f))) e ∙ ap (λ (b : Bool). b && not (has P m)) (eq-eqb m m refl)

  none-goes : (P s L : ℕ) → decided cable L s ≡ None → goes P s L ≡ false
  unfolding goes
  none-goes P s L e = ap (λ (f : Option Found). is_found (member_in f) f && not (has P (member_in f))) e

  pub goes-many : (P N L : ℕ) → goes P (sender cable (suc N)) L ≡ true → 2 + lag ≤ size n L
  goes-many P N L e = go (dec_le (size n L) (1 + lag))
    where
      go : Dec (size n L ≤ 1 + lag) → 2 + lag ≤ size n L
      go (yes l) = absurd (no_both e (none-goes P (sender cable (suc N)) L (decided-none L (sender cable (suc N)) l)))
      go (no l) = omega arith

  -- the decided member is a node of the list, and not the sender
  pub record Other (N L : ℕ) : Type 0 where
    pub u : ℕ
    pub it : member L (sender cable (suc N)) ≡ sender cable u
    pub on : has L (sender cable u) ≡ true
    pub other : sender cable u ≢ sender cable (suc N)

  pub decided-other : (N L : ℕ) → n ≤ N → 2 + lag ≤ size n L → Other N L
  decided-other N L hn h =
      let b = deciding N L hn h in
      let z : b.u + suc b.e ≡ suc N = omega (arith, b.ago) in
      record {
        u = b.u;
        it = ap member_in (decided-at N L hn h);
        on = b.listed;
        other = λ p. sender-once cable turns b.u (suc b.e) (omega (arith, b.ago, b.recent)) (omega arith) b.recent (ap (sender cable) z ∙ sym p);
      }

  -- a decided member that is not marked leaves
  pub goes-by-other : (P N L : ℕ) → n ≤ N → 2 + lag ≤ size n L → has P (member L (sender cable (suc N))) ≡ false → goes P (sender cable (suc N)) L ≡ true
  goes-by-other P N L hn h e =
      let b = deciding N L hn h in
      goes_by P (sender cable (suc N)) L (sender cable b.u) (suc b.e) (decided-at N L hn h) ∙ ap not (ap (has P) (sym (ap member_in (decided-at N L hn h))) ∙ e)

  -- how many are sponsored, where there are k and the lag before or all others are
  pub sponsors-of : (L j : ℕ) → (j ≡ k + lag) ⊎ (suc j ≡ size n L) → j ≤ k + lag → j < size n L → 2 + lag ≤ size n L → j ≡ sponsors cable L + lag
  unfolding sponsors
  sponsors-of L j (inl e) a b m = omega arith
  sponsors-of L j (inr e) a b m = omega arith

  -- ---- so many times

  unfoldable pub shrunk : ℕ → ℕ → ℕ → ℕ → ℕ
  shrunk zero P s L = L
  shrunk (suc times) P s L = cond (goes P s L) (shrunk times P s (without L (member L s))) L

  -- it takes members away only
  pub shrunk-part : (t P s L x : ℕ) → has (shrunk t P s L) x ≡ true → has L x ≡ true
  unfolding shrunk
  shrunk-part zero P s L x = λ h. h
  shrunk-part (suc t) P s L x =
      choose (λ (y : ℕ). has y x ≡ true → has L x ≡ true) (goes P s L) (shrunk t P s (without L (member L s))) L
      (λ e h. without-part L (member L s) x (shrunk-part t P s (without L (member L s)) x h))
      (λ e h. h)

  -- it takes no marked member
  pub shrunk-keeps : (t P s L x : ℕ) → has P x ≡ true → has L x ≡ true → has (shrunk t P s L) x ≡ true
  unfolding shrunk
  shrunk-keeps zero P s L x p h = h
  shrunk-keeps (suc t) P s L x p h =
      choose (λ (y : ℕ). has y x ≡ true) (goes P s L) (shrunk t P s (without L (member L s))) L
      (λ e. shrunk-keeps t P s (without L (member L s)) x p (has-without-other L (member L s) x (λ q. no_both p (ap (has P) (sym q) ∙ unmarked P s L e)) ∙ h))
      (λ e. h)

  -- nor the sender
  pub shrunk-sender : (t P N L : ℕ) → n ≤ N → has L (sender cable (suc N)) ≡ true → has (shrunk t P (sender cable (suc N)) L) (sender cable (suc N)) ≡ true
  unfolding shrunk
  shrunk-sender zero P N L hn h = h
  shrunk-sender (suc t) P N L hn h =
      choose (λ (y : ℕ). has y (sender cable (suc N)) ≡ true) (goes P (sender cable (suc N)) L) (shrunk t P (sender cable (suc N)) (without L (member L (sender cable (suc N))))) L
      (λ e.
      let o = decided-other N L hn (goes-many P N L e) in
      shrunk-sender t P N (without L (member L (sender cable (suc N)))) hn (has-without-other L (member L (sender cable (suc N))) (sender cable (suc N)) (λ p. o.other (sym o.it ∙ p)) ∙ h))
      (λ e. h)

  -- and at its end nobody leaves
  pub shrunk-ends : (t P N L : ℕ) → n ≤ N → size n L ≤ t → goes P (sender cable (suc N)) (shrunk t P (sender cable (suc N)) L) ≡ false
  unfolding shrunk
  shrunk-ends zero P N L hn l = none-goes P (sender cable (suc N)) L (decided-none L (sender cable (suc N)) (omega arith))
  shrunk-ends (suc t) P N L hn l = by_cases (goes P (sender cable (suc N)) L)
      (λ e. rw e (shrunk-ends t P N (without L (member L (sender cable (suc N)))) hn (omega (arith, less e))))
      (λ e. rw e e)
    where
      less : goes P (sender cable (suc N)) L ≡ true → suc (size n (without L (member L (sender cable (suc N))))) ≡ size n L
      less e =
          let o = decided-other N L hn (goes-many P N L e) in
          ap (λ (x : ℕ). suc (size n (without L x))) o.it ∙ size-without n L (sender cable o.u) (sender-range cable turns o.u).0 (sender-range cable turns o.u).1 o.on

  -- only the marks of nodes count
  pub goes-alike : (P Q N L : ℕ) → n ≤ N → ((x : ℕ) → 1 ≤ x → x ≤ n → has P x ≡ has Q x) → goes P (sender cable (suc N)) L ≡ goes Q (sender cable (suc N)) L
  goes-alike P Q N L hn h = go (dec_le (size n L) (1 + lag))
    where
      go : Dec (size n L ≤ 1 + lag) → goes P (sender cable (suc N)) L ≡ goes Q (sender cable (suc N)) L
      go (yes l) = let d = decided-none L (sender cable (suc N)) l in none-goes P (sender cable (suc N)) L d ∙ sym (none-goes Q (sender cable (suc N)) L d)
      go (no l) =
          let many : 2 + lag ≤ size n L = omega arith in
          let b = deciding N L hn many in
          let d = decided-at N L hn many in
          let r = sender-range cable turns b.u in
          goes_by P (sender cable (suc N)) L (sender cable b.u) (suc b.e) d ∙ ap not (h (sender cable b.u) r.0 r.1) ∙ sym (goes_by Q (sender cable (suc N)) L (sender cable b.u) (suc b.e) d)

  pub shrunk-alike : (t P Q N L : ℕ) → n ≤ N → ((x : ℕ) → 1 ≤ x → x ≤ n → has P x ≡ has Q x) → shrunk t P (sender cable (suc N)) L ≡ shrunk t Q (sender cable (suc N)) L
  unfolding shrunk
  shrunk-alike zero P Q N L hn h = refl
  shrunk-alike (suc t) P Q N L hn h =
      ap₂ (λ (b : Bool) (x : ℕ). cond b x L) (goes-alike P Q N L hn h) (shrunk-alike t P Q N (without L (member L (sender cable (suc N)))) hn h)
