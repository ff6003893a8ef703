-- A listed slot: the departure step repeated (request f). On the shortened list the sender decides a member that is marked at every tracking node exactly if its
-- slot was sent; if it was not, only k + lag members are left. Assumes nothing.
use Prim.Native.Nat.{ℕ, zero, suc, ◌+◌, ◌-◌, ◌≤◌, ◌<◌}
use mathlib.Core.Path.{◌≡◌, sym, ap, ap₂, ◌∙◌, subst}
use mathlib.Core.Logic.{◌≢◌, ◌⊎◌, inl, inr}
use mathlib.Core.Bool.{Bool, true, false, cond, not}
use native.Mathlib.Omega.{arith}
use native.Mathlib.Decide.{dec_le, dec_lt}
use lib.Dec.{eqb}
use Rattle.bench.specs.nodeset.Sums.{sum}
use Rattle.bench.specs.nodeset.Sets.{has, without, size}
use Rattle.bench.proofs.nodeset.Tests.{by_cases, chosen, otherwise}
use Rattle.bench.proofs.nodeset.Sums.{sum_first, sum-next, sum-rest, sum-split}
use Rattle.bench.proofs.nodeset.Counts.{size-with, size-without}
use Rattle.bench.proofs.nodeset.Laws.{without-part}
use Rattle.bench.specs.cable.declared.Cable.{Cable}
use Rattle.bench.specs.ring.Ring.{sender, sponsors, decided, member_in}
use Rattle.bench.proofs.ring_laws.Senders.{sender-range}
use Rattle.bench.proofs.ring_laws.Walks as walks
use Rattle.bench.proofs.ring.Members.{decided-before}
use Rattle.bench.specs.node_record.declared.Node.{Node}
use Rattle.bench.specs.node_record.declared.Cause.TheVariants.{Unconfirmed}
use Rattle.bench.specs.node_record.Sponsoring.{decided_in}
use Rattle.bench.proofs.node_record.Tracking.{tracks}
use Rattle.bench.specs.node_changes.Changes.{leave, with_set}
use Rattle.bench.specs.node_steps.Steps.{marks_after, leaves, settle}
use Rattle.bench.specs.node_steps.Inner.{read_marked, departing}
use Rattle.agreement.proofs.History.{World, Untold, K, lst, failed, few-from, told-failures, told-in-time, span, sponsors-are, Before, before, num-is}
use Rattle.agreement.proofs.Parts.{size-part}
use Rattle.agreement.proofs.Invariant.{Knock}
use Rattle.agreement.proofs.Marks.{no_both, not-true, not-false}
use Rattle.agreement.proofs.Listed.{ListedSlot, Hearer, off-after, on-after}
use Rattle.agreement.proofs.Depart.{L₁, L₁-size, drop-sub, since-next, sender-stays, k-after}
use Rattle.agreement.proofs.Outcome.{Settled, gone, kept, backed, became, joined, leave-law, settle-law, look, no-look}
use Rattle.agreement.proofs.Returns.{joins-yes, marked-is}
use Rattle.agreement.proofs.Alike.{gone-not}
use Rattle.bench.proofs.Choices.{choose}
use Rattle.bench.specs.ring.Ring.{found}

-- ---- how large a set can be after step 3 and what follows it

module _ (n : ℕ) (most : n ≤ 32) (s : ℕ) where
  -- the returning node is not in the set
  abbrev Away : Node → Type 0
  Away v = v.returning ≢ 0 → (1 ≤ v.returning) × (v.returning ≤ n) × (has v.set v.returning ≡ false)

  -- one member more at the most
  settled-size : (inside : Bool) (v w : Node) → Away v → Settled inside s v w → tracks w.state ≡ true → size n w.set ≤ suc (size n v.set)
  settled-size inside v w away (gone g) t = absurd (no_both t (gone-not v w g))
  settled-size inside v w away (kept f e) t = omega (arith, ap (λ (x : Node). size n x.set) e)
  settled-size inside v w away (backed j kn f e) t = omega (arith, ap (λ (x : Node). size n x.set) e)
  settled-size inside v w away (became j kn f e) t =
      let a = away (joins-yes s v j).0 in omega (arith, ap (λ (x : Node). size n x.set) e, size-with n v.set v.returning a.0 a.1 (omega (arith, a.1)) a.2)
  settled-size inside v w away (joined j kn e) t =
      let a = away (joins-yes s v j).0 in omega (arith, ap (λ (x : Node). size n x.set) e, size-with n v.set v.returning a.0 a.1 (omega (arith, a.1)) a.2)

  departing-size : (times : ℕ) (v : Node) → Away v → tracks (departing times s v).state ≡ true → size n (departing times s v).set ≤ suc (size n v.set)
  unfolding departing
  departing-size zero v away = λ t. settled-size true v (settle true s v) away (settle-law true s v) t
  departing-size (suc times) v away =
      choose Small (leaves s v m) (cond (eqb m v.own) (leave Unconfirmed v) (departing times s w)) (settle true s v)
      (λ _. choose Small (eqb m v.own) (leave Unconfirmed v) (departing times s w)
      (λ _ t. absurd (no_both t (gone-not v _ (leave-law Unconfirmed v))))
      (λ _ t. omega (arith, departing-size times w still t, size-part n (without v.set m) v.set (λ y. without-part v.set m y))))
      (λ _ t. settled-size true v (settle true s v) away (settle-law true s v) t)
    where
      m : ℕ
      m = member_in (decided_in s v)

      w : Node
      w = with_set (without v.set (member_in (decided_in s v))) v

      Small : Node → Type 0
      Small x = tracks x.state ≡ true → size n x.set ≤ suc (size n v.set)

      still : Away (with_set (without v.set (member_in (decided_in s v))) v)
      still nz = let a = away nz in (a.0, a.1, not-true _ (λ y. no_both (without-part v.set (member_in (decided_in s v)) v.returning y) a.2))

-- ---- the second member decided

module _ (W : World) where
  open W use {cable, n_pos, turns, n-most, k_two, E, fair}
  open cable use {n, k, lag}

  module _ (S : ListedSlot W) where
    open S use {N, L, B, l_t, D}

    abbrev A : ℕ
    A = L₁ W S

    abbrev s : ℕ
    s = sender cable (suc N)

    κ : K W (suc N) A
    κ = k-after W S

    -- how many the sender sponsors on the shortened list
    abbrev q : ℕ
    q = sponsors cable A

    most : (1 ≤ sponsors cable A) × (sponsors cable A + lag < size n A) × (sponsors cable A ≤ k) × (k ≤ suc (sponsors cable A))
    unfolding sponsors
    most = (omega (arith, L₁-size W S, k_two), omega (arith, L₁-size W S, k_two), omega (arith, L₁-size W S), omega (arith, L₁-size W S))

    -- the member that it decides there
    pub second : Before W N A (sponsors cable A + lag)
    second = before W N A (sponsors cable A + lag) B.late (omega (arith, most)) most.1

    pub second_is : decided cable A s ≡ found (sender cable second.u) (suc second.e)
    second_is = decided-before cable A s most.0 ∙ second.it

    ago : second.u + suc second.e ≡ suc N
    ago = omega (arith, second.ago)

    -- so many listed slots have been since
    since : q + lag ≤ sum (lst W) (suc second.u) (suc second.e)
    since = two (dec_le (k + lag) (sum (lst W) (suc second.u) (suc second.e)))
      where
        m : ℕ → ℕ
        m = walks.member cable turns A

        members : sum (walks.member cable turns A) (suc second.u) (suc second.e) ≡ sponsors cable A + lag
        members =
            let y : suc second.u + second.e ≡ suc N = omega (arith, second.ago) in
            let last : walks.member cable turns A (suc second.u + second.e) ≡ 1 = ap (walks.member cable turns A) y ∙ num-is (sender-stays W S) in
            omega (arith, sum_first (walks.member cable turns A) second.u second.e, sum-next (walks.member cable turns A) (suc second.u) second.e, num-is second.listed, second.count)

        two : Dec (k + lag ≤ sum (lst W) (suc second.u) (suc second.e)) → sponsors cable A + lag ≤ sum (lst W) (suc second.u) (suc second.e)
        two (yes p) = omega (arith, most)
        two (no p) = omega (arith, members, span W (suc N) A κ (suc second.e) second.u ago (omega (arith, second.recent)) (omega arith))

    module _ (gone : (E D.u).sent ≡ false) where
      -- some member has told it of its slot: with the slot of the member that left there would be k failures in a round
      pub never-untold : Untold W second.u (suc N) → ⊥
      never-untold un =
          let un' : Untold W second.u (second.u + suc second.e) = rw ago un in
          let h : 1 ≤ second.u = omega (arith, second.ago, second.recent, B.late) in
          let d : 1 ≤ D.u = omega (arith, D.ago, D.recent, B.late) in
          let f₁ = told-in-time W second.u (suc second.e) h second.recent un' in
          let f₂ = told-failures W second.u (suc second.e) second.recent un' in
          let rest : ℕ = D.u + n - suc (suc N) in
          let z : suc (suc second.e) + rest ≡ D.u + n - second.u = omega (arith, second.ago, D.ago, D.recent) in
          let part : sum (failed W) second.u (suc (suc second.e)) ≤ sum (failed W) second.u (D.u + n - second.u)
          = omega (arith, sum-split (failed W) second.u (suc (suc second.e)) rest, ap (sum (failed W) second.u) z) in
          omega (arith, few-from W D.u d, sum-rest (failed W) D.u n second.u (D.u + n - second.u) (later f₁) (omega (arith, second.ago, D.ago, D.recent)), (fair D.u).unsent gone D.listed, part, since, most, f₂)
        where
          later : sum (lst W) (suc second.u) (suc second.e) < k + lag → D.u < second.u
          later f = two (dec_lt D.u second.u) (dec_lt second.u D.u)
            where
              here : sum (lst W) (suc D.u) (suc D.e) ≡ k + lag
              here = omega (arith, since-next W N D.u D.e D.ago, D.exact, num-is l_t)

              two : Dec (D.u < second.u) → Dec (second.u < D.u) → D.u < second.u
              two (yes p) _ = p
              two (no p) (yes r) = let bad : ⊥ = omega (arith, sum-rest (lst W) (suc second.u) (suc second.e) (suc D.u) (suc D.e) (omega arith) (omega (arith, second.ago, D.ago)), here) in absurd bad
              two (no p) (no r) =
                  let y : second.u ≡ D.u = omega arith in
                  let x : second.e ≡ D.e = omega (arith, second.ago, D.ago) in
                  let bad : ⊥ = omega (arith, ap₂ (λ (a b : ℕ). sum (lst W) (suc a) (suc b)) y x, here) in
                  absurd bad

      was-listed : (E second.u).sent ≡ false → (E second.u).listed ≡ true
      was-listed p = not-false (E second.u).listed (λ f. no_both ((κ second.u (suc second.e) ago second.recent).came f second.listed).0 p)

      -- its mark
      pub second-mark : (T : Hearer W S.N S.L) → has (marks_after s T.r T.v) (sender cable second.u) ≡ (E second.u).sent
      second-mark T = by_cases (E second.u).sent
          (λ p. not-false (has (marks_after s T.r T.v) (sender cable second.u)) (λ off. never-untold (on-after W S T second.u (suc second.e) ago second.recent p (drop-sub W (E D.u).sent L (sender cable D.u) (sender cable second.u) second.listed) off).untold) ∙ sym p)
          (λ p. not-true (has (marks_after s T.r T.v) (sender cable second.u)) (λ on. never-untold ((off-after W S T second.u (suc second.e) ago second.recent (was-listed p) p).on on).1) ∙ sym p)

      -- if its slot was not sent, only k + lag members are left
      pub second-few : (E second.u).sent ≡ false → size n A ≤ k + lag
      second-few p = two (dec_le (size n A) (k + lag))
        where
          two : Dec (size n A ≤ k + lag) → size n A ≤ k + lag
          two (yes h) = h
          two (no h) = absurd (no_both second.listed ((κ second.u (suc second.e) ago second.recent).dropped (was-listed p) p (omega (arith, since, sponsors-are W A (omega arith)))))

    -- nobody leaves but the member that is decided first
    abbrev pub Once : Type 0
    Once = ((E D.u).sent ≡ true) ⊎ ((E second.u).sent ≡ true)

    module _ (T : Hearer W S.N S.L) where
      open T use {r, v, vc, iv}

      abbrev v₁ : Node
      v₁ = read_marked s r v

      abbrev m : ℕ
      m = sender cable D.u

      first-is : decided_in s v₁ ≡ found (sender cable D.u) (suc D.e)
      first-is = ap₂ (λ (c : Cable) (set : ℕ). decided c set s) vc iv.set_is ∙ D.it

      shorter : (E D.u).sent ≡ false → without v₁.set m ≡ A
      shorter p = ap (λ (x : ℕ). without x m) iv.set_is ∙ sym (otherwise _ _ p)

      then_is : decided_in s (with_set A v₁) ≡ found (sender cable second.u) (suc second.e)
      then_is = ap (λ (c : Cable). decided c A s) vc ∙ second_is

      -- a second look ends where the first did
      two-looks : (times : ℕ) → (E D.u).sent ≡ false → (E second.u).sent ≡ true → departing (suc times) s (with_set A v₁) ≡ departing 0 s (with_set A v₁)
      two-looks times p o =
          look times s (sender cable second.u) (suc second.e) (with_set A v₁) then_is
          ∙ otherwise _ _ (ap not (second-mark p T ∙ o))
          ∙ sym (no-look s (with_set A v₁))

      pub once : Once → (times : ℕ) → departing (suc (suc times)) s v₁ ≡ departing 1 s v₁
      once o times = look (suc times) s m (suc D.e) v₁ first-is ∙ same o ∙ sym (look 0 s m (suc D.e) v₁ first-is)
        where
          marked : (b : Bool) → (E D.u).sent ≡ b → not (has v₁.present m) ≡ not b
          marked b p = ap not (marked-is W S T ∙ p)

          first-marked : (E D.u).sent ≡ true → cond (not (has v₁.present m)) (cond (eqb m v₁.own) (leave Unconfirmed v₁) (departing (suc times) s (with_set (without v₁.set m) v₁))) (settle true s v₁)
              ≡ cond (not (has v₁.present m)) (cond (eqb m v₁.own) (leave Unconfirmed v₁) (departing 0 s (with_set (without v₁.set m) v₁))) (settle true s v₁)
          first-marked p = otherwise _ _ (marked true p) ∙ sym (otherwise _ _ (marked true p))

          same : Once → cond (not (has v₁.present m)) (cond (eqb m v₁.own) (leave Unconfirmed v₁) (departing (suc times) s (with_set (without v₁.set m) v₁))) (settle true s v₁)
              ≡ cond (not (has v₁.present m)) (cond (eqb m v₁.own) (leave Unconfirmed v₁) (departing 0 s (with_set (without v₁.set m) v₁))) (settle true s v₁)
          same (inl p) = first-marked p
          same (inr p) = by_cases (E D.u).sent (λ y. first-marked y) (λ y.
              ap (λ (x : Node). cond (not (has v₁.present m)) (cond (eqb m v₁.own) (leave Unconfirmed v₁) x) (settle true s v₁))
              (ap (λ (x : ℕ). departing (suc times) s (with_set x v₁)) (shorter y) ∙ two-looks times y p ∙ sym (ap (λ (x : ℕ). departing 0 s (with_set x v₁)) (shorter y))))

      -- Where its slot was not sent, it leaves, too: a node that still tracks the list then holds k + lag members at the most.
      pub shrunk : (E D.u).sent ≡ false → (E second.u).sent ≡ false → (times : ℕ)
          → tracks (departing (suc (suc times)) s v₁).state ≡ true → size n (departing (suc (suc times)) s v₁).set ≤ k + lag
      shrunk p o times = subst Small (sym (look (suc times) s m (suc D.e) v₁ first-is ∙ chosen _ _ (ap not (marked-is W S T ∙ p)))) (one (eqb m v₁.own))
        where
          Small : Node → Type 0
          Small x = tracks x.state ≡ true → size n x.set ≤ k + lag

          m₂ : ℕ
          m₂ = sender cable second.u

          away : Away n n-most s (with_set (without A (sender cable second.u)) v₁)
          away nz = go (iv.knock nz)
            where
              go : Knock W N L v → (1 ≤ v.returning) × (v.returning ≤ n) × (has (without A (sender cable second.u)) v.returning ≡ false)
              go κ =
                  let range = sender-range cable turns κ.w in
                  let off : has L v.returning ≡ false = ap (has L) (sym κ.it) ∙ κ.away in
                  (omega (arith, κ.it), omega (arith, κ.it), not-true _ (λ y. no_both (drop-sub W (E D.u).sent L (sender cable D.u) v.returning (drop-sub W false A (sender cable second.u) v.returning y)) off))

          rest : Small (departing times s (with_set (without A m₂) v₁))
          rest t =
              let fewer = size-without n A m₂ (sender-range cable turns second.u).0 (sender-range cable turns second.u).1 second.listed in
              omega (arith, departing-size n n-most s times (with_set (without A m₂) v₁) away t, fewer, second-few p o)

          two : (b : Bool) → Small (cond b (leave Unconfirmed (with_set A v₁)) (departing times s (with_set (without A m₂) v₁)))
          two true t = absurd (no_both t (gone-not (with_set A v₁) _ (leave-law Unconfirmed (with_set A v₁))))
          two false t = rest t

          one : (b : Bool) → Small (cond b (leave Unconfirmed v₁) (departing (suc times) s (with_set (without v₁.set m) v₁)))
          one true = λ t. absurd (no_both t (gone-not v₁ _ (leave-law Unconfirmed v₁)))
          one false = subst (λ (x : ℕ). Small (departing (suc times) s (with_set x v₁))) (sym (shorter p))
              (subst Small (sym (look times s m₂ (suc second.e) (with_set A v₁) then_is ∙ chosen _ _ (ap not (second-mark p T ∙ o)))) (two (eqb m₂ v₁.own)))
