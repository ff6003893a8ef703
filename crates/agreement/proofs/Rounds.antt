-- K and K' after a slot: a listed one, with its joining, and one outside the list. Assumes nothing.
use Prim.Native.Nat.{ℕ, zero, suc, ◌+◌, ◌-◌, ◌^◌, ◌≤◌, ◌<◌}
use mathlib.Core.Path.{◌≡◌, sym, ap, ◌∙◌}
use mathlib.Core.Logic.{◌≢◌}
use mathlib.Core.Bool.{true, false}
use native.Mathlib.Omega.{arith}
use native.Mathlib.Decide.{ℕ_discrete}
use Rattle.bench.specs.nodeset.Sums.{sum}
use Rattle.bench.specs.nodeset.Sets.{has, with, size}
use Rattle.bench.proofs.nodeset.Tests.{by_cases}
use Rattle.bench.proofs.nodeset.Laws.{has-with-other, with-lt}
use Rattle.bench.specs.ring.Ring.{sender}
use Rattle.bench.proofs.ring_laws.Senders.{sender-range, sender-period}
use Rattle.bench.proofs.ring_laws.Walks.{Met, walk_meets}
use Rattle.agreement.proofs.History.{World, K, KFact, lst, full-round, size-from, num-isnt}
use Rattle.agreement.proofs.Marks.{no_both}
use Rattle.agreement.proofs.Listed.{Begins, ListedSlot, same-window}
use Rattle.agreement.proofs.Depart.{since-next, k-after, drop-lt}
use Rattle.agreement.proofs.Join.{A, Next, plain, grown}

module _ (W : World) where
  open W use {cable, n_pos, turns, E}
  open cable use {n, k, lag}

  -- K': the last slot but one of a listed sender was sent
  abbrev pub K' : ℕ → Type 0
  K' N = (w e : ℕ) → w + n + e ≡ N → e < n → (E (w + n)).listed ≡ true → (E w).sent ≡ true

  pub k-next : (S : ListedSlot W) (L' : ℕ) → Next W S L' → K W (suc S.N) L'
  k-next S L' (plain f q) = rw q (k-after W S)
  k-next S L' (grown w e J q) = rw q (λ u d z h. go u d z h (ℕ_discrete u w))
    where
      a : ℕ
      a = A W S

      ago : w + suc e ≡ suc S.N
      ago = omega (arith, J.ago)

      go : (u d : ℕ) → u + d ≡ suc S.N → d < n → Dec (u ≡ w) → KFact W (with a (sender cable w)) u d
      go u d z h (yes y) =
          let x : d ≡ suc e = omega arith in
          let c : k + lag ≤ sum (lst W) (suc u) d = rw (y, x) J.since in
          record {
            spoke = λ p. absurd (no_both p (rw y J.unlisted));
            waits = λ p. absurd (no_both p (rw y J.unlisted));
            dropped = λ p. absurd (no_both p (rw y J.unlisted));
            came = λ p q. (rw y J.sent, c);
          }
      go u d z h (no y) =
          let ne : sender cable w ≢ sender cable u = λ p. y (same-window W (suc S.N) u w d (suc e) (omega (arith, S.B.late)) z ago h J.recent (sym p)) in
          let same : has (with a (sender cable w)) (sender cable u) ≡ has a (sender cable u) = has-with-other a (sender cable w) (sender cable u) ne in
          let f = k-after W S u d z h in
          record {
            spoke = λ p q. same ∙ f.spoke p q;
            waits = λ p q r. same ∙ f.waits p q r;
            dropped = λ p q r. same ∙ f.dropped p q r;
            came = λ p q. f.came p (sym same ∙ q);
          }

  pub next-lt : (S : ListedSlot W) (L' : ℕ) → Next W S L' → L' < 2 ^ n
  next-lt S L' nx = go nx
    where
      small : A W S < 2 ^ n
      small = drop-lt W (E S.D.u).sent S.L (sender cable S.D.u) (sender-range cable turns S.D.u).1 S.B.small

      go : Next W S L' → L' < 2 ^ n
      go (plain f q) = rw q small
      go (grown w e J q) = rw q (with-lt n (A W S) (sender cable w) (sender-range cable turns w).1 small)

  pub k'-listed : (N L : ℕ) → Begins W N L → has L (sender cable (suc N)) ≡ true → K' N → K' (suc N)
  k'-listed N L B on_l κ w (suc e) z h l = κ w e (omega arith) (omega arith) l
  k'-listed N L B on_l κ w zero z h l = by_cases (E w).sent (λ p. p) (λ p. by_cases (E w).listed (λ q. listed-case p q) (λ q. (f.came q on).0))
    where
      d : ℕ
      d = n - 1

      ago : w + d ≡ N
      ago = omega (arith, B.late, n_pos)

      short : d < n
      short = omega (arith, n_pos)

      w-pos : 1 ≤ w
      w-pos = omega (arith, B.late)

      f : KFact W L w d
      f = B.kept w d ago short

      on : has L (sender cable w) ≡ true
      on = let y : suc N ≡ w + n = omega arith in ap (has L) (sym (ap (sender cable) y ∙ sender-period cable turns w w-pos)) ∙ on_l

      listed-case : (E w).sent ≡ false → (E w).listed ≡ true → (E w).sent ≡ true
      listed-case p q = absurd (no_both on (f.dropped q p (full-round W N L B.kept B.enough w d w-pos ago (omega (arith, n_pos)))))

  pub k'-outside : (N : ℕ) → (E (suc N)).listed ≡ false → K' N → K' (suc N)
  k'-outside N u κ w (suc e) z h l = κ w e (omega arith) (omega arith) l
  k'-outside N u κ w zero z h l = let y : w + n ≡ suc N = omega arith in absurd (no_both (rw y at l) u)

  pub k-outside : (N L : ℕ) → (E (suc N)).listed ≡ false → has L (sender cable (suc N)) ≡ false → K W N L → K W (suc N) L
  k-outside N L u off κ q zero z h =
      let y : q ≡ suc N = omega arith in
      let l : (E q).listed ≡ false = rw y u in
      record {
        spoke = λ p. absurd (no_both p l);
        waits = λ p. absurd (no_both p l);
        dropped = λ p. absurd (no_both p l);
        came = λ p r. absurd (no_both r (rw y off));
      }
  k-outside N L u off κ q (suc e) z h =
      let ago : q + e ≡ N = omega arith in
      let f = κ q e ago (omega arith) in
      let c : sum (lst W) (suc q) (suc e) ≡ sum (lst W) (suc q) e = omega (arith, since-next W N q e ago, num-isnt u) in
      record {
        spoke = f.spoke;
        waits = λ p r x. f.waits p r (omega arith);
        dropped = λ p r x. f.dropped p r (omega arith);
        came = λ p r. ((f.came p r).0, omega (arith, (f.came p r).1));
      }

  -- a member speaks before the next slot of a node that is off the list
  pub record Ahead (L w : ℕ) : Type 0 where
    pub p : ℕ
    pub later : w < p
    pub soon : p < w + n
    pub member : has L (sender cable p) ≡ true

  pub ahead : (L w : ℕ) → 1 ≤ size n L → 1 ≤ w → has L (sender cable w) ≡ false → Ahead L w
  ahead L w hs hw off = go (walk_meets cable turns L n w 1 hw (omega arith) (omega (arith, size-from W L w hw)))
    where
      go : Met cable turns L n w 1 → Ahead L w
      go m =
          let ne : w ≢ m.u = λ p. no_both m.listed (rw (sym p) off) in
          record { p = m.u; later = omega (arith, m.from, ne); soon = omega (arith, m.upto, m.back); member = m.listed }
