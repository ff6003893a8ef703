-- Demand 3 holds (specs/Demand): the lists agree because each is the one list of the invariant; a node whose slot failed stays on it while fewer than k + lag
-- listed slots have been since, and that is until its deciding slot. This is shown of the table after all the calls; the premises hold of each beginning of a
-- sequence, so it is true after each call. Assumes nothing.
use Prim.Native.Nat.{ℕ, suc, ◌+◌, ◌-◌, ◌≤◌, ◌<◌}
use mathlib.Core.Path.{◌≡◌, refl, sym, ap, ◌∙◌, subst}
use mathlib.Core.Logic.{◌≢◌}
use mathlib.Core.Bool.{Bool, true, false, ◌||◌}
use mathlib.Core.List.{List, [], ◌∷◌}
use native.Mathlib.Omega.{arith}
use native.Mathlib.Decide.{ℕ_discrete, dec_le}
use lib.Dec.{eqb, leb}
use borrow.Author.Tests.{le-leb, lt-leb, eqb-true, eqb-false}
use Rattle.bench.specs.nodeset.Sums.{sum, num}
use Rattle.bench.specs.nodeset.Sets.{has, size, distance}
use Rattle.bench.proofs.nodeset.Tests.{by_cases, both}
use Rattle.bench.proofs.nodeset.Sums.{sum-none}
use Rattle.bench.proofs.nodeset.Counts.{distance-same}
use Rattle.bench.specs.ring.Ring.{sender}
use Rattle.bench.proofs.cable.Ranges.{ring-size, fitting}
use Rattle.bench.proofs.ring_laws.Senders.{sender-period}
use Rattle.bench.specs.node_record.Soundness.{sound, limit}
use Rattle.bench.specs.Table.{Table, record_of, slots_of, speaker}
use Rattle.bench.specs.Calls.{set_up_of}
use Rattle.bench.specs.Runs.{Call, slot, off, restart, table_after, is_slot, list_of, Entry, entry}
use Rattle.agreement.specs.Demand.{HearEverythingOn, KeepsListOn, AtEach, AfterEach, KeepsList, HearEverything, Premises, member_after, is_deciding, deciding_ran, LostOrSilent, MemberAt, OffAll, Agree, Stays, Leaves, InTime, EverySequence, Demand3}
use Rattle.agreement.proofs.Past.{past_of, past, entry_in, entry-is}
use Rattle.agreement.proofs.History.{World, lst, full-round, num-is, num-isnt}
use Rattle.agreement.proofs.Marks.{no_both}
use Rattle.agreement.proofs.Alike.{member-tracks}
use Rattle.bench.proofs.Places.{Placed}
use Rattle.bench.proofs.Accepted.{off-no-slot, restart-no-slot}
use Rattle.bench.proofs.Runs.{start-placed, below-limit, placed-run, slots_next}
use Rattle.agreement.proofs.Beginnings.{Beginning, whole, shorter, past-stable, decided-later, at_each, after-each}
use Rattle.agreement.proofs.Tables.{list-is}
use Rattle.agreement.proofs.Slots.{speaker-is, list, listed-is}
use Rattle.agreement.proofs.Leaving.{deciding, undecided}
use Rattle.agreement.proofs.Kept as kept
use Rattle.agreement.proofs.Kept.{Given, Run, run, none_yet, past-at}

module _ (G : Given) (premises : Premises G.cable (kept.start G) G.all) where
  open G use {cable, all}
  open cable use {n, k, lag}

  abbrev start : Table
  start = kept.start G

  abbrev begins : Placed cable 0 start
  begins = kept.begins G

  abbrev W : World
  W = kept.W G

  abbrev pos : 1 ≤ n
  pos = kept.pos G

  -- ---- the leaving time

  -- what is known as an accepted slot begins, and of the list as it ends
  record Slot (c : Call) (cs : List Call) (N L : ℕ) : Type 0 where
    speaker-at : speaker (table_after start cs) ≡ sender cable (suc N)
    list_at : list_of (table_after start cs) ≡ L
    listed_at : (W.E (suc N)).listed ≡ has L (sender cable (suc N))
    enough-at : k + lag < size n L

  slot-facts : (c : Call) (cs : List Call) → Beginning all (c ∷ cs) → KeepsList cable start c cs → HearEverything cable start c cs → is_slot c (table_after start cs) ≡ true → (r : Run G cs) → Slot c cs (slots_of (table_after start cs) + n) r.0
  unfolding KeepsListOn HearEverythingOn
  slot-facts (slot lost missed room) cs b kl he e r = record {
    speaker-at = speaker-is W N r.0 t lost missed r.1 eq (kl e).0 (he e) good below;
    list_at = list W N r.0 t lost missed r.1 eq (kl e).0 (he e) good below;
    listed_at = listed-is W N r.0 t lost missed r.1 eq (kl e).0 (he e) good below;
    enough-at = omega (arith, (kl e).0, ap (size n) (list W N r.0 t lost missed r.1 eq (kl e).0 (he e) good below));
  }
    where
      t : Table
      t = table_after start cs

      N : ℕ
      N = slots_of (table_after start cs) + n

      eq : W.E (suc (slots_of (table_after start cs) + n)) ≡ past_of lost missed (table_after start cs)
      eq = past-at G lost missed room cs b e

      good : (i : ℕ) → 1 ≤ i → i ≤ n → sound (record_of (table_after start cs) i) ≡ true
      good i h l = ((placed-run cable pos start begins cs).at i h l).is-sound

      below : slots_of (table_after start cs) < limit
      below = below-limit cable _ _ pos (placed-run cable pos start begins cs) lost missed room e
  slot-facts (off a) cs b kl he e r = absurd (no_both e (off-no-slot a (table_after start cs)))
  slot-facts (restart a) cs b kl he e r = absurd (no_both e (restart-no-slot a (table_after start cs)))

  ends-enough : (c : Call) (cs : List Call) → KeepsList cable start c cs → is_slot c (table_after start cs) ≡ true → (r : Run G (c ∷ cs)) → k + lag < size n r.0
  unfolding KeepsListOn
  ends-enough c cs kl e r = omega (arith, (kl e).1, ap (size n) (list-is W _ r.0 _ r.1 (omega (arith, (kl e).1))))

  data Status (N u : ℕ) (b : Bool) : Type 0 where
    over : b ≡ true → Status N u b
    waiting : b ≡ false → (e : ℕ) → u + e ≡ N → suc e < n → sum (lst W) (suc u) e < k + lag → Status N u b

  undeciding : (c : Call) (cs : List Call) (s : ℕ) → is_slot c (table_after start cs) ≡ false → deciding_ran cable start s (c ∷ cs) ≡ deciding_ran cable start s cs
  unfolding deciding_ran is_deciding
  undeciding c cs s e = rw e (go (deciding_ran cable start s cs))
    where
      go : (b : Bool) → (b || false) ≡ b
      go true = refl
      go false = refl

  deciding-parts : (c : Call) (cs : List Call) (s : ℕ) → is_slot c (table_after start cs) ≡ true → s ≤ slots_of (table_after start cs)
      → is_deciding cable start s c cs ≡ eqb (member_after cable (list_of (table_after start cs)) (sender cable s) (k + lag)) (speaker (table_after start cs))
  unfolding is_deciding
  deciding-parts c cs s e h = let l : leb s (slots_of (table_after start cs)) ≡ true = le-leb s (slots_of (table_after start cs)) h in rw (e, l) refl

  same-sender : (s : ℕ) → 1 ≤ s → sender cable (s + n) ≡ sender cable s
  same-sender s h = sender-period cable W.turns s h

  -- the test of the statement, in the terms of the run
  test-yes : (c : Call) (cs : List Call) (N L s : ℕ) → Slot c cs N L → 1 ≤ s → eqb (member_after cable (list_of (table_after start cs)) (sender cable s) (k + lag)) (speaker (table_after start cs)) ≡ true
      → member_after cable L (sender cable (s + n)) (k + lag) ≡ sender cable (suc N)
  test-yes c cs N L s f h e =
      ap (λ (x : ℕ). member_after cable L x (k + lag)) (same-sender s h) ∙ ap (λ (x : ℕ). member_after cable x (sender cable s) (k + lag)) (sym f.list_at)
      ∙ eqb-true (member_after cable (list_of (table_after start cs)) (sender cable s) (k + lag)) (speaker (table_after start cs)) e ∙ f.speaker-at

  test-no : (c : Call) (cs : List Call) (N L s : ℕ) → Slot c cs N L → 1 ≤ s → eqb (member_after cable (list_of (table_after start cs)) (sender cable s) (k + lag)) (speaker (table_after start cs)) ≡ false
      → member_after cable L (sender cable (s + n)) (k + lag) ≢ sender cable (suc N)
  test-no c cs N L s f h e q =
      eqb-false (member_after cable (list_of (table_after start cs)) (sender cable s) (k + lag)) (speaker (table_after start cs)) e
      (ap (λ (x : ℕ). member_after cable x (sender cable s) (k + lag)) f.list_at ∙ ap (λ (x : ℕ). member_after cable L x (k + lag)) (sym (same-sender s h)) ∙ q ∙ sym f.speaker-at)

  new-status : (c : Call) (cs : List Call) (s : ℕ) → is_slot c (table_after start cs) ≡ true → s ≡ slots_of (table_after start cs) + 1 → Status (slots_of (table_after start (c ∷ cs)) + n) (s + n) (deciding_ran cable start s (c ∷ cs))
  unfolding deciding_ran is_deciding
  new-status c cs s e q =
      let a : deciding_ran cable start s cs ≡ false = decided-later cable pos start begins s cs (omega arith) in
      let b : leb s (slots_of (table_after start cs)) ≡ false = lt-leb s (slots_of (table_after start cs)) (omega arith) in
      waiting (rw (a, b, e) refl) 0 (omega (arith, slots_next cable pos start begins c cs, num-is e)) (omega (arith, W.k_two, W.k_lt)) (omega (arith, sum-none (lst W) (suc (s + n)), W.k_two))

  old-status : (c : Call) (cs : List Call) (s : ℕ) → KeepsList cable start c cs → is_slot c (table_after start cs) ≡ true → 1 ≤ s → s ≤ slots_of (table_after start cs)
      → (r : Run G cs) → (r' : Run G (c ∷ cs)) → Slot c cs (slots_of (table_after start cs) + n) r.0
      → Status (slots_of (table_after start cs) + n) (s + n) (deciding_ran cable start s cs) → Status (slots_of (table_after start (c ∷ cs)) + n) (s + n) (deciding_ran cable start s (c ∷ cs))
  unfolding deciding_ran
  old-status c cs s kl e h l r r' f (over d) = over (rw d refl)
  old-status c cs s kl e h l r r' f (waiting d x ago recent w) = by_cases (is_deciding cable start s c cs)
      (λ q. over (rw (d, q) refl))
      (λ q. go (undecided W (slots_of (table_after start cs) + n) r.0 r.1.kept f.enough-at f.listed_at (s + n) x (omega arith) ago recent w
      (test-no c cs _ r.0 s f h (sym (deciding-parts c cs s e l) ∙ q))) q)
    where
      ago' : s + n + suc x ≡ slots_of (table_after start (c ∷ cs)) + n
      ago' = omega (arith, slots_next cable pos start begins c cs, num-is e)

      go : sum (lst W) (suc (s + n)) (suc x) < k + lag → is_deciding cable start s c cs ≡ false → Status (slots_of (table_after start (c ∷ cs)) + n) (s + n) (deciding_ran cable start s cs || is_deciding cable start s c cs)
      go w' q = waiting (rw (d, q) refl) (suc x) ago' (in-round (ℕ_discrete (suc (suc x)) n)) w'
        where
          in-round : Dec (suc (suc x) ≡ n) → suc (suc x) < n
          in-round (yes z) = let bad : ⊥ = omega (arith, full-round W _ r'.0 r'.1.kept (ends-enough c cs kl e r') (s + n) (suc x) (omega arith) ago' z) in absurd bad
          in-round (no z) = omega arith

  status : (cs : List Call) → Beginning all cs → AtEach (KeepsList cable start) cs → AtEach (HearEverything cable start) cs → (s : ℕ) → 1 ≤ s → s ≤ slots_of (table_after start cs)
      → Status (slots_of (table_after start cs) + n) (s + n) (deciding_ran cable start s cs)
  unfolding AtEach
  status [] b kl he s h l = let bad : ⊥ = omega (arith, none_yet G) in absurd bad
  status (c ∷ cs) b kl he s h l = by_cases (is_slot c (table_after start cs))
      (λ e. now e (dec_le s (slots_of (table_after start cs))) (λ (q : s ≤ slots_of (table_after start cs)). status cs (shorter b) kl.0 he.0 s h q))
      (λ e. before e (status cs (shorter b) kl.0 he.0 s h (omega (arith, slots_next cable pos start begins c cs, num-isnt e))))
    where
      r : Run G cs
      r = run G cs (shorter b) kl.0 he.0

      r' : Run G (c ∷ cs)
      r' = run G (c ∷ cs) b kl he

      now : is_slot c (table_after start cs) ≡ true → Dec (s ≤ slots_of (table_after start cs)) → (s ≤ slots_of (table_after start cs) → Status (slots_of (table_after start cs) + n) (s + n) (deciding_ran cable start s cs)) → Status (slots_of (table_after start (c ∷ cs)) + n) (s + n) (deciding_ran cable start s (c ∷ cs))
      now e (yes q) st = old-status c cs s kl.1 e h q r r' (slot-facts c cs b kl.1 he.1 e r) (st q)
      now e (no q) st = new-status c cs s e (omega (arith, slots_next cable pos start begins c cs, num-is e))

      before : is_slot c (table_after start cs) ≡ false → Status (slots_of (table_after start cs) + n) (s + n) (deciding_ran cable start s cs) → Status (slots_of (table_after start (c ∷ cs)) + n) (s + n) (deciding_ran cable start s (c ∷ cs))
      before e (over d) = over (undeciding c cs s e ∙ d)
      before e (waiting d x ago recent w) = waiting (undeciding c cs s e ∙ d) x (omega (arith, slots_next cable pos start begins c cs, num-isnt e)) recent w

  -- ---- the claims after all the calls

  abbrev T : Table
  T = table_after start all

  final : Run G all
  final = run G all whole premises.list-kept premises.all-heard

  member-set : (i : ℕ) → MemberAt n T i → (record_of T i).set ≡ final.0
  member-set i m = ((final.1.nodes i m.0 m.1).track (member-tracks (record_of T i).state m.2)).set_is

  agrees : Agree cable start all
  agrees i j a b = ap (λ (x : ℕ). distance n x (record_of T j).set) (member-set i a ∙ sym (member-set j b)) ∙ distance-same n (record_of T j).set

  past-now : (s : ℕ) → W.E (s + n) ≡ past start all s
  past-now s = let z : s + n - n ≡ s = omega arith in ap (past start all) z

  entry-now : (s : ℕ) → entry_in (W.E (s + n)) ≡ entry start all s
  entry-now s = ap entry_in (past-now s) ∙ sym (entry-is start all s)

  stays-on : Stays cable start all
  stays-on s f d i m = ap (λ (x : ℕ). has x (sender cable s)) (member-set i m) ∙ ap (has final.0) (sym (same-sender s f.0)) ∙ go (status all whole premises.list-kept premises.all-heard s f.0 f.1)
    where
      go : Status (slots_of T + n) (s + n) (deciding_ran cable start s all) → has final.0 (sender cable (s + n)) ≡ true
      go (over x) = absurd (no_both x d)
      go (waiting x e ago recent w) = (final.1.kept (s + n) e ago (omega arith)).waits
          (ap (λ (y : Entry). y.listed) (entry-now s) ∙ f.2) (ap (λ (y : Entry). y.sent) (entry-now s) ∙ f.3) w

  decided-in-time : InTime cable start all
  decided-in-time s f h = go (status all whole premises.list-kept premises.all-heard s f.0 f.1)
    where
      go : Status (slots_of T + n) (s + n) (deciding_ran cable start s all) → deciding_ran cable start s all ≡ true
      go (over x) = x
      go (waiting x e ago recent w) = let bad : ⊥ = omega arith in absurd bad

  module _ (s : ℕ) (c : Call) (before : List Call) (is : all ≡ c ∷ before) (f : LostOrSilent cable start s before) (nd : deciding_ran cable start s before ≡ false) (dg : is_deciding cable start s c before ≡ true) where
    b : Beginning all (c ∷ before)
    b = subst (λ (x : List Call). Beginning all x) is whole

    kl : AtEach (KeepsList cable start) (c ∷ before)
    kl = subst (AtEach (KeepsList cable start)) is premises.list-kept

    he : AtEach (HearEverything cable start) (c ∷ before)
    he = subst (AtEach (HearEverything cable start)) is premises.all-heard

    is-slot : is_slot c (table_after start before) ≡ true
    unfolding is_deciding
    is-slot = (both (is_slot c (table_after start before)) _ dg).0

    leaving : has final.0 (sender cable (s + n)) ≡ false
    unfolding AtEach
    leaving = go (status before (shorter b) kl.0 he.0 s f.0 f.1)
      where
        r : Run G before
        r = run G before (shorter b) kl.0 he.0

        sl : Slot c before (slots_of (table_after start before) + n) r.0
        sl = slot-facts c before b kl.1 he.1 is-slot r

        here : slots_of T ≡ slots_of (table_after start before) + 1
        here = ap (λ (x : List Call). slots_of (table_after start x)) is ∙ slots_next cable pos start begins c before ∙ ap (λ (x : Bool). slots_of (table_after start before) + num x) is-slot

        entry-then : entry_in (W.E (s + n)) ≡ entry start before s
        entry-then = ap entry_in (past-now s ∙ past-stable cable pos start begins all before (shorter b) s f.1) ∙ sym (entry-is start before s)

        go : Status (slots_of (table_after start before) + n) (s + n) (deciding_ran cable start s before) → has final.0 (sender cable (s + n)) ≡ false
        go (over x) = absurd (no_both x nd)
        go (waiting x e ago recent w) = (final.1.kept (s + n) (suc e) (omega (arith, here)) recent).dropped
            (ap (λ (y : Entry). y.listed) entry-then ∙ f.2) (ap (λ (y : Entry). y.sent) entry-then ∙ f.3)
            (deciding W (slots_of (table_after start before) + n) r.0 r.1.kept sl.enough-at sl.listed_at (s + n) e (omega arith) ago recent w
            (test-yes c before _ r.0 s sl f.0 (sym (deciding-parts c before s is-slot f.1) ∙ dg)))

    leaves_all : OffAll n T (sender cable s)
    leaves_all i m = ap (λ (x : ℕ). has x (sender cable s)) (member-set i m) ∙ ap (has final.0) (sym (same-sender s f.0)) ∙ leaving

-- ---- over the whole sequence

pub demand3 : Demand3
unfolding EverySequence
demand3 cable fits lent one_each cs p = record {
  agree = after (Agree cable first) (λ x q. agrees (given x q) q);
  stays = after (Stays cable first) (λ x q. stays-on (given x q) q);
  leaves = at_each cable pos first placed (Leaves cable first) (λ c x q s. leaves_all (given (c ∷ x) q) q s c x refl) cs p;
  in-time = after (InTime cable first) (λ x q. decided-in-time (given x q) q);
}
  where
    first : Table
    first = (set_up_of cable lent).table

    pos : 1 ≤ cable.n
    pos = omega (arith, ring-size cable.n (fitting cable fits).ring)

    placed : Placed cable 0 first
    placed = start-placed cable fits lent one_each

    given : (x : List Call) → Premises cable first x → Given
    given x q = record { cable = cable; fits = fits; lent = lent; one_each = one_each; all = x; few-failures = q.few-failures; one_outside = q.one_outside }

    after : (P : List Call → Type 0) → ((x : List Call) → Premises cable first x → P x) → AfterEach P cs
    after P h = after-each cable pos first placed P h cs p
