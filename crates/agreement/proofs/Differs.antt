-- Nothing differs from the rule before (specs/Repeated): up to each slot the two runs have the same tables, so that the invariant holds of them; with k + 1 members and the lag
-- on the list as the slot begins and as it ends, nobody leaves in it but the member that is decided first. Assumes nothing.
use Prim.Native.Nat.{ℕ, suc, ◌+◌, ◌≤◌, ◌<◌}
use mathlib.Core.Path.{◌≡◌, refl, sym, ap, ◌∙◌, subst}
use mathlib.Core.Logic.{inl, inr}
use mathlib.Core.Bool.{Bool, true, cond, ◌&&◌}
use mathlib.Core.List.{List, [], ◌∷◌}
use native.Mathlib.Omega.{arith}
use native.Mathlib.Decide.{ℕ_discrete}
use lib.Dec.{eqb}
use lib.ListN.{length}
use Rattle.bench.specs.nodeset.Sums.{num}
use Rattle.bench.specs.nodeset.Sets.{has, size}
use Rattle.bench.proofs.nodeset.Tests.{by_cases, both, chosen, otherwise}
use Rattle.bench.proofs.nodeset.Sums.{sum-le, num-le}
use Rattle.bench.proofs.nodeset.Laws.{has-with-other}
use Rattle.bench.specs.cable.declared.Cable.{Cable}
use Rattle.bench.specs.cable.Cable.{cable_fits}
use Rattle.bench.specs.ring.Ring.{sender}
use Rattle.bench.specs.message.Answers.{Reading}
use Rattle.bench.specs.node_record.declared.Node.{Node}
use Rattle.bench.specs.node_record.States.{is_member}
use Rattle.bench.specs.node_record.Soundness.{sound, limit}
use Rattle.bench.specs.node_changes.Changes.{counted}
use Rattle.bench.specs.node_slot.Slot.{slot_by}
use Rattle.bench.specs.node_slot.Inner.{read_in}
use Rattle.bench.specs.Table.{Table, record_of, slots_of, speaker}
use Rattle.bench.specs.Calls.{set_up_of, heard_by, table_after_slot}
use Rattle.bench.specs.Runs.{Call, slot, off, restart, is_slot, list_of, table_after, Entry, no_entry, new_entry, entry_on}
use Rattle.bench.proofs.Places.{Placed, length-each, record-each}
use Rattle.bench.proofs.Accepted.{slot-done, slot-refused}
use Rattle.bench.proofs.Runs.{placed-run, below-limit}
use Rattle.agreement.specs.Demand.{AtEach, AllHear, KeepsListOn, HearEverythingOn, PremisesOn, KeepsList, HearEverything, EverySequence}
use Rattle.agreement.specs.Repeated.{table_by, call_by, run_by, rule_before, run_before, on_both, KeepsBetween, NothingDiffers, NothingDiffersNow}
use Rattle.agreement.proofs.Before.{same-records, before-read, before-next}
use Rattle.agreement.proofs.Past.{past_of}
use Rattle.agreement.proofs.History.{World, num-is, num-isnt}
use Rattle.agreement.proofs.Marks.{no_both}
use Rattle.agreement.proofs.Again.{second, second-few, Once}
use Rattle.agreement.proofs.Listed.{ListedSlot}
use Rattle.agreement.proofs.Depart.{L₁}
use Rattle.agreement.proofs.Join.{Next, plain, grown}
use Rattle.agreement.proofs.Nodes.{next-list}
use Rattle.agreement.proofs.Tables.{TableInv, Witness, witness}
use Rattle.agreement.proofs.Slots.{speaker-is, list, told_is, hd, says, hears-any, len_after, S, leaves-once, node-once, node-outside}
use Rattle.agreement.proofs.Beginnings.{Beginning, whole, shorter, no_more_of}
use Rattle.agreement.proofs.Kept as kept
use Rattle.agreement.proofs.Kept.{Given, Run, run, slot-table, past-at}

-- ---- one slot, from a table with the invariant

module _ (W : World) where
  open W use {cable, n_pos, turns, E}
  open cable use {n, k, lag}

  module _ (N L : ℕ) (t : Table) (lost : Bool) (missed : ℕ) (inv : TableInv W N L t) (eq : E (suc N) ≡ past_of lost missed t)
      (enough : k + (1 + lag) ≤ size n (list_of t)) (hears : AllHear n (slot lost missed 64) t)
      (good : (i : ℕ) → 1 ≤ i → i ≤ n → sound (record_of t i) ≡ true) (below : slots_of t < limit) where
    abbrev before : Table
    before = table_by rule_before lost missed t

    abbrev heard : ℕ → Reading
    heard i = hd W N L t lost missed inv eq enough hears good below i

    record-before : (i : ℕ) → 1 ≤ i → i ≤ n → record_of (table_by rule_before lost missed t) i ≡ read_in 1 (record_of t i).state (sender cable (suc N)) (heard i) (counted (record_of t i))
    record-before i h l =
        record-each (λ i v. slot_by rule_before v.state (speaker t) (heard_by lost missed t i) (counted v)) t i h (omega (arith, inv.len))
        ∙ ap (λ (x : ℕ). slot_by rule_before (record_of t i).state x (heard_by lost missed t i) (counted (record_of t i))) (speaker-is W N L t lost missed inv eq enough hears good below)
        ∙ before-read (record_of t i).state (sender cable (suc N)) (heard_by lost missed t i) (counted (record_of t i))
        ∙ ap (λ (x : Reading). read_in 1 (record_of t i).state (sender cable (suc N)) x (counted (record_of t i))) (told_is W N L t lost missed inv eq enough hears good below i)

    len-before : length (table_by rule_before lost missed t) ≡ n
    len-before = length-each (λ i v. slot_by rule_before v.state (speaker t) (heard_by lost missed t i) (counted v)) t ∙ inv.len

    module _ (on_l : has L (sender cable (suc N)) ≡ true) where
      -- the slot as one of a listed node
      abbrev X : ListedSlot W
      X = S W N L t lost missed inv eq enough hears good below on_l

      -- the list after the slot of the rule before
      next-before : k + (1 + lag) ≤ size n (list_of (table_by rule_before lost missed t)) → Next W X (list_of (table_by rule_before lost missed t))
      next-before ends = go (witness W before len-before (omega arith))
        where
          go : Witness W before → Next W X (list_of (table_by rule_before lost missed t))
          go x = subst (Next W X) (sym x.its)
              (subst (λ (y : Node). is_member y.state ≡ true → Next W X y.set) (sym (record-before x.i x.pos x.le))
              (next-list W X (heard x.i) (says W N L t lost missed inv eq enough hears good below on_l x.i) x.i x.pos x.le (record_of t x.i) (inv.nodes x.i x.pos x.le) (hears-any W N L t lost missed inv eq enough hears good below x.i x.pos x.le))
              x.member)

      -- who is on the list as the slot begins and as it ends has not left in it
      stayed : (L' : ℕ) → Next W X L' → (x : ℕ) → has L x ≡ true → has L' x ≡ true → has (L₁ W X) x ≡ true
      stayed L' (plain f e) x p q = ap (λ (y : ℕ). has y x) (sym e) ∙ q
      stayed L' (grown w d J e) x p q = go (ℕ_discrete (sender cable w) x)
        where
          go : Dec (sender cable w ≡ x) → has (L₁ W X) x ≡ true
          go (yes y) = absurd (no_both p (ap (has L) (sym y) ∙ J.away))
          go (no y) = sym (has-with-other (L₁ W X) (sender cable w) x y) ∙ ap (λ (z : ℕ). has z x) (sym e) ∙ q

      both-stayed : (L' : ℕ) → Next W X L' → on_both n L L' ≤ size n (L₁ W X)
      unfolding on_both size
      both-stayed L' nx = sum-le (λ x. num (has L x && has L' x)) (λ x. num (has (L₁ W X) x)) 1 n (λ x _ _. by_cases (has L x && has L' x)
          (λ e. let b = both (has L x) (has L' x) e in omega (arith, num-is (stayed L' nx x b.0 b.1), num-le (has L x && has L' x)))
          (λ e. omega (arith, num-isnt e)))

      once-before : k + (1 + lag) ≤ size n (list_of (table_by rule_before lost missed t)) → k + (1 + lag) ≤ on_both n (list_of t) (list_of (table_by rule_before lost missed t)) → Once W X
      once-before ends between = by_cases (E X.D.u).sent
          (λ p. inl p)
          (λ p. by_cases (E (second W X).u).sent (λ q. inr q)
          (λ q. let f : ⊥ = omega (arith, second-few W X p q, both-stayed (list_of before) (next-before ends), ap (λ (x : ℕ). on_both n x (list_of before)) (list W N L t lost missed inv eq enough hears good below)) in absurd f))

    -- where nobody leaves but the member that is decided first, the slot is that of the rule before
    pub slot-once : ((on_l : has L (sender cable (suc N)) ≡ true) → Once W (X on_l)) → table_after_slot lost missed t ≡ table_by rule_before lost missed t
    slot-once once =
        same-records (table_after_slot lost missed t) before (len_after W N L t lost missed inv eq enough hears good below ∙ sym len-before)
        (λ i h l. let m : i ≤ n = omega (arith, len_after W N L t lost missed inv eq enough hears good below) in
        by_cases (has L (sender cable (suc N)))
        (λ on_l. node-once W N L t lost missed inv eq enough hears good below on_l (once on_l) i h m)
        (λ off_l. node-outside W N L t lost missed inv eq enough hears good below off_l i h m)
        ∙ sym (record-before i h m))

    -- k + 1 members and the lag are left by the rule before, also between a departure and a joining
    slot_same : k + (1 + lag) ≤ size n (list_of (table_by rule_before lost missed t)) → k + (1 + lag) ≤ on_both n (list_of t) (list_of (table_by rule_before lost missed t)) → table_after_slot lost missed t ≡ table_by rule_before lost missed t
    slot_same ends between = slot-once (λ on_l. once-before on_l ends between)

    -- k + 1 members and the lag are left by the rule now
    slot-same-now : k + (1 + lag) ≤ size n (list_of (table_after_slot lost missed t)) → table_after_slot lost missed t ≡ table_by rule_before lost missed t
    slot-same-now ends = slot-once (λ on_l. leaves-once W N L t lost missed inv eq enough hears good below on_l ends)

-- ---- every sequence of calls

module _ (cable : Cable) (fits : cable_fits cable ≡ true) (lent : Table) (one_each : length lent ≡ cable.n) where
  open cable use {n, k, lag}

  abbrev start : Table
  start = (set_up_of cable lent).table

  abbrev before-run : List Call → Table
  before-run = run_before start

  -- one call more: of a slot that runs the two rules have to agree
  same-slot : (lost : Bool) (missed room : ℕ) (cs : List Call) → (is_slot (slot lost missed room) (table_after start cs) ≡ true → table_after_slot lost missed (table_after start cs) ≡ table_by rule_before lost missed (table_after start cs))
      → table_after start cs ≡ run_before start cs → table_after start (slot lost missed room ∷ cs) ≡ run_before start (slot lost missed room ∷ cs)
  unfolding table_after run_by
  same-slot lost missed room cs same r =
      by_cases (is_slot (slot lost missed room) (table_after start cs))
      (λ e. slot-done lost missed room (table_after start cs) e ∙ same e ∙ sym (chosen _ _ e))
      (λ e. slot-refused lost missed room (table_after start cs) e ∙ sym (otherwise _ _ e))
      ∙ ap (call_by rule_before (slot lost missed room)) r

  same-off : (a : ℕ) (cs : List Call) → table_after start cs ≡ run_before start cs → table_after start (off a ∷ cs) ≡ run_before start (off a ∷ cs)
  unfolding table_after run_by
  same-off a cs r = ap (call_by rule_before (off a)) r

  same-restart : (a : ℕ) (cs : List Call) → table_after start cs ≡ run_before start cs → table_after start (restart a ∷ cs) ≡ run_before start (restart a ∷ cs)
  unfolding table_after run_by
  same-restart a cs r = ap (call_by rule_before (restart a)) r

  -- up to the last call the tables are the same
  abbrev Alike : List Call → Type 0
  Alike cs = AtEach (λ c earlier. table_after start earlier ≡ run_before start earlier) cs

  same-entry : (cs : List Call) → Alike cs → (u : ℕ) → entry_on (table_after start) cs u ≡ entry_on (run_before start) cs u
  unfolding AtEach entry_on
  same-entry [] al u = refl
  same-entry (c ∷ cs) al u =
      ap (λ (t : Table). cond (is_slot c t && eqb u (slots_of t + 1)) (new_entry c t) (entry_on (table_after start) cs u)) al.1
      ∙ ap (cond (is_slot c (run_before start cs) && eqb u (slots_of (run_before start cs) + 1)) (new_entry c (run_before start cs))) (same-entry cs al.0 u)

  -- what the premises say of the one run they say of the other
  kept-now : (cs : List Call) → Alike cs → table_after start cs ≡ run_before start cs → AtEach (KeepsListOn cable (run_before start)) cs → AtEach (KeepsList cable start) cs
  unfolding AtEach KeepsListOn
  kept-now [] al e kl = tt
  kept-now (c ∷ cs) al e kl = (
    kept-now cs al.0 al.1 kl.0,
    subst (λ (t : Table). is_slot c t ≡ true → (k + (1 + lag) ≤ size n (list_of t)) × (k + (1 + lag) ≤ size n (list_of (table_after start (c ∷ cs))))) (sym al.1)
        (subst (λ (t : Table). is_slot c (run_before start cs) ≡ true → (k + (1 + lag) ≤ size n (list_of (run_before start cs))) × (k + (1 + lag) ≤ size n (list_of t))) (sym e) kl.1),
  )

  heard-now : (cs : List Call) → Alike cs → AtEach (HearEverythingOn cable (run_before start)) cs → AtEach (HearEverything cable start) cs
  unfolding AtEach HearEverythingOn
  heard-now [] al he = tt
  heard-now (c ∷ cs) al he = (heard-now cs al.0 he.0, subst (λ (t : Table). is_slot c t ≡ true → AllHear n c t) (sym al.1) he.1)

  module _ (all : List Call) (p : PremisesOn cable (run_before start) all) where
    -- the calls up to c have no more failures, or the like, now than all of them had before
    no_more : (c : Call) (cs : List Call) → Beginning all (c ∷ cs) → Alike (c ∷ cs) → (f : Entry → ℕ) → f no_entry ≡ 0 → (u : ℕ) → f (entry_on (table_after start) (c ∷ cs) u) ≤ f (entry_on (run_before start) all u)
    no_more c cs b al f z u = omega (arith, ap f (same-entry (c ∷ cs) al u), no_more_of (run_before start) (before-next start) all (c ∷ cs) b f z u)

    -- the calls up to c, as they are now
    abbrev given : (c : Call) (cs : List Call) → Beginning all (c ∷ cs) → Alike (c ∷ cs) → Given
    given c cs b al = record {
      cable = cable;
      fits = fits;
      lent = lent;
      one_each = one_each;
      all = c ∷ cs;
      few-failures = λ a. omega (arith, p.few-failures a, sum-le (λ u. (entry_on (table_after start) (c ∷ cs) u).failures) (λ u. (entry_on (run_before start) all u).failures) (suc a) n (λ u _ _. no_more c cs b al (λ e. e.failures) refl u));
      one_outside = λ a. omega (arith, p.one_outside a, sum-le (λ u. num (entry_on (table_after start) (c ∷ cs) u).outside) (λ u. num (entry_on (run_before start) all u).outside) (suc a) n (λ u _ _. no_more c cs b al (λ e. num e.outside) refl u));
    }

    slot-case : (lost : Bool) (missed room : ℕ) (cs : List Call) → Beginning all (slot lost missed room ∷ cs) → Alike (slot lost missed room ∷ cs)
        → AtEach (KeepsListOn cable (run_before start)) (slot lost missed room ∷ cs) → AtEach (HearEverythingOn cable (run_before start)) (slot lost missed room ∷ cs) → KeepsBetween cable (run_before start) (slot lost missed room) cs
        → is_slot (slot lost missed room) (table_after start cs) ≡ true → table_after_slot lost missed (table_after start cs) ≡ table_by rule_before lost missed (table_after start cs)
    unfolding AtEach KeepsListOn HearEverythingOn KeepsBetween run_by
    slot-case lost missed room cs b al kl he kb e = go (run G cs (shorter whole) (kept-now cs al.0 al.1 kl.0) (heard-now cs al.0 he.0))
      where
        c : Call
        c = slot lost missed room

        G : Given
        G = given (slot lost missed room) cs b al

        t : Table
        t = table_after start cs

        pos : 1 ≤ cable.n
        pos = kept.pos (given (slot lost missed room) cs b al)

        placed : Placed cable (slots_of (table_after start cs)) (table_after start cs)
        placed = placed-run cable pos start (kept.begins (given (slot lost missed room) cs b al)) cs

        is-before : call_by rule_before (slot lost missed room) (table_after start cs) ≡ table_by rule_before lost missed (table_after start cs)
        is-before = chosen _ _ e

        sizes : (k + (1 + lag) ≤ size n (list_of (table_after start cs))) × (k + (1 + lag) ≤ size n (list_of (call_by rule_before (slot lost missed room) (table_after start cs))))
        sizes = subst (λ (x : Table). is_slot (slot lost missed room) x ≡ true → (k + (1 + lag) ≤ size n (list_of x)) × (k + (1 + lag) ≤ size n (list_of (call_by rule_before (slot lost missed room) x)))) (sym al.1) kl.1 e

        between : k + (1 + lag) ≤ on_both n (list_of (table_after start cs)) (list_of (call_by rule_before (slot lost missed room) (table_after start cs)))
        between = subst (λ (x : Table). is_slot (slot lost missed room) x ≡ true → k + (1 + lag) ≤ on_both n (list_of x) (list_of (call_by rule_before (slot lost missed room) x))) (sym al.1) kb e

        hears : AllHear n (slot lost missed room) (table_after start cs)
        hears = subst (λ (x : Table). is_slot (slot lost missed room) x ≡ true → AllHear n (slot lost missed room) x) (sym al.1) he.1 e

        go : Run (given (slot lost missed room) cs b al) cs → table_after_slot lost missed (table_after start cs) ≡ table_by rule_before lost missed (table_after start cs)
        go r = slot_same (kept.W G) (slots_of t + n) r.0 t lost missed r.1 (past-at G lost missed room cs whole e) sizes.0 hears
            (λ i h l. (placed.at i h l).is-sound) (below-limit cable _ _ pos placed lost missed room e)
            (omega (arith, sizes.1, ap (λ (x : Table). size n (list_of x)) is-before)) (omega (arith, between, ap (λ (x : Table). on_both n (list_of (table_after start cs)) (list_of x)) is-before))

    one-call : (c : Call) (cs : List Call) → Beginning all (c ∷ cs) → Alike (c ∷ cs) → table_after start cs ≡ run_before start cs
        → AtEach (KeepsListOn cable (run_before start)) (c ∷ cs) → AtEach (HearEverythingOn cable (run_before start)) (c ∷ cs) → KeepsBetween cable (run_before start) c cs
        → table_after start (c ∷ cs) ≡ run_before start (c ∷ cs)
    one-call (slot lost missed room) cs b al r kl he kb = same-slot lost missed room cs (λ e. slot-case lost missed room cs b al kl he kb e) r
    one-call (off a) cs b al r kl he kb = same-off a cs r
    one-call (restart a) cs b al r kl he kb = same-restart a cs r

    alike : (cs : List Call) → Beginning all cs → AtEach (KeepsListOn cable (run_before start)) cs → AtEach (HearEverythingOn cable (run_before start)) cs → AtEach (KeepsBetween cable (run_before start)) cs
        → Alike cs × (table_after start cs ≡ run_before start cs)
    unfolding AtEach table_after run_by
    alike [] b kl he kb = (tt, refl)
    alike (c ∷ cs) b kl he kb = go (alike cs (shorter b) kl.0 he.0 kb.0)
      where
        go : Alike cs × (table_after start cs ≡ run_before start cs) → Alike (c ∷ cs) × (table_after start (c ∷ cs) ≡ run_before start (c ∷ cs))
        go r = ((r.0, r.1), one-call c cs b (r.0, r.1) r.1 kl he kb.1)

  -- ---- with the premises on the run of the rule now

  module _ (all : List Call) (p : PremisesOn cable (table_after start) all) where
    abbrev here : Given
    here = record { cable = cable; fits = fits; lent = lent; one_each = one_each; all = all; few-failures = p.few-failures; one_outside = p.one_outside }

    slot-now : (lost : Bool) (missed room : ℕ) (cs : List Call) → Beginning all (slot lost missed room ∷ cs) → AtEach (KeepsList cable start) (slot lost missed room ∷ cs) → AtEach (HearEverything cable start) (slot lost missed room ∷ cs)
        → is_slot (slot lost missed room) (table_after start cs) ≡ true → table_after_slot lost missed (table_after start cs) ≡ table_by rule_before lost missed (table_after start cs)
    unfolding AtEach KeepsListOn HearEverythingOn
    slot-now lost missed room cs b kl he e = go (run here cs (shorter b) kl.0 he.0)
      where
        t : Table
        t = table_after start cs

        placed : Placed cable (slots_of (table_after start cs)) (table_after start cs)
        placed = placed-run cable (kept.pos here) start (kept.begins here) cs

        left : k + (1 + lag) ≤ size n (list_of (table_after_slot lost missed (table_after start cs)))
        left = subst (λ (x : Table). k + (1 + lag) ≤ size n (list_of x)) (slot-table here lost missed room cs e) (kl.1 e).1

        go : Run here cs → table_after_slot lost missed (table_after start cs) ≡ table_by rule_before lost missed (table_after start cs)
        go r = slot-same-now (kept.W here) (slots_of t + n) r.0 t lost missed r.1 (past-at here lost missed room cs b e) (kl.1 e).0 (he.1 e)
            (λ i h l. (placed.at i h l).is-sound) (below-limit cable _ _ (kept.pos here) placed lost missed room e) left

    now-call : (c : Call) (cs : List Call) → Beginning all (c ∷ cs) → AtEach (KeepsList cable start) (c ∷ cs) → AtEach (HearEverything cable start) (c ∷ cs)
        → table_after start cs ≡ run_before start cs → table_after start (c ∷ cs) ≡ run_before start (c ∷ cs)
    now-call (slot lost missed room) cs b kl he r = same-slot lost missed room cs (λ e. slot-now lost missed room cs b kl he e) r
    now-call (off a) cs b kl he r = same-off a cs r
    now-call (restart a) cs b kl he r = same-restart a cs r

    alike-now : (cs : List Call) → Beginning all cs → AtEach (KeepsList cable start) cs → AtEach (HearEverything cable start) cs → Alike cs × (table_after start cs ≡ run_before start cs)
    unfolding AtEach table_after run_by
    alike-now [] b kl he = (tt, refl)
    alike-now (c ∷ cs) b kl he = go (alike-now cs (shorter b) kl.0 he.0)
      where
        go : Alike cs × (table_after start cs ≡ run_before start cs) → Alike (c ∷ cs) × (table_after start (c ∷ cs) ≡ run_before start (c ∷ cs))
        go r = ((r.0, r.1), now-call c cs b kl he r.1)

  -- ---- the claim

  -- after each call, and not only before it
  after-calls : (cs : List Call) → Alike cs → table_after start cs ≡ run_before start cs → AtEach (λ c earlier. table_after start (c ∷ earlier) ≡ run_before start (c ∷ earlier)) cs
  unfolding AtEach
  after-calls [] al e = tt
  after-calls (c ∷ cs) al e = (after-calls cs al.0 al.1, e)

  first-same : table_after start [] ≡ run_before start []
  unfolding table_after run_by
  first-same = refl

pub nothing-differs : NothingDiffers
unfolding EverySequence
nothing-differs cable fits lent one_each cs (p, kb) =
    let r = alike cable fits lent one_each cs p cs whole p.list-kept p.all-heard kb in
    (first-same cable fits lent one_each, after-calls cable fits lent one_each cs r.0 r.1)

pub nothing-differs-now : NothingDiffersNow
unfolding EverySequence
nothing-differs-now cable fits lent one_each cs p =
    let r = alike-now cable fits lent one_each cs p cs whole p.list-kept p.all-heard in
    (first-same cable fits lent one_each, after-calls cable fits lent one_each cs r.0 r.1)
