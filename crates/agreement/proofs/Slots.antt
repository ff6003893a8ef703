-- A slot keeps the invariant of a table. Assumes nothing.
use Prim.Native.Nat.{ℕ, suc, ◌+◌, ◌^◌, ◌≤◌, ◌<◌}
use mathlib.Core.Path.{◌≡◌, refl, sym, ap, ◌∙◌, subst}
use mathlib.Core.Logic.{◌≢◌, inl, inr}
use mathlib.Core.Bool.{Bool, true, false, cond, not, ◌&&◌, ◌||◌, false≢true}
use native.Mathlib.Omega.{arith}
use native.Mathlib.Decide.{ℕ_discrete}
use lib.Dec.{eqb}
use lib.ListN.{length}
use borrow.Author.Tests.{eq-eqb, ne_eqb}
use Rattle.bench.specs.nodeset.Sets.{has, size}
use Rattle.bench.proofs.nodeset.Tests.{by_cases, otherwise}
use Rattle.bench.specs.cable.declared.Cable.{Cable}
use Rattle.bench.specs.ring.Ring.{sender, sponsored}
use Rattle.bench.proofs.ring_laws.Senders.{sender-range, sender-period}
use Rattle.bench.specs.message.Answers.{Reading}
use Rattle.bench.specs.node_record.declared.Node.{Node}
use Rattle.bench.specs.node_record.States.{is_member, is_listening, is_out}
use Rattle.bench.specs.node_record.Soundness.{sound, limit}
use Rattle.bench.proofs.node_record.Tracking.{tracks}
use Rattle.bench.specs.node_changes.Changes.{counted}
use Rattle.bench.specs.node_steps.Steps.{is_heard}
use Rattle.bench.specs.node_steps.Digests.{bits_heard}
use Rattle.bench.proofs.node_steps.Cases.{slot-outside}
use Rattle.bench.specs.node_sending.Sending.{sends, bits_sent, return_sent}
use Rattle.bench.specs.node_slot.Inner.{read_in}
use Rattle.bench.specs.Table.{Table, record_of, slots_of, speaker}
use Rattle.bench.specs.Calls.{transmits, unheard, heard_by, table_after_slot}
use Rattle.bench.specs.Runs.{slot, list_of, is_listed, misses}
use Rattle.bench.proofs.node_steps.Answers.{At}
use Rattle.agreement.specs.Demand.{AllHear}
use Rattle.agreement.proofs.Past.{Past, past_of}
use Rattle.agreement.proofs.History.{World, K, decision, sponsors-are}
use Rattle.agreement.proofs.Invariant.{Tracking}
use Rattle.agreement.proofs.Marks.{no_both, not-true, not-false}
use Rattle.agreement.proofs.Listed.{Begins, Says, ListedSlot}
use Rattle.agreement.proofs.Join.{Next}
use Rattle.agreement.proofs.Outside.{OwnSlot}
use Rattle.agreement.proofs.Rounds.{K', k-next, next-lt, k'-listed, k'-outside, k-outside}
use Rattle.agreement.proofs.Alike.{listening-only, as_many}
use Rattle.agreement.proofs.Again.{second, Once}
use Rattle.agreement.proofs.Nodes.{NodeInv, HearsAny, read-once, read-shrunk, listed-after, next-list, outside-after}
use Rattle.bench.proofs.Runs.{after-slot-length}
use Rattle.agreement.proofs.Records.{read_of, read_is, record-after, sent-bits}
use Rattle.agreement.proofs.Tables.{TableInv, Witness, witness, list-is, slots_at}
use Rattle.agreement.proofs.Reached.{hear, hear-message, unheard-bits, unreached, and_no, reached, sent-parts, not-out, listening-neither, sends-tracks}
use Rattle.bench.specs.message.Answers.{heard_with}

module _ (W : World) where
  open W use {cable, n_pos, turns, n-most, k_lt, E}
  open cable use {n, k, lag}

  module _ (N L : ℕ) (t : Table) (lost : Bool) (missed : ℕ) (inv : TableInv W N L t) (eq : E (suc N) ≡ past_of lost missed t)
      (enough : k + (1 + lag) ≤ size n (list_of t)) (hears : AllHear n (slot lost missed 64) t)
      (good : (i : ℕ) → 1 ≤ i → i ≤ n → sound (record_of t i) ≡ true) (below : slots_of t < limit) where
    abbrev pub s : ℕ
    s = sender cable (suc N)

    s-pos : 1 ≤ s
    s-pos = (sender-range cable turns (suc N)).0

    s-le : s ≤ n
    s-le = (sender-range cable turns (suc N)).1

    pub speaker-is : speaker t ≡ sender cable (suc N)
    unfolding speaker
    speaker-is =
        let z : slots_of t + 1 + n ≡ suc N = omega (arith, slots_at W N L t inv) in
        ap (λ (c : Cable). sender c (slots_of t + 1)) (inv.nodes 1 (omega arith) n_pos).cable-is ∙ sym (sender-period cable turns (slots_of t + 1) (omega arith)) ∙ ap (sender cable) z

    pub list : list_of t ≡ L
    list = list-is W N L t inv (omega arith)

    pub listed-is : (E (suc N)).listed ≡ has L (sender cable (suc N))
    unfolding is_listed
    listed-is = ap (λ (e : Past). e.listed) eq ∙ ap (λ (x : ℕ). has x (speaker t)) list ∙ ap (has L) speaker-is

    transmits-is : transmits t ≡ sends (record_of t s)
    unfolding transmits
    transmits-is = ap (λ (x : ℕ). sends (record_of t x)) speaker-is

    sent_is : (E (suc N)).sent ≡ (transmits t && not lost)
    sent_is = ap (λ (e : Past). e.sent) eq

    sent-sends : (E (suc N)).sent ≡ true → sends (record_of t s) ≡ true
    sent-sends p = sym transmits-is ∙ (sent-parts (transmits t) lost (sym sent_is ∙ p)).0

    pub begins : Begins W N L
    begins = record { late = inv.late; kept = inv.kept; enough = rw (← list) (omega arith); small = inv.small }

    -- the sender transmits
    sender-tracks : sends (record_of t s) ≡ true → tracks (record_of t s).state ≡ true
    sender-tracks p = sends-tracks (record_of t s).state (eqb (record_of t s).returning 0) p

    sender-inv : sends (record_of t s) ≡ true → Tracking W N L s (record_of t s)
    sender-inv p = (inv.nodes s s-pos s-le).track (sender-tracks p)

    -- its message
    abbrev pub message : Reading
    message = heard_with (bits_sent (record_of t s)) (return_sent (record_of t s))

    -- what node i hears
    abbrev pub hd : ℕ → Reading
    hd i = read_of s lost missed t i

    heard-is : (i : ℕ) → is_heard (hd i) ≡ ((transmits t && (not lost && not (has missed i))) && not (eqb s (record_of t i).own))
    heard-is i = hear (eqb s (record_of t i).own) lost (has missed i) (transmits t) message refl

    heard-message : (i : ℕ) → is_heard (hd i) ≡ true → hd i ≡ message
    heard-message i e = hear-message (eqb s (record_of t i).own) lost (has missed i) (transmits t) message e

    message-says : has L s ≡ true → sends (record_of t s) ≡ true → Says W N L message
    message-says on_l p = record {
      z = record_of t s;
      inv = iv;
      member = mem;
      bits = bits;
      ret = rw mem refl;
    }
      where
        z : Node
        z = record_of t s

        nv : NodeInv W N L s (record_of t s)
        nv = inv.nodes s s-pos s-le

        iv : Tracking W N L s (record_of t s)
        iv = sender-inv p

        mem : is_member (record_of t s).state ≡ true
        mem = not-false (is_member (record_of t s).state) (λ f. no_both on_l (iv.own_out f))

        bits : (j x : ℕ) → j < k → At x (sponsored cable L s (suc j)) → has (bits_sent (record_of t s)) (suc j) ≡ has (record_of t s).present x
        bits j x h e =
            let q = sponsors-are W L begins.enough in
            sent-bits cable L s (record_of t s) mem nv.cable-is iv.set_is nv.own_is (omega (arith, q, k_lt, n-most)) j x (omega (arith, q)) e

    pub says : has L s ≡ true → (i : ℕ) → is_heard (hd i) ≡ true → Says W N L (hd i)
    says on_l i e = subst (λ (r : Reading). Says W N L r) (sym (heard-message i e)) (message-says on_l (sym transmits-is ∙ sent))
      where
        parts : (a b c d : Bool) → ((a && (b && c)) && d) ≡ true → a ≡ true
        parts true b c d q = refl
        parts false b c d q = absurd (false≢true q)

        sent : transmits t ≡ true
        sent = parts (transmits t) (not lost) (not (has missed i)) (not (eqb s (record_of t i).own)) (sym (heard-is i) ∙ e)

    knock-bits : has L s ≡ false → (i : ℕ) → (E (suc N)).sent ≡ true → bits_heard (hd i) ≡ 0
    unfolding bits_sent
    knock-bits off_l i p = by_cases (is_heard (hd i)) (λ e. ap bits_heard (heard-message i e) ∙ none) (λ e. unheard-bits (hd i) e)
      where
        none : bits_sent (record_of t s) ≡ 0
        none = otherwise _ _ (not-true (is_member (record_of t s).state) (λ q. no_both ((sender-inv (sent-sends p)).own-in q) off_l))

    pub hears-any : (i : ℕ) → 1 ≤ i → i ≤ n → HearsAny W N i (record_of t i) (hd i)
    unfolding misses
    hears-any i h l = record {
      own = own;
      tracking = λ tr. record { own = own; unsent = unsent; missing = missing tr };
      listening = λ li. by_cases (E (suc N)).sent (λ p. sent-case li p) (λ p. unsent p ∙ sym p);
    }
      where
        nv : NodeInv W N L i (record_of t i)
        nv = inv.nodes i h l

        own : i ≡ s → is_heard (hd i) ≡ false
        own p = heard-is i ∙ and_no (transmits t && (not lost && not (has missed i))) (eqb s (record_of t i).own) (eq-eqb s (record_of t i).own (sym p ∙ sym nv.own_is))

        other : i ≢ s → eqb s (record_of t i).own ≡ false
        other ne = ne_eqb s (record_of t i).own (λ p. ne (sym nv.own_is ∙ sym p))

        unsent : (E (suc N)).sent ≡ false → is_heard (hd i) ≡ false
        unsent p = heard-is i ∙ unreached (transmits t) lost (has missed i) (eqb s (record_of t i).own) (sym sent_is ∙ p)

        named : (E (suc N)).sent ≡ true → i ≢ s → is_heard (hd i) ≡ not (has missed i)
        named p ne = heard-is i ∙ reached (transmits t) lost (has missed i) (eqb s (record_of t i).own) (sym sent_is ∙ p) (other ne)

        is-named : (E (suc N)).sent ≡ true → i ≢ s → is_heard (hd i) ≡ false → has missed i ≡ true
        is-named p ne f = not-false (has missed i) (λ q. no_both (named p ne ∙ ap not q) f)

        all-hear : (E (suc N)).sent ≡ true → i ≢ s → has missed i ≡ true → (is_member (record_of t i).state || is_out (record_of t i).state) ≡ true
        all-hear p ne q =
            let parts = sent-parts (transmits t) lost (sym sent_is ∙ p) in
            hears parts.0 parts.1 i h l (λ x. ne (x ∙ speaker-is)) q

        missing : tracks (record_of t i).state ≡ true → is_heard (hd i) ≡ false → (E (suc N)).sent ≡ true → i ≢ s → (is_member (record_of t i).state ≡ true) × ((E (suc N)).missed i ≡ true)
        missing tr f p ne =
            let q : has missed i ≡ true = is-named p ne f in
            let mem : is_member (record_of t i).state ≡ true = not-out (record_of t i).state tr (all-hear p ne q) in
            let parts = sent-parts (transmits t) lost (sym sent_is ∙ p) in
            let no_own : eqb i (speaker t) ≡ false = ne_eqb i (speaker t) (λ x. ne (x ∙ speaker-is)) in
            (mem, ap (λ (e : Past). e.missed i) eq ∙ all_true (is_member (record_of t i).state) (transmits t) lost (has missed i) (eqb i (speaker t)) mem parts.0 parts.1 q no_own)
          where
            all_true : (a b c d e : Bool) → a ≡ true → b ≡ true → c ≡ false → d ≡ true → e ≡ false → (a && (b && (not c && (d && not e)))) ≡ true
            all_true a b c d e p q r x y = rw (p, q, r, x, y) refl

        sent-case : is_listening (record_of t i).state ≡ true → (E (suc N)).sent ≡ true → is_heard (hd i) ≡ (E (suc N)).sent
        sent-case li p = go (ℕ_discrete i s)
          where
            go : Dec (i ≡ s) → is_heard (hd i) ≡ (E (suc N)).sent
            go (yes e) = absurd (no_both (sender-tracks (sent-sends p)) (listening-only (record_of t s).state (rw e at li)))
            go (no ne) = named p ne ∙ ap not (not-true (has missed i) (λ q. no_both (all-hear p ne q) (listening-neither (record_of t i).state li))) ∙ sym p

    abbrev after : Table
    after = table_after_slot lost missed t

    -- what it is told is that
    pub told_is : (i : ℕ) → cond (eqb s (record_of t i).own) unheard (heard_by lost missed t i) ≡ hd i
    told_is i = read_is s lost missed t i speaker-is

    -- the node after the slot
    node-after : (i : ℕ) → 1 ≤ i → i ≤ n → record_of (table_after_slot lost missed t) i ≡ read_in n (record_of t i).state s (hd i) (counted (record_of t i))
    node-after i h l =
        let nv = inv.nodes i h l in
        let z : (record_of t i).slots + 1 + n ≡ suc N = omega (arith, nv.slots-is) in
        record-after s lost missed t i h (omega (arith, inv.len)) (good i h l) (omega (arith, nv.slots-is, slots_at W N L t inv, below))
        (ap (λ (c : Cable). sender c ((record_of t i).slots + 1)) nv.cable-is ∙ sym (sender-period cable turns ((record_of t i).slots + 1) (omega arith)) ∙ ap (sender cable) z) speaker-is
        ∙ ap (λ (c : Cable). read_in c.n (record_of t i).state s (hd i) (counted (record_of t i))) nv.cable-is

    pub len_after : length (table_after_slot lost missed t) ≡ n
    len_after = after-slot-length lost missed t ∙ inv.len

    module _ (on_l : has L (sender cable (suc N)) ≡ true) where
      -- the slot as one of a listed node
      abbrev pub S : ListedSlot W
      S = record { N = N; L = L; B = begins; l_t = listed-is ∙ on_l; on_l = on_l; D = decision W N L inv.late inv.kept begins.enough }

      -- in a slot that leaves k + 1 and the lag on the list nobody leaves but the member that is decided first
      pub leaves-once : k + (1 + lag) ≤ size n (list_of after) → Once W S
      leaves-once ends = by_cases (E S.D.u).sent (λ p. inl p) (λ p. by_cases (E (second W S).u).sent (λ q. inr q) (λ q. absurd (too-few p q (witness W after len_after (omega arith)))))
        where
          too-few : (E S.D.u).sent ≡ false → (E (second W S).u).sent ≡ false → Witness W after → ⊥
          too-few p q x =
              let e : record_of after x.i ≡ read_in n (record_of t x.i).state s (hd x.i) (counted (record_of t x.i)) = node-after x.i x.pos x.le in
              let small : size n (record_of after x.i).set ≤ k + lag
              = subst (λ (y : Node). is_member y.state ≡ true → size n y.set ≤ k + lag) (sym e)
              (read-shrunk W S (hd x.i) (says on_l x.i) x.i x.pos x.le (record_of t x.i) (inv.nodes x.i x.pos x.le) (hears-any x.i x.pos x.le) p q)
              x.member in
              omega (arith, ap (size n) x.its)

      -- then it is the slot with one departure
      pub node-once : Once W S → (i : ℕ) → 1 ≤ i → i ≤ n → record_of (table_after_slot lost missed t) i ≡ read_in 1 (record_of t i).state s (hd i) (counted (record_of t i))
      node-once o i h l = node-after i h l ∙ read-once W S (hd i) (says on_l i) i h l (record_of t i) (inv.nodes i h l) (hears-any i h l) o

      listed-table : k + (1 + lag) ≤ size n (list_of after) → TableInv W (suc N) (list_of after) after
      listed-table ends = go (leaves-once ends) (witness W after len_after (omega arith))
        where
          go : Once W S → Witness W after → TableInv W (suc N) (list_of after) after
          go o x = done (rw (← x.its) at nx)
            where
              e : record_of after x.i ≡ read_in 1 (record_of t x.i).state s (hd x.i) (counted (record_of t x.i))
              e = node-once o x.i x.pos x.le

              nx : Next W S (record_of after x.i).set
              nx = subst (λ (y : Node). is_member y.state ≡ true → Next W S y.set) (sym e)
                  (next-list W S (hd x.i) (says on_l x.i) x.i x.pos x.le (record_of t x.i) (inv.nodes x.i x.pos x.le) (hears-any x.i x.pos x.le))
                  x.member

              done : Next W S (list_of after) → TableInv W (suc N) (list_of after) after
              done nx' = record {
                len = len_after;
                late = omega (arith, inv.late);
                kept = κ;
                kept' = κ';
                small = sm;
                nodes = λ i h l. subst (λ (y : Node). NodeInv W (suc N) (list_of after) i y) (sym (node-once o i h l))
                    (listed-after W S (hd i) (says on_l i) i h l (record_of t i) (inv.nodes i h l) (hears-any i h l) (list_of after) nx' κ (omega (arith, ends)) κ' sm);
              }
                where
                  κ : K W (suc N) (list_of after)
                  κ = k-next W S (list_of after) nx'

                  κ' : K' W (suc N)
                  κ' = k'-listed W N L begins on_l inv.kept'

                  sm : list_of after < 2 ^ n
                  sm = next-lt W S (list_of after) nx'

    -- outside the list nobody is decided, however often
    pub node-outside : has L (sender cable (suc N)) ≡ false → (i : ℕ) → 1 ≤ i → i ≤ n → record_of (table_after_slot lost missed t) i ≡ read_in 1 (record_of t i).state s (hd i) (counted (record_of t i))
    node-outside off_l i h l = node-after i h l ∙ as_many n 1 s (hd i) (record_of t i) (λ tr.
        let off : has (record_of t i).set s ≡ false = ap (λ (y : ℕ). has y s) ((inv.nodes i h l).track tr).set_is ∙ off_l in
        slot-outside n s (hd i) (counted (record_of t i)) off ∙ sym (slot-outside 1 s (hd i) (counted (record_of t i)) off))

    outside-table : (off_l : has L s ≡ false) → TableInv W (suc N) L after
    outside-table off_l = record {
      len = len_after;
      late = omega (arith, inv.late);
      kept = κ;
      kept' = κ';
      small = inv.small;
      nodes = λ i h l. subst (λ (y : Node). NodeInv W (suc N) L i y) (sym (node-outside off_l i h l))
          (outside-after W N L begins l_t off_l i h (record_of t i) (inv.nodes i h l) (hd i) (hears-any i h l) (own-slot i) (knock-bits off_l i) κ κ' inv.small);
    }
      where
        l_t : (E (suc N)).listed ≡ false
        l_t = listed-is ∙ off_l

        κ : K W (suc N) L
        κ = k-outside W N L l_t off_l inv.kept

        κ' : K' W (suc N)
        κ' = k'-outside W N l_t inv.kept'

        own-slot : (i : ℕ) → OwnSlot W N i (record_of t i)
        own-slot i = record {
          out = λ p q. ap (λ (e : Past). e.outside) eq ∙ both (transmits t) (is_listed t) (transmits-is ∙ ap (λ (x : ℕ). sends (record_of t x)) (sym p) ∙ q) (sym (ap (λ (e : Past). e.listed) eq) ∙ l_t);
          sent = λ p q. ap (λ (x : ℕ). sends (record_of t x)) p ∙ sent-sends q;
        }
          where
            both : (a b : Bool) → a ≡ true → b ≡ false → (a && not b) ≡ true
            both a b p q = rw (p, q) refl

    -- a slot keeps the invariant
    pub slot-keeps : k + (1 + lag) ≤ size n (list_of (table_after_slot lost missed t)) → (L' : ℕ) × TableInv W (suc N) L' (table_after_slot lost missed t)
    slot-keeps ends = by_cases (has L s) (λ p. (list_of after, listed-table p ends)) (λ p. (L, outside-table p))
