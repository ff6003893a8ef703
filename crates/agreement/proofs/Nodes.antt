-- One slot, for any node: what it was and what it is after the slot. Assumes nothing.
use Prim.Native.Nat.{ℕ, suc, ◌+◌, ◌-◌, ◌^◌, ◌≤◌, ◌<◌}
use mathlib.Core.Path.{◌≡◌, sym, ap, ap₂, ◌∙◌, subst}
use mathlib.Core.Logic.{◌⊎◌, inl, inr}
use mathlib.Core.Bool.{true, false, cond, false≢true}
use native.Mathlib.Omega.{arith}
use Rattle.bench.specs.nodeset.Sets.{has, size}
use Rattle.bench.specs.cable.declared.Cable.{Cable}
use Rattle.bench.specs.ring.Ring.{sender, decided}
use Rattle.bench.specs.message.Answers.{Reading}
use Rattle.bench.specs.node_record.declared.Node.{Node}
use Rattle.bench.specs.node_record.declared.State.TheVariants.{Out}
use Rattle.bench.specs.node_record.declared.Cause.{Cause}
use Rattle.bench.specs.node_record.declared.Cause.TheVariants.{MissedReturn}
use Rattle.bench.specs.node_record.States.{is_member, is_listening}
use Rattle.bench.specs.node_record.Sponsoring.{decided_in}
use Rattle.bench.proofs.node_record.Tracking.{tracks}
use Rattle.bench.specs.node_changes.Changes.{counted, leave, with_set}
use Rattle.bench.specs.node_steps.Steps.{is_heard, noted, settle}
use Rattle.bench.specs.node_steps.Digests.{bits_heard}
use Rattle.bench.specs.node_steps.Inner.{read_return, read_marked, departing, inside_slot, outside_slot, slot_by_cases}
use Rattle.bench.proofs.node_steps.Cases.{slot-inside, slot-outside}
use Rattle.bench.specs.node_hearing.Hearing.{listening_by}
use Rattle.bench.specs.node_slot.Inner.{read_in}
use Rattle.bench.proofs.Choices.{choose}
use Rattle.bench.proofs.Counted.{Same, same_then}
use Rattle.agreement.proofs.History.{World, K}
use Rattle.agreement.proofs.Invariant.{Tracking, ListeningInv, Awaits, aware, unaware}
use Rattle.agreement.proofs.Marks.{no_both}
use Rattle.agreement.proofs.Outcome.{Gone, leave-law, Settled, left, settled, Inside, missed, went, inside-law, noted-law, Noted, settle-outside, set_after}
use Rattle.agreement.proofs.Listed.{Begins, Hears, Says, ListedSlot, Hearer}
use Rattle.agreement.proofs.Returns.{set-after}
use Rattle.agreement.proofs.Join.{A, Next, after-inside, next-from}
use Rattle.agreement.proofs.Outside.{OwnSlot, after-noted}
use Rattle.agreement.proofs.Rounds.{K'}
use Rattle.agreement.proofs.Hearing.{fresh-inv, listening-law, Hearkened, on, again, follows}
use Rattle.agreement.proofs.Alike.{not-listening, listening-only, Like, gone-like, gone-not, inside-like, noted-like, member-tracks, listening-not-member, by_state, as_many}
use Rattle.agreement.proofs.Again.{second, Once, once, shrunk}
use Rattle.bench.specs.ring.Ring.{found}

module _ (W : World) where
  open W use {cable, k_two, k_lt, E}
  open cable use {n, k, lag}

  pub record NodeInv (N L i : ℕ) (v : Node) : Type 0 where
    pub cable-is : v.cable ≡ cable
    pub own_is : v.own ≡ i
    pub slots-is : v.slots + n ≡ N
    pub track : tracks v.state ≡ true → Tracking W N L i v
    pub listen : is_listening v.state ≡ true → ListeningInv W N i v

  -- counting the slot changes nothing else
  pub counted-inv : (N L i : ℕ) (v : Node) → Tracking W N L i v → Tracking W N L i (counted v)
  counted-inv N L i v iv = record {
    set_is = iv.set_is;
    own-in = iv.own-in;
    own_out = iv.own_out;
    marks-off = iv.marks-off;
    marks-on = λ u e z l p q off. let o = iv.marks-on u e z l p q off in record { member = o.member; listed = o.listed; who = o.who; untold = o.untold };
    knock = λ nz. let κ = iv.knock nz in record { w = κ.w; e = κ.e; ago = κ.ago; recent = κ.recent; unlisted = κ.unlisted; outer = κ.outer; it = κ.it; away = κ.away; p = κ.p; ahead = κ.ahead; soon = κ.soon; next = κ.next; how = κ.how };
    open-knock = λ w e z l a b c. copy w (iv.open-knock w e z l a b c);
    knocking-own = iv.knocking-own;
    own-knocking = iv.own-knocking;
    quiet = iv.quiet;
    lost-knock = iv.lost-knock;
  }
    where
      copy : (w : ℕ) → Awaits W N i w v → Awaits W N i w (counted v)
      copy w (aware q f) = aware q f
      copy w (unaware q f g x un) = unaware q f g x un

  counted-listening : (N i : ℕ) (v : Node) → ListeningInv W N i v → ListeningInv W N i (counted v)
  counted-listening N i v iv = record { short = iv.short; heard-lt = iv.heard-lt; last-lt = iv.last-lt; own-unheard = iv.own-unheard; heard-is = iv.heard-is; heard-only = iv.heard-only; knock-shows = iv.knock-shows; last-is = iv.last-is }

  counted-hears : (N i : ℕ) (v : Node) (r : Reading) → Hears W N i v r → Hears W N i (counted v) r
  counted-hears N i v r h = record { own = h.own; unsent = h.unsent; missing = h.missing }

  -- a node's claims after the slot
  finish : (N L L' i : ℕ) (v x : Node) → NodeInv N L i v → Like (counted v) x → (tracks x.state ≡ false) ⊎ Tracking W (suc N) L' i x → NodeInv (suc N) L' i x
  finish N L L' i v x nv lk r = record {
    cable-is = lk.0.cable-is ∙ nv.cable-is;
    own_is = lk.0.own_is ∙ nv.own_is;
    slots-is = omega (arith, lk.0.slots-is, nv.slots-is);
    track = λ p. go p r;
    listen = λ p. fresh-inv W (suc N) i x (lk.1 p).0 (lk.1 p).1 (lk.1 p).2;
  }
    where
      go : tracks x.state ≡ true → (tracks x.state ≡ false) ⊎ Tracking W (suc N) L' i x → Tracking W (suc N) L' i x
      go p (inl g) = absurd (no_both p g)
      go p (inr t) = t

  out-after : (N L L' i : ℕ) (v : Node) → NodeInv N L i v → (c : Cause) → v.state ≡ Out c → NodeInv (suc N) L' i (counted v)
  out-after N L L' i v nv c e = record {
    cable-is = nv.cable-is;
    own_is = nv.own_is;
    slots-is = omega (arith, nv.slots-is);
    track = λ p. absurd (false≢true (sym (ap tracks e) ∙ p));
    listen = λ p. absurd (false≢true (sym (ap is_listening e) ∙ p));
  }

  -- a listening node
  pub listening-after : (N L L' i : ℕ) → n ≤ N → 1 ≤ i → K W (suc N) L' → k + lag < size n L' → K' W (suc N) → L' < 2 ^ n → (v : Node) → NodeInv N L i v → is_listening v.state ≡ true
      → (r : Reading) → is_heard r ≡ (E (suc N)).sent → (i ≡ sender cable (suc N) → is_heard r ≡ false)
      → ((E (suc N)).sent ≡ true → (E (suc N)).listed ≡ false → bits_heard r ≡ 0)
      → NodeInv (suc N) L' i (listening_by (sender cable (suc N)) r (counted v))
  listening-after N L L' i late i-pos κ enough κ' small v nv li r hq own kb =
      go _ (listening-law W N i late (counted v) (counted-listening N i v (nv.listen li)) r hq own kb nv.cable-is i-pos L' κ enough κ' small)
    where
      go : (x : Node) → Hearkened W N i late (counted v) (counted-listening N i v (nv.listen li)) r hq own kb L' x → NodeInv (suc N) L' i x
      go x (on l e q) = record {
        cable-is = ap (λ (y : Node). y.cable) e ∙ nv.cable-is;
        own_is = ap (λ (y : Node). y.own) e ∙ nv.own_is;
        slots-is = omega (arith, ap (λ (y : Node). y.slots) e, nv.slots-is);
        track = λ p. absurd (no_both p (ap (λ (y : Node). tracks y.state) e ∙ listening-only v.state li));
        listen = λ p. q;
      }
      go x (again b e q) = record {
        cable-is = ap (λ (y : Node). y.cable) e ∙ nv.cable-is;
        own_is = ap (λ (y : Node). y.own) e ∙ nv.own_is;
        slots-is = omega (arith, ap (λ (y : Node). y.slots) e, nv.slots-is);
        track = λ p. absurd (no_both p (ap (λ (y : Node). tracks y.state) e));
        listen = λ p. q;
      }
      go x (follows b e q) = record {
        cable-is = ap (λ (y : Node). y.cable) e ∙ nv.cable-is;
        own_is = ap (λ (y : Node). y.own) e ∙ nv.own_is;
        slots-is = omega (arith, ap (λ (y : Node). y.slots) e, nv.slots-is);
        track = λ p. q;
        listen = λ p. absurd (no_both p (ap (λ (y : Node). is_listening y.state) e));
      }

  -- what node i hears of the slot, whatever it is
  pub record HearsAny (N i : ℕ) (v : Node) (r : Reading) : Type 0 where
    pub own : i ≡ sender cable (suc N) → is_heard r ≡ false
    pub tracking : tracks v.state ≡ true → Hears W N i v r
    pub listening : is_listening v.state ≡ true → is_heard r ≡ (E (suc N)).sent

  -- a listed slot
  module _ (S : ListedSlot W) where
    open S use {N, L, B, l_t, on_l, D}

    abbrev s : ℕ
    s = sender cable (suc N)

    -- the decided member
    abbrev d : ℕ
    d = sender cable D.u

    module _ (r : Reading) (says : is_heard r ≡ true → Says W N L r)
        (i : ℕ) (i-pos : 1 ≤ i) (i-le : i ≤ n) (v : Node) (nv : NodeInv N L i v) (h : HearsAny N i v r) where
      is-inside : (times : ℕ) (tr : tracks v.state ≡ true) → slot_by_cases times s r (counted v) ≡ inside_slot times s r (counted v)
      is-inside times tr = slot-inside times s r (counted v) (ap (λ (y : ℕ). has y s) (nv.track tr).set_is ∙ on_l)

      module _ (tr : tracks v.state ≡ true) where
        iv : Tracking W N L i (counted v)
        iv = counted-inv N L i v (nv.track tr)

        hv : Hears W N i (counted v) r
        hv = counted-hears N i v r (h.tracking tr)

        -- the node as one that hears the slot
        abbrev T : Hearer W S.N S.L
        T = record { r = r; says = says; i = i; i-pos = i-pos; i-le = i-le; v = counted v; vc = nv.cable-is; vo = nv.own_is; iv = iv; h = hv }

        decides-it : decided_in s v ≡ found d (suc D.e)
        decides-it = ap₂ (λ (c : Cable) (set : ℕ). decided c set s) nv.cable-is (nv.track tr).set_is ∙ D.it

        outcome : Inside s d r (counted v) (inside_slot 1 s r (counted v))
        outcome = inside-law s d (suc D.e) r (counted v) decides-it

        settled_at : (x : Node) → Settled true s (with_set (set_after d (read_marked s r (counted v))) (read_marked s r (counted v))) x
            → Settled true s (with_set (A W S) (read_marked s r (counted v))) x
        settled_at x st = subst (λ (y : ℕ). Settled true s (with_set y (read_marked s r (counted v))) x)
            (set-after W S T) st

        tracked : (L' : ℕ) → Next W S L' → (x : Node) → Inside s d r (counted v) x → (tracks x.state ≡ false) ⊎ Tracking W (suc N) L' i x
        tracked L' nx x (missed g) = inl (gone-not (counted v) x g)
        tracked L' nx x (went ok (left g)) = inl (gone-not (read_marked s r (counted v)) x g)
        tracked L' nx x (went ok (settled ne st)) =
            go (after-inside W S T L' nx ok ne x (settled_at x st))
          where
            go : Gone (with_set (A W S) (read_marked s r (counted v))) x ⊎ Tracking W (suc N) L' i x → (tracks x.state ≡ false) ⊎ Tracking W (suc N) L' i x
            go (inl g) = inl (gone-not _ x g)
            go (inr t) = inr t

        next_of : (x : Node) → Inside s d r (counted v) x → tracks x.state ≡ true → Next W S x.set
        next_of x (missed g) p = absurd (no_both p (gone-not (counted v) x g))
        next_of x (went ok (left g)) p = absurd (no_both p (gone-not (read_marked s r (counted v)) x g))
        next_of x (went ok (settled ne st)) p =
            go (next-from W S T ok x (settled_at x st))
          where
            go : Gone (with_set (A W S) (read_marked s r (counted v))) x ⊎ Next W S x.set → Next W S x.set
            go (inl g) = absurd (no_both p (gone-not _ x g))
            go (inr t) = t

        tracking-after : (L' : ℕ) → Next W S L' → NodeInv (suc N) L' i (slot_by_cases 1 s r (counted v))
        tracking-after L' nx = rw (is-inside 1 tr) (finish N L L' i v _ nv
            (inside-like s d r (counted v) _ (not-listening v.state tr) outcome)
            (tracked L' nx _ outcome))

        -- where nobody leaves but the member that is decided first, repeating the departure changes nothing
        slot-once : Once W S → slot_by_cases n s r (counted v) ≡ slot_by_cases 1 s r (counted v)
        unfolding inside_slot
        slot-once o =
            let z : n ≡ suc (suc (n - 2)) = omega (arith, k_two, k_lt) in
            is-inside n tr
            ∙ ap (cond (read_return r (counted v)) (leave MissedReturn (counted v))) (ap (λ (x : ℕ). departing x s (read_marked s r (counted v))) z ∙ once W S T o (n - 2))
            ∙ sym (is-inside 1 tr)

        -- where a second leaves, k + lag members are left at the most
        slot-shrunk : (E D.u).sent ≡ false → (E (second W S).u).sent ≡ false → is_member (slot_by_cases n s r (counted v)).state ≡ true → size n (slot_by_cases n s r (counted v)).set ≤ k + lag
        unfolding inside_slot
        slot-shrunk p o = subst Small (sym (is-inside n tr)) (choose Small (read_return r (counted v)) (leave MissedReturn (counted v)) (departing n s (read_marked s r (counted v)))
            (λ _ q. absurd (no_both (member-tracks (leave MissedReturn (counted v)).state q) (gone-not (counted v) (leave MissedReturn (counted v)) (leave-law MissedReturn (counted v)))))
            (λ _. subst (λ (x : ℕ). Small (departing x s (read_marked s r (counted v)))) (sym z) (λ q. shrunk W S T p o (n - 2) (member-tracks (departing (suc (suc (n - 2))) s (read_marked s r (counted v))).state q))))
          where
            Small : Node → Type 0
            Small x = is_member x.state ≡ true → size n x.set ≤ k + lag

            z : n ≡ suc (suc (n - 2))
            z = omega (arith, k_two, k_lt)

      pub read-once : Once W S → read_in n v.state s r (counted v) ≡ read_in 1 v.state s r (counted v)
      read-once o = as_many n 1 s r v (λ tr. slot-once tr o)

      pub read-shrunk : (E D.u).sent ≡ false → (E (second W S).u).sent ≡ false → is_member (read_in n v.state s r (counted v)).state ≡ true → size n (read_in n v.state s r (counted v)).set ≤ k + lag
      read-shrunk p o = by_state (λ (x : Node). is_member x.state ≡ true → size n x.set ≤ k + lag) v n s r
          (λ tr. slot-shrunk tr p o)
          (λ li q. absurd (no_both q (listening-not-member s r (counted v) li)))
          (λ c e q. absurd (false≢true (sym (ap is_member e) ∙ q)))

      pub listed-after : (L' : ℕ) → Next W S L' → K W (suc N) L' → k + lag < size n L' → K' W (suc N) → L' < 2 ^ n → NodeInv (suc N) L' i (read_in 1 v.state s r (counted v))
      listed-after L' nx κ enough κ' small = by_state (NodeInv (suc N) L' i) v 1 s r
          (λ tr. tracking-after tr L' nx)
          (λ li. listening-after N L L' i B.late i-pos κ enough κ' small v nv li r (h.listening li) h.own (λ _ u. absurd (no_both l_t u)))
          (λ c e. out-after N L L' i v nv c e)

      -- the list after the slot, as a member-state node has it
      pub next-list : is_member (read_in 1 v.state s r (counted v)).state ≡ true → Next W S (read_in 1 v.state s r (counted v)).set
      next-list = by_state (λ (x : Node). is_member x.state ≡ true → Next W S x.set) v 1 s r
          (λ tr. rw (is-inside 1 tr) (λ p. next_of tr _ (outcome tr) (member-tracks (inside_slot 1 s r (counted v)).state p)))
          (λ li p. absurd (no_both p (listening-not-member s r (counted v) li)))
          (λ c e p. absurd (false≢true (sym (ap is_member e) ∙ p)))

  -- a slot outside the list
  module _ (N L : ℕ) (B : Begins W N L) (l_t : (E (suc N)).listed ≡ false) (off_l : has L (sender cable (suc N)) ≡ false)
      (i : ℕ) (i-pos : 1 ≤ i) (v : Node) (nv : NodeInv N L i v) (r : Reading) (h : HearsAny N i v r) (o : OwnSlot W N i v)
      (knock-bits : (E (suc N)).sent ≡ true → bits_heard r ≡ 0) where
    is-outside : (tr : tracks v.state ≡ true) → slot_by_cases 1 (sender cable (suc N)) r (counted v) ≡ outside_slot (sender cable (suc N)) r (counted v)
    is-outside tr = slot-outside 1 (sender cable (suc N)) r (counted v) (ap (λ (y : ℕ). has y (sender cable (suc N))) (nv.track tr).set_is ∙ off_l)

    own-counted : OwnSlot W N i (counted v)
    own-counted = record { out = o.out; sent = o.sent }

    outside-slot : (tr : tracks v.state ≡ true) → Like (counted v) (outside_slot (sender cable (suc N)) r (counted v)) × ((tracks (outside_slot (sender cable (suc N)) r (counted v)).state ≡ false) ⊎ Tracking W (suc N) L i (outside_slot (sender cable (suc N)) r (counted v)))
    unfolding outside_slot
    outside-slot tr = go (noted (sender cable (suc N)) r (counted v)) (noted-law (sender cable (suc N)) r (counted v))
      where
        go : (y : Node) → Noted (sender cable (suc N)) r (counted v) y → Like (counted v) (settle false (sender cable (suc N)) y) × ((tracks (settle false (sender cable (suc N)) y).state ≡ false) ⊎ Tracking W (suc N) L i (settle false (sender cable (suc N)) y))
        go y nt = two (settle false (sender cable (suc N)) y) (settle-outside (sender cable (suc N)) y)
          where
            b : Same (counted v) y × (is_listening y.state ≡ false)
            b = noted-like (sender cable (suc N)) r (counted v) y (not-listening v.state tr) nt

            two : (x : Node) → Gone y x ⊎ (x ≡ y) → Like (counted v) x × ((tracks x.state ≡ false) ⊎ Tracking W (suc N) L i x)
            two x (inl g) = ((same_then (counted v) y x b.0 (gone-like y x g).0, (gone-like y x g).1), inl (gone-not y x g))
            two x (inr e) = rw e (
              (b.0, λ p. absurd (no_both p b.1)),
              inr (after-noted W N L B l_t off_l i i-pos (counted v) nv.own_is (counted-inv N L i v (nv.track tr)) r (counted-hears N i v r (h.tracking tr)) own-counted y nt),
            )

    pub outside-after : K W (suc N) L → K' W (suc N) → L < 2 ^ n → NodeInv (suc N) L i (read_in 1 v.state (sender cable (suc N)) r (counted v))
    outside-after κ κ' small = by_state (NodeInv (suc N) L i) v 1 (sender cable (suc N)) r
        (λ tr. rw (is-outside tr) (finish N L L i v _ nv (outside-slot tr).0 (outside-slot tr).1))
        (λ li. listening-after N L L i B.late i-pos κ B.enough κ' small v nv li r (h.listening li) h.own (λ q _. knock-bits q))
        (λ c e. out-after N L L i v nv c e)
