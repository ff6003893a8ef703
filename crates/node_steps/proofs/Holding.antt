-- Each step of a slot on a held record (specs/Held) makes what holds the record that the step makes on sets (specs/Steps, Digests). Assumes nothing.
use Rattle.std.specs.Prelude.{Err, None, Option, Ok, Some}
use Prim.Native.Nat.{ℕ, zero, suc, ◌≤◌, ◌<◌, ◌^◌}
use mathlib.Core.Path.{◌≡◌, refl, sym, ap, ap₂, ◌∙◌}
use mathlib.Core.Bool.{Bool, true, false, cond, not, ◌&&◌}
use mathlib.Core.List.{List}
use native.Mathlib.Omega.{arith}
use lib.Dec.{eqb, ltb}
use borrow.Author.Tests.{eqb-false, ne_eqb}
use Rattle.nodeset.specs.Sets.{has, with, with_if, without}
use Rattle.nodeset.proofs.Tests.{by_cases}
use Rattle.cable.specs.slot_table.Order.{is_kept}
use Rattle.cable.specs.declared.Cable.{Cable}
use Rattle.row.specs.ring.declared.Found.{Found}
use Rattle.row.specs.ring.Ring.{sponsors, decided, member_before, member_in, is_found}
use Rattle.row.specs.declared.Row.{Row}
use Rattle.row.specs.Rows.{as_row}
use Rattle.row.specs.Sponsoring.{decided_row}
use Rattle.node_record.proofs.row_laws.Laws.{has-row, size-row, with-row, without-row, before-row, same-row}
use Rattle.node_record.proofs.row_laws.Sponsored.{sponsors-row, sponsored-row, decided-row}
use Rattle.message.specs.Answers.{Reading}
use Rattle.node_record.specs.declared.Node.{Node}
use Rattle.node_record.specs.declared.State.TheVariants.{Following, Knocking}
use Rattle.node_record.specs.declared.Cause.TheVariants.{Unconfirmed, NothingHeard, MissedReturn}
use Rattle.node_record.specs.States.{is_member, is_following, is_knocking}
use Rattle.node_record.specs.Held.{rowed}
use Rattle.node_changes.specs.Changes as rules
use Rattle.node_changes.proofs.Holding.{listening-held, leave-held, either_held, tested-held}
use Rattle.node_steps.specs.declared.Said.{Said}
use Rattle.node_steps.specs.declared.Digest as row
use Rattle.node_steps.specs.declared.Effect.{Effect}
use Rattle.node_steps.specs.Steps as steps
use Rattle.node_steps.specs.Steps.{says_so, state_on_list, nothing_heard}
use Rattle.node_steps.specs.Digests as sets
use Rattle.node_steps.specs.Digests.{Digest, bits_heard, stays_on, decided_where}
use Rattle.node_steps.specs.Held as held

-- ---- the digest

-- a digest, and what comes of step 3, with the row of the set
abbrev pub digest_row : List ℕ → Digest → row.Digest
digest_row order d = record { row = as_row order d.set; said = d.said; decided = d.decided }

abbrev departure_row : List ℕ → Option ℕ → Option Row
departure_row order (Some set) = Some (as_row order set)
departure_row order None = None

module _ (cable : Cable) (kept : is_kept cable.n cable.order ≡ true) (s : ℕ) (low : 1 ≤ s) (high : s ≤ cable.n) where
  abbrev order : List ℕ
  order = cable.order

  answered-row : (answer : Bool) (nodes j bits set : ℕ) → j ≤ sponsors cable set → held.answered answer nodes j s bits cable (as_row order set) ≡ sets.answered answer nodes j s bits cable set
  unfolding held.answered sets.answered
  answered-row answer nodes zero bits set l = refl
  answered-row answer nodes (suc j) bits set l =
      ap₂ (λ (e x : ℕ). with_if (says_so answer (has bits (suc j))) e x) (answered-row answer nodes j bits set (omega (arith, l))) (sponsored-row cable kept set s (suc j) low high (omega arith) l)

  said_row : (bits set : ℕ) → held.said_of s bits cable (as_row order set) ≡ sets.said_of s bits cable set
  said_row bits set =
      ap (λ (m : ℕ). record { yes = held.answered true (with 0 s) m s bits cable (as_row order set); no = held.answered false 0 m s bits cable (as_row order set) }) (sponsors-row cable kept set)
      ∙ ap₂ (λ (y n : ℕ). record { yes = y; no = n }) (answered-row true (with 0 s) (sponsors cable set) bits set (omega arith)) (answered-row false 0 (sponsors cable set) bits set (omega arith))

  pub digest-row : (heard : Reading) (set : ℕ) → held.digest_of s heard cable (as_row order set) ≡ digest_row order (sets.digest_of s heard cable set)
  unfolding held.digest_of sets.digest_of
  digest-row heard set =
      ap₂ (λ (said : Said) (m : ℕ). record { row = as_row order set; said = said; decided = m }) (said_row (bits_heard heard) set) (decided-row cable kept set s low high)

  -- ---- step 3
  departures-row : (times m set : ℕ) (v : Node) → v.cable ≡ cable → held.departures times m s (as_row order set) (rowed v) ≡ departure_row order (sets.departures times m s set v)
  unfolding held.departures sets.departures
  departures-row zero m set v on = refl
  departures-row (suc times) m set v on =
      ap (λ (d : Option Row). cond (stays_on m v) (Some (as_row order set)) (cond (eqb m v.own) None d))
      (ap (λ (r : Row). held.departures times (decided_row v.cable r s) s r (rowed v)) (without-row order set m)
      ∙ ap (λ (x : ℕ). held.departures times x s (as_row order (without set m)) (rowed v)) next
      ∙ departures-row times (member_in (decided v.cable (without set m) s)) (without set m) v on)
      ∙ pushed (stays_on m v) (eqb m v.own) (sets.departures times (member_in (decided v.cable (without set m) s)) s (without set m) v)
    where
      next : decided_row v.cable (as_row order (without set m)) s ≡ member_in (decided v.cable (without set m) s)
      next =
          ap (λ (c : Cable). decided_row c (as_row order (without set m)) s) on
          ∙ decided-row cable kept (without set m) s low high
          ∙ sym (ap (λ (c : Cable). member_in (decided c (without set m) s)) on)

      pushed : (a b : Bool) (d : Option ℕ) → cond a (Some (as_row order set)) (cond b None (departure_row order d)) ≡ departure_row order (cond a (Some set) (cond b None d))
      pushed true b d = refl
      pushed false true d = refl
      pushed false false d = refl

-- ---- one record: its table is kept, the sender and the returning node are on it

pub record Good (s : ℕ) (v : Node) : Type 0 where
  pub kept : is_kept v.cable.n v.cable.order ≡ true
  pub low : 1 ≤ s
  pub high : s ≤ v.cable.n
  pub own : v.own ≤ v.cable.n
  pub back : v.returning ≤ v.cable.n

-- who is found, by number
found-is : (s : ℕ) → 1 ≤ s → (f : Option Found) → eqb (member_in f) s ≡ is_found s f
found-is s low (Some f) = refl
found-is s low None = ne_eqb 0 s (λ e. omega (arith, e, low))

module _ (s : ℕ) where
  -- ---- steps 1 and 2
  effect-row : (d : Digest) (heard : Reading) (v : Node) → Good s v → d.set < 2 ^ v.cable.n → v.set < 2 ^ v.cable.n
      → held.effect_of (digest_row v.cable.order d) s heard (rowed v) ≡ sets.effect_of d s heard v
  effect-row d (Err r) v g small small' = refl
  effect-row d (Ok h) v g small small' =
      ap (λ (said : Said). sets.heard_effect said h.return_bit v)
      (ap₂ (λ (b : Bool) (said : Said). cond b d.said said) (same-row v.cable.n v.cable.order g.kept d.set v.set small small') (said_row v.cable g.kept s g.low g.high h.acknowledgements v.set))

  decided-by-row : (d : Digest) (v : Node) → Good s v → d.set < 2 ^ v.cable.n → v.set < 2 ^ v.cable.n → held.decided_by (digest_row v.cable.order d) s (rowed v) ≡ sets.decided_by d s v
  decided-by-row d v g small small' =
      ap₂ (λ (b : Bool) (m : ℕ). cond b d.decided m) (same-row v.cable.n v.cable.order g.kept d.set v.set small small') (decided-row v.cable g.kept v.set s g.low g.high)

  noted-row : (heard : Bool) (v : Node) → held.noted_by s heard (rowed v) ≡ rowed (sets.noted_by s heard v)
  unfolding held.noted_by sets.noted_by
  noted-row heard v =
      either_held (eqb s v.own) _ _
      (either_held (is_following v.state && eqb v.returning 0) (rules.with_returning Knocking v.own v) v refl refl)
      (either_held (heard && eqb v.returning 0) (rules.with_returning v.state s v) v refl refl)

  taken-row : (inside : Bool) (e : Effect) (v : Node) → held.taken_by inside s e (rowed v) ≡ rowed (sets.taken_by inside s e v)
  taken-row inside e v = either_held inside (sets.marked_by e v) (sets.noted_by s e.heard v) refl (noted-row e.heard v)

  -- ---- steps 4 and 5
  joins-row : (v : Node) → Good s v → held.joins s (rowed v) ≡ steps.joins s v
  joins-row v g = by_cases (eqb v.returning 0) (λ e. rw e refl) (λ e. some (eqb-false v.returning 0 e))
    where
      some : (v.returning ≡ 0 → ⊥) → held.joins s (rowed v) ≡ steps.joins s v
      some not' =
          ap (λ (b : Bool). not (eqb v.returning 0) && b)
          (ap (λ (x : ℕ). eqb x s) (before-row v.cable g.kept v.set v.returning 1 (omega (arith, not')) g.back)
          ∙ found-is s g.low (member_before v.cable v.set v.returning 1))

  joined-row : (v : Node) → Good s v → held.joined (rowed v) ≡ rowed (steps.joined v)
  joined-row v g =
      ap (λ (r : Row). held.settled_as (state_on_list v.state) r (with v.present v.returning) (rowed v)) (with-row v.cable.n v.cable.order g.kept v.set v.returning g.back)

  join-row : (v : Node) → Good s v → held.join (rowed v) ≡ rowed (steps.join v)
  unfolding held.join steps.join
  join-row v g = either_held (is_knocking v.state && not v.return_heard) (rules.with_returning Following 0 v) (steps.joined v) refl (joined-row v g)

  settle-row : (inside : Bool) (v : Node) → Good s v → held.settle inside s (rowed v) ≡ rowed (steps.settle inside s v)
  unfolding held.settle steps.settle
  settle-row inside v g =
      tested-held (steps.too_few v) _ _ (ap (λ (m : ℕ). not (is_member v.state) && ltb m 2) (size-row v.cable.n v.cable.order g.kept v.set)) (listening-held 0 v)
      (either_held (nothing_heard v) _ _ (leave-held NothingHeard v)
      (tested-held (inside && steps.joins s v) _ v (ap (λ (b : Bool). inside && b) (joins-row v g)) (join-row v g) refl))

  -- ---- the steps in their order
  ended-row : (inside : Bool) (d : Option ℕ) (v : Node) → Good s v → held.ended inside s (departure_row v.cable.order d) (rowed v) ≡ rowed (sets.ended inside s d v)
  ended-row inside (Some set) v g = settle-row inside (rules.with_set set v) (record { kept = g.kept; low = g.low; high = g.high; own = g.own; back = g.back })
  ended-row inside None v g = leave-held Unconfirmed v

  departing-row : (inside : Bool) (m : ℕ) (v : Node) → Good s v → held.departing_by inside m s (rowed v) ≡ rowed (sets.departing_by inside m s v)
  departing-row inside m v g =
      ap (λ (d : Option Row). held.ended inside s d (rowed v)) (departures-row v.cable g.kept s g.low g.high v.cable.n m v.set v refl)
      ∙ ended-row inside (sets.departures v.cable.n m s v.set v) v g

  -- the record after steps 1 and 2
  marked-good : (e : Effect) (v : Node) → Good s v → Good s (sets.marked_by e v)
  marked-good e v g = record { kept = g.kept; low = g.low; high = g.high; own = g.own; back = g.back }

  either-good : (b : Bool) (x y : Node) → Good s x → Good s y → Good s (cond b x y)
  either-good true x y p q = p
  either-good false x y p q = q

  noted-good : (heard : Bool) (v : Node) → Good s v → Good s (sets.noted_by s heard v)
  unfolding sets.noted_by
  noted-good heard v g =
      either-good (eqb s v.own) _ _
      (either-good (is_following v.state && eqb v.returning 0) _ _ (record { kept = g.kept; low = g.low; high = g.high; own = g.own; back = g.own }) g)
      (either-good (heard && eqb v.returning 0) _ _ (record { kept = g.kept; low = g.low; high = g.high; own = g.own; back = g.high }) g)

  tracking-with-row : (inside : Bool) (e : Effect) (m : ℕ) (v : Node) → Good s v → held.tracking_with inside e m s (rowed v) ≡ rowed (sets.tracking_with inside e m s v)
  tracking-with-row inside e m v g =
      let w = sets.taken_by inside s e v in
      either_held (inside && (e.returned && eqb v.returning 0)) (rules.leave MissedReturn v) (sets.departing_by inside (decided_where inside m) s w) (leave-held MissedReturn v)
      (ap (held.departing_by inside (decided_where inside m) s) (taken-row inside e v)
      ∙ departing-row inside (decided_where inside m) w (either-good inside _ _ (marked-good e v g) (noted-good e.heard v g)))

  -- the slot of a member, following or knocking node, by a digest
  pub tracking-held : (d : Digest) (heard : Reading) (v : Node) → Good s v → d.set < 2 ^ v.cable.n → v.set < 2 ^ v.cable.n
      → held.tracking_by (digest_row v.cable.order d) s heard (rowed v) ≡ rowed (sets.tracking_by d s heard v)
  unfolding held.tracking_by sets.tracking_by
  tracking-held d heard v g small small' =
      ap (λ (inside : Bool). held.tracking_with inside (held.effect_of (digest_row v.cable.order d) s heard (rowed v)) (held.decided_by (digest_row v.cable.order d) s (rowed v)) s (rowed v))
      (has-row v.cable.n v.cable.order g.kept v.set s small')
      ∙ ap₂ (λ (e : Effect) (m : ℕ). held.tracking_with (has v.set s) e m s (rowed v)) (effect-row d heard v g small small') (decided-by-row d v g small small')
      ∙ tracking-with-row (has v.set s) (sets.effect_of d s heard v) (sets.decided_by d s v) v g
