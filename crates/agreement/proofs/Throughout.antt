-- The distance that the bench's call tells, of a look and of a slot, is 0 after each call of a sequence that keeps the premises. Assumes nothing.
use Rattle.std.specs.Prelude.{Err, Ok}
use Prim.Native.Nat.{ℕ, ◌≤◌}
use mathlib.Core.Path.{◌≡◌, sym, ap, ◌∙◌, subst}
use mathlib.Core.Bool.{true, false≢true}
use mathlib.Core.List.{List, [], ◌∷◌}
use native.Mathlib.Omega.{arith}
use lib.ListN.{length}
use Rattle.bench.specs.nodeset.Sets.{distance}
use Rattle.bench.specs.cable.declared.Cable.{Cable}
use Rattle.bench.proofs.cable.Ranges.{ring-size, fitting}
use Rattle.bench.proofs.Ledgers.{given_made}
use Rattle.bench.specs.node.Answers.{Answer}
use Rattle.bench.specs.node.Calls.{is_done}
use Rattle.bench.specs.Table.{Table, record_of, node_count}
use Rattle.bench.specs.Calls.{set_up_of, slot_of, look_of, greatest, Called}
use Rattle.bench.specs.Outcomes.{slot_outcome, ended_of}
use Rattle.bench.specs.Runs.{Call, slot, off, restart, call_of, table_after}
use Rattle.agreement.specs.Demand.{AtEach, AfterEach, MemberAt, Agree, EverySequence}
use Rattle.agreement.specs.Distance.{NoDistance, LookTells, SlotTells, NoDistanceTold}
use Rattle.bench.proofs.Places.{Placed}
use Rattle.bench.proofs.Farthest.{least}
use Rattle.bench.proofs.Runs.{start-placed, never-unsound, run_length}
use Rattle.agreement.proofs.Demanded.{demand3}

-- ---- the distance of tables whose lists agree

-- "all lists of member-state nodes are equal" as the bench tells it
pub nothing-apart : (n : ℕ) (t : Table) → length t ≡ n
    → ((i j : ℕ) → MemberAt n t i → MemberAt n t j → distance n (record_of t i).set (record_of t j).set ≡ 0)
    → greatest n t ≡ 0
nothing-apart n t l h =
    let z : greatest n t ≤ 0 = least n 0 t (λ i j a b c d p q. omega (arith, h i j (a, omega arith, p) (c, omega arith, q))) in
    omega arith

-- ---- after each call

also-each : (P Q : Call → List Call → Type 0) → ((c : Call) (cs : List Call) → P c cs → Q c cs) → (cs : List Call) → AtEach P cs → AtEach Q cs
unfolding AtEach
also-each P Q h [] a = tt
also-each P Q h (c ∷ cs) a = (also-each P Q h cs a.0, h c cs a.1)

module _ (cable : Cable) (pos : 1 ≤ cable.n) (start : Table) (begins : Placed cable 0 start) where
  open cable use {n}

  -- as the bench's call works it out
  told-zero : (cs : List Call) → Agree cable start cs → greatest (node_count (table_after start cs)) (table_after start cs) ≡ 0
  told-zero cs h =
      let l : node_count (table_after start cs) ≡ n = run_length cable pos start begins cs in
      ap (λ (m : ℕ). greatest m (table_after start cs)) l ∙ nothing-apart n (table_after start cs) l h

  look-tells : (cs : List Call) → Agree cable start cs → LookTells cable start cs
  unfolding ended_of look_of
  look-tells cs h lost slots room = rw (never-unsound cable pos start begins cs) (told-zero cs h)

  slot-tells : (c : Call) (cs : List Call) → Agree cable start (c ∷ cs) → SlotTells cable start c cs
  unfolding ended_of table_after call_of
  slot-tells (slot lost missed room) cs h = λ jobs slots e.
      let t = table_after start cs in
      let is = given_made lost missed jobs room t e in
      subst (λ (c : Called). NoDistance (slot_outcome lost t c.table c.answer)) (sym is) (go (slot_of lost missed room t).answer (sym (ap (λ (c : Called). is_done c.answer) is) ∙ e))
    where
      go : (a : Answer) → is_done a ≡ true → NoDistance (slot_outcome lost (table_after start cs) (slot_of lost missed room (table_after start cs)).table a)
      go (Ok _) e = told-zero (slot lost missed room ∷ cs) h
      go (Err cause) e = absurd (false≢true e)
  slot-tells (off a) cs h = tt
  slot-tells (restart a) cs h = tt

pub distance-throughout : NoDistanceTold
unfolding EverySequence
distance-throughout cable fits lent one_each cs p = record {
  looks = (look-tells cable pos first placed [] agree.0, also-each _ _ (λ c x h. look-tells cable pos first placed (c ∷ x) h) cs agree.1);
  slots = also-each _ _ (λ c x h. slot-tells cable pos first placed c x h) cs agree.1;
}
  where
    first : Table
    first = (set_up_of cable lent).table

    placed : Placed cable 0 first
    placed = start-placed cable fits lent one_each

    pos : 1 ≤ cable.n
    pos = omega (arith, ring-size cable.n (fitting cable fits).ring)

    agree : AfterEach (Agree cable first) cs
    agree = (demand3 cable fits lent one_each cs p).agree
