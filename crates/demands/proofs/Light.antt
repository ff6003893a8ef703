-- The lists agree, so the levels do. Assumes nothing.
use Rattle.std.specs.Prelude.{Ok}
use Prim.Native.Nat.{ℕ, ◌^◌, ◌≤◌, ◌<◌}
use mathlib.Core.Path.{◌≡◌, sym, ap, ◌∙◌}
use mathlib.Core.List.{List, [], ◌∷◌}
use native.Mathlib.Omega.{arith}
use Rattle.cover_light.proofs.nodeset.Counts.{distance-zero}
use Rattle.cover_light.specs.cable.declared.Cable.{Cable}
use Rattle.cover_light.specs.cable.Cable.{node_number}
use Rattle.cover_light.proofs.cable.Ranges.{ring-size, fitting}
use Rattle.cover_light.specs.node_record.declared.Node.{Node}
use Rattle.cover_light.proofs.node_record.Holding.{set-small}
use Rattle.agreement.specs.bench.Table.{Table, record_of, slots_of}
use Rattle.agreement.specs.bench.Calls.{set_up_of}
use Rattle.agreement.specs.bench.Runs.{Call, table_after}
use Rattle.agreement.proofs.bench.Places.{Placed, InPlace}
use Rattle.agreement.proofs.bench.Runs.{start-placed, placed-run}
use Rattle.agreement.specs.Demand.{AtEach, AfterEach, MemberAt, Agree, EverySequence}
use Rattle.agreement.proofs.Beginnings.{after-each}
use Rattle.agreement.proofs.Demanded.{demand3}
use Rattle.cover_light.specs.Light.{bases_fit}
use Rattle.cover_light.specs.Promises.{Alike}
use Rattle.cover_light.proofs.Promises.{cover-light, given-by, member-level}
use Rattle.demands.specs.Light.{SameLight, LightAgrees}

-- what holds after each call holds after the last
at_last : (P : List Call → Type 0) (cs : List Call) → AfterEach P cs → P cs
unfolding AtEach
at_last P [] a = a.0
at_last P (c ∷ cs) a = a.1.1

module _ (cable : Cable) (start : Table) (cs : List Call) (P : Placed cable (slots_of (table_after start cs)) (table_after start cs)) (agree : Agree cable start cs) where
  open cable use {n}

  at : (i : ℕ) → Node
  at i = record_of (table_after start cs) i

  placed : (i : ℕ) → MemberAt n (table_after start cs) i → InPlace cable (slots_of (table_after start cs)) i (at i)
  unfolding at
  placed i m = P.at i m.0 m.1

  lamps : (i : ℕ) → MemberAt n (table_after start cs) i → (at i).cable.n ≡ n
  lamps i m = ap (λ (c : Cable). c.n) (placed i m).cable-is

  alike : (i j : ℕ) → MemberAt n (table_after start cs) i → MemberAt n (table_after start cs) j → Alike (at i) (at j)
  unfolding at
  alike i j p q = record {
    one-sound = (placed i p).is-sound;
    other-sound = (placed j q).is-sound;
    one = p.2;
    other = q.2;
    lamps = lamps i p ∙ sym (lamps j q);
    list = distance-zero n (at i).set (at j).set (below i p) (below j q) (agree i j p q);
  }
    where
      below : (i : ℕ) → MemberAt n (table_after start cs) i → (at i).set < 2 ^ n
      below i m = rw (lamps i m) at (set-small (at i) (placed i m).is-sound)

  same : SameLight cable start cs
  unfolding at
  same = record {
    level = λ i j p q. cover-light.same-level (at i) (at j) (alike i j p q);
    levels = λ i j p q. cover-light.same-levels (at i) (at j) (alike i j p q);
    worked-out = λ i m bases lamp l f.
        given-by (at i) bases lamp (placed i m).is-sound (ap (λ (x : ℕ). node_number x lamp) (lamps i m) ∙ l) (ap (λ (x : ℕ). bases_fit x bases) (lamps i m) ∙ f)
        ∙ ap (λ (x : ℕ). Ok x) (member-level (at i) bases lamp m.2);
  }

pub light-agrees : LightAgrees
unfolding EverySequence
light-agrees cable fits lent one_each cs p =
    after-each cable pos first begins (SameLight cable first) (λ x q. same cable first x (placed-run cable pos first begins x) (at_last (Agree cable first) x (demand3 cable fits lent one_each x q).agree)) cs p
  where
    first : Table
    first = (set_up_of cable lent).table

    pos : 1 ≤ cable.n
    pos = omega (arith, ring-size cable.n (fitting cable fits).ring)

    begins : Placed cable 0 first
    begins = start-placed cable fits lent one_each
