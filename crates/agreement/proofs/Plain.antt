-- Without lag demand 3 is the one of document 01 (specs/Plain). Assumes nothing.
use Rattle.std.specs.Prelude.{None}
use Prim.Native.Nat.{ℕ, ◌-◌}
use mathlib.Core.Path.{refl, ap}
use mathlib.Core.Bool.{cond, ◌&&◌}
use native.Mathlib.Nat.{add-zero}
use lib.Dec.{eqb, leb}
use borrow.Author.Tests.{le-leb}
use Rattle.bench.proofs.nodeset.Tests.{all}
use Rattle.bench.specs.ring.Ring.{sender, member_before, sponsors, sponsored}
use Rattle.bench.proofs.cable.Ranges.{fits_by}
use Rattle.bench.specs.Table.{slots_of, speaker}
use Rattle.bench.specs.Runs.{is_slot, list_of, table_after}
use Rattle.agreement.specs.Demand.{member_after, KeepsListOn, is_deciding, EverySequence}
use Rattle.agreement.specs.Plain.{plain, Demand3Plain}
use Rattle.agreement.proofs.Demanded.{demand3}

pub demand3-plain : Demand3Plain
unfolding sponsored KeepsListOn is_deciding EverySequence
demand3-plain n k m order = record {
  ks-is = λ c. refl;
  sponsored-is = λ set x j. ap (λ (i : ℕ). cond (leb 1 j && leb j (sponsors (plain n k m order) set)) (member_before (plain n k m order) set x i) None) (add-zero j);
  keeps-is = λ run c cs. refl;
  deciding-is = λ start s c cs.
      ap (λ (j : ℕ). is_slot c (table_after start cs) && (leb s (slots_of (table_after start cs)) && eqb (member_after (plain n k m order) (list_of (table_after start cs)) (sender (plain n k m order) s) j) (speaker (table_after start cs)))) (add-zero k);
  demand = λ ring low high jobs kept.
      demand3 (plain n k m order) (fits_by (plain n k m order) (record { ring = ring; lag = refl; sponsors = all (le-leb 2 k low) (le-leb k (n - 1) high); jobs = jobs; order = kept }));
}
