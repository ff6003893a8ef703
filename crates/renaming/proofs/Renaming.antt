-- A run with a slot table is the plain run with the nodes renamed: the records, the distance, the answers of the calls, the pairs of each slot, the ledger and the counts of failure reports, after any calls. Assumes nothing.
use Prim.Native.Nat.{ℕ}
use mathlib.Core.Path.{◌≡◌, sym, ap, ap₂, ◌∙◌}
use mathlib.Core.Bool.{true}
use mathlib.Core.List.{List, ◌∷◌}
use native.Mathlib.Omega.{arith}
use lib.ListN.{length}
use Rattle.ledger.specs.slot_table.Order.{place}
use Rattle.ledger.specs.cable.declared.Cable.{Cable}
use Rattle.ledger.specs.cable.Cable.{node_number, cable_fits}
use Rattle.ledger.proofs.cable.Ranges.{node-number}
use Rattle.ledger.specs.node_record.declared.Node.{Node}
use Rattle.ledger.specs.node_record.declared.State.{State}
use Rattle.ledger.specs.bench.Table.{Table, record_of}
use Rattle.ledger.specs.bench.Pairs.{pairs_in}
use Rattle.ledger.specs.bench.Runs.{Call}
use Rattle.renaming.specs.Renamed.{placed, renamed, ran, ran_plain, is_told, Renamed}
use Rattle.renaming.proofs.Names.{placed-in, placed-range}
use Rattle.renaming.proofs.Records.{is_plain}
use Rattle.renaming.proofs.Tables.{by-node, call-alike, run-same}
use Rattle.renaming.proofs.Distances.{distance-renamed}
use Rattle.renaming.proofs.Pairs.{told_of, told-pairs}
use Rattle.renaming.proofs.Figures.{ledgers-are, counts-are}

module _ (cable : Cable) (fits : cable_fits cable ≡ true) (lent other : Table) (one_each : length lent ≡ cable.n) (one-too : length other ≡ cable.n) where
  open cable use {n, order}

  abbrev run : List Call → Table
  run cs = ran cable lent cs

  abbrev plain_run : List Call → Table
  plain_run cs = ran_plain cable other cs

  records-are : (cs : List Call) (x : ℕ) → node_number n x ≡ true → record_of (run cs) x ≡ renamed cable (record_of (plain_run cs) (place order x))
  records-are cs x e =
      let r = node-number n x e in
      let s = placed-range cable fits x r.0 r.1 in
      let S = run-same cable fits lent other one_each one-too cs in
      by-node cable fits (run cs) (plain_run cs) S x r.0 r.1
      ∙ ap (renamed cable) (sym (is_plain cable (record_of (plain_run cs) (placed cable x)) (S.there.at (placed cable x) s.0 s.1).cable-is))
      ∙ ap (λ (p : ℕ). renamed cable (record_of (plain_run cs) p)) (placed-in cable fits x r.0 r.1)

  states-are : (cs : List Call) (x : ℕ) → node_number n x ≡ true → (record_of (run cs) x).state ≡ (record_of (plain_run cs) (place order x)).state
  unfolding renamed
  states-are cs x e = ap (λ (v : Node). v.state) (records-are cs x e)

  changes-are : (c : Call) (cs : List Call) (x kind : ℕ) → node_number n x ≡ true
      → is_told x kind (pairs_in (run cs) (run (c ∷ cs))) ≡ is_told (place order x) kind (pairs_in (plain_run cs) (plain_run (c ∷ cs)))
  changes-are c cs x kind e =
      let r = node-number n x e in
      let z : placed cable x ≡ place order x = placed-in cable fits x r.0 r.1 in
      let s = placed-range cable fits x r.0 r.1 in
      let S = run-same cable fits lent other one_each one-too cs in
      let T = run-same cable fits lent other one_each one-too (c ∷ cs) in
      told-pairs x kind (run cs) (run (c ∷ cs)) r.0 (omega (arith, r.1, S.here.length-is)) (S.here.length-is ∙ sym T.here.length-is)
      ∙ ap₂ (λ (a b : State). told_of kind a b) (states-are cs x e) (states-are (c ∷ cs) x e)
      ∙ sym (told-pairs (place order x) kind (plain_run cs) (plain_run (c ∷ cs)) (omega (arith, s.0)) (omega (arith, s.1, S.there.length-is)) (S.there.length-is ∙ sym T.there.length-is))

pub as-renamed : Renamed
as-renamed cable fits lent other one_each one-too = record {
  records = records-are cable fits lent other one_each one-too;
  distances = λ cs. distance-renamed cable fits (ran cable lent cs) (ran_plain cable other cs) (run-same cable fits lent other one_each one-too cs);
  answers = λ c cs. (call-alike cable fits (ran cable lent cs) (ran_plain cable other cs) (run-same cable fits lent other one_each one-too cs) c).answers;
  changes = changes-are cable fits lent other one_each one-too;
  ledgers = ledgers-are cable fits lent other one_each one-too;
  counts = counts-are cable fits lent other one_each one-too;
}
