-- The greatest distance of two tables of which the one is the other renamed is the same. Assumes of the cable that its choices are in range.
use Prim.Native.Nat.{◌≤◌}
use mathlib.Core.Path.{◌≡◌, sym, ap, ap₂, ◌∙◌}
use mathlib.Core.Bool.{true}
use native.Mathlib.Omega.{arith}
use lib.ListN.{length}
use Rattle.ledger.specs.nodeset.Sets.{distance}
use Rattle.ledger.specs.cable.declared.Cable.{Cable}
use Rattle.ledger.specs.cable.Cable.{cable_fits}
use Rattle.ledger.specs.node_record.declared.Node.{Node}
use Rattle.ledger.specs.node_record.States.{is_member}
use Rattle.ledger.specs.bench.Table.{Table, record_of}
use Rattle.ledger.specs.bench.Calls.{greatest}
use Rattle.ledger.proofs.bench.Farthest.{no-greater}
use Rattle.renaming.specs.Renamed.{name_of, placed, renamed}
use Rattle.renaming.proofs.Names.{name-range, placed-range, R-distance}
use Rattle.renaming.proofs.Records.{renamed_plain}
use Rattle.renaming.proofs.Tables.{Same, by-node}

module _ (cable : Cable) (fits : cable_fits cable ≡ true) where
  open cable use {n}

  -- two records and the two of which they are renamed: members alike, and as far apart
  member_is : (v w : Node) → v ≡ renamed_plain cable w → is_member v.state ≡ is_member w.state
  unfolding renamed
  member_is v w e = ap (λ (x : Node). is_member x.state) e

  apart : (a b v w : Node) → a ≡ renamed_plain cable v → b ≡ renamed_plain cable w → distance n a.set b.set ≡ distance n v.set w.set
  unfolding renamed
  apart a b v w p q = ap₂ (λ (x y : Node). distance n x.set y.set) p q ∙ R-distance cable fits v.set w.set

  module _ (t u : Table) (S : Same cable fits t u) where
    long : length t ≡ n
    long = S.here.length-is

    long-too : length u ≡ n
    long-too = S.there.length-is

    pub distance-renamed : greatest n t ≡ greatest n u
    distance-renamed =
        let a : greatest n t ≤ greatest n u = no-greater n t u (placed cable)
        (λ x h l.
        let i : x ≤ n = omega (arith, long) in
        let r = placed-range cable fits x h i in
        (r.0, omega (arith, long-too), member_is (record_of t x) (record_of u (placed cable x)) (by-node cable fits t u S x h i)))
        (λ x y h l h' l'.
        apart (record_of t x) (record_of t y) (record_of u (placed cable x)) (record_of u (placed cable y)) (by-node cable fits t u S x h (omega (arith, long))) (by-node cable fits t u S y h' (omega (arith, long)))) in
        let b : greatest n u ≤ greatest n t = no-greater n u t (name_of cable)
        (λ x h l.
        let i : x ≤ n = omega (arith, long-too) in
        let r = name-range cable fits x h i in
        (r.0, omega (arith, long), sym (member_is (record_of t (name_of cable x)) (record_of u x) (S.its x h i))))
        (λ x y h l h' l'.
        sym (apart (record_of t (name_of cable x)) (record_of t (name_of cable y)) (record_of u x) (record_of u y) (S.its x h (omega (arith, long-too))) (S.its y h' (omega (arith, long-too))))) in
        omega arith
