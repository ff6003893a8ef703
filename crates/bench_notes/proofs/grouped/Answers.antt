use Prim.Native.Nat.{min}
use mathlib.Core.Path.{◌≡◌, refl}
use native.Mathlib.Omega.{arith}
use native.Mathlib.Numerals.{add-one}
use Rattle.bench_notes.specs.Notes.{grouped_to}
use Rattle.bench_notes.proofs.grouped.Goals as goal

pub loop-i-init : goal.loop-i-init
unfolding grouped_to
loop-i-init c = refl

pub loop-i-preserved : goal.loop-i-preserved
unfolding grouped_to
loop-i-preserved c = rw (add-one c.loop-i.i) (cc)

pub returns : goal.returns
returns c =
    let all : c.loop-i.i ≡ min c.args.all.count 32 = omega arith in
    rw (← all) c.loop-i.invariant
