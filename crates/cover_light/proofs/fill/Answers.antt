use Prim.Native.Nat.{ℕ}
use mathlib.Core.Path.{ap, ◌∙◌}
use mathlib.Core.List.{List}
use native.Mathlib.Omega.{arith}
use lib.ListN.{set}
use Rattle.cover_light.specs.Light.{given_by}
use Rattle.cover_light.proofs.Lamps.{one-laid, all_laid}
use Rattle.cover_light.proofs.fill.Goals as goal

pub loop-i-preserved : goal.loop-i-preserved
loop-i-preserved c =
    let a = c.args in
    let l = c.loop-i in
    ap (λ (o : List ℕ). set o l.i c.given.result) l.invariant ∙ one-laid (given_by a.member a.list a.bases.now) a.n a.out.now l.i c.given.result (omega arith) (omega arith) c.given.ensures

pub returns : goal.returns
returns c =
    let a = c.args in
    let l = c.loop-i in
    l.invariant ∙ all_laid (given_by a.member a.list a.bases.now) a.n a.out.now l.i (omega arith)
