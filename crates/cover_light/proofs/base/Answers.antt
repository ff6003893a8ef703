-- `cover_light::base` meets its contract. Assumes nothing.
use Prim.Native.Nat.{◌-◌}
use mathlib.Core.Path.{◌≡◌, ◌∙◌}
use native.Mathlib.Omega.{arith}
use lib.ListN.{get_or}
use borrow.Author.Rules.{rules}
use Rattle.std.proofs.lemmas.Grind.{common_steps}
use Rattle.cover_light.proofs.Lamps.{base-at, base-none}
use Rattle.cover_light.proofs.base.Goals as goal

pub returns-then-lamp-eq0 : goal.returns-then-lamp-eq0
returns-then-lamp-eq0 c = let a = c.args in base-none a.bases.now a.lamp (search rules)

pub returns : goal.returns
returns c =
    let a = c.args in
    let e : c.unwrap_or.result ≡ get_or a.bases.now (a.lamp - 1) 0 = grind (arith, common_steps) in
    e ∙ base-at a.bases.now a.lamp (omega arith)
