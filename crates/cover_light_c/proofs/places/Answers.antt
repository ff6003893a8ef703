-- `cover_light_c::places` meets its contract. Assumes nothing.
use Prim.Native.Nat.{◌+◌, ◌-◌}
use mathlib.Core.Path.{◌∙◌}
use native.Mathlib.Omega.{arith}
use Rattle.cover_light_c.proofs.Laws.{part-kept}
use Rattle.cover_light_c.proofs.places.Goals as goal

pub returns : goal.returns
returns c = let a = c.args in c.kept.ensures ∙ part-kept a.bytes.now a.at (a.at + 32 - a.at) (omega arith) (omega arith)
