-- `cover_light::worked` meets its contract: three bytes add up to no more than a word holds. Assumes nothing.
use native.Mathlib.Omega.{arith}
use Rattle.cover_light.specs.Light.{worked}
use Rattle.cover_light.proofs.worked.Goals as goal

pub returns : goal.returns
unfolding worked
returns c = omega arith
