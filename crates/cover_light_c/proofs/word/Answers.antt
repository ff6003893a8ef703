-- `cover_light_c::word` meets its contract. Assumes nothing.
use native.Mathlib.Omega.{arith}
use Rattle.cover_light_c.specs.Records.{word_at}
use Rattle.cover_light_c.proofs.word.Goals as goal

pub returns : goal.returns
unfolding word_at
returns c = omega arith
