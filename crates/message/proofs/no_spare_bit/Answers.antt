-- `message::no_spare_bit` meets its contract: a shift by the count leaves 0 where no bit is past it. Assumes nothing.
use mathlib.Core.Path.{ap₂}
use mathlib.Core.Bool.{◌&&◌}
use Rattle.message.proofs.Tests.{shifted-out}
use Rattle.message.proofs.no_spare_bit.Goals as goal

pub returns : goal.returns
returns c = let a = c.args in ap₂ ◌&&◌ (shifted-out a.acknowledgements a.k) c.jobs_within.ensures
