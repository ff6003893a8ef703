-- `message::section_in` meets its contract: a shift by the count leaves 0 where no spare bit is set.
-- Assumes nothing.
use Rattle.message.proofs.Tests.{shifted-out}
use Rattle.message.proofs.section_in.Goals as goal

pub returns : goal.returns
returns c = simp (shifted-out, c.bits_in-bits.ensures)
