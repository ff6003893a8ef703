-- `message_c::message_read_two` meets its contract. Assumes nothing.
use mathlib.Core.Path.{ap, ◌∙◌}
use Rattle.message_c.specs.Numbers.{received_number}
use Rattle.message_c.proofs.message_read_two.Goals as goal

pub returns : goal.returns
returns c = c.reading_number.ensures ∙ ap received_number c.read_two-received.ensures
