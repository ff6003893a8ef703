-- `cover_light_c::light_number` meets its contract. Assumes nothing.
use mathlib.Core.Path.{sym, ap, ◌∙◌}
use Rattle.cover_light_c.specs.Calls.{light_number}
use Rattle.cover_light_c.proofs.light_number.Goals as goal

pub returns-in-Ok : goal.returns-in-Ok
returns-in-Ok c = ap light_number (sym c.in-Ok.is)

pub returns-in-Err : goal.returns-in-Err
returns-in-Err c = c.number.ensures ∙ ap light_number (sym c.in-Err.is)
