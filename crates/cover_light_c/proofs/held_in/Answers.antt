-- `cover_light_c::held_in` meets its contract. Assumes nothing.
use Rattle.cover_light_c.proofs.held_in.Goals as goal

pub returns : goal.returns
returns c = cc
