-- `cover_light_c::cable_in` meets its contract. Assumes nothing.
use Rattle.cover_light_c.proofs.cable_in.Goals as goal

pub returns : goal.returns
returns c = cc
