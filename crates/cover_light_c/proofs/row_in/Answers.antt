-- `cover_light_c::row_in` meets its contract. Assumes nothing.
use Rattle.cover_light_c.proofs.row_in.Goals as goal

pub returns : goal.returns
returns c = cc
