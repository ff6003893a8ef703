-- `cover_light_c::window_in` meets its contract. Assumes nothing.
use Rattle.cover_light_c.proofs.window_in.Goals as goal

pub returns : goal.returns
returns c = cc
