-- `ring::sponsors` meets its contract: ks of the set's members. Assumes nothing.
use mathlib.Core.Path.{ap, ◌∙◌}
use Rattle.ring.specs.Ring.{ks, sponsors}
use Rattle.ring.proofs.sponsors.Goals as goal

pub returns : goal.returns
unfolding sponsors
returns c = c.ks.ensures ∙ ap (ks c.args.cable) c.size.ensures
