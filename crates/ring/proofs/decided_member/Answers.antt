-- `ring::decided_member` meets its contract: the last that is sponsored. Assumes nothing.
use mathlib.Core.Path.{ap, ◌∙◌}
use Rattle.ring.specs.Ring.{sponsored, decided}
use Rattle.ring.proofs.decided_member.Goals as goal

pub returns : goal.returns
unfolding decided
returns c =
    let a = c.args in
    c.sponsored_member.ensures ∙ ap (sponsored a.cable a.set a.x) c.sponsors.ensures
