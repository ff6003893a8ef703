-- `ring::member_before` meets its contract: the place that the walk reaches says what it finds. Assumes nothing.
use mathlib.Core.Path.{ap, ◌∙◌}
use Rattle.ring.specs.declared.Place.{Place}
use Rattle.ring.specs.Ring.{member_before}
use Rattle.ring.specs.Places.{start_at, reach, found_at}
use Rattle.ring.proofs.Places.{reach-finds}
use Rattle.ring.proofs.member_before.Goals as goal

pub returns : goal.returns
unfolding member_before
returns c =
    let a = c.args in
    c.found_at.ensures
    ∙ ap (found_at a.cable.n) c.walk-place.ensures
    ∙ ap (λ (p : Place). found_at a.cable.n (reach p.left a.cable a.set p.place a.j)) c.start_at-start.ensures
    ∙ reach-finds (start_at a.cable a.x).left a.cable a.set (start_at a.cable a.x).place a.j
