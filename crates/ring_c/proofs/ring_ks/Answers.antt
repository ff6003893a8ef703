-- `ring_c::ring_ks` meets its contract: it is what the ring answers. Assumes nothing.
use mathlib.Core.Path.{ap, ◌∙◌}
use Rattle.cable.specs.declared.Cable.{Cable}
use Rattle.ring.specs.Ring.{ks}
use Rattle.ring_c.proofs.ring_ks.Goals as goal

pub returns : goal.returns
returns c =
    let a = c.args in
    c.ks.ensures ∙ ap (λ (cable : Cable). ks cable a.c) c.plain_cable.ensures
