-- `ring_c::ring_before_back` meets its contract: it is the distance in what the ring answers. Assumes nothing.
use mathlib.Core.Path.{ap, ◌∙◌}
use Rattle.cable.specs.declared.Cable.{Cable}
use Rattle.ring.specs.Answers.{before_of}
use Rattle.ring_c.specs.Numbers.{lookup_back}
use Rattle.ring_c.proofs.ring_before_back.Goals as goal

pub returns : goal.returns
returns c =
    let a = c.args in
    c.lookup_back.ensures ∙ (ap lookup_back c.before-2.ensures ∙ ap (λ (cable : Cable). lookup_back (before_of cable a.set a.x a.j)) c.cable-cable.ensures)
