-- `ring_c::ring_decided` meets its contract: it is the number of what the ring answers. Assumes nothing.
use mathlib.Core.Path.{ap, ◌∙◌}
use Rattle.cable.specs.declared.Cable.{Cable}
use Rattle.ring.specs.Answers.{decided_of}
use Rattle.ring_c.specs.Numbers.{lookup_number}
use Rattle.ring_c.proofs.ring_decided.Goals as goal

pub returns : goal.returns
returns c =
    let a = c.args in
    c.lookup_number.ensures ∙ (ap lookup_number c.decided.ensures ∙ ap (λ (cable : Cable). lookup_number (decided_of cable a.set a.x)) c.cable-cable.ensures)
