-- `node::restart` meets its contract: its tests are in the table's order. Assumes nothing.
use Rattle.std.specs.Prelude.{Ok}
use mathlib.Core.Path.{◌≡◌, sym, ap, ◌∙◌}
use mathlib.Core.Bool.{true}
use Rattle.ring.proofs.nodeset.Tests.{chosen}
use Rattle.node_record.specs.declared.Held.{Held}
use Rattle.node_record.specs.States.{is_out}
use Rattle.node_record.specs.Soundness.{sound}
use Rattle.node_record.specs.Held.{setted}
use Rattle.node_changes.specs.Changes as rules
use Rattle.node_changes.specs.Held as changes
use Rattle.node_changes.proofs.Holding.{listening-held}
use Rattle.node.specs.Calls.{restart_of}
use Rattle.node.specs.Held.{held_as}
use Rattle.node.proofs.Holding.{on-held}
use Rattle.node.proofs.restart.Goals as goal

pub returns : goal.returns
unfolding restart_of
returns c =
    let v = c.args.v in
    let good : sound (setted v) ≡ true = cc in
    let out : is_out v.state ≡ true = cc in
    ap (λ (x : Held). record { node = x; answer = Ok tt }) (c.fresh-w.ensures ∙ on-held v good changes.fresh rules.fresh (listening-held 0))
    ∙ sym (ap (held_as v) (chosen _ _ good ∙ chosen _ _ out))
