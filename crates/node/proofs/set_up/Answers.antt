-- `node::set_up` meets its contract. Assumes nothing.
use mathlib.Core.Path.{ap, ◌∙◌}
use lib.ListN.{length}
use Rattle.cable.specs.declared.Cable.{Cable}
use Rattle.node_reports.specs.Reports.{no_reports}
use Rattle.node_record.specs.Held.{rowed}
use Rattle.node.specs.declared.Stepped.{Stepped}
use Rattle.node.specs.Calls.{no_node, set_up_of}
use Rattle.node.specs.Held.{held_as, beside}
use Rattle.node.proofs.set_up.Goals as goal

pub returns : goal.returns
returns c =
    let a = c.args in
    c.with_counts.ensures
    ∙ ap (λ (s : Stepped). beside s no_reports)
    (c.started-stepped.ensures ∙ ap (λ (cable : Cable). held_as (rowed no_node) (set_up_of cable (length a.slots.now) a.own)) c.cable_with-cable.ensures)
