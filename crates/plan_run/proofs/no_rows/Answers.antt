-- `plan_run::no_rows` meets its contract: no node has a table of zeros and an empty row. Assumes nothing.
use mathlib.Core.Path.{ap}
use lib.ListN.{replicate}
use Rattle.cable.specs.slot_table.Order.{numbers_from, plain}
use Rattle.node_record.specs.declared.Held.{Held}
use Rattle.node.proofs.Holding.{no-node-held}
use Rattle.plan_run.proofs.no_rows.Goals as goal

pub returns : goal.returns
unfolding plain numbers_from
returns c = ap (λ (v : Held). replicate 32 v) no-node-held
