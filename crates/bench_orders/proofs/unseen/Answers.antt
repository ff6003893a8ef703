-- `bench_orders::unseen` meets its contract. Assumes nothing.
use mathlib.Core.Path.{ap, ◌∙◌}
use mathlib.Core.Bool.{false}
use Rattle.cable.specs.slot_table.Order.{numbers_from, plain}
use Rattle.node.proofs.Holding.{no-node-held}
use Rattle.bench_orders.specs.Survey.{begun, no_held, unseen}
use Rattle.bench_orders.proofs.unseen.Goals as goal

pub returns : goal.returns
unfolding unseen no_held plain numbers_from
returns c = c.begun.ensures ∙ ap (begun false) no-node-held
