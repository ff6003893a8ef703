-- `bench_orders::surveys::sender_after` meets its contract: it takes the number out of the answer. Assumes nothing.
use mathlib.Core.Path.{ap}
use Rattle.bench_orders.specs.Survey.{node_in, sender_after}
use Rattle.bench_orders.proofs.surveys.sender_after.Goals as goal

pub returns-in-Ok : goal.returns-in-Ok
unfolding sender_after
returns-in-Ok c = ap node_in c.in-Ok.ensures

pub returns-in-Err : goal.returns-in-Err
unfolding sender_after
returns-in-Err c = ap node_in c.in-Err.ensures
