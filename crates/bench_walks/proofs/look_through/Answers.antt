-- Of no record nothing is gathered; a turn adds a record to the fold (`fold_next` of proofs/Partly.antt).
use Rattle.bench_orders.specs.Survey.{fold_from, members_of, gathered, no_members}
use Rattle.bench_walks.proofs.Partly.{fold_next}
use Rattle.bench_walks.proofs.look_through.Goals as goal

pub loop-i-init : goal.loop-i-init
unfolding members_of fold_from
loop-i-init c = c.no_members-m.ensures

pub loop-i-preserved : goal.loop-i-preserved
unfolding members_of
loop-i-preserved c = fold_next gathered no_members _ _ _ c.loop-i-test.true c.loop-i.invariant c.gathered-m.ensures
