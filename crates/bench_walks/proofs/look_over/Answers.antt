-- The survey of no record is the one that begins; a turn adds a record to the fold (`fold_next` of proofs/Partly.antt).
use Rattle.bench_orders.specs.Survey.{fold_from, survey_of, surveyed, unseen}
use Rattle.bench_walks.proofs.Partly.{fold_next}
use Rattle.bench_walks.proofs.look_over.Goals as goal

pub loop-i-init : goal.loop-i-init
unfolding survey_of fold_from
loop-i-init c = c.unseen-s.ensures

pub loop-i-preserved : goal.loop-i-preserved
unfolding survey_of
loop-i-preserved c = fold_next surveyed unseen _ _ _ c.loop-i-test.true c.loop-i.invariant c.surveyed-s.ensures
