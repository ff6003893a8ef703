-- What a call's parts give, put together (`call-run` of proofs/Kept.antt).
use Rattle.bench_calls.proofs.Kept.{call-run}
use Rattle.bench_calls.proofs.call.Goals as goal

pub returns : goal.returns
returns c =
    call-run c.args.command c.args.slots.now c.args.table.now c.args.ledger.now c.args.counts.now c.args.pairs.now
    c.cable_in-cable.result c.look_over-survey.result c.fits-fit.result c.beside-beside.result c.order_of-order.result c.sent_with-errand.result c.carry-work.new.table c.carry-work.result
    c.enter.new.ledger c.report.new.counts c.tell.result c.tell.new.pairs
    c.cable_in-cable.ensures c.look_over-survey.ensures c.fits-fit.ensures c.beside-beside.ensures c.order_of-order.ensures c.sent_with-errand.ensures c.carry-work.ensures
    c.enter.ensures c.report.ensures c.tell.ensures
