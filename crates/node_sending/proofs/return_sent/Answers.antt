-- `node_sending::return_sent` meets its contract: it makes the tests of its definition. Assumes nothing.
use Rattle.node_sending.proofs.return_sent.Goals as goal

pub returns : goal.returns
returns c = cc
