-- `node_sending::sends` meets its contract: it makes the tests of its definition. Assumes nothing.
use Rattle.node_sending.proofs.sends.Goals as goal

pub returns : goal.returns
returns c = cc
