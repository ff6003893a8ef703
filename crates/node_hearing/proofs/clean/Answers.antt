-- `node_hearing::clean` meets its contract: it makes the tests of its definition. Assumes nothing.
use Rattle.node_hearing.specs.Hearing.{clean}
use Rattle.node_hearing.proofs.clean.Goals as goal

pub returns : goal.returns
unfolding clean
returns c = cc
