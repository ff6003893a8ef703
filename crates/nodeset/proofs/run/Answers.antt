-- `nodeset::run` meets its contract: the zeros below the complement's lowest one are the run of ones. Assumes nothing.
use borrow.Author.Rules.{rules}
use Rattle.nodeset.proofs.Counts.{trailing-run}
use Rattle.nodeset.proofs.run.Goals as goal

pub returns : goal.returns
returns c = trailing-run 32 c.args.s (search rules)
