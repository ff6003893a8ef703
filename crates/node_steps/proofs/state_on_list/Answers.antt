-- `node_steps::state_on_list` meets its contract, case by case. Assumes nothing.
use mathlib.Core.Path.{sym, ap}
use Rattle.node_steps.specs.Steps.{state_on_list}
use Rattle.node_steps.proofs.state_on_list.Goals as goal

pub returns-in-Out : goal.returns-in-Out
returns-in-Out c = sym (ap state_on_list c.in-Out.is)
