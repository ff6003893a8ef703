-- `node_steps::joined` meets its contract: it makes the record of its definition. Assumes nothing.
use Rattle.node_steps.proofs.joined.Goals as goal

pub returns : goal.returns
returns c = simp (c.state_on_list.ensures, c.with.ensures, c.with-2.ensures)
