-- `node_record::as_row` meets its contract. Assumes nothing.
use Rattle.node_record.proofs.as_row.Goals as goal

pub returns : goal.returns
returns c = cc c.as_row.ensures
