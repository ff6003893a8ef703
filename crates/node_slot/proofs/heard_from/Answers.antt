-- `node_slot::heard_from` meets its contract: its test is that of the definition. Assumes nothing.
use mathlib.Core.Path.{sym}
use borrow.Author.Tests.{eq-eqb, ne_eqb}
use Rattle.node_record.proofs.nodeset.Tests.{chosen, otherwise}
use Rattle.node_slot.proofs.heard_from.Goals as goal

pub returns-then-s-v : goal.returns-then-s-v
returns-then-s-v c = sym (chosen _ _ (eq-eqb _ _ c.if-s-v.true))

pub returns : goal.returns
returns c = sym (otherwise _ _ (ne_eqb _ _ c.if-s-v.false))
