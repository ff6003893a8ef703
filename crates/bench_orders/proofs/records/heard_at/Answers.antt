-- `bench_orders::records::heard_at` meets its contract: its test is that of the definition. Assumes nothing.
use mathlib.Core.Path.{sym}
use Rattle.nodeset.proofs.Tests.{told, chosen, otherwise}
use Rattle.bench_orders.proofs.records.heard_at.Goals as goal

pub returns-then-has : goal.returns-then-has
returns-then-has c = sym (chosen _ _ (told c.has.ensures c.if-has.true))

pub returns : goal.returns
returns c = sym (otherwise _ _ (told c.has.ensures c.if-has.false))
