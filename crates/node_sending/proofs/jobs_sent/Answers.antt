-- `node_sending::jobs_sent` meets its contract: its test is that of the definition. Assumes nothing.
use mathlib.Core.Path.{sym}
use Rattle.nodeset.proofs.Tests.{failed, passed, chosen, otherwise}
use Rattle.node_sending.proofs.jobs_sent.Goals as goal

pub returns-then-not-is_member : goal.returns-then-not-is_member
returns-then-not-is_member c = sym (otherwise _ _ (failed c.is_member.ensures c.if-not-is_member.true))

pub returns : goal.returns
returns c = sym (chosen _ _ (passed c.is_member.ensures c.if-not-is_member.false))
