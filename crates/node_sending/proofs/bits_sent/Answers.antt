-- `node_sending::bits_sent` meets its contract: its test is that of the definition. Assumes nothing.
use mathlib.Core.Path.{sym, ◌∙◌}
use Rattle.nodeset.proofs.Tests.{told, chosen, otherwise}
use Rattle.node_sending.specs.Held.{bits_sent}
use Rattle.node_sending.proofs.bits_sent.Goals as goal

pub returns-then-is_member : goal.returns-then-is_member
unfolding bits_sent
returns-then-is_member c =
    c.mark_bits.ensures ∙ sym (chosen _ _ (told c.is_member.ensures c.if-is_member.true))

pub returns : goal.returns
unfolding bits_sent
returns c = sym (otherwise _ _ (told c.is_member.ensures c.if-is_member.false))
