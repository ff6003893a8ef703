-- `node::as_set` meets its contract: the nodes in a sound row are the set that it stands for. Assumes nothing.
use Rattle.std.specs.Prelude.{Ok}
use Prim.Native.Nat.{ℕ}
use mathlib.Core.Path.{sym, ap, ◌∙◌}
use Rattle.cable.specs.slot_table.Order.{numbers_from, plain}
use Rattle.ring.proofs.nodeset.Tests.{failed, passed, chosen, otherwise}
use Rattle.node_record.specs.Held.{setted}
use Rattle.node_changes.specs.Changes.{with_set}
use Rattle.node.specs.Held.{setted_of}
use Rattle.node.proofs.Holding.{set-held}
use Rattle.node.proofs.as_set.Goals as goal

pub returns-then-not-is_sound : goal.returns-then-not-is_sound
unfolding setted_of plain numbers_from
returns-then-not-is_sound c = sym (otherwise _ _ (failed c.is_sound.ensures c.if-not-is_sound.true))

pub returns : goal.returns
unfolding setted_of
returns c =
    let v = c.args.v in
    let good = passed c.is_sound.ensures c.if-not-is_sound.false in
    ap (λ (s : ℕ). Ok (with_set s (setted v))) (c.nodes_in-set.ensures ∙ set-held v good) ∙ sym (chosen _ _ good)
