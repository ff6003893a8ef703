-- `cover_light_c::cover_light_level` meets its contract. Assumes nothing.
use mathlib.Core.Path.{sym, ap, ◌∙◌}
use Rattle.slot_table.proofs.nodeset.Tests.{failed, passed, chosen, otherwise}
use Rattle.node_record.specs.declared.Held.{Held}
use Rattle.node_record.specs.Held.{setted}
use Rattle.cover_light.specs.Light.{level_of}
use Rattle.cover_light_c.specs.Calls.{level_in, light_number}
use Rattle.cover_light_c.proofs.Laws.{record_is}
use Rattle.cover_light_c.proofs.cover_light_level.Goals as goal

pub returns-then-not-is_record : goal.returns-then-not-is_record
unfolding level_in
returns-then-not-is_record c = sym (ap light_number (otherwise _ _ (failed c.is_record.ensures c.if-not-is_record.true)))

pub held_in-held-requires : goal.held_in-held-requires
held_in-held-requires c = record_is c.args.node.now (passed c.is_record.ensures c.if-not-is_record.false)

pub returns : goal.returns
unfolding level_in
returns c =
    let a = c.args in
    c.light_number.ensures
    ∙ ap light_number
    (c.level.ensures
    ∙ ap (λ (v : Held). level_of (setted v) a.bases.now a.lamp) c.held_in-held.ensures
    ∙ sym (chosen _ _ (passed c.is_record.ensures c.if-not-is_record.false)))
