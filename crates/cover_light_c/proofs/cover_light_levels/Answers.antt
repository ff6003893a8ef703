-- `cover_light_c::cover_light_levels` meets its contract. Assumes nothing.
use Prim.Native.Nat.{ℕ}
use mathlib.Core.Path.{sym, ap, ◌∙◌, subst}
use Rattle.slot_table.proofs.nodeset.Tests.{failed, passed}
use Rattle.message.specs.Message.{Outcome}
use Rattle.node_record.specs.declared.Held.{Held}
use Rattle.node_record.specs.Held.{setted}
use Rattle.cover_light.specs.Light.{levels_of}
use Rattle.cover_light_c.specs.Calls.{Few, outcome_number}
use Rattle.cover_light_c.proofs.Laws.{record_is, few-levels, no_record, on-record}
use Rattle.cover_light_c.proofs.cover_light_levels.Goals as goal

pub returns-then-not-is_record : goal.returns-then-not-is_record
returns-then-not-is_record c =
    let a = c.args in
    ap outcome_number (no_record a.node.now a.bases.now a.out.now (failed c.is_record.ensures c.if-not-is_record.true))

pub held_in-held-requires : goal.held_in-held-requires
held_in-held-requires c = record_is c.args.node.now (passed c.is_record.ensures c.if-not-is_record.false)

pub written_number-requires : goal.written_number-requires
written_number-requires c = subst (λ (o : Outcome). Few o.0) (sym c.levels-written.ensures) (few-levels _ _ _)

pub returns : goal.returns
returns c =
    let a = c.args in
    ap (λ (x : ℕ). (x, c.levels-written.new.out)) c.written_number.ensures
    ∙ ap outcome_number
    (c.levels-written.ensures
    ∙ ap (λ (v : Held). levels_of (setted v) a.bases.now a.out.now) c.held_in-held.ensures
    ∙ on-record a.node.now a.bases.now a.out.now (passed c.is_record.ensures c.if-not-is_record.false))
