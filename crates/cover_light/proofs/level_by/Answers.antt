-- `cover_light::level_by` meets its contract. Assumes nothing.
use Rattle.std.specs.Prelude.{Ok}
use mathlib.Core.Path.{sym, ap, ◌∙◌}
use mathlib.Core.Bool.{Bool}
use Prim.Native.Nat.{ℕ}
use native.Mathlib.Omega.{arith}
use Rattle.nodeset.proofs.Tests.{failed, passed, chosen, otherwise}
use Rattle.cable.proofs.Ranges.{node-number}
use Rattle.cover_light.specs.Light.{given_by, lamp_level, level_of}
use Rattle.cover_light.proofs.Records.{few-lamps}
use Rattle.cover_light.proofs.level_by.Goals as goal

pub returns-then-not-is_node_number : goal.returns-then-not-is_node_number
unfolding level_of
returns-then-not-is_node_number c =
    sym (chosen _ _ c.requires ∙ otherwise _ _ (failed c.is_node_number.ensures c.if-not-is_node_number.true))

pub returns-then-not-bases_fit : goal.returns-then-not-bases_fit
unfolding level_of
returns-then-not-bases_fit c =
    sym (chosen _ _ c.requires
    ∙ chosen _ _ (passed c.is_node_number.ensures c.if-not-is_node_number.false)
    ∙ otherwise _ _ (failed c.bases_fit.ensures c.if-not-bases_fit.true))

pub given-requires : goal.given-requires
given-requires c =
    let lamp = node-number c.args.v.cable.n c.args.lamp (passed c.is_node_number.ensures c.if-not-is_node_number.false) in
    (lamp.0, omega (arith, lamp.1, few-lamps c.args.v c.requires))

pub returns : goal.returns
unfolding level_of lamp_level
returns c =
    let a = c.args in
    ap (λ (x : ℕ). Ok x) (c.given.ensures ∙ ap (λ (m : Bool). given_by m a.v.set a.bases.now a.lamp) c.is_member.ensures)
    ∙ sym (chosen _ _ c.requires
    ∙ chosen _ _ (passed c.is_node_number.ensures c.if-not-is_node_number.false)
    ∙ chosen _ _ (passed c.bases_fit.ensures c.if-not-bases_fit.false))
