-- `cover_light::level` meets its contract. Assumes nothing.
use Rattle.std.specs.Prelude.{Err}
use Rattle.std.proofs.Common.{rules}
use mathlib.Core.Path.{◌≡◌, sym, ap, ◌∙◌}
use Rattle.nodeset.proofs.Tests.{otherwise}
use Rattle.node_record.specs.declared.Node.{Node}
use Rattle.node_record.specs.Soundness.{sound}
use Rattle.cover_light.specs.Light.{level_of}
use Rattle.cover_light.proofs.Records.{made, unmade}
use Rattle.cover_light.proofs.level.Goals as goal

pub level_by-requires : goal.level_by-requires
level_by-requires c =
    let m = made c.args.v c.as_set.result c.as_set.ensures _ c.in_ok-node.was in
    ap sound m.0 ∙ m.1

pub returns : goal.returns
returns c =
    let a = c.args in
    let m = made a.v c.as_set.result c.as_set.ensures _ c.in_ok-node.was in
    c.level_by.ensures ∙ ap (λ (v : Node). level_of v a.bases.now a.lamp) m.0

pub returns-in_err-node : goal.returns-in_err-node
unfolding level_of
returns-in_err-node c =
    let m = unmade c.args.v c.as_set.result c.as_set.ensures _ c.in_err-node.was in
    let refused : c.from_residual.result ≡ Err c.in_err-node.field-0.0 = search rules in
    refused ∙ ap Err m.0 ∙ sym (otherwise _ _ m.1)
