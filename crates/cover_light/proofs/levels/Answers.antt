-- `cover_light::levels` meets its contract. Assumes nothing.
use Rattle.std.specs.Prelude.{Err}
use Rattle.std.proofs.Common.{rules}
use mathlib.Core.Path.{◌≡◌, ap, ◌∙◌}
use Rattle.refusal.specs.declared.Refusal.{Refusal}
use Rattle.message.specs.Answers.{Written}
use Rattle.node_record.specs.declared.Node.{Node}
use Rattle.node_record.specs.Soundness.{sound}
use Rattle.cover_light.specs.Light.{levels_of}
use Rattle.cover_light.proofs.Records.{made, unmade}
use Rattle.cover_light.proofs.Lamps.{levels-unsound}
use Rattle.cover_light.proofs.levels.Goals as goal

pub levels_by-requires : goal.levels_by-requires
levels_by-requires c =
    let m = made c.args.v c.as_set.result c.as_set.ensures _ c.in_ok-node.was in
    ap sound m.0 ∙ m.1

pub returns : goal.returns
returns c =
    let a = c.args in
    let m = made a.v c.as_set.result c.as_set.ensures _ c.in_ok-node.was in
    c.levels_by.ensures ∙ ap (λ (v : Node). levels_of v a.bases.now a.out.now) m.0

pub returns-in_err-node : goal.returns-in_err-node
returns-in_err-node c =
    let a = c.args in
    let m = unmade a.v c.as_set.result c.as_set.ensures _ c.in_err-node.was in
    let refused : c.from_residual.result ≡ Err c.in_err-node.field-0.0 = search rules in
    ap (λ (w : Written). (w, a.out.now)) refused
    ∙ ap (λ (x : Refusal). (Err x, a.out.now)) m.0
    ∙ levels-unsound _ a.bases.now a.out.now m.1
