use Prim.Native.Nat.{ℕ}
use mathlib.Core.Path.{◌≡◌, refl, ap, ap₂, ◌∙◌}
use native.Mathlib.Omega.{arith}
use Rattle.nodeset.specs.Sets.{with}
use Rattle.row.specs.slot_table.Order.{nodes_at}
use Rattle.row.specs.Rows.{nodes_in}
use Rattle.row.proofs.Walked.{nodes-next}
use Rattle.row_sets.proofs.nodes_in.Goals as goal

pub loop-x-init : goal.loop-x-init
unfolding nodes_at
loop-x-init c = refl

pub loop-x-preserved : goal.loop-x-preserved
loop-x-preserved c =
    let l = c.loop-x in
    c.with-s.ensures ∙ ap₂ with l.invariant c.wide.ensures ∙ nodes-next l.x-index c.args.row.nodes

pub returns : goal.returns
unfolding nodes_in
returns c =
    let l = c.loop-x in
    let last : l.x-index ≡ 32 = omega arith in
    l.invariant ∙ ap (λ (k : ℕ). nodes_at k c.args.row.nodes) last
