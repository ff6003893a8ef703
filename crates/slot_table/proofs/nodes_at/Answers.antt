use Prim.Native.Nat.{ℕ, ◌+◌}
use mathlib.Core.Path.{◌≡◌, refl, sym, ap, ◌∙◌}
use mathlib.Core.List.{List}
use native.Mathlib.Numerals.{add-one}
use Rattle.nodeset.specs.Sets.{with}
use Rattle.slot_table.specs.Order.{node_at, nodes_at}
use Rattle.slot_table.proofs.nodes_at.Goals as goal

one-more : (order : List ℕ) (p set x : ℕ) → set ≡ nodes_at p order → x ≡ node_at order (p + 1) → with set x ≡ nodes_at (p + 1) order
unfolding nodes_at
one-more order p set x e f = ap (λ (s : ℕ). with s x) e ∙ ap (with (nodes_at p order)) (f ∙ ap (node_at order) (add-one p)) ∙ ap (λ (m : ℕ). nodes_at m order) (sym (add-one p))

pub loop-p-init : goal.loop-p-init
unfolding nodes_at
loop-p-init c = refl

pub loop-p-preserved : goal.loop-p-preserved
loop-p-preserved c =
    let l = c.loop-p in
    c.with-set.ensures ∙ one-more c.args.order l.p l.set c.node_at.result l.invariant c.node_at.ensures
