-- The test that two cables are the same (specs/Cable). Assumes nothing.
use Prim.Native.Nat.{ℕ}
use mathlib.Core.Path.{◌≡◌, ap, ap₂, ◌∙◌}
use mathlib.Core.Bool.{true, ◌&&◌}
use mathlib.Core.List.{List}
use lib.Dec.{eqb}
use lib.ListN.{length}
use borrow.Author.Tests.{eqb-true, eq-eqb}
use Rattle.slot_table.proofs.nodeset.Tests.{both, all}
use Rattle.slot_table.specs.Order.{same_order}
use Rattle.slot_table.proofs.Same.{same-order, order_same}
use Rattle.cable.specs.declared.Cable.{Cable}
use Rattle.cable.specs.Cable.{same_cable}

-- the same table, where it has 32 places
pub same-is : (a b : Cable) → length a.order ≡ 32 → same_cable a b ≡ true → a ≡ b
same-is a b l e =
    let t = both (eqb a.n b.n) (eqb a.k b.k && (eqb a.m b.m && (eqb a.lag b.lag && same_order a.order b.order))) e in
    let u = both (eqb a.k b.k) (eqb a.m b.m && (eqb a.lag b.lag && same_order a.order b.order)) t.1 in
    let w = both (eqb a.m b.m) (eqb a.lag b.lag && same_order a.order b.order) u.1 in
    let y = both (eqb a.lag b.lag) (same_order a.order b.order) w.1 in
    ap₂ (λ (n k : ℕ). record { n = n; k = k; m = a.m; lag = a.lag; order = a.order }) (eqb-true a.n b.n t.0) (eqb-true a.k b.k u.0)
    ∙ ap₂ (λ (m lag : ℕ). record { n = b.n; k = b.k; m = m; lag = lag; order = a.order }) (eqb-true a.m b.m w.0) (eqb-true a.lag b.lag y.0)
    ∙ ap (λ (order : List ℕ). record { n = b.n; k = b.k; m = b.m; lag = b.lag; order = order }) (same-order a.order b.order l y.1)

pub is_same : (a b : Cable) → a ≡ b → same_cable a b ≡ true
is_same a b e =
    all (eq-eqb a.n b.n (ap (λ (c : Cable). c.n) e))
    (all (eq-eqb a.k b.k (ap (λ (c : Cable). c.k) e))
    (all (eq-eqb a.m b.m (ap (λ (c : Cable). c.m) e))
    (all (eq-eqb a.lag b.lag (ap (λ (c : Cable). c.lag) e))
    (order_same a.order b.order (ap (λ (c : Cable). c.order) e)))))
