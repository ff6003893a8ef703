-- `row::same` meets its contract: length and places are compared. Assumes nothing.
use borrow.Author.Rules.{rules}
use mathlib.Core.Path.{ap}
use mathlib.Core.Bool.{Bool, ◌&&◌}
use lib.Dec.{eqb}
use Rattle.std.proofs.lemmas.Bool.Decides.{same_from_decides, Decides-eqb}
use Rattle.std.proofs.lemmas.Slice.Eq.{slice_eq-Decides}
use Rattle.ring.specs.slot_table.Order.{same_order}
use Rattle.ring.proofs.slot_table.Same.{same-order, order_same}
use Rattle.row.proofs.same.Goals as goal

pub returns : goal.returns
returns c =
    let a = c.args in
    let p = a.a.nodes in
    let q = a.b.nodes in
    ap (λ (b : Bool). eqb a.a.length a.b.length && b)
    (same_from_decides _ (same_order p q) (slice_eq-Decides Decides-eqb p q c.eq.result c.eq.ensures) (same-order p q (search rules), order_same p q))
