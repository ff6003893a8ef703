-- `slot_table::kept` meets its contract: the places copied, then those that stay 0. Assumes nothing.
use Prim.Native.Nat.{ℕ, ◌-◌}
use mathlib.Core.Path.{ap, ap₂, ◌∙◌}
use mathlib.Core.List.{List, ◌++◌}
use lib.ListN.{take, replicate}
use Rattle.std.proofs.lemmas.List.{drop-replicate}
use Rattle.slot_table.specs.Order.{kept}
use Rattle.slot_table.proofs.kept.Goals as goal

pub returns : goal.returns
unfolding kept
returns c =
    ap₂ (λ (t z : List ℕ). t ++ z) c.copy_from_slice.ensures.after (drop-replicate c.min-count.result 32 0)
    ∙ ap (λ (m : ℕ). take m c.args.order.now ++ replicate (32 - m) 0) c.min-count.ensures
