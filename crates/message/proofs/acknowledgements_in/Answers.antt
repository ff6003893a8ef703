-- `message::acknowledgements_in` meets its contract: the part lent to `section_in` is section one.
-- Assumes nothing.
use native.Mathlib.Omega.{arith}
use Prim.Native.Nat.{ℕ}
use mathlib.Core.Path.{sym, ap, ◌∙◌}
use lib.ListN.{take}
use lib.Seq.{length-take-le}
use Rattle.message.specs.Message.{section_in}
use Rattle.message.proofs.acknowledgements_in.Goals as goal

pub slice_bounds-section_in-end : goal.slice_bounds-section_in-end
slice_bounds-section_in-end c = sym (length-take-le _ _ (omega arith))

pub section_in-requires : goal.section_in-requires
section_in-requires c =
    let e = length-take-le c.length_one-end.result c.args.bytes.now (omega arith) in
    omega (arith, e)

pub returns : goal.returns
returns c =
    let a = c.args in
    c.section_in.ensures ∙ ap (λ (n : ℕ). section_in a.k (take n a.bytes.now)) c.length_one-end.ensures
