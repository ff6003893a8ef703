-- `message::put_acknowledgements` meets its contract: the part that was lent comes back as the section.
-- Assumes nothing.
use mathlib.Core.Path.{sym}
use native.Mathlib.Omega.{arith}
use lib.Seq.{length-take-le}
use Rattle.message.proofs.Parts.{first-put}
use Rattle.message.proofs.put_acknowledgements.Goals as goal

pub slice_bounds-put_section-end-2 : goal.slice_bounds-put_section-end-2
slice_bounds-put_section-end-2 c = sym (length-take-le _ _ (omega arith))

pub put_section-requires : goal.put_section-requires
put_section-requires c =
    let e = length-take-le c.length_one-end.result c.args.out.now (omega arith) in
    omega (arith, e)

pub returns : goal.returns
returns c =
    let a = c.args in
    first-put a.k a.acknowledgements c.length_one-end.result a.out.now c.put_section.new.part
    c.length_one-end.ensures (omega arith) c.put_section.ensures
