-- `plan_program::seek` meets its contract. Assumes nothing.
use Prim.Native.Nat.{ℕ, ◌+◌, ◌-◌}
use mathlib.Core.Path.{ap, ◌∙◌}
use mathlib.Core.List.{◌++◌}
use lib.Dec.{ltb}
use lib.ListN.{length, take, drop}
use Rattle.plan_line.proofs.Lists.{part-in}
use Rattle.plan_program.specs.declared.Part.{Part}
use Rattle.plan_program.specs.Calls.{bytes_in, part_in}
use Rattle.plan_program.specs.Inner.{sought, with_line}
use Rattle.plan_program.proofs.seek.Goals as goal

pub slice_bounds-longer-end : goal.slice_bounds-longer-end
slice_bounds-longer-end c = (part-in 10 c.args.input.now c.args.g.at c.part_end-end.result c.requires c.part_end-end.ensures).1

pub returns : goal.returns
unfolding sought
returns c =
    let a = c.args in
    let g = a.g in
    let input = a.input.now in
    let e = c.part_end-end.result in
    c.with_line.ensures
    ∙ ap (λ (text : Part). with_line g text (ltb e (length input)) (e + 1)) c.longer-part.ensures
    ∙ ap (λ (k : ℕ). with_line g (part_in g.part.text (take 121 (bytes_in g.part ++ take (k - g.at) (drop g.at input)))) (ltb k (length input)) (k + 1)) c.part_end-end.ensures
