-- `plan_program::clean` meets its contract: a part of zeros made longer by the bytes. Assumes nothing.
use borrow.Author.Rules.{rules}
use native.Mathlib.Omega.{arith}
use mathlib.Core.Path.{◌≡◌, ◌∙◌, ap}
use mathlib.Core.List.{◌++◌}
use lib.ListN.{length, take}
use lib.Seq.{length-take-le, take_all}
use Rattle.std.proofs.lemmas.List.{take_min}
use Rattle.plan_program.specs.declared.Part.{Part}
use Rattle.plan_program.specs.Calls.{bytes_in, part_in, part_of}
use Rattle.plan_program.proofs.clean.Goals as goal

pub returns : goal.returns
returns c =
    let p = c.args.part in
    let n = c.min.result in
    let whole : length p.text ≡ 121 = search rules in
    let held : take n p.text ≡ bytes_in p = rw (c.min.ensures, ← whole) (take_min p.length p.text) in
    c.longer.ensures
    ∙ ap (λ (q : Part). part_in q.text (take 121 (bytes_in q ++ take n p.text))) c.no_part.ensures
    ∙ ap part_of (take_all 121 (take n p.text) (omega (arith, length-take-le n p.text (omega (arith, whole)))) ∙ held)
