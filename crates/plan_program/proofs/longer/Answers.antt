-- `plan_program::longer` meets its contract. Assumes nothing.
use mathlib.Core.Path.{◌≡◌}
use borrow.Author.Rules.{rules}
use lib.ListN.{length}
use Rattle.plan_program.proofs.Lines.{part_longer}
use Rattle.plan_program.proofs.longer.Goals as goal

pub returns : goal.returns
returns c =
    let p = c.args.part in
    let whole : length p.text ≡ 121 = search rules in
    part_longer p.text c.args.bytes.now _ p.length _ _ whole c.min-start.ensures c.min-count.ensures c.copy_from_slice.ensures.after
