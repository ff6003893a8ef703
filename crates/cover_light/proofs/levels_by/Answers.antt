-- `cover_light::levels_by` meets its contract. Assumes nothing.
use Prim.Native.Nat.{ℕ}
use mathlib.Core.Path.{ap, ◌∙◌}
use mathlib.Core.Bool.{Bool}
use mathlib.Core.List.{List, ◌++◌, map}
use lib.ListN.{drop}
use Rattle.cable.specs.slot_table.Order.{numbers_from}
use Rattle.nodeset.proofs.Tests.{failed, passed}
use Rattle.message.specs.Message.{wrote}
use Rattle.cover_light.specs.Light.{given_by, lamp_level}
use Rattle.cover_light.proofs.Records.{few-lamps}
use Rattle.cover_light.proofs.Lamps.{levels-unfit, levels-short, levels-all}
use borrow.Author.Rules.{rules}
use Rattle.cover_light.proofs.levels_by.Goals as goal

pub returns-then-not-bases_fit : goal.returns-then-not-bases_fit
returns-then-not-bases_fit c =
    levels-unfit c.args.v c.args.bases.now c.args.out.now c.requires (failed c.bases_fit.ensures c.if-not-bases_fit.true)

pub returns-then-out-n : goal.returns-then-out-n
returns-then-out-n c =
    levels-short c.args.v c.args.bases.now c.args.out.now c.requires (passed c.bases_fit.ensures c.if-not-bases_fit.false) (search rules)

pub fill-requires : goal.fill-requires
fill-requires c = (few-lamps c.args.v c.requires, search rules)

pub returns : goal.returns
unfolding lamp_level
returns c =
    let a = c.args in
    let n = a.v.cable.n in
    ap (λ (o : List ℕ). (wrote n, o))
    (c.fill.ensures
    ∙ ap (λ (m : Bool). map (given_by m a.v.set a.bases.now) (numbers_from n 1) ++ drop n a.out.now) c.is_member.ensures)
    ∙ levels-all a.v a.bases.now a.out.now c.requires (passed c.bases_fit.ensures c.if-not-bases_fit.false) (search rules)
