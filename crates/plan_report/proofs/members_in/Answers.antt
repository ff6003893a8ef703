-- `plan_report::members_in` meets its contract. Assumes nothing.
use mathlib.Core.Path.{◌∙◌}
use lib.ListN.{take}
use borrow.Author.Rules.{rules}
use borrow.Author.Tests.{tests}
use Rattle.std.proofs.lemmas.Iterator.{YieldsList-from_slice, YieldsList-from_take}
use Rattle.std.proofs.lemmas.Iterator.Consumers.{YieldsList-from_filter, count_from_yields_List}
use Rattle.node_record.specs.declared.Held.{Held}
use Rattle.node_record.specs.States.{is_member}
use Rattle.plan_report.proofs.Counting.{members-kept}
use Rattle.plan_report.proofs.members_in.Goals as goal

pub returns : goal.returns
returns c =
    let a = c.args in
    count_from_yields_List _ _ c.count.ensures.ran
    (YieldsList-from_filter _ (λ (v : Held). is_member v.state) (YieldsList-from_take a.n (YieldsList-from_slice a.rows cc) cc) c.filter.ensures.closure (λ v b q k. search (rules, tests)))
    ∙ members-kept (take a.n a.rows)
