-- The table and what there is to print, from what is asked, glimpsed and carried out.
use Rattle.std.proofs.Common.{◌≡◌, ℕ, List, length, ap, ◌∙◌}
use Rattle.node_record.specs.declared.Held.{Held}
use Rattle.bench.specs.declared.Outcome.{Outcome}
use Rattle.bench_orders.specs.declared.Errand.{Errand}
use Rattle.bench_orders.specs.declared.Survey.{Survey}
use Rattle.bench_orders.specs.Survey.{glimpse_of}
use Rattle.bench_orders.specs.Orders.{carried_from}
use Rattle.bench_work.specs.declared.Work.{Work}
use Rattle.bench_work.specs.Work.{work_of}
use Rattle.plan_run.specs.Run.{Act}
use Rattle.plan_run.specs.Inner.{asked, errand_by, errand_on, outcome_on, told}
use Rattle.plan_run.proofs.run.Goals as goal

ran : (act : Act) (xs zs : List Held) (a : ℕ) (s : Survey) (e : Errand) (w : Work) (r : Outcome) → a ≡ asked act → s ≡ glimpse_of xs a → e ≡ errand_by act s (length xs) → (zs ≡ carried_from e 0 xs) × (w ≡ work_of e xs) → r ≡ told e w
    → (zs ≡ carried_from (errand_on act xs) 0 xs) × (r ≡ outcome_on act xs)
unfolding errand_on
ran act xs zs a s e w r is-a is-s is-e is-w is-r =
    let errand-is : e ≡ errand_by act (glimpse_of xs (asked act)) (length xs) = is-e ∙ ap (λ (v : Survey). errand_by act v (length xs)) (is-s ∙ ap (glimpse_of xs) is-a) in
    (is-w.0 ∙ ap (λ (u : Errand). carried_from u 0 xs) errand-is, is-r ∙ ap (told e) is-w.1 ∙ ap (λ (u : Errand). told u (work_of u xs)) errand-is)

pub returns : goal.returns
returns c =
    ran c.args.act c.args.table.now c.carry-work.new.table c.asked-named.result c.glimpse-survey.result c.errand_by-errand.result c.carry-work.result c.told.result
    c.asked-named.ensures c.glimpse-survey.ensures c.errand_by-errand.ensures c.carry-work.ensures c.told.ensures
