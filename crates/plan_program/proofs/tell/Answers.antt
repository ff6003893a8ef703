-- `plan_program::tell` meets its contract. Assumes nothing.
use Prim.Native.Nat.{ℕ}
use mathlib.Core.Path.{◌≡◌, ◌∙◌, sym, ap, subst}
use mathlib.Core.List.{List}
use Rattle.bench.specs.declared.Outcome.{Outcome}
use Rattle.plan_text.specs.Text.{PutAt}
use Rattle.plan_program.specs.declared.Going.{Going}
use Rattle.plan_program.specs.Program.{text_of}
use Rattle.plan_program.specs.Inner.{after_in, lines_after, outcome_after}
use Rattle.plan_program.proofs.tell.Goals as goal

pub returns : goal.returns
returns c =
    let a = c.args in
    let g = a.g in
    let counted = c.lines_after-lines in
    let shown = c.outcome_after-outcome in
    let wrote = c.put-held in
    let L = lines_after g.lines g.over in
    let O = outcome_after g.over a.outcome in
    let held : c.after.result.held ≡ wrote.result = ap (λ (r : Going). r.held) c.after.ensures in
    record {
      is =
          c.after.ensures
          ∙ ap (λ (k : ℕ). after_in g k shown.result wrote.result) counted.ensures
          ∙ ap (λ (o : Outcome). after_in g L o wrote.result) shown.ensures
          ∙ ap (after_in g L O) (sym held);
      put =
          subst (λ (k : ℕ). PutAt k g.held (text_of L O) a.out.now wrote.new.out) (sym held)
          (subst (λ (text : List ℕ). PutAt wrote.result g.held text a.out.now wrote.new.out) (ap (λ (k : ℕ). text_of k shown.result) counted.ensures ∙ ap (text_of L) shown.ensures) wrote.ensures);
    }
