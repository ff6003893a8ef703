-- `bench_notes::lists_with` meets its contract: its parts are those of the definition. Assumes nothing.
use mathlib.Core.Path.{ap, ◌∙◌}
use mathlib.Core.Bool.{Bool, ◌&&◌}
use Rattle.row.specs.declared.Row.{Row}
use Rattle.bench.specs.Answers.{Listed}
use Rattle.bench_notes.specs.declared.Lists.{Lists}
use Rattle.bench_notes.specs.Notes.{list_with, same_with, lists_with}
use Rattle.bench_notes.proofs.lists_with.Goals as goal

pub returns : goal.returns
unfolding lists_with
returns c =
    let a = c.args in
    let seen = a.lists in
    let same = seen.same && same_with seen.list seen.row a.v in
    ap {B = Lists} (λ (b : Bool). record { list = c.list_with-list.result; row = c.row_with-row.result; same = seen.same && b }) c.same_with-same.ensures
    ∙ ap {B = Lists} (λ (l : Listed). record { list = l; row = c.row_with-row.result; same = same }) c.list_with-list.ensures
    ∙ ap {B = Lists} (λ (r : Row). record { list = list_with seen.list a.v; row = r; same = same }) c.row_with-row.ensures
