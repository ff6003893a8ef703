-- `bench_notes::no_notes` meets its contract. Assumes nothing.
use Rattle.std.specs.Prelude.{None}
use mathlib.Core.Path.{ap, ◌∙◌}
use mathlib.Core.Bool.{true}
use Rattle.row.specs.declared.Row.{Row}
use Rattle.bench_notes.specs.declared.Pairs.{Pairs}
use Rattle.bench_notes.specs.declared.Notes.{Notes}
use Rattle.bench_notes.specs.Notes.{no_pairs, no_moves, no_notes}
use Rattle.bench_notes.proofs.no_notes.Goals as goal

pub returns : goal.returns
unfolding no_notes
returns c =
    ap {B = Notes} (λ (p : Pairs). record { pairs = p; moves = no_moves; lists = record { list = None; row = c.empty-row.result; same = true } }) c.no_pairs-pairs.ensures
    ∙ ap {B = Notes} (λ (r : Row). record { pairs = no_pairs; moves = no_moves; lists = record { list = None; row = r; same = true } }) c.empty-row.ensures
