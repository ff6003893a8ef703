-- What is printed of a slot tells the figures of the table after it: the list and the distance are those of that table. Assumes nothing.
use Rattle.std.specs.Prelude.{Err, Ok}
use Prim.Native.Nat.{ℕ}
use mathlib.Core.Path.{◌≡◌, refl, sym}
use mathlib.Core.Bool.{Bool, true, false, cond}
use mathlib.Core.List.{List}
use lib.Dec.{eqb}
use Rattle.nodeset.proofs.Tests.{by_cases}
use Rattle.node.specs.Answers.{Answer}
use Rattle.bench.specs.Table.{Table, table_sound}
use Rattle.bench.specs.declared.Outcome.{Outcome}
use Rattle.node_record.specs.slot_table.Order.{numbers_from}
use Rattle.bench.specs.Calls.{Called, off_of, restart_of, set_up_given}
use Rattle.bench.specs.Outcomes.{ended_of, quiet_outcome, slot_given, slot_outcome}
use Rattle.bench.specs.Runs.{list_of}
use Rattle.plan_program.specs.bench_by_value.ByValue as by_value
use Rattle.plan_program.specs.bench_by_value.ByValue.{Rows, table_of}
use Rattle.plan_line.specs.Plan.{Said, Opening, line_of, opening_of}
use Rattle.plan_line.specs.declared.Line.TheVariants as lines
use Rattle.plan_text.specs.Text.{next_line}
use Rattle.plan_program.specs.plan_run.Run.{act_of, choices_of, no_rows, opened_by, ran_by}
use Rattle.plan_program.specs.declared.Plan.{Plan}
use Rattle.plan_program.specs.Program.{after_line, plan_opened, plan_ran}
use Rattle.plan_program.specs.Calls.{plan_sound}
use Rattle.plan_program.proofs.Sound.{first-line, line-left, over-line, ran_line}
use Rattle.plan_report.specs.declared.Figures.{Figures}
use Rattle.plan_report.specs.Figures.{slot_figures}
use Rattle.plan_report.specs.Report.{is_slot_line}
use Rattle.plan_report.specs.Tallies.{figures_after, raised_by}
use Rattle.plan_report.specs.Inner.{figures_by}

-- The figures by what is printed of a line are those by the table after it.
abbrev TellsOf : Figures → Plan → Outcome → Type 0
TellsOf f q o = figures_by f q o ≡ cond (is_slot_line o) (raised_by f (slot_figures (table_of q.n q.rows))) f

module _ (f : Figures) where
  slot-tells : (q : Plan) (lost : Bool) (before : Table) (called : Called) → table_of q.n q.rows ≡ called.table
      → TellsOf f q (slot_outcome lost before called.table called.answer)
  unfolding list_of
  slot-tells q lost before called left = go called.answer
    where
      go : (a : Answer) → TellsOf f q (slot_outcome lost before called.table a)
      go (Ok _) = rw (sym left) refl
      go (Err cause) = refl

  quiet-tells : (q : Plan) (a : Answer) → TellsOf f q (quiet_outcome a)
  quiet-tells q (Ok _) = refl
  quiet-tells q (Err cause) = refl

  module _ (L n : ℕ) (rows : Rows) (sound : table_sound (table_of n rows) ≡ true) where
    abbrev t : Table
    t = table_of n rows

    abbrev left : Said → Plan
    left l = plan_ran L n (ran_by n rows (act_of l))

    later-tells : (l : Said) → TellsOf f (left l) (left l).outcome
    unfolding by_value.call_of ended_of
    later-tells (Ok lines.Ok) = slot-tells (left (Ok lines.Ok)) false t (slot_given false 0 0 64 t) (line-left n rows sound (Ok lines.Ok))
    later-tells (Ok lines.Lost) = slot-tells (left (Ok lines.Lost)) true t (slot_given true 0 0 64 t) (line-left n rows sound (Ok lines.Lost))
    later-tells (Ok (lines.Miss missed)) = slot-tells (left (Ok (lines.Miss missed))) false t (slot_given false missed 0 64 t) (line-left n rows sound (Ok (lines.Miss missed)))
    later-tells (Ok (lines.Off a)) = quiet-tells (left (Ok (lines.Off a))) (off_of a t).answer
    later-tells (Ok (lines.On a)) = quiet-tells (left (Ok (lines.On a))) (restart_of a t).answer
    later-tells (Err cause) = refl

  opened-tells : (L : ℕ) (o : Opening) → TellsOf f (plan_opened L (opened_by o)) (opened_by o).outcome
  unfolding by_value.call_of
  opened-tells L (Ok (n, k)) = quiet-tells (plan_opened L (opened_by (Ok (n, k)))) (set_up_given (choices_of n k) (numbers_from n 1) (table_of n no_rows)).answer
  opened-tells L (Err cause) = refl

  pub tells : (p : Plan) (line : List ℕ) → plan_sound p ≡ true → figures_by f (after_line p line) (after_line p line).outcome ≡ figures_after f (after_line p line)
  unfolding plan_sound
  tells p line sound =
      by_cases p.over
      (λ over. rw (over-line p line over) refl)
      (λ going.
      by_cases (eqb p.lines 0)
      (λ first. rw (first-line p line first going) (opened-tells (next_line p.lines) (opening_of line)))
      (λ begun. rw (ran_line p line begun going) (later-tells (next_line p.lines) p.n p.rows (simp (going, begun) at sound) (line_of p.n line))))
