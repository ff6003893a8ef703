-- Inner: what the functions below `feed` compute and leave.
use Rattle.std.specs.Prelude.{ℕ, ◌≡◌, List, ltb}
use Rattle.nodeset.specs.Sums.{num}
use Rattle.nodeset.specs.Sets.{size}
use Rattle.bench.specs.Answers.{Listed}
use Rattle.bench.specs.declared.Outcome.{Outcome}
use Rattle.bench.specs.declared.Outcome.TheVariants as outcome
use Rattle.bench.specs.Table.{node_count}
use Rattle.bench.specs.Runs.{set_in}
use Rattle.plan_program.specs.bench_by_value.ByValue.{table_of}
use Rattle.plan_text.specs.Text.{PutFew}
use Rattle.plan_program.specs.declared.Plan.{Plan}
use Rattle.plan_report.specs.declared.Figures.{Figures}
use Rattle.plan_report.specs.declared.Report.{Report}
use Rattle.plan_report.specs.declared.Taken.{Taken}
use Rattle.plan_report.specs.Figures.{members_in}
use Rattle.plan_report.specs.Tallies.{raised_by}
use Rattle.plan_report.specs.Calls.{after_byte, byte_text}

-- The figures of a slot by what is printed of it, and the table after it.
abbrev pub told_figures : Plan → Listed → ℕ → Figures
told_figures q list distance = record { slots = 1; members = members_in (table_of q.n q.rows); listed = size (node_count (table_of q.n q.rows)) (set_in list); apart = num (ltb 0 distance) }

abbrev pub figures_by : Figures → Plan → Outcome → Figures
figures_by f q outcome.Quiet = f
figures_by f q (outcome.Slot slot sender fate list distance) = raised_by f (told_figures q list distance)
figures_by f q (outcome.Refused cause) = f

-- A byte was taken, and its text put.
pub record Took (r : Report) (byte at : ℕ) (t : Taken) (out written : List ℕ) : Type 0 where
  pub is : t.report ≡ after_byte r byte
  pub put : PutFew 110 t.at at (byte_text r byte) out written
