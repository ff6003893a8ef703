-- `plan_program::is_table` meets its contract: a look at a table is refused by 4 alone. Assumes nothing.
use Prim.Native.Nat.{ℕ}
use mathlib.Core.Path.{◌≡◌, refl, ap, ◌∙◌}
use mathlib.Core.Bool.{Bool, true, false, not}
use mathlib.Core.List.{List, [], ◌∷◌}
use Rattle.bench.specs.node_reports.Reports.{Counts, no_reports}
use Rattle.bench.specs.declared.Command.TheVariants.{Look}
use Rattle.bench.specs.Table.{table_sound}
use Rattle.bench.specs.Calls.{done, if_passed, look_of}
use Rattle.bench.specs.Outcomes.{ended_by}
use Rattle.bench.specs.Ledger.{Ledger, figures}
use Rattle.bench.specs.Kept.{kept_of}
use Rattle.bench.specs.Held.{kept_held}
use Rattle.bench_by_value.specs.declared.Ran.{Ran}
use Rattle.bench_by_value.specs.ByValue.{Rows, call_with, table_of}
use Rattle.plan_program.specs.Program.{is_refused}
use Rattle.plan_program.proofs.is_table.Goals as goal

look-tells : (n room : ℕ) (slots : List ℕ) (ledger : Ledger) (counts : List Counts) (rows : Rows) → not (is_refused (call_with n (Look false) slots room ledger counts rows).0.outcome) ≡ table_sound (table_of n rows)
unfolding call_with kept_held kept_of look_of
look-tells n room slots ledger counts rows = go (table_sound (table_of n rows))
  where
    go : (b : Bool) → not (is_refused (ended_by (Look false) (table_of n rows) (if_passed b 4 (table_of n rows) (done (table_of n rows)))).reply.outcome) ≡ b
    go true = refl
    go false = refl

pub returns : goal.returns
returns c =
    let a = c.args in
    ap not c.is_refused.ensures
    ∙ ap (λ (r : Ran × Ledger × List Counts). not (is_refused r.0.outcome)) c.call-ran.ensures.0
    ∙ look-tells a.n 64 (0 ∷ []) (figures 0 0 0 ∷ []) (no_reports ∷ []) a.rows
