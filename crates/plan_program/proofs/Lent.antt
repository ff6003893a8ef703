-- A line that is carried out on the first rows of a plan's bench, which are taken as they are, is the line of specs/Program. Assumes nothing.
use Rattle.std.specs.Prelude.{Err, Ok}
use Prim.Native.Nat.{ℕ, ◌≤◌, ◌<◌}
use mathlib.Core.Path.{◌≡◌, sym, ap, ◌∙◌}
use mathlib.Core.Bool.{Bool, true, false, cond}
use mathlib.Core.List.{List, ◌++◌}
use native.Mathlib.Omega.{arith}
use native.Mathlib.Decide.{dec_le}
use lib.Dec.{eqb}
use lib.ListN.{length, take, drop, drop_of_length-le, length-take, length-replicate}
use lib.Seq.{take_all}
use borrow.Author.Tests.{le-ltb, lt-ltb}
use Rattle.refusal.specs.declared.Refusal.TheVariants.{PlanLine}
use Rattle.node_record.proofs.cable.Ranges.{ring-size, fitting}
use Rattle.node_record.specs.cable.Cable.{cable_of}
use Rattle.node_record.specs.declared.Held.{Held}
use Rattle.node_record.specs.Held.{rowed}
use Rattle.bench.specs.node.Calls.{no_node}
use Rattle.bench.specs.Table.{table_sound}
use Rattle.bench.specs.Held.{HeldTable}
use Rattle.bench.proofs.Standing.{length-setted}
use Rattle.bench.specs.declared.Outcome.{Outcome}
use Rattle.bench.specs.declared.Outcome.TheVariants as outcome
use Rattle.plan_run.specs.bench_orders.Orders.{carried_from}
use Rattle.bench_by_value.specs.ByValue.{Rows, table_of}
use Rattle.plan_line.specs.Plan.{Opening, opening_of, line_of}
use Rattle.plan_line.proofs.Ranges.{RingIn, opened}
use Rattle.plan_run.specs.Run.{Act, act_of, choices_of, no_rows, opened_by, opened_of, ran_by, ran_of}
use Rattle.plan_run.specs.Inner.{errand_on, opening_act, outcome_on}
use Rattle.plan_run.proofs.Glimpses as line
use Rattle.plan_program.specs.declared.Plan.{Plan}
use Rattle.plan_text.specs.Text.{next_line}
use Rattle.plan_program.specs.Program.{after_line, is_refused, plan_opened, plan_ran, plan_with, run_line}
use Rattle.plan_program.specs.Calls.{plan_sound}
use Rattle.plan_program.specs.Inner.{act_in, lines_after, outcome_after, over_after, rows_for, size_after, size_of}
use Rattle.plan_program.proofs.Sound.{some-record}

-- ---- how many rows are lent

size_in : (n : ℕ) → 1 ≤ n → n ≤ 32 → size_of n ≡ n
size_in n low high = simp (le-ltb n 1 low, le-ltb 32 n high)

size-past : (n : ℕ) → 32 < n → size_of n ≡ 32
size-past n high = simp (le-ltb n 1 (omega (arith, high)), lt-ltb 32 n high)

-- they are the table, where there is one
module _ (n : ℕ) (rows : Rows) (all : length rows ≡ 32) (some : 1 ≤ n) where
  lent-table : take (size_of n) rows ≡ take n rows
  lent-table = go (dec_le n 32)
    where
      go : Dec (n ≤ 32) → take (size_of n) rows ≡ take n rows
      go (yes h) = ap (λ (m : ℕ). take m rows) (size_in n some h)
      go (no h) = ap (λ (m : ℕ). take m rows) (size-past n (omega arith)) ∙ take_all 32 rows (omega (arith, all)) ∙ sym (take_all n rows (omega (arith, all)))

  others : drop (size_of n) rows ≡ drop n rows
  others = go (dec_le n 32)
    where
      go : Dec (n ≤ 32) → drop (size_of n) rows ≡ drop n rows
      go (yes h) = ap (λ (m : ℕ). drop m rows) (size_in n some h)
      go (no h) = ap (λ (m : ℕ). drop m rows) (size-past n (omega arith)) ∙ drop_of_length-le rows {i = 32} (omega (arith, all)) ∙ sym (drop_of_length-le rows {i = n} (omega (arith, all)))

-- ---- a line

abbrev plan_of : ℕ → ℕ → Rows → Bool → Outcome → Plan
plan_of lines n rows over o = record { lines = lines; n = n; rows = rows; over = over; outcome = o }

-- what a line leaves of m rows before the others, and what there is to print of it
abbrev left : ℕ → Rows → Act → Rows
left m rows a = carried_from (errand_on a (take m rows)) 0 (take m rows) ++ drop m rows

abbrev said : ℕ → Rows → Act → Outcome
said m rows a = outcome_on a (take m rows)

-- of a bench with nodes, they are those of specs/Run
on-bench : (n : ℕ) (rows : Rows) (a : Act) → length rows ≡ 32 → 1 ≤ n → line.Does n rows a → (left (size_of n) rows a ≡ (ran_by n rows a).rows) × (said (size_of n) rows a ≡ (ran_by n rows a).outcome)
on-bench n rows a all some does = (
  ap (λ (t : HeldTable). carried_from (errand_on a t) 0 t ++ drop (size_of n) rows) (lent-table n rows all some) ∙ ap (λ (l : Rows). carried_from (errand_on a (take n rows)) 0 (take n rows) ++ l) (others n rows all some) ∙ does.0,
  ap (outcome_on a) (lent-table n rows all some) ∙ does.1,
)

-- a plan with what a line left and said
with-both : (L n : ℕ) {rows rows' : Rows} {o o' : Outcome} → (rows ≡ rows') × (o ≡ o') → plan_with L n rows o ≡ plan_with L n rows' o'
with-both L n {rows} {rows'} {o} {o'} e = ap (λ (l : Rows). plan_with L n l o) e.0 ∙ ap (plan_with L n rows') e.1

-- line one
first-is : (L : ℕ) (o : Opening) → RingIn o → plan_with L (opened_by o).n (left (size_of (opened_by o).n) no_rows (opening_act o)) (said (size_of (opened_by o).n) no_rows (opening_act o)) ≡ plan_opened L (opened_by o)
first-is L (Ok (n, k)) r = with-both L n (on-bench n no_rows (opening_act (Ok (n, k))) (length-replicate 32 (rowed no_node)) (omega (arith, ring-size n (fitting (cable_of n k) r).ring)) (line.opened n no_rows (choices_of n k)))
first-is L (Err cause) r = with-both L 0 (line.refused 1 no_rows cause)

-- a later line
later-is : (L n : ℕ) (rows : Rows) (a : Act) → length rows ≡ 32 → table_sound (table_of n rows) ≡ true → plan_with L n (left (size_of n) rows a) (said (size_of n) rows a) ≡ plan_ran L n (ran_by n rows a)
later-is L n rows a all sound = with-both L n (on-bench n rows a all (omega (arith, some-record (table_of n rows) sound, length-setted (take n rows), length-take n rows)) (line.later n rows sound a))

module _ (p : Plan) (l : List ℕ) where
  abbrev base : Bool → Bool → Rows
  base over first = cond over p.rows (cond first no_rows p.rows)

  abbrev size : Bool → Bool → ℕ
  size over first = size_of (cond over p.n (cond first (opened_of l).n p.n))

  abbrev does : Bool → Bool → Act
  does over first = cond over (Err PlanLine) (cond first (opening_act (opening_of l)) (act_of (line_of p.n l)))

  by-case : (over first : Bool) → cond over true (cond first true (table_sound (table_of p.n p.rows))) ≡ true → length (base over first) ≡ 32
      → plan_of (cond over p.lines (next_line p.lines)) (cond over p.n (cond first (opened_of l).n p.n)) (left (size over first) (base over first) (does over first))
      (cond over true (is_refused (cond over outcome.Quiet (said (size over first) (base over first) (does over first))))) (cond over outcome.Quiet (said (size over first) (base over first) (does over first)))
      ≡ cond over (plan_of p.lines p.n p.rows over outcome.Quiet) (cond first (plan_opened (next_line p.lines) (opened_of l)) (plan_ran (next_line p.lines) p.n (ran_of p.n p.rows l)))
  unfolding opened_of ran_of
  by-case true first sound all = ap (λ (r : Rows). plan_of p.lines p.n r true outcome.Quiet) (line.refused (size_of p.n) p.rows PlanLine).0
  by-case false true sound all = first-is (next_line p.lines) (opening_of l) (opened l)
  by-case false false sound all = later-is (next_line p.lines) p.n p.rows (act_of (line_of p.n l)) all sound

  -- what the line leaves of the rows that it is lent, before the others, makes the plan after it
  pub line-is : (zs : List Held) (o : Outcome) → plan_sound p ≡ true → length (rows_for p true) ≡ 32
      → (zs ≡ carried_from (errand_on (act_in p.lines p.n p.over l) (take (size_of (size_after p.lines p.n p.over l)) (rows_for p true))) 0 (take (size_of (size_after p.lines p.n p.over l)) (rows_for p true)))
      × (o ≡ outcome_on (act_in p.lines p.n p.over l) (take (size_of (size_after p.lines p.n p.over l)) (rows_for p true)))
      → plan_of (lines_after p.lines p.over) (size_after p.lines p.n p.over l) (zs ++ drop (size_of (size_after p.lines p.n p.over l)) (rows_for p true)) (over_after p.over (outcome_after p.over o)) (outcome_after p.over o) ≡ after_line p l
  unfolding plan_sound after_line run_line
  line-is zs o sound all is =
      let m = size_of (size_after p.lines p.n p.over l) in
      ap (λ (r : List Held). plan_of (lines_after p.lines p.over) (size_after p.lines p.n p.over l) (r ++ drop m (rows_for p true)) (over_after p.over (outcome_after p.over o)) (outcome_after p.over o)) is.0
      ∙ ap (λ (c : Outcome). plan_of (lines_after p.lines p.over) (size_after p.lines p.n p.over l) (left m (rows_for p true) (act_in p.lines p.n p.over l)) (over_after p.over (outcome_after p.over c)) (outcome_after p.over c)) is.1
      ∙ by-case p.over (eqb p.lines 0) sound all
