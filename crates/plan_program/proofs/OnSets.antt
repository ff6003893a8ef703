-- What the program prints is what is printed where the bench is a table of the rules (specs/OnSets): each line leaves rows that hold the table that it leaves there. Assumes nothing.
use Rattle.std.specs.Prelude.{Err, Ok}
use Prim.Native.Nat.{ℕ, zero, suc}
use mathlib.Core.Path.{◌≡◌, refl, sym, ap, ap₂, ◌∙◌}
use mathlib.Core.Bool.{true}
use mathlib.Core.List.{List, [], ◌∷◌, ◌++◌, append_assoc}
use native.Mathlib.Omega.{arith}
use lib.Dec.{eqb}
use lib.Pow.{pow_pos}
use lib.ListN.{take, replicate}
use Rattle.node_record.proofs.nodeset.Tests.{by_cases}
use Rattle.node_record.proofs.slot_table.Numbers.{plain-kept}
use Rattle.node_record.specs.Held.{rowed, setted}
use Rattle.node_record.proofs.Holding.{set-kept}
use Rattle.bench.specs.node.Calls.{no_node}
use Rattle.bench.specs.Table.{Table, table_sound}
use Rattle.bench.specs.Calls.{Called}
use Rattle.bench.specs.Outcomes.{ended_of}
use Rattle.bench.specs.Held.{setted_all}
use Rattle.bench.specs.declared.Command.TheVariants as command
use Rattle.bench.specs.declared.Outcome.{Outcome}
use Rattle.bench_by_value.specs.ByValue as by_value
use Rattle.bench_by_value.specs.ByValue.{Rows, table_of}
use Rattle.plan_line.specs.Plan.{Opening, Said, opening_of, line_of}
use Rattle.plan_line.proofs.Ranges.{RingIn, opened}
use Rattle.plan_text.specs.Text.{next_line}
use Rattle.plan_run.specs.Run.{Act, act_of, choices_of, no_rows, opened_by, ran_by}
use Rattle.plan_run.proofs.Plain.{plain-set-up}
use Rattle.plan_program.specs.declared.Plan.{Plan}
use Rattle.plan_program.specs.Program.{after_line, end_text, line_text, lines_in, no_plan, plan_opened, plan_ran, printed, run_of, text_of, whole_text}
use Rattle.plan_program.specs.Calls.{plan_sound}
use Rattle.plan_program.specs.OnSets.{SetPlan, act_on, set_plan, opened_on, after_line_on, printed_on, ShownAsBefore}
use Rattle.plan_program.proofs.Sound.{line-left, opened-table, over-line, ran_line, first-line, sound-line}

-- a plan with the table that its rows stand for
abbrev on_sets : Plan → SetPlan
on_sets p = record { lines = p.lines; n = p.n; table = table_of p.n p.rows; over = p.over; outcome = p.outcome }

-- ---- a line

-- what there is to print is told of the table
said-on : (n : ℕ) (rows : Rows) (a : Act) → (ran_by n rows a).outcome ≡ (act_on (table_of n rows) a).1
unfolding by_value.call_of ended_of
said-on n rows (Ok c) = refl
said-on n rows (Err cause) = refl

ran-shown : (L n : ℕ) (rows : Rows) → table_sound (table_of n rows) ≡ true → (l : Said) → on_sets (plan_ran L n (ran_by n rows (act_of l))) ≡ set_plan L n (act_on (table_of n rows) (act_of l))
ran-shown L n rows sound l = ap₂ (λ (t : Table) (o : Outcome). set_plan L n (t, o)) (line-left n rows sound l) (said-on n rows (act_of l))

-- rows of no node hold records of no node
no-node-back : setted (rowed no_node) ≡ no_node
no-node-back = set-kept no_node (plain-kept 0 (omega arith)) (pow_pos 0)

none-held : (n m : ℕ) → setted_all (take n (replicate m (rowed no_node))) ≡ take n (replicate m no_node)
none-held zero m = refl
none-held (suc n) zero = refl
none-held (suc n) (suc m) = ap₂ {C = Table} (λ v t. v ∷ t) no-node-back (none-held n m)

opened-shown : (L : ℕ) (o : Opening) → RingIn o → on_sets (plan_opened L (opened_by o)) ≡ opened_on L o
unfolding ended_of
opened-shown L (Ok (n, k)) fits =
    let a : Act = Ok (command.SetUp (choices_of n k)) in
    let t = table_of n no_rows in
    let left : table_of n (opened_by (Ok (n, k))).rows ≡ (act_on t a).0 = opened-table n k fits ∙ sym (ap (λ (c : Called). c.table) (plain-set-up (choices_of n k) t)) in
    ap₂ (λ (x : Table) (o : Outcome). set_plan L n (x, o)) left (said-on n no_rows a) ∙ ap (λ (x : Table). set_plan L n (act_on x a)) (none-held n 32)
opened-shown L (Err cause) fits = refl

line-shown : (p : Plan) (l : List ℕ) → plan_sound p ≡ true → on_sets (after_line p l) ≡ after_line_on (on_sets p) l
unfolding plan_sound
line-shown p l sound =
    by_cases p.over
    (λ over. rw (over-line p l over, over) refl)
    (λ going.
    by_cases (eqb p.lines 0)
    (λ first. rw (first-line p l first going, going, first) (opened-shown (next_line p.lines) (opening_of l) (opened l)))
    (λ begun.
    let table : table_sound (table_of p.n p.rows) ≡ true = simp (going, begun) at sound in
    rw (ran_line p l begun going, going, begun) (ran-shown (next_line p.lines) p.n p.rows table (line_of p.n l))))

-- ---- all lines

shown : (p : Plan) (parts : List (List ℕ)) → plan_sound p ≡ true → whole_text (run_of p parts) ≡ printed_on (on_sets p) parts
unfolding run_of end_text printed_on
shown p [] sound = refl
shown p (rest ∷ []) sound = refl
shown p (line ∷ next ∷ parts) sound =
    let q = after_line p line in
    let r = run_of q (next ∷ parts) in
    append_assoc (line_text q) r.text (end_text r.plan r.rest)
    ∙ ap (λ (t : List ℕ). line_text q ++ t) (shown q (next ∷ parts) (sound-line p line sound))
    ∙ ap (λ (s : SetPlan). text_of s.lines s.outcome ++ printed_on s (next ∷ parts)) (line-shown p line sound)

pub shown-as-before : ShownAsBefore
unfolding printed plan_sound
shown-as-before input = shown no_plan (lines_in input) refl
