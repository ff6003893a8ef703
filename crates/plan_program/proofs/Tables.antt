-- The tables of a plan are those of its lines' calls. Assumes nothing.
use Rattle.std.specs.Prelude.{Ok, Err}
use Prim.Native.Nat.{ℕ}
use mathlib.Core.Path.{◌≡◌, refl, sym, ap, ◌∙◌}
use mathlib.Core.Bool.{Bool, true, false, cond}
use mathlib.Core.List.{List, [], ◌∷◌, ◌++◌}
use lib.Dec.{eqb}
use Rattle.bench.specs.Table.{Table}
use Rattle.bench.specs.Runs.{Call, table_after}
use Rattle.bench_by_value.specs.ByValue.{table_of}
use Rattle.plan_line.specs.Plan.{Opening, Said, line_of}
use Rattle.plan_line.specs.declared.Line.TheVariants as lines
use Rattle.plan_line.proofs.Ranges.{RingIn, opened}
use Rattle.plan_run.specs.Run.{opened_by}
use Rattle.plan_program.specs.declared.Plan.{Plan}
use Rattle.plan_text.specs.Text.{next_line}
use Rattle.plan_program.specs.Program.{after_line, line_text, no_plan, plan_opened, run_of}
use Rattle.plan_program.specs.Calls.{plan_sound}
use Rattle.plan_program.specs.Tables.{after_lines, calls_in, calls_of, made_by, start_of, texts_of, whole, Opens, PrintedByLines, SameTables}
use Rattle.plan_program.proofs.Sound.{next-line-some, first-line, later-line, opened-table, sound-line}

-- ---- the text of a run is that of its lines

pub texts-run : PrintedByLines
unfolding run_of texts_of whole
texts-run p [] = refl
texts-run p (rest ∷ []) = refl
texts-run p (line ∷ next ∷ parts) = ap (λ (t : List ℕ). line_text (after_line p line) ++ t) (texts-run (after_line p line) (next ∷ parts))

-- ---- tables

-- the table after the calls of a line, and after those before it
in-turn : (start : Table) (p : Plan) (l : List ℕ) (before : List Call) → table_after start (calls_in p l ++ before) ≡ table_after (table_after start before) (calls_in p l)
unfolding table_after
in-turn start p l before = go p.over (line_of p.n l)
  where
    go : (over : Bool) (said : Said) → table_after start (cond over [] (made_by said) ++ before) ≡ table_after (table_after start before) (cond over [] (made_by said))
    go true said = refl
    go false (Ok lines.Ok) = refl
    go false (Ok lines.Lost) = refl
    go false (Ok (lines.Miss missed)) = refl
    go false (Ok (lines.Off a)) = refl
    go false (Ok (lines.On a)) = refl
    go false (Err cause) = refl

-- A plan after line one and these calls.
pub record Reached (start : Table) (p : Plan) (cs : List Call) : Type 0 where
  pub opened : eqb p.lines 0 ≡ false
  pub sound : plan_sound p ≡ true
  pub table : table_of p.n p.rows ≡ table_after start cs

pub next : (start : Table) (p : Plan) (l : List ℕ) (cs : List Call) → Reached start p cs → Reached start (after_line p l) (calls_in p l ++ cs)
next start p l cs r =
    let a = later-line p l r.opened r.sound in
    record {
      opened = a.opened;
      sound = a.sound;
      table = a.table ∙ ap (λ (t : Table). table_after t (calls_in p l)) r.table ∙ sym (in-turn start p l cs);
    }

all : (start : Table) (p : Plan) (cs : List Call) (more : List (List ℕ)) → Reached start p cs
    → table_of (after_lines p more).n (after_lines p more).rows ≡ table_after start (calls_of p cs more)
unfolding after_lines calls_of
all start p cs [] r = r.table
all start p cs (l ∷ more) r = all start (after_line p l) (calls_in p l ++ cs) more (next start p l cs r)

-- ---- line one

module _ (n k : ℕ) (first : List ℕ) (opens : Opens n k first) where
  pub ring : RingIn (Ok (n, k))
  ring = rw opens.says at (opened first)

  abbrev p₁ : Plan
  p₁ = after_line no_plan first

  pub begun : p₁ ≡ plan_opened (next_line 0) (opened_by (Ok (n, k)))
  begun = first-line no_plan first refl refl ∙ ap (λ (o : Opening). plan_opened (next_line 0) (opened_by o)) opens.says

  pub reached-first : Reached (start_of n k) p₁ []
  unfolding table_after plan_sound
  reached-first = record {
    opened = ap (λ (p : Plan). eqb p.lines 0) begun ∙ next-line-some 0;
    sound = sound-line no_plan first refl;
    table = ap (λ (p : Plan). table_of p.n p.rows) begun ∙ opened-table n k ring;
  }

pub same_tables : SameTables
same_tables n k first opens more = all (start_of n k) (after_line no_plan first) [] more (reached-first n k first opens)
