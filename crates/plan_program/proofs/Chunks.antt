-- A text that comes in two pieces prints what the whole text prints. Assumes nothing.
use Prim.Native.Nat.{ℕ}
use mathlib.Core.Path.{◌≡◌, refl, sym, ap, ◌∙◌}
use mathlib.Core.Bool.{Bool, true, false, cond}
use mathlib.Core.List.{List, [], ◌∷◌, ◌++◌, append-nil, append_assoc}
use lib.Dec.{eqb}
use Rattle.plan_line.specs.Words.{longer, parted}
use Rattle.plan_text.specs.Bytewise.{begun_with}
use Rattle.plan_text.proofs.Bytewise.{some-part, begun-longer, begun-none}
use Rattle.plan_program.specs.declared.Plan.{Plan}
use Rattle.plan_program.specs.Program.{after_line, line_text, lines_in, run_of, text_then, Run}

-- a line, and more parts
pub fed-line : (p : Plan) (line text : List ℕ) → run_of p (line ∷ lines_in text) ≡ text_then (line_text (after_line p line)) (run_of (after_line p line) (lines_in text))
unfolding run_of
fed-line p line text = rw (some-part text).2 refl

-- what is run after a beginning
abbrev pub onwards : Run → List ℕ → Run
onwards f b = text_then f.text (run_of f.plan (begun_with f.rest (lines_in b)))

after-after : (t : List ℕ) (f : Run) (b : List ℕ) → text_then t (onwards f b) ≡ onwards (text_then t f) b
after-after t f b = let g = run_of f.plan (begun_with f.rest (lines_in b)) in
    ap (λ (w : List ℕ). record { plan = g.plan; rest = g.rest; text = w }) (sym (append_assoc t f.text g.text))

pub chunks : (a : List ℕ) (x : List ℕ) (p : Plan) (b : List ℕ) → run_of p (begun_with x (lines_in (a ++ b))) ≡ onwards (run_of p (begun_with x (lines_in a))) b
unfolding parted run_of
chunks [] x p b = ap (λ (y : List ℕ). run_of p (begun_with y (lines_in b))) (sym (append-nil x))
chunks (c ∷ a) x p b = go (λ y q. chunks a y q b) (eqb c 10)
  where
    go : ((y : List ℕ) (q : Plan) → run_of q (begun_with y (lines_in (a ++ b))) ≡ onwards (run_of q (begun_with y (lines_in a))) b) → (t : Bool) → run_of p (begun_with x (cond t ([] ∷ lines_in (a ++ b)) (longer c (lines_in (a ++ b))))) ≡ onwards (run_of p (begun_with x (cond t ([] ∷ lines_in a) (longer c (lines_in a))))) b
    go ih true =
        fed-line p (x ++ []) (a ++ b)
        ∙ ap (text_then (line_text (after_line p (x ++ [])))) (
        ap (run_of (after_line p (x ++ []))) (sym (begun-none (a ++ b)))
        ∙ ih [] (after_line p (x ++ []))
        ∙ ap (λ (z : List (List ℕ)). onwards (run_of (after_line p (x ++ [])) z) b) (begun-none a))
        ∙ after-after (line_text (after_line p (x ++ []))) (run_of (after_line p (x ++ [])) (lines_in a)) b
        ∙ ap (λ (f : Run). onwards f b) (sym (fed-line p (x ++ []) a))
    go ih false =
        ap (run_of p) (begun-longer x c (lines_in (a ++ b)))
        ∙ ih (x ++ (c ∷ [])) p
        ∙ ap (λ (z : List (List ℕ)). onwards (run_of p z) b) (sym (begun-longer x c (lines_in a)))
