-- `plan_program::run_line` meets its contract: what has come of the line and a line feed are one line. Assumes nothing.
use Prim.Native.Nat.{ℕ}
use mathlib.Core.Path.{◌≡◌, ap, ◌∙◌}
use mathlib.Core.List.{List, [], ◌∷◌, append-nil}
use Rattle.plan_line.specs.Words.{parted}
use Rattle.plan_program.specs.declared.Plan.{Plan}
use Rattle.plan_program.specs.Program.{after_line, run_of}
use Rattle.plan_program.specs.Calls.{bytes_in, run_piece}
use Rattle.plan_program.proofs.run_line.Goals as goal

one_line : (p : Plan) (line : List ℕ) → (run_piece p line (10 ∷ [])).plan ≡ after_line p line
unfolding run_of parted
one_line p line = ap (after_line p) (append-nil line)

pub returns : goal.returns
returns c =
    let a = c.args in
    c.run_lines.ensures.plan-is ∙ one_line a.plan (bytes_in a.part)
