-- `plan_line::missing` meets its contract. The loop's invariant: what the text says is what the words that are left say after those that were
-- read (`rest`); the last of those is digits without a leading 0. Assumes nothing.
use mathlib.Core.Path.{◌≡◌}
use mathlib.Core.Bool.{true, false}
use lib.ListN.{length, drop}
use Rattle.plan_line.specs.Words.{all_digits, leading_zero, words_of}
use Rattle.plan_line.specs.Plan.{missing_of}
use Rattle.plan_line.proofs.Lists.{rest}
use Rattle.plan_line.proofs.missing.Given as goal

abbrev pub invariant-loop-word : goal.invariant-loop-word
invariant-loop-word l =
    (leading_zero l.last ≡ false) × (all_digits l.last ≡ true)
    × (missing_of l.n l.text ≡ rest l.n l.last l.missed (drop (length l.yielded) (words_of l.text)))
