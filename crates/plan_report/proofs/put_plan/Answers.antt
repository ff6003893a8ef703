-- `plan_report::put_plan` meets its contract. Assumes nothing.
use Prim.Native.Nat.{ℕ, ◌+◌, ◌≤◌}
use mathlib.Core.Path.{◌≡◌}
use mathlib.Core.List.{List, ◌++◌}
use lib.ListN.{length}
use native.Mathlib.Omega.{arith}
use Rattle.plan_line.specs.Words.{bytes}
use Rattle.plan_text.specs.Text.{PutAt, next_line, number_then}
use Rattle.plan_text.proofs.Paste.{Sofar, more, nothing, both}
use Rattle.plan_text.proofs.Digits.{number_short}
use Rattle.plan_report.specs.Report.{plan_text}
use Rattle.plan_report.proofs.put_plan.Goals as goal

-- after the word and the number
after-number : (plans at : ℕ) {w n k : ℕ} {out out-w out-n : List ℕ} → at + 110 ≤ length out → PutAt w at (bytes "plan ") out out-w → length out-w ≡ length out
    → k ≡ next_line plans → PutAt n w (number_then 32 k) out-w out-n → length out-n ≡ length out-w
    → Sofar n at (0 + 5 + 21) (bytes "plan " ++ number_then 32 (next_line plans)) out out-n
after-number plans at {k = k} room put-w kept-w is put-n kept-n =
    more 21 (omega arith) (more 5 (omega arith) (nothing at _) put-w kept-w (omega arith)) (rw is at put-n) kept-n (number_short 32 (next_line plans))

pub put_verdict-requires : goal.put_verdict-requires
put_verdict-requires c =
    let a = c.args in
    let begun = after-number a.t.plans a.at c.requires c.put_word-word.ensures c.put_word-word.auto.out c.next_line.ensures c.put_number-number.ensures c.put_number-number.auto.out in
    omega (arith, begun.near, begun.same, c.requires)

pub returns : goal.returns
unfolding plan_text
returns c =
    let a = c.args in
    let begun = after-number a.t.plans a.at c.requires c.put_word-word.ensures c.put_word-word.auto.out c.next_line.ensures c.put_number-number.ensures c.put_number-number.auto.out in
    let rest = rw c.verdict_of-verdict.ensures at c.put_verdict.ensures in
    record { put = both (omega (arith, c.requires)) begun.put rest.put; few = omega (arith, begun.near, rest.few) }
