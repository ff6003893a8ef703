-- `plan_text::refusal_line` meets its contract: what was put so far, after each part, stays within 80 bytes; all parts are the line.
-- Assumes nothing.
use Prim.Native.Nat.{ℕ, ◌+◌, ◌≤◌}
use mathlib.Core.Path.{◌≡◌, sym, ◌∙◌}
use mathlib.Core.Bool.{Bool, true}
use mathlib.Core.List.{◌++◌}
use native.Mathlib.Omega.{arith}
use lib.Dec.{leb}
use lib.ListN.{length}
use borrow.Author.Tests.{leb-true}
use Rattle.plan_text.specs.Text.{line_word, number_then, refusal_text, refusal_word, written_of}
use Rattle.plan_text.proofs.Paste.{Sofar, more, nothing, written}
use Rattle.plan_text.proofs.Digits.{number_short}
use Rattle.plan_text.proofs.refusal_line.Goals as goal

-- there is room after the test
room : (at n : ℕ) (r : Bool) → r ≡ leb (at + 80) n → r ≡ true → at + 80 ≤ n
room at n r e h = leb-true (at + 80) n (sym e ∙ h)

pub returns-then-not-has_room : goal.returns-then-not-has_room
unfolding written_of
returns-then-not-has_room c = simp (sym c.has_room.ensures ∙ c.if-not-has_room.true)

pub put_word-after_word-requires : goal.put_word-after_word-requires
put_word-after_word-requires c = omega (arith, room _ _ _ c.has_room.ensures c.if-not-has_room.false)

pub put_number-after_line-requires : goal.put_number-after_line-requires
put_number-after_line-requires c = omega (arith, room _ _ _ c.has_room.ensures c.if-not-has_room.false)

pub put_word-after_refusal-requires : goal.put_word-after_refusal-requires
put_word-after_refusal-requires c =
    omega (arith, room _ _ _ c.has_room.ensures c.if-not-has_room.false, number_short 32 c.args.line)

pub put_number-end-requires : goal.put_number-end-requires
put_number-end-requires c =
    omega (arith, room _ _ _ c.has_room.ensures c.if-not-has_room.false, number_short 32 c.args.line)

pub returns : goal.returns
unfolding refusal_text
returns c =
    let a = c.args in
    let r : a.at + 80 ≤ length a.out.now = room _ _ _ c.has_room.ensures c.if-not-has_room.false in
    let word : Sofar c.put_word-after_word.result a.at (0 + 5) (line_word) a.out.now c.put_word-after_word.new.out =
    more 5 (omega (arith, r)) (nothing a.at a.out.now) c.put_word-after_word.ensures c.put_word-after_word.auto.out (omega arith) in
    let line = more 21 (omega (arith, r)) word c.put_number-after_line.ensures c.put_number-after_line.auto.out (number_short 32 a.line) in
    let refusal : Sofar c.put_word-after_refusal.result a.at (0 + 5 + 21 + 8) (line_word ++ number_then 32 a.line ++ refusal_word) a.out.now c.put_word-after_refusal.new.out =
    more 8 (omega (arith, r)) line c.put_word-after_refusal.ensures c.put_word-after_refusal.auto.out (omega arith) in
    let end = more 21 (omega (arith, r)) refusal c.put_number-end.ensures c.put_number-end.auto.out (number_short 10 a.cause) in
    written (refusal_text a.line a.cause) a.at a.out.now c.put_number-end.result c.put_number-end.new.out r end.put
