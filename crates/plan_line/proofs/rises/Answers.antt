-- `plan_line::rises` meets its contract: the lengths decide, or the first digit that differs.
-- Assumes nothing.
use Prim.Native.Nat.{ℕ, ◌<◌}
use mathlib.Core.Path.{◌≡◌, sym, ◌∙◌}
use mathlib.Core.List.{List}
use native.Mathlib.Omega.{arith}
use native.Mathlib.Decide.{dec_lt}
use lib.Dec.{leb, ltb}
use lib.ListN.{length}
use borrow.Author.Tests.{lt-ltb, le-ltb}
use Rattle.plan_line.specs.Words.{least_after, value_of}
use Rattle.plan_line.proofs.Numbers.{rise-shorter, rise-longer, rise-same, lex-is}
use Rattle.plan_line.proofs.rises.Goals as goal

pub returns-then-last-word : goal.returns-then-last-word
returns-then-last-word c = go (dec_lt (length last) (length word))
  where
    last : List ℕ
    last = c.args.last.now

    word : List ℕ
    word = c.args.word.now

    go : Dec (length last < length word) → ltb (length last) (length word) ≡ leb (least_after last) (value_of word)
    go (yes few) = lt-ltb (length last) (length word) few ∙ sym (rise-shorter last word c.requires.0 c.requires.1 c.requires.2 few)
    go (no more) =
        le-ltb (length last) (length word) (omega arith)
        ∙ sym (rise-longer last word c.requires.0 c.requires.1 c.requires.2 (omega (arith, c.if-last-word.true)))

pub returns : goal.returns
returns c =
    let last = c.args.last.now in
    let word = c.args.word.now in
    lex-is last word _ c.lt.ensures
    ∙ sym (rise-same last word c.requires.0 c.requires.1 c.requires.2 c.if-last-word.false)
