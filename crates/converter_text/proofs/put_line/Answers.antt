-- `converter_text::put_line` meets its contract: each test that fails is one of `readable`. Assumes nothing.
use Prim.Native.Nat.{ℕ, ◌+◌, ◌-◌, ◌≤◌}
use mathlib.Core.Path.{◌≡◌, sym, ap, subst, ◌∙◌}
use mathlib.Core.Bool.{Bool}
use mathlib.Core.List.{List}
use native.Mathlib.Omega.{arith}
use lib.ListN.{length, take, drop, length-drop}
use lib.Seq.{length-take-le, take_all}
use Rattle.plan_line.specs.Words.{before, gap, is_number, value_of}
use Rattle.plan_text.specs.Text.{PutFew}
use Rattle.converter_text.specs.declared.Direction.{Direction}
use Rattle.plan_line.proofs.Lists.{part-in}
use Rattle.converter_text.specs.Recorded.{behind, bytes_of, is_message, outcome_text, turned}
use Rattle.converter_text.proofs.Lines.{no-message, no_number, reads, too_long, unreadable, was_read}
use Rattle.converter_text.proofs.put_line.Goals as goal

-- k ends in the line, before the first space
module _ (text : List ℕ) (end : ℕ) (was : end ≡ 0 + gap 32 (drop 0 text)) where
  inside : end ≤ length text
  inside = (part-in 32 text 0 end (omega arith) was).1

  ends : end ≡ gap 32 text
  ends = omega (arith, was)

  word : take end text ≡ before text
  word = ap (λ (n : ℕ). take n text) ends

  rest : take (length text - end) (drop end text) ≡ behind text
  rest = take_all (length text - end) (drop end text) (omega (arith, length-drop end text)) ∙ ap (λ (n : ℕ). drop n text) ends

  number : {r : Bool} → r ≡ is_number (take end text) → is_number (before text) ≡ r
  number e = ap is_number (sym word) ∙ sym e

-- what is printed of a word and a message is printed of equal ones
outcome_same : (L : ℕ) (d : Direction) {r at : ℕ} {word word' m m' out last : List ℕ} → word ≡ word' → m ≡ m'
    → PutFew 80 r at (outcome_text L word (turned d (value_of word) m)) out last
    → PutFew 80 r at (outcome_text L word' (turned d (value_of word') m')) out last
outcome_same L d {r} {at} {word} {word'} {m} {m'} {out} {last} e f p =
    subst (λ (k : List ℕ). PutFew 80 r at (outcome_text L k (turned d (value_of k) m')) out last) e
    (subst (λ (n : List ℕ). PutFew 80 r at (outcome_text L word (turned d (value_of word) n)) out last) f p)

pub returns-then-text-gt120 : goal.returns-then-text-gt120
returns-then-text-gt120 c =
    let a = c.args in
    rw (unreadable a.direction a.line a.text.now (too_long a.text.now c.if-text-gt120.true)) c.put_refusal.ensures

pub slice_bounds-is_number-end : goal.slice_bounds-is_number-end
slice_bounds-is_number-end c = sym (length-take-le c.part_end-end.result c.args.text.now (inside _ _ c.part_end-end.ensures))

pub returns-then-not-is_number : goal.returns-then-not-is_number
returns-then-not-is_number c =
    let a = c.args in
    rw (unreadable a.direction a.line a.text.now (no_number a.text.now (number _ _ c.part_end-end.ensures c.is_number.ensures ∙ c.if-not-is_number.true))) c.put_refusal-then-not-is_number.ensures

pub slice_bounds-message_in-count : goal.slice_bounds-message_in-count
slice_bounds-message_in-count c = inside _ _ c.part_end-end.ensures

pub slice_bounds-message_in-start : goal.slice_bounds-message_in-start
slice_bounds-message_in-start c = inside _ _ c.part_end-end.ensures

pub returns-in_default : goal.returns-in_default
returns-in_default c =
    let a = c.args in
    rw (unreadable a.direction a.line a.text.now (no-message a.text.now (ap is_message (sym (rest _ _ c.part_end-end.ensures)) ∙ c.in_default.ensures))) c.put_refusal-in_default.ensures

pub slice_bounds-put_turned-end : goal.slice_bounds-put_turned-end
slice_bounds-put_turned-end c = sym (length-take-le c.part_end-end.result c.args.text.now (inside _ _ c.part_end-end.ensures))

pub returns : goal.returns
returns c =
    let a = c.args in
    let text = a.text.now in
    let read = c.in-Some.ensures in
    let end = c.part_end-end.ensures in
    let whole = rest _ _ end in
    rw (was_read a.direction a.line text (reads text (omega (arith, c.if-text-gt120.false)) (number _ _ end c.is_number.ensures ∙ c.if-not-is_number.false) (ap is_message (sym whole) ∙ read.is)))
    (outcome_same a.line a.direction (word _ _ end) (read.bytes ∙ ap bytes_of whole) c.put_turned.ensures)
