-- `plan_text::slot_line` meets its contract: what was put so far, after each part, stays within 80 bytes; all parts are the line.
-- Assumes nothing.
use Prim.Native.Nat.{ℕ, ◌+◌, ◌≤◌}
use mathlib.Core.Path.{◌≡◌, sym, ◌∙◌}
use mathlib.Core.Bool.{Bool, true}
use native.Mathlib.Omega.{arith}
use lib.Dec.{leb}
use lib.ListN.{length}
use borrow.Author.Tests.{leb-true}
use Rattle.plan_text.specs.Text.{number_then, slot_text, written_of}
use Rattle.plan_text.proofs.Paste.{Sofar, more, nothing, written}
use Rattle.plan_text.proofs.Digits.{number_short, fate-short, shown-short}
use Rattle.plan_text.proofs.slot_line.Goals as goal

-- there is room after the test
room : (at n : ℕ) (r : Bool) → r ≡ leb (at + 80) n → r ≡ true → at + 80 ≤ n
room at n r e h = leb-true (at + 80) n (sym e ∙ h)

pub returns-then-not-has_room : goal.returns-then-not-has_room
unfolding written_of
returns-then-not-has_room c = simp (sym c.has_room.ensures ∙ c.if-not-has_room.true)

pub put_number-after_slot-requires : goal.put_number-after_slot-requires
put_number-after_slot-requires c = omega (arith, room _ _ _ c.has_room.ensures c.if-not-has_room.false)

pub put_number-after_sender-requires : goal.put_number-after_sender-requires
put_number-after_sender-requires c =
    omega (arith, room _ _ _ c.has_room.ensures c.if-not-has_room.false, number_short 32 c.args.slot)

pub put_fate-after_fate-requires : goal.put_fate-after_fate-requires
put_fate-after_fate-requires c =
    omega (arith, room _ _ _ c.has_room.ensures c.if-not-has_room.false, number_short 32 c.args.slot, number_short 32 c.args.sender)

pub put_shown-after_set-requires : goal.put_shown-after_set-requires
put_shown-after_set-requires c =
    omega (arith, room _ _ _ c.has_room.ensures c.if-not-has_room.false, number_short 32 c.args.slot, number_short 32 c.args.sender, fate-short c.args.fate)

pub put_number-end-requires : goal.put_number-end-requires
put_number-end-requires c =
    omega (arith, room _ _ _ c.has_room.ensures c.if-not-has_room.false, number_short 32 c.args.slot, number_short 32 c.args.sender, fate-short c.args.fate, shown-short c.args.shown)

pub returns : goal.returns
unfolding slot_text
returns c =
    let a = c.args in
    let r : a.at + 80 ≤ length a.out.now = room _ _ _ c.has_room.ensures c.if-not-has_room.false in
    let slot : Sofar c.put_number-after_slot.result a.at (0 + 21) (number_then 32 a.slot) a.out.now c.put_number-after_slot.new.out =
    more 21 (omega (arith, r)) (nothing a.at a.out.now) c.put_number-after_slot.ensures c.put_number-after_slot.auto.out (number_short 32 a.slot) in
    let sender = more 21 (omega (arith, r)) slot c.put_number-after_sender.ensures c.put_number-after_sender.auto.out (number_short 32 a.sender) in
    let fate = more 7 (omega (arith, r)) sender c.put_fate-after_fate.ensures c.put_fate-after_fate.auto.out (fate-short a.fate) in
    let shown = more 9 (omega (arith, r)) fate c.put_shown-after_set.ensures c.put_shown-after_set.auto.out (shown-short a.shown) in
    let end = more 21 (omega (arith, r)) shown c.put_number-end.ensures c.put_number-end.auto.out (number_short 10 a.distance) in
    written (slot_text a.slot a.sender a.fate a.shown a.distance) a.at a.out.now c.put_number-end.result c.put_number-end.new.out r end.put
