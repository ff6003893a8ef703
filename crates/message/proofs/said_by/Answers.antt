-- `message::said_by` meets its contract: at each `return` the tests that led there say which case of `said_by` holds. Assumes nothing.
use Rattle.message.specs.Message.{said_by}
use Rattle.message.proofs.said_by.Goals as goal

pub returns-then-not-one-two : goal.returns-then-not-one-two
unfolding said_by
returns-then-not-one-two c =
    let a = c.args in
    let wrong = c.if-not-one-two.true in
    simp wrong c.unread.ensures

pub returns-then-not-one-two-2 : goal.returns-then-not-one-two-2
unfolding said_by
returns-then-not-one-two-2 c =
    let a = c.args in
    let right = c.if-not-one-two.false in
    let wrong = c.if-not-one-two-2.true in
    simp (right, wrong) c.unread-then-not-one-two-2.ensures

pub returns : goal.returns
unfolding said_by
returns c =
    let a = c.args in
    let right = c.if-not-one-two.false in
    let clear = c.if-not-one-two-2.false in
    simp (right, clear)
