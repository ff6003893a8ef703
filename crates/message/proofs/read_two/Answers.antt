-- `message::read_two` meets its contract: at each `return` the tests that led there say which case of `read_two_of` holds. Assumes nothing.
use Prim.Native.Nat.{ℕ}
use mathlib.Core.Path.{◌≡◌, sym, ap, ◌∙◌}
use native.Mathlib.Omega.{arith}
use lib.ListN.{length, take, drop}
use borrow.Author.Tests.{eq-eqb, ne_eqb}
use Rattle.message.specs.Message.{length_two, section_in}
use Rattle.message.specs.TwoSections.{read_two_of}
use Rattle.message.proofs.read_two.Goals as goal

pub returns-then-not-in_range : goal.returns-then-not-in_range
unfolding read_two_of
returns-then-not-in_range c =
    let wrong = sym c.in_range.ensures ∙ c.if-not-in_range.true in
    simp wrong c.unread.ensures

pub returns-then-bytes-start : goal.returns-then-bytes-start
unfolding read_two_of
returns-then-bytes-start c =
    let a = c.args in
    let wrong : length a.bytes.now ≡ length_two a.k → ⊥ = λ e. c.if-bytes-start.true (omega (arith, e, c.length_one-start.ensures)) in
    let ranged = sym c.in_range.ensures ∙ c.if-not-in_range.false in
    simp (ranged, ne_eqb (length a.bytes.now) (length_two a.k) wrong) c.unread-then-bytes-start.ensures

pub returns : goal.returns
unfolding read_two_of
returns c =
    let a = c.args in
    let start = c.length_one-start.ensures in
    let ranged = sym c.in_range.ensures ∙ c.if-not-in_range.false in
    let sized : length a.bytes.now ≡ length_two a.k = omega (arith, c.if-bytes-start.false, start) in
    let right = eq-eqb (length a.bytes.now) (length_two a.k) sized in
    let two = c.byte_section_in-two.ensures ∙ ap (λ (n : ℕ). section_in 1 (take 2 (drop n a.bytes.now))) start in
    simp (ranged, right) (cc (c.said_by.ensures, two, c.acknowledgements_in-one.ensures))
