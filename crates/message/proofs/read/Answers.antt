-- `message::read` meets its contract: at each `return` the tests that led there say which case of `read_of` holds. Assumes nothing.
use Prim.Native.Nat.{ℕ, ◌+◌}
use mathlib.Core.Path.{◌≡◌, sym, ap, ◌∙◌}
use native.Mathlib.Omega.{arith}
use lib.ListN.{length, take, drop}
use borrow.Author.Tests.{eq-eqb, ne_eqb}
use Rattle.message.specs.Message.{length_of, read_of, section_in}
use Rattle.message.proofs.read.Goals as goal

pub returns-then-not-in_range : goal.returns-then-not-in_range
unfolding read_of
returns-then-not-in_range c =
    let wrong = sym c.in_range.ensures ∙ c.if-not-in_range.true in
    simp wrong c.unread.ensures

pub returns-then-not-is_job_count : goal.returns-then-not-is_job_count
unfolding read_of
returns-then-not-is_job_count c =
    let many = sym c.is_job_count.ensures ∙ c.if-not-is_job_count.true in
    let ranged = sym c.in_range.ensures ∙ c.if-not-in_range.false in
    simp (ranged, many) c.unread-then-not-is_job_count.ensures

pub returns-then-bytes-start : goal.returns-then-bytes-start
unfolding read_of
returns-then-bytes-start c =
    let a = c.args in
    let wrong : length a.bytes.now ≡ length_of a.k → ⊥ = λ e. c.if-bytes-start.true (omega (arith, e, c.length_one-start.ensures)) in
    let ranged = sym c.in_range.ensures ∙ c.if-not-in_range.false in
    let few = sym c.is_job_count.ensures ∙ c.if-not-is_job_count.false in
    simp (ranged, few, ne_eqb (length a.bytes.now) (length_of a.k) wrong) c.unread-then-bytes-start.ensures

pub returns : goal.returns
unfolding read_of
returns c =
    let a = c.args in
    let start = c.length_one-start.ensures in
    let ranged = sym c.in_range.ensures ∙ c.if-not-in_range.false in
    let few = sym c.is_job_count.ensures ∙ c.if-not-is_job_count.false in
    let sized : length a.bytes.now ≡ length_of a.k = omega (arith, c.if-bytes-start.false, start) in
    let right = eq-eqb (length a.bytes.now) (length_of a.k) sized in
    let two = c.byte_section_in-two.ensures ∙ ap (λ (n : ℕ). section_in 1 (take 2 (drop n a.bytes.now))) start in
    let three = c.byte_section_in-three.ensures ∙ ap (λ (n : ℕ). section_in a.m (take 2 (drop (n + 2) a.bytes.now))) start in
    simp (ranged, few, right)
    (cc (c.said_by.ensures, three, two, c.acknowledgements_in-one.ensures))
