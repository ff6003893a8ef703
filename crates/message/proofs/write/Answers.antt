-- `message::write` meets its contract: at each `return` the tests that led there say which case of `write_of` holds. Assumes nothing.
use Prim.Native.Nat.{◌+◌, ◌≤◌}
use mathlib.Core.Path.{◌≡◌, sym, ◌∙◌}
use native.Mathlib.Omega.{arith}
use lib.ListN.{length}
use borrow.Author.Tests.{le-leb, lt-leb}
use Rattle.message.specs.Message.{length_of, write_of}
use Rattle.message.proofs.write.Goals as goal

pub returns-then-not-in_range : goal.returns-then-not-in_range
unfolding write_of
returns-then-not-in_range c = simp (sym c.in_range.ensures ∙ c.if-not-in_range.true)

pub returns-then-not-is_job_count : goal.returns-then-not-is_job_count
unfolding write_of
returns-then-not-is_job_count c =
    let many = sym c.is_job_count.ensures ∙ c.if-not-is_job_count.true in
    let ranged = sym c.in_range.ensures ∙ c.if-not-in_range.false in
    simp (ranged, many)

pub returns-then-not-no_spare_bit : goal.returns-then-not-no_spare_bit
unfolding write_of
returns-then-not-no_spare_bit c =
    let past = sym c.no_spare_bit.ensures ∙ c.if-not-no_spare_bit.true in
    let ranged = sym c.in_range.ensures ∙ c.if-not-in_range.false in
    let few = sym c.is_job_count.ensures ∙ c.if-not-is_job_count.false in
    simp (ranged, few, past)

pub returns-then-out-length : goal.returns-then-out-length
unfolding write_of
returns-then-out-length c =
    let a = c.args in
    let short = lt-leb (length_of a.k) (length a.out.now) (omega (arith, c.if-out-length.true, c.length_one-length.ensures)) in
    let ranged = sym c.in_range.ensures ∙ c.if-not-in_range.false in
    let few = sym c.is_job_count.ensures ∙ c.if-not-is_job_count.false in
    let within = sym c.no_spare_bit.ensures ∙ c.if-not-no_spare_bit.false in
    simp (ranged, few, within, short)

pub returns : goal.returns
unfolding write_of
returns c =
    let a = c.args in
    let length-is : c.length_one-length.result + 4 ≡ length_of a.k = omega (arith, c.length_one-length.ensures) in
    let ranged = sym c.in_range.ensures ∙ c.if-not-in_range.false in
    let few = sym c.is_job_count.ensures ∙ c.if-not-is_job_count.false in
    let within = sym c.no_spare_bit.ensures ∙ c.if-not-no_spare_bit.false in
    let room : length_of a.k ≤ length a.out.now = omega (arith, c.if-out-length.false, c.length_one-length.ensures) in
    simp (ranged, few, within, le-leb (length_of a.k) (length a.out.now) room)
    (cc (length-is, c.put_message.ensures))
