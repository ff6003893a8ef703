-- `message::write_two` meets its contract: at each `return` the tests that led there say which case of `write_two_of` holds. Assumes nothing.
use Prim.Native.Nat.{◌+◌, ◌/◌, ◌^◌, ◌≤◌}
use mathlib.Core.Path.{◌≡◌, sym, ◌∙◌}
use native.Mathlib.Omega.{arith}
use lib.ListN.{length}
use borrow.Author.Tests.{eq-eqb, ne_eqb, le-leb, lt-leb}
use Rattle.message.specs.Message.{length_two}
use Rattle.message.specs.TwoSections.{write_two_of}
use Rattle.message.proofs.Tests.{shifted-out}
use Rattle.message.proofs.write_two.Goals as goal

pub returns-then-not-in_range : goal.returns-then-not-in_range
unfolding write_two_of
returns-then-not-in_range c = simp (sym c.in_range.ensures ∙ c.if-not-in_range.true)

pub returns-then-acknowledgements-k-ne0 : goal.returns-then-acknowledgements-k-ne0
unfolding write_two_of
returns-then-acknowledgements-k-ne0 c =
    let a = c.args in
    let past = sym (shifted-out a.acknowledgements a.k) ∙ ne_eqb (a.acknowledgements / 2 ^ a.k) 0 c.if-acknowledgements-k-ne0.true in
    let ranged = sym c.in_range.ensures ∙ c.if-not-in_range.false in
    simp (ranged, past)

pub returns-then-out-length : goal.returns-then-out-length
unfolding write_two_of
returns-then-out-length c =
    let a = c.args in
    let short = lt-leb (length_two a.k) (length a.out.now) (omega (arith, c.if-out-length.true, c.length_one-length.ensures)) in
    let ranged = sym c.in_range.ensures ∙ c.if-not-in_range.false in
    let within = sym (shifted-out a.acknowledgements a.k) ∙ eq-eqb (a.acknowledgements / 2 ^ a.k) 0 (omega (arith, c.if-acknowledgements-k-ne0.false)) in
    simp (ranged, within, short)

pub returns : goal.returns
unfolding write_two_of
returns c =
    let a = c.args in
    let length-is : c.length_one-length.result + 2 ≡ length_two a.k = omega (arith, c.length_one-length.ensures) in
    let ranged = sym c.in_range.ensures ∙ c.if-not-in_range.false in
    let within = sym (shifted-out a.acknowledgements a.k) ∙ eq-eqb (a.acknowledgements / 2 ^ a.k) 0 (omega (arith, c.if-acknowledgements-k-ne0.false)) in
    let room : length_two a.k ≤ length a.out.now = omega (arith, c.if-out-length.false, c.length_one-length.ensures) in
    simp (ranged, within, le-leb (length_two a.k) (length a.out.now) room)
    (cc (length-is, c.put_two.ensures))
