-- `converter::to_two` meets its contract: each case of what was read is a case of `written_on`. Assumes nothing.
use Rattle.std.specs.Prelude.{Err}
use Prim.Native.Nat.{ℕ}
use Rattle.std.proofs.Common.{rules}
use mathlib.Core.Path.{◌≡◌, sym, ap, ◌∙◌}
use mathlib.Core.Bool.{Bool}
use mathlib.Core.List.{List}
use native.Mathlib.Omega.{arith}
use lib.Dec.{eqb}
use borrow.Author.Tests.{eq-eqb, ne_eqb}
use Rattle.message.specs.Answers.{Reading, Written}
use Rattle.message.specs.declared.Received.{Received}
use Rattle.message.specs.Message.{Outcome, if_written}
use Rattle.message.specs.TwoSections.{write_two_of}
use Rattle.converter.specs.Converter.{job_count_in, to_two_of, written_on}
use Rattle.converter.proofs.to_two.Goals as goal

abbrev after : ℕ → List ℕ → List ℕ → Reading → Outcome
after k bytes out r = written_on r out (λ x b. if_written (eqb (job_count_in bytes) 0) 15 out (write_two_of k x b out))

pub returns-in_err-heard : goal.returns-in_err-heard
unfolding to_two_of
returns-in_err-heard c =
    let a = c.args in
    let go = after a.k a.bytes.now a.out.now in
    let refused : c.from_residual.result ≡ Err c.in_err-heard.field-0.0 = search rules in
    ap (λ (w : Written). (w, a.out.now)) refused ∙ ap go (sym c.in_err-heard.was) ∙ ap (λ (x : Received). go x.reading) c.read_any.ensures

pub returns-then-job_count_in-ne0 : goal.returns-then-job_count_in-ne0
unfolding to_two_of
returns-then-job_count_in-ne0 c =
    let a = c.args in
    let go = after a.k a.bytes.now a.out.now in
    let h = c.in_ok-heard.heard in
    let some = ne_eqb (job_count_in a.bytes.now) 0 (λ e. c.if-job_count_in-ne0.true (c.job_count_in.ensures ∙ e)) in
    sym (ap (λ (t : Bool). if_written t 15 a.out.now (write_two_of a.k h.acknowledgements h.return_bit a.out.now)) some)
    ∙ ap go (sym c.in_ok-heard.was)
    ∙ ap (λ (x : Received). go x.reading) c.read_any.ensures

pub returns : goal.returns
unfolding to_two_of
returns c =
    let a = c.args in
    let go = after a.k a.bytes.now a.out.now in
    let h = c.in_ok-heard.heard in
    let none = eq-eqb (job_count_in a.bytes.now) 0 (omega (arith, c.if-job_count_in-ne0.false, c.job_count_in.ensures)) in
    c.write_two.ensures
    ∙ sym (ap (λ (t : Bool). if_written t 15 a.out.now (write_two_of a.k h.acknowledgements h.return_bit a.out.now)) none)
    ∙ ap go (sym c.in_ok-heard.was)
    ∙ ap (λ (x : Received). go x.reading) c.read_any.ensures
