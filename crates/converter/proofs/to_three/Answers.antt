-- `converter::to_three` meets its contract: each case of what was read is a case of `written_on`. Assumes nothing.
use Rattle.std.specs.Prelude.{Err}
use Rattle.std.proofs.Common.{rules}
use mathlib.Core.Path.{◌≡◌, sym, ap, ◌∙◌}
use mathlib.Core.Bool.{Bool}
use Prim.Native.Nat.{ℕ}
use Rattle.message.specs.Answers.{Reading, Written}
use Rattle.message.specs.declared.Received.{Received}
use Rattle.message.specs.Message.{write_of}
use Rattle.converter.specs.Converter.{to_three_of, written_on}
use Rattle.converter.proofs.to_three.Goals as goal

pub returns-in_err-heard : goal.returns-in_err-heard
unfolding to_three_of
returns-in_err-heard c =
    let a = c.args in
    let out = a.out.now in
    let refused : c.from_residual.result ≡ Err c.in_err-heard.field-0.0 = search rules in
    ap (λ (w : Written). (w, out)) refused
    ∙ ap (λ (r : Reading). written_on r out (λ (x : ℕ) (b : Bool). write_of a.k 0 x b 0 out)) (sym c.in_err-heard.was)
    ∙ ap (λ (r : Received). written_on r.reading out (λ (x : ℕ) (b : Bool). write_of a.k 0 x b 0 out)) c.read_two.ensures

pub returns : goal.returns
unfolding to_three_of
returns c =
    let a = c.args in
    let out = a.out.now in
    c.write.ensures
    ∙ ap (λ (r : Reading). written_on r out (λ (x : ℕ) (b : Bool). write_of a.k 0 x b 0 out)) (sym c.in_ok-heard.was)
    ∙ ap (λ (r : Received). written_on r.reading out (λ (x : ℕ) (b : Bool). write_of a.k 0 x b 0 out)) c.read_two.ensures
