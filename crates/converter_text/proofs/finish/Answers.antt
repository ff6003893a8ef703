-- `converter_text::finish` meets its contract. Assumes nothing.
use Prim.Native.Nat.{ℕ}
use mathlib.Core.Path.{sym, ap, ◌∙◌}
use mathlib.Core.List.{List, []}
use native.Mathlib.Omega.{arith}
use borrow.Author.Tests.{lt-leb}
use lib.ListN.{length}
use Rattle.plan_text.specs.Text.{refusal_text, written_of}
use Rattle.plan_text.proofs.Paste.{nothing, written}
use Rattle.converter_text.proofs.Lines.{end_none, end-some}
use borrow.Author.Rules.{rules}
use Rattle.converter_text.proofs.finish.Goals as goal

pub returns-then-recording-ne0 : goal.returns-then-recording-ne0
returns-then-recording-ne0 c =
    let a = c.args in
    c.refusal_line.ensures
    ∙ ap (λ (n : ℕ). written_of (refusal_text n 12) 0 a.out.now) c.next_line.ensures
    ∙ ap (λ (t : List ℕ). written_of t 0 a.out.now) (sym (end-some a.recording c.if-recording-ne0.true (search rules)))

pub returns-then-out-lt80 : goal.returns-then-out-lt80
unfolding written_of
returns-then-out-lt80 c = simp (lt-leb 80 (length c.args.out.now) (omega arith))

pub returns : goal.returns
returns c =
    let a = c.args in
    rw (end_none a.recording c.if-recording-ne0.false) (written [] 0 a.out.now 0 a.out.now (omega arith) (nothing 0 a.out.now).put)
