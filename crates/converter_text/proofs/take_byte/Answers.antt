-- `converter_text::take_byte` meets its contract. Assumes nothing.
use mathlib.Core.Path.{◌≡◌, sym, ◌∙◌}
use native.Mathlib.Omega.{arith}
use lib.ListN.{length, take}
use Rattle.std.proofs.lemmas.List.{take_min}
use Rattle.plan_text.proofs.Paste.{nothing}
use Rattle.converter_text.specs.Calls.{bytes_in}
use Rattle.converter_text.proofs.Lines.{an-end, no_end}
use borrow.Author.Rules.{rules}
use Rattle.converter_text.proofs.take_byte.Goals as goal

pub returns-then-byte-ne10 : goal.returns-then-byte-ne10
returns-then-byte-ne10 c =
    let a = c.args in
    let is = no_end a.r.now a.byte c.if-byte-ne10.true in
    record { is = c.with_byte.ensures ∙ sym is.0; put = record { put = rw is.1 (nothing a.at a.out.now).put; few = omega arith } }

pub returns : goal.returns
returns c =
    let r = c.args.r.now in
    let is = an-end r c.args.byte c.if-byte-ne10.false in
    let whole : length r.text ≡ 121 = search rules in
    let same : take c.min-length.result r.text ≡ bytes_in r = rw (c.min-length.ensures, ← whole) (take_min r.length r.text) in
    record { is = c.line_ended.ensures ∙ sym is.0; put = rw is.1 (rw (c.next_line-line.ensures, same) at c.put_line-end.ensures) }
