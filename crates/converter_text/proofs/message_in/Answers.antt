use Rattle.std.specs.Prelude.{None}
use Prim.Native.Nat.{◌+◌, ◌*◌, ◌/◌, ◌≤◌}
use mathlib.Core.Path.{◌≡◌, sym, ◌∙◌}
use mathlib.Core.List.{append-nil}
use native.Mathlib.Omega.{arith}
use borrow.Author.Rules.{rules}
use lib.ListN.{length}
use Rattle.converter_text.proofs.Hex.{bytes-end, bytes_next, held, message-end, message-next, message-stop, message-threes}
use Rattle.converter_text.proofs.message_in.Goals as goal

pub returns-then-text-ne0 : goal.returns-then-text-ne0
returns-then-text-ne0 c = message-threes c.args.text.now c.if-text-ne0.true

pub returns-in_err-bytes : goal.returns-in_err-bytes
returns-in_err-bytes c =
    let loop = c.loop-i in
    let none : c.from_residual.result ≡ None = search rules in
    rw none (sym loop.invariant.same ∙ message-stop c.args.text.now (3 * loop.i) (omega arith) (sym c.byte_of.ensures ∙ c.in_err-bytes.was))

pub loop-i-preserved : goal.loop-i-preserved
loop-i-preserved c =
    let loop = c.loop-i in
    let text = c.args.text.now in
    let at = 3 * loop.i in
    let next : 3 * (loop.i + 1) ≡ at + 3 = omega arith in
    let byte = c.in_ok-bytes.field-0 in
    let here = sym c.byte_of.ensures ∙ c.in_ok-bytes.was in
    record {
      room = search rules;
      same = rw next (sym (message-next text at (omega arith) byte here) ∙ loop.invariant.same);
      held = rw next (held loop.bytes loop.i byte _ _ (omega arith) (rw (bytes_next text at (omega arith) byte here) at loop.invariant.held));
    }

pub returns : goal.returns
returns c =
    let loop = c.loop-i in
    let text = c.args.text.now in
    let all : length text ≤ 3 * loop.i = omega arith in
    let count : length text / 3 ≡ loop.i = omega arith in
    record {
      is = sym loop.invariant.same ∙ message-end text (3 * loop.i) all;
      few = omega arith;
      bytes = rw count (rw (bytes-end text (3 * loop.i) all, append-nil) at loop.invariant.held);
    }
