-- `converter_text::put_converted` meets its contract: what was put so far, after each part, stays within 80 bytes. Assumes nothing.
use Prim.Native.Nat.{◌+◌, ◌*◌}
use mathlib.Core.List.{◌++◌}
use native.Mathlib.Omega.{arith}
use lib.ListN.{length}
use Rattle.plan_text.proofs.Paste.{Sofar, more, nothing}
use Rattle.converter_text.specs.Recorded.{message_text}
use Rattle.converter_text.proofs.Hex.{text-long}
use Rattle.converter_text.proofs.put_converted.Goals as goal

pub put_word-requires : goal.put_word-requires
put_word-requires c = omega (arith, c.requires, text-long c.args.bytes.now)

pub returns : goal.returns
returns c =
    let a = c.args in
    let word : Sofar c.put_word-after_word.result a.at (0 + length a.word.now) a.word.now a.out.now c.put_word-after_word.new.out =
    more (length a.word.now) (omega (arith, c.requires)) (nothing a.at a.out.now) c.put_word-after_word.ensures c.put_word-after_word.auto.out (omega arith) in
    let message : Sofar c.put_message-after_message.result a.at (0 + length a.word.now + 3 * length a.bytes.now) (a.word.now ++ message_text a.bytes.now) a.out.now c.put_message-after_message.new.out =
    more (3 * length a.bytes.now) (omega (arith, c.requires)) word c.put_message-after_message.ensures c.put_message-after_message.auto.out (omega (arith, text-long a.bytes.now)) in
    let all = more 1 (omega (arith, c.requires)) message c.put_word.ensures c.put_word.auto.out (omega arith) in
    record { put = all.put; few = omega (arith, all.near, c.requires) }
