use mathlib.Core.List.{[], ◌∷◌}
use native.Mathlib.Omega.{arith}
use lib.ListN.{get_or}
use lib.Seq.{take_all}
use Rattle.plan_text.proofs.Paste.{both, nothing}
use Rattle.converter_text.specs.Recorded.{message_text}
use Rattle.converter_text.proofs.Hex.{text-long, text-next}
use Rattle.converter_text.proofs.put_message.Goals as goal

pub loop-byte-init : goal.loop-byte-init
unfolding message_text
loop-byte-init c = (omega arith, (nothing c.args.at c.args.out.now).put)

pub loop-byte-preserved : goal.loop-byte-preserved
loop-byte-preserved c =
    let loop = c.loop-byte in
    let a = c.args in
    let byte = get_or a.bytes.now loop.byte-index 0 in
    let put = c.put_byte-end.ensures in (
      omega (arith, put.end, text-long (byte ∷ []), loop.invariant.0),
      rw (text-next a.bytes.now loop.byte-index c.loop-byte-test.true) (both (omega (arith, c.requires)) loop.invariant.1 put),
    )

pub returns : goal.returns
returns c =
    let loop = c.loop-byte in
    rw (take_all loop.byte-index c.args.bytes.now (omega arith)) at loop.invariant.1
