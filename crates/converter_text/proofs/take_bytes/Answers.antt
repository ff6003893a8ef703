use Rattle.plan_text.proofs.Pieces.{all, none, one, room}
use Rattle.converter_text.specs.Calls.{after_byte, byte_text}
use Rattle.converter_text.proofs.take_bytes.Goals as goal

pub loop-byte-init : goal.loop-byte-init
loop-byte-init c = none after_byte byte_text 80 c.args.r.now c.args.input.now c.args.out.now

pub take_byte-at-requires : goal.take_byte-at-requires
take_byte-at-requires c = room c.loop-byte.invariant c.loop-byte-test.true c.requires c.loop-byte.auto.out

pub loop-byte-preserved : goal.loop-byte-preserved
loop-byte-preserved c =
    let took = c.take_byte-at.ensures in
    one c.loop-byte.invariant c.loop-byte-test.true took.is took.put

pub returns : goal.returns
returns c = all c.loop-byte.invariant c.loop-byte-test.false
