use Rattle.plan_text.proofs.Pieces.{all, none, one, room}
use Rattle.plan_report.specs.Calls.{after_byte, byte_text}
use Rattle.plan_report.proofs.Lines.{sound-byte}
use Rattle.plan_report.proofs.take_bytes.Goals as goal

pub loop-byte-init : goal.loop-byte-init
loop-byte-init c = record { taken = none after_byte byte_text 110 c.args.r c.args.input.now c.args.out.now; sound = c.requires.0 }

pub take_byte-taken-requires : goal.take_byte-taken-requires
take_byte-taken-requires c =
    let loop = c.loop-byte in
    (loop.invariant.sound, room loop.invariant.taken c.loop-byte-test.true c.requires.1 loop.auto.out)

pub loop-byte-preserved : goal.loop-byte-preserved
loop-byte-preserved c =
    let loop = c.loop-byte in
    let took = c.take_byte-taken.ensures in
    record { taken = one loop.invariant.taken c.loop-byte-test.true took.is took.put; sound = rw took.is (sound-byte loop.taken.report _ loop.invariant.sound) }

pub returns : goal.returns
returns c = all c.loop-byte.invariant.taken c.loop-byte-test.false
