-- `converter_text::feed` meets its contract. Assumes nothing.
use mathlib.Core.Path.{◌≡◌, sym}
use native.Mathlib.Omega.{arith}
use lib.ListN.{length}
use Rattle.converter_text.specs.Calls.{text_of}
use Rattle.converter_text.proofs.Pieces.{fed-none, fed-some}
use Rattle.converter_text.proofs.feed.Goals as goal

pub returns-then-out-input : goal.returns-then-out-input
returns-then-out-input c = sym (fed-none c.args.recording c.args.input.now c.args.out.now (omega arith))

pub returns : goal.returns
returns c =
    let a = c.args in
    let done = c.take_bytes-at.ensures in
    let count : c.take_bytes-at.result ≡ length (text_of a.recording a.input.now) = omega (arith, done.1.end) in
    rw (fed-some a.recording a.input.now a.out.now (omega arith)) (cc (done.0, count, done.1.bytes))
