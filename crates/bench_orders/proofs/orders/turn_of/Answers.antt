-- `bench_orders::orders::turn_of` meets its contract: its parts are those of the definition. Assumes nothing.
use Prim.Native.Nat.{ℕ, ◌+◌}
use mathlib.Core.Path.{ap, ◌∙◌}
use Rattle.bench.specs.declared.Fate.{Fate}
use Rattle.message.specs.Answers.{Reading}
use Rattle.node_steps.specs.declared.Digest.{Digest}
use Rattle.node_steps.specs.Held.{digest_of}
use Rattle.bench_orders.specs.declared.Turn.{Turn}
use Rattle.bench_orders.specs.Orders.{fate_by}
use Rattle.bench_orders.proofs.orders.turn_of.Goals as goal

abbrev made : ℕ → ℕ → ℕ → Fate → Reading → Digest → Turn
made slots sender missed fate heard digest = record { slot = slots + 1; sender = sender; fate = fate; heard = heard; missed = missed; said = digest.said; decided = digest.decided }

pub returns : goal.returns
returns c =
    let a = c.args in
    let s = a.s in
    let fate = c.fate_of-fate in
    let said = c.spoken_by-heard in
    let told = c.digest_of-digest in
    ap (λ (f : Fate). made s.slots s.sender a.missed f said.result told.result) fate.ensures
    ∙ ap (λ (l : Digest). made s.slots s.sender a.missed (fate_by a.lost s.speaker) said.result l) told.ensures
    ∙ ap (λ (h : Reading). made s.slots s.sender a.missed (fate_by a.lost s.speaker) h (digest_of s.sender h s.speaker.cable s.speaker.row)) said.ensures
