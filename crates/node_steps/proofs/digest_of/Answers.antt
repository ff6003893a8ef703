-- `node_steps::digest_of` meets its contract: it makes the record of its definition. Assumes nothing.
use Prim.Native.Nat.{ℕ}
use mathlib.Core.Path.{ap, ap₂, ◌∙◌}
use Rattle.node_steps.specs.declared.Said.{Said}
use Rattle.node_steps.specs.Held.{said_of, digest_of}
use Rattle.node_steps.proofs.digest_of.Goals as goal

pub returns : goal.returns
unfolding digest_of
returns c =
    let a = c.args in
    let said = c.said_of-said.ensures ∙ ap (λ (b : ℕ). said_of a.s b a.cable a.row) c.bits_heard.ensures in
    ap₂ (λ (x : Said) (y : ℕ). record { row = a.row; said = x; decided = y }) said c.decided-decided.ensures
