-- `node::its_turn` meets its contract: on a ring the sender is never refused. Assumes nothing.
use Prim.Native.Nat.{ℕ, ◌+◌}
use mathlib.Core.Path.{refl, ap₂}
use mathlib.Core.Bool.{Bool, ◌&&◌}
use lib.Dec.{eqb}
use Rattle.node_record.proofs.ring_laws.Speakers.{is-sender}
use Rattle.node.proofs.its_turn.Goals as goal

pub returns : goal.returns
returns c =
    let v = c.args.v in
    ap₂ (λ (s : ℕ) (b : Bool). eqb s v.own && b)
    (is-sender v.cable (v.slots + 1) _ _ c.requires c.in-Ok.ensures refl)
    c.sends.ensures
