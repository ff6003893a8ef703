-- `node_record::window_sound` meets its contract: it makes the test that its definition asks for in the state. Assumes nothing.
use mathlib.Core.Path.{◌≡◌, sym, ap, ◌∙◌}
use mathlib.Core.Bool.{Bool, true, false, ◌&&◌, ◌||◌, and-true}
use Rattle.nodeset.proofs.Tests.{told}
use Rattle.node_record.specs.Soundness.{implies}
use Rattle.node_record.proofs.window_sound.Goals as goal

-- the clause where the node listens, and where it does not
listens : (b x y : Bool) → b ≡ true → (implies b x && (b || y)) ≡ x
listens b x y e = ap (λ (t : Bool). implies t x && (t || y)) e ∙ and-true x

rests : (b x y : Bool) → b ≡ false → (implies b x && (b || y)) ≡ y
rests b x y e = ap (λ (t : Bool). implies t x && (t || y)) e

pub returns-then-is_listening : goal.returns-then-is_listening
returns-then-is_listening c = c.window_in_range.ensures ∙ sym (listens _ _ _ (told c.is_listening.ensures c.if-is_listening.true))

pub returns : goal.returns
returns c = c.window_empty.ensures ∙ sym (rests _ _ _ (told c.is_listening.ensures c.if-is_listening.false))
