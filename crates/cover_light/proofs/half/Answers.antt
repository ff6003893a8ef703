-- `cover_light::half` meets its contract. Assumes nothing.
use Prim.Native.Nat.{ℕ, ◌/◌}
use mathlib.Core.Path.{sym, ap, ◌∙◌}
use Rattle.nodeset.proofs.Tests.{told, chosen, otherwise}
use Rattle.cover_light.specs.Light.{half}
use Rattle.cover_light.proofs.half.Goals as goal

pub returns-then-has : goal.returns-then-has
unfolding half
returns-then-has c = sym (chosen _ _ (told c.has.ensures c.if-has.true))

pub returns : goal.returns
unfolding half
returns c = ap (λ (x : ℕ). x / 2) c.base.ensures ∙ sym (otherwise _ _ (told c.has.ensures c.if-has.false))
