-- What a caller with a ring's size learns from the answer of `ring::sender`: it is the sender, and never a refusal. Assumes nothing.
use Rattle.std.specs.Prelude.{Err, Ok}
use Prim.Native.Nat.{ℕ}
use mathlib.Core.Path.{◌≡◌, sym, ◌∙◌}
use mathlib.Core.Bool.{true}
use native.Mathlib.Omega.{arith}
use Rattle.ring.proofs.nodeset.Tests.{chosen}
use Rattle.ring.specs.refusal.declared.Refusal.{Refusal}
use Rattle.ring.specs.cable.declared.Cable.{Cable}
use Rattle.ring.specs.Answers.{Speaker}
use Rattle.ring.specs.cable.Cable.{ring_size}
use Rattle.ring.specs.Ring.{sender}
use Rattle.ring.specs.Answers.{sender_of}

same-node : (x y : ℕ) → ◌≡◌ {A = Speaker} (Ok x) (Ok y) → x ≡ y
same-node x y e = cc

node-or-refused : (x : ℕ) (r : Refusal) → ◌≡◌ {A = Speaker} (Ok x) (Err r) → ⊥
node-or-refused x r e = let z : ◌≡◌ {A = ℕ} 0 1 = cc in omega arith

pub is-sender : (cable : Cable) (s x : ℕ) (p : Speaker) → ring_size cable.n ≡ true → p ≡ sender_of cable s → p ≡ Ok x → x ≡ sender cable s
is-sender cable s x p h e f = same-node x (sender cable s) (sym f ∙ e ∙ chosen _ _ h)

pub no-refusal : (cable : Cable) (s : ℕ) (r : Refusal) (p : Speaker) → ring_size cable.n ≡ true → p ≡ sender_of cable s → p ≡ Err r → ⊥
no-refusal cable s r p h e f = node-or-refused (sender cable s) r (sym (chosen _ _ h) ∙ sym e ∙ f)
