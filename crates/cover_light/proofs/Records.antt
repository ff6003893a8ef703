-- A record as `node::as_set` gives it, by its contract alone. Assumes nothing.
use Rattle.std.specs.Prelude.{Result, Err, Ok}
use Prim.Native.Nat.{ℕ, ◌≤◌}
use mathlib.Core.Path.{◌≡◌, ◌∙◌}
use mathlib.Core.Bool.{true, false}
use native.Mathlib.Omega.{arith}
use Rattle.refusal.specs.declared.Refusal.{Refusal}
use Rattle.refusal.specs.Causes.{cause}
use Rattle.nodeset.proofs.Tests.{by_cases, chosen, otherwise}
use Rattle.cable.proofs.Ranges.{ring-size}
use Rattle.node_record.specs.declared.Node.{Node}
use Rattle.node_record.specs.declared.Held.{Held}
use Rattle.node_record.specs.Soundness.{sound}
use Rattle.node_record.specs.Held.{setted}
use Rattle.node_record.proofs.Facts.{clauses}
use Rattle.node.specs.Held.{setted_of}

-- there are at most 32 lamps
pub few-lamps : (v : Node) → sound v ≡ true → v.cable.n ≤ 32
few-lamps v s = (ring-size v.cable.n (clauses v s).choices.ring).1

module _ (v : Held) (r : Result Node Refusal) (e : r ≡ setted_of v) where
  -- a conversion that is made gives the record that is held, and it is sound
  pub made : (node : Node) → r ≡ Ok node → (node ≡ setted v) × (sound (setted v) ≡ true)
  unfolding setted_of
  made node h =
      by_cases (sound (setted v))
      (λ s. let q : r ≡ Ok (setted v) = e ∙ chosen _ _ s in (cc, s))
      (λ s. let q : r ≡ Err (cause 4) = e ∙ otherwise _ _ s in let z : ◌≡◌ {A = ℕ} 0 1 = cc in absurd (omega arith))

  -- one that is refused is so by 4, of a record that is not sound
  pub unmade : (why : Refusal) → r ≡ Err why → (why ≡ cause 4) × (sound (setted v) ≡ false)
  unfolding setted_of
  unmade why h =
      by_cases (sound (setted v))
      (λ s. let q : r ≡ Ok (setted v) = e ∙ chosen _ _ s in let z : ◌≡◌ {A = ℕ} 0 1 = cc in absurd (omega arith))
      (λ s. let q : r ≡ Err (cause 4) = e ∙ otherwise _ _ s in (cc, s))
