-- What the acknowledgements of a message say of this node's own one (`says` of specs/Steps), and which of them says it. Assumes nothing.
use Rattle.std.specs.Prelude.{None, Option, Some}
use Prim.Native.Nat.{ℕ, zero, suc, ◌<◌}
use mathlib.Core.Path.{◌≡◌, refl, sym, ap, ◌∙◌}
use mathlib.Core.Bool.{Bool, true, true≢false}
use native.Mathlib.Omega.{arith}
use native.Mathlib.Decide.{ℕ_discrete}
use borrow.Author.Tests.{eqb-true, eq-eqb}
use Rattle.nodeset.specs.Sets.{has}
use Rattle.nodeset.proofs.Tests.{by_cases, both, all, or_left, or_right, or_else}
use Rattle.row.specs.ring.declared.Found.{Found}
use Rattle.row.specs.ring.Ring.{is_found}
use Rattle.node_record.specs.declared.Node.{Node}
use Rattle.node_record.specs.Sponsoring.{sponsored_in}
use Rattle.node_steps.specs.Steps.{says_so, says}
use Rattle.row.specs.ring.Ring.{found}

-- Node x was found, so many slots back.
pub record At (x : ℕ) (f : Option Found) : Type 0 where
  pub back : ℕ
  pub it : f ≡ found x back

pub found_it : (x : ℕ) (f : Option Found) → is_found x f ≡ true → At x f
found_it x (Some f) e = record { back = f.back; it = ap (λ (y : ℕ). found y f.back) (eqb-true f.member x e) }
found_it x None e = absurd (true≢false (sym e))

pub is-found : (x : ℕ) (f : Option Found) → At x f → is_found x f ≡ true
is-found x f a = ap (is_found x) a.it ∙ eq-eqb x x refl

-- Node x is one of the first j members that s sponsors, and its acknowledgement says so.
pub record Told (answer : Bool) (s bits : ℕ) (v : Node) (x j : ℕ) : Type 0 where
  pub i : ℕ
  pub below : i < j
  pub bit : says_so answer (has bits (suc i)) ≡ true
  pub it : At x (sponsored_in s (suc i) v)

-- a message that says so tells this node
pub told-by : (answer : Bool) (j s bits : ℕ) (v : Node) → says answer j s bits v ≡ true → Told answer s bits v v.own j
unfolding says
told-by answer zero s bits v e = absurd (true≢false (sym e))
told-by answer (suc j) s bits v e =
    by_cases (says answer j s bits v)
    (λ t. let r = told-by answer j s bits v t in record { i = r.i; below = omega (arith, r.below); bit = r.bit; it = r.it })
    (λ t.
    let now = both (is_found v.own (sponsored_in s (suc j) v)) (says_so answer (has bits (suc j))) (or_else (says answer j s bits v) _ e t) in
    record { i = j; below = omega arith; bit = now.1; it = found_it v.own (sponsored_in s (suc j) v) now.0 })

pub says-told : (answer : Bool) (j s bits : ℕ) (v : Node) → Told answer s bits v v.own j → says answer j s bits v ≡ true
unfolding says
says-told answer zero s bits v t = let z : ⊥ = omega (arith, t.below) in absurd z
says-told answer (suc j) s bits v t = go (λ (l : t.i < j). says-told answer j s bits v (record { i = t.i; below = l; bit = t.bit; it = t.it })) (ℕ_discrete t.i j)
  where
    go : (t.i < j → says answer j s bits v ≡ true) → Dec (t.i ≡ j) → says answer (suc j) s bits v ≡ true
    go r (yes e) =
        let b : says_so answer (has bits (suc j)) ≡ true = ap (λ (q : ℕ). says_so answer (has bits (suc q))) (sym e) ∙ t.bit in
        let y : is_found v.own (sponsored_in s (suc j) v) ≡ true = ap (λ (q : ℕ). is_found v.own (sponsored_in s (suc q) v)) (sym e) ∙ is-found v.own (sponsored_in s (suc t.i) v) t.it in
        or_right (says answer j s bits v) _ (all y b)
    go r (no e) = or_left (says answer j s bits v) _ (r (omega (arith, t.below)))
