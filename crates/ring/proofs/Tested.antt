-- What a call answers that walks only where the tests are passed (specs/Places) is what specs/Answers says. Assumes nothing.
use Rattle.std.specs.Prelude.{Err, Ok, Option}
use Prim.Native.Nat.{ℕ}
use mathlib.Core.Path.{◌≡◌, refl, sym, ap, ◌∙◌}
use mathlib.Core.Bool.{Bool, true, false, cond}
use Rattle.refusal.specs.declared.Refusal.{Refusal}
use Rattle.refusal.specs.declared.Refusal.TheVariants.{RingSize, Lag, SponsorCount, NodeNumber}
use Rattle.cable.specs.declared.Cable.{Cable}
use Rattle.ring.specs.declared.Found.{Found}
use Rattle.ring.specs.Answers.{Lookup}
use Rattle.ring.specs.Places.{Tests}
use Rattle.cable.specs.Cable.{ring_size, lag_fits, sponsor_count, node_number}
use Rattle.ring.specs.Answers.{finds, refuses, on_cable}
use Rattle.ring.specs.Places.{tests_of}

abbrev answered : Tests → Option Found → Lookup
answered (Ok _) found = finds found
answered (Err cause) found = Err cause

on-cable : (cable : Cable) (x : ℕ) (found : Option Found) → answered (tests_of cable x) found ≡ on_cable cable x found
on-cable cable x found = go (ring_size cable.n) (lag_fits cable.lag) (sponsor_count cable) (node_number cable.n x)
  where
    go : (a l b c : Bool)
        → answered (cond a (cond l (cond b (cond c (Ok tt) (Err NodeNumber)) (Err SponsorCount)) (Err Lag)) (Err RingSize)) found
        ≡ cond a (cond l (cond b (cond c (finds found) (refuses 3)) (refuses 2)) (refuses 16)) (refuses 1)
    go true true true true = refl
    go true true true false = refl
    go true true false c = refl
    go true false b c = refl
    go false l b c = refl

-- the tests are passed, and this was found
pub tests-passed : (cable : Cable) (x : ℕ) (tests : Tests) (r found : Option Found) → tests ≡ tests_of cable x → tests ≡ Ok tt → r ≡ found → finds r ≡ on_cable cable x found
tests-passed cable x tests r found e p q =
    ap finds q ∙ sym (ap (λ (t : Tests). answered t found) (sym e ∙ p)) ∙ on-cable cable x found

-- one was not
pub test-failed : (cable : Cable) (x : ℕ) (tests : Tests) (cause : Refusal) (found : Option Found) → tests ≡ tests_of cable x → tests ≡ Err cause → Err cause ≡ on_cable cable x found
test-failed cable x tests cause found e p = sym (ap (λ (t : Tests). answered t found) (sym e ∙ p)) ∙ on-cable cable x found
