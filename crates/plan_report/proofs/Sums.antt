-- Laws of figures and of sums that stay within 64 bits (specs/Figures, specs/Report, specs/Tallies). Assumes nothing.
use Prim.Native.Nat.{ℕ, ◌+◌, ◌≤◌, min}
use mathlib.Core.Path.{◌≡◌, ap, ◌∙◌}
use native.Mathlib.Omega.{arith}
use Rattle.plan_report.specs.declared.Figures.{Figures}
use Rattle.plan_report.specs.Figures.{last64, no_figures, plus}

-- ---- figures

-- figures are equal where each of the four is
pub four : {f g : Figures} → f.slots ≡ g.slots → f.members ≡ g.members → f.listed ≡ g.listed → f.apart ≡ g.apart → f ≡ g
four {f} {g} s m l d =
    ap (λ (x : ℕ). record { slots = x; members = f.members; listed = f.listed; apart = f.apart }) s
    ∙ ap (λ (x : ℕ). record { slots = g.slots; members = x; listed = f.listed; apart = f.apart }) m
    ∙ ap (λ (x : ℕ). record { slots = g.slots; members = g.members; listed = x; apart = f.apart }) l
    ∙ ap (λ (x : ℕ). record { slots = g.slots; members = g.members; listed = g.listed; apart = x }) d

-- Each figure is so much at the most.
pub record AtMost (most : ℕ) (f : Figures) : Type 0 where
  pub slots : f.slots ≤ most
  pub members : f.members ≤ most
  pub listed : f.listed ≤ most
  pub apart : f.apart ≤ most

pub none-few : (most : ℕ) → AtMost most no_figures
none-few most = record { slots = omega arith; members = omega arith; listed = omega arith; apart = omega arith }

pub both-few : {a b : ℕ} {f g : Figures} → AtMost a f → AtMost b g → AtMost (a + b) (plus f g)
both-few x y = record { slots = omega (arith, x.slots, y.slots); members = omega (arith, x.members, y.members); listed = omega (arith, x.listed, y.listed); apart = omega (arith, x.apart, y.apart) }

pub more_room : {a b : ℕ} {f : Figures} → a ≤ b → AtMost a f → AtMost b f
more_room h x = record { slots = omega (arith, x.slots); members = omega (arith, x.members); listed = omega (arith, x.listed); apart = omega (arith, x.apart) }

pub none-plus : (f : Figures) → plus no_figures f ≡ f
none-plus f = four (omega arith) (omega arith) (omega arith) (omega arith)

-- Figures of 64 bits.
abbrev pub stopped : Figures → Figures
stopped f = record { slots = min f.slots last64; members = min f.members last64; listed = min f.listed last64; apart = min f.apart last64 }

-- what is stopped has 64 bits, and what has 64 bits is not stopped
pub stopped-few : (f : Figures) → AtMost last64 (stopped f)
stopped-few f = record { slots = omega arith; members = omega arith; listed = omega arith; apart = omega arith }

pub not_stopped : {f : Figures} → AtMost last64 f → stopped f ≡ f
not_stopped few = four (omega (arith, few.slots)) (omega (arith, few.members)) (omega (arith, few.listed)) (omega (arith, few.apart))

-- a sum that was stopped before is stopped all the same
pub stopped-twice : (f g h : Figures) → stopped (plus (stopped (plus f g)) h) ≡ stopped (plus f (plus g h))
stopped-twice f g h = four (omega arith) (omega arith) (omega arith) (omega arith)

pub stopped-alone : {f : Figures} → AtMost last64 f → f ≡ stopped (plus f no_figures)
stopped-alone few = four (omega (arith, few.slots)) (omega (arith, few.members)) (omega (arith, few.listed)) (omega (arith, few.apart))
