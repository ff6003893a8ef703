-- What line one says is in range.
-- Assumes nothing.
use Rattle.std.specs.Prelude.{Err, Ok}
use Prim.Native.Nat.{ℕ}
use mathlib.Core.Path.{◌≡◌, refl}
use mathlib.Core.Bool.{Bool, true, false, ◌&&◌}
use mathlib.Core.List.{List}
use Rattle.refusal.specs.declared.Refusal.{Refusal}
use Rattle.refusal.specs.declared.Refusal.TheVariants.{PlanLine, RingSize, SponsorCount}
use Rattle.cable.specs.Cable.{cable_of, ring_size, sponsor_count, cable_fits}
use Rattle.cable.proofs.slot_table.Numbers.{plain-kept}
use Rattle.cable.proofs.Ranges.{ring-size, fits_by}
use Rattle.plan_line.specs.Plan.{Opening}
use Rattle.plan_line.specs.Words.{after, before, is_number, value_of}
use Rattle.plan_line.specs.Plan.{if_opened, numbers_of, opening_of, ring_of, short_enough}

-- ---- line one

abbrev pub RingIn : Opening → Type 0
RingIn (Ok (n, k)) = cable_fits (cable_of n k) ≡ true
RingIn (Err cause) = Unit {0}

if-opened : (b : Bool) (cause : Refusal) (o : Opening) → (b ≡ true → RingIn o) → RingIn (if_opened b cause o)
if-opened true cause o h = h refl
if-opened false cause o h = tt

pub opened : (line : List ℕ) → RingIn (opening_of line)
unfolding opening_of numbers_of ring_of
opened line =
    if-opened (short_enough line) PlanLine (numbers_of (before line) (after line)) (λ _.
    if-opened (is_number (before line) && is_number (after line)) PlanLine (ring_of n k) (λ _.
    if-opened (ring_size n) RingSize (if_opened (sponsor_count (cable_of n k)) SponsorCount (Ok (n, k))) (λ size.
    if-opened (sponsor_count (cable_of n k)) SponsorCount (Ok (n, k)) (λ count. fits_by (cable_of n k) (record { ring = size; lag = refl; sponsors = count; jobs = refl; order = plain-kept n (ring-size n size).1 })))))
  where
    n : ℕ
    n = value_of (before line)

    k : ℕ
    k = value_of (after line)
