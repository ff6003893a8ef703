-- What the range tests of the choices (specs/Cable) say of the numbers. Assumes nothing.
use Prim.Native.Nat.{ℕ, ◌+◌, ◌-◌, ◌≤◌}
use mathlib.Core.Path.{◌≡◌}
use mathlib.Core.Bool.{Bool, true, false, cond, ◌&&◌}
use lib.Dec.{eqb, leb}
use borrow.Author.Tests.{leb-true}
use Rattle.slot_table.proofs.nodeset.Tests.{both, all}
use Rattle.slot_table.specs.Order.{is_kept}
use Rattle.cable.specs.declared.Cable.{Cable}
use Rattle.cable.specs.Cable.{ring_size, node_number, lag_fits, sponsor_count, job_count, cable_fits, fault_of}

pub ring-size : (n : ℕ) → ring_size n ≡ true → (3 ≤ n) × (n ≤ 32)
ring-size n e = let t = both (leb 3 n) (leb n 32) e in (leb-true 3 n t.0, leb-true n 32 t.1)

pub node-number : (n x : ℕ) → node_number n x ≡ true → (1 ≤ x) × (x ≤ n)
node-number n x e = let t = both (leb 1 x) (leb x n) e in (leb-true 1 x t.0, leb-true x n t.1)

pub lag-fits : (lag : ℕ) → lag_fits lag ≡ true → lag ≤ 1
lag-fits lag e = leb-true lag 1 e

pub sponsor-count : (cable : Cable) → sponsor_count cable ≡ true → (2 ≤ cable.k) × (cable.k ≤ cable.n - (1 + cable.lag))
sponsor-count cable e =
    let t = both (leb 2 cable.k) (leb cable.k (cable.n - (1 + cable.lag))) e in
    (leb-true 2 cable.k t.0, leb-true cable.k (cable.n - (1 + cable.lag)) t.1)

-- what a cable whose choices are in range has
pub record Fits (cable : Cable) : Type 0 where
  pub ring : ring_size cable.n ≡ true
  pub lag : lag_fits cable.lag ≡ true
  pub sponsors : sponsor_count cable ≡ true
  pub jobs : job_count cable.m ≡ true
  pub order : is_kept cable.n cable.order ≡ true

pub fitting : (cable : Cable) → cable_fits cable ≡ true → Fits cable
fitting cable e =
    let t = both (ring_size cable.n) (lag_fits cable.lag && (sponsor_count cable && (job_count cable.m && is_kept cable.n cable.order))) e in
    let s = both (lag_fits cable.lag) (sponsor_count cable && (job_count cable.m && is_kept cable.n cable.order)) t.1 in
    let u = both (sponsor_count cable) (job_count cable.m && is_kept cable.n cable.order) s.1 in
    let w = both (job_count cable.m) (is_kept cable.n cable.order) u.1 in
    record { ring = t.0; lag = s.0; sponsors = u.0; jobs = w.0; order = w.1 }

pub fits_by : (cable : Cable) → Fits cable → cable_fits cable ≡ true
fits_by cable f = all f.ring (all f.lag (all f.sponsors (all f.jobs f.order)))

-- what holds of each number by which set-up is refused holds of this one
pub fault-by : (P : ℕ → Type 0) (cable : Cable) (places : ℕ) → P 1 → P 16 → P 2 → P 14 → P 17 → P 18 → P (fault_of cable places)
fault-by P cable places size lag count jobs long table =
    either (ring_size cable.n)
    (either (lag_fits cable.lag) (either (sponsor_count cable) (either (job_count cable.m) (either (eqb places cable.n) table long) jobs) count) lag) size
  where
    either : (b : Bool) {x y : ℕ} → P x → P y → P (cond b x y)
    either true p q = p
    either false p q = q
