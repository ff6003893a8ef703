-- `plan_text::count_places` meets its contract: 0 has one digit, as 1 has.
-- Assumes nothing.
use Prim.Native.Nat.{ℕ, ◌+◌, ◌*◌, ◌^◌, ◌≤◌, ◌<◌, max}
use mathlib.Core.Path.{◌≡◌, sym, ap, ◌∙◌}
use native.Mathlib.Omega.{arith}
use native.Mathlib.Decide.{dec_lt}
use Rattle.plan_text.specs.Text.{places}
use Rattle.plan_text.proofs.Digits.{places-log, places-stop}
use Rattle.plan_text.proofs.count_places.Goals as goal

counted : (k x y : ℕ) → y ≡ max x 1 → k < 20 → 10 ^ k ≤ y → y < 10 * 10 ^ k → k + 1 ≡ places 19 x
counted k x y e few low high = omega (arith, places-log 19 k y (omega arith) low high) ∙ same (dec_lt x 1)
  where
    same : Dec (x < 1) → places 19 y ≡ places 19 x
    same (yes none) = places-stop 19 y (omega arith) ∙ sym (places-stop 19 x (omega arith))
    same (no some) = let is : y ≡ x = omega arith in ap (places 19) is

pub returns : goal.returns
returns c = counted c.ilog10.result c.args.x c.max.result c.max.ensures c.ilog10.ensures.bound c.ilog10.ensures.power_le c.ilog10.ensures.next_power_gt
