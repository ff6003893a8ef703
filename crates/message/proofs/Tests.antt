-- What the code's tests say of the definitions' tests.
-- Assumes nothing.
use Prim.Native.Nat.{ℕ, ◌/◌, ◌^◌, ◌≤◌, ◌<◌}
use mathlib.Core.Path.{◌≡◌, refl, sym, ◌∙◌}
use mathlib.Core.Bool.{Bool, true, false, cond, ◌&&◌, and-eq-true_iff}
use native.Mathlib.Omega.{arith}
use native.Mathlib.Decide.{dec_lt}
use native.Mathlib.Nat.{div-eq_of_lt, le-div_iff_mul-le}
use mir.Val.{bool_byte}
use lib.Dec.{eqb, ltb, leb}
use lib.Pow.{pow_pos}
use borrow.Author.Tests.{eq-eqb, ne_eqb, lt-ltb, le-ltb, leb-true}
use Rattle.message.specs.Message.{in_range}

-- no bit is left where `count` of them are shifted out
pub shifted-out : (bits count : ℕ) → eqb (bits / 2 ^ count) 0 ≡ ltb bits (2 ^ count)
shifted-out bits count = go (dec_lt bits (2 ^ count))
  where
    go : Dec (bits < 2 ^ count) → eqb (bits / 2 ^ count) 0 ≡ ltb bits (2 ^ count)
    go (yes h) = eq-eqb (bits / 2 ^ count) 0 (div-eq_of_lt h) ∙ sym (lt-ltb bits (2 ^ count) h)
    go (no h) =
        let some : 1 ≤ bits / 2 ^ count = (le-div_iff_mul-le (pow_pos count)).1 (omega arith) in
        ne_eqb (bits / 2 ^ count) 0 (λ e. omega arith) ∙ sym (le-ltb bits (2 ^ count) (omega arith))

-- a test of two holds where both do
pub both : (a b : Bool) → (a && b) ≡ true → (a ≡ true) × (b ≡ true)
both a b e = (and-eq-true_iff a b).0 e

-- a k in range, as numbers
pub in-range : (k : ℕ) → in_range k ≡ true → (2 ≤ k) × (k ≤ 31)
in-range k e =
    let h = (and-eq-true_iff (leb 2 k) (leb k 31)).0 e in
    (leb-true 2 k h.0, leb-true k 31 h.1)

-- a bool as the number that the code makes of it
pub byte-is : (b : Bool) → bool_byte b ≡ cond b 1 0
byte-is true = refl
byte-is false = refl

pub bit-small : (b : Bool) → cond b 1 0 < 2
bit-small true = omega arith
bit-small false = omega arith
