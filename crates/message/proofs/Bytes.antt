-- Laws of `bytes_of` and `little`: each undoes the other, and `little` of n bytes is below 2 ^ (8 * n). By induction on the bytes.
-- Assumes nothing.
use Prim.Native.Nat.{ℕ, zero, suc, ◌+◌, ◌*◌, ◌/◌, ◌%◌, ◌^◌, ◌≤◌, ◌<◌, zero-le, suc-le-suc}
use mathlib.Core.Path.{◌≡◌, refl, ap, ◌∙◌}
use mathlib.Core.List.{List, [], ◌∷◌}
use native.Mathlib.Omega.{arith}
use native.Mathlib.Nat.{mul-suc, lt_of_lt_of_le}
use lib.ListN.{length, get_or, drop, length-drop}
use lib.Arith.{digits_lt}
use lib.Pow.{pow-add, pow_mono, shr_lt}
use lib.Seq.{drop-cons, get_or-drop}
use Rattle.message.specs.Message.{AreBytes, bytes_of, little}

pub bytes-tail : (x : ℕ) (l : List ℕ) → AreBytes (x ∷ l) → AreBytes l
bytes-tail x l h i below = h (suc i) (suc-le-suc below)

pub bytes-head : (x : ℕ) (l : List ℕ) → AreBytes (x ∷ l) → x < 256
bytes-head x l h = h zero (suc-le-suc zero-le)

-- 8 bits more for each byte
pub pow-byte : (n : ℕ) → 2 ^ (8 * suc n) ≡ 2 ^ (8 * n) * 256
pow-byte n = ap (λ (x : ℕ). 2 ^ x) (mul-suc 8 n) ∙ pow-add 2 (8 * n) 8

pub length-bytes_of : (n a : ℕ) → length (bytes_of n a) ≡ n
unfolding bytes_of
length-bytes_of zero a = refl
length-bytes_of (suc n) a = ap suc (length-bytes_of n (a / 256))

pub bytes_of-bytes : (n a : ℕ) → AreBytes (bytes_of n a)
unfolding bytes_of
bytes_of-bytes zero a i below = elim below [ ]
bytes_of-bytes (suc n) a zero below = omega arith
bytes_of-bytes (suc n) a (suc i) below = bytes_of-bytes n (a / 256) i (omega arith)

pub little-lt : (l : List ℕ) → AreBytes l → little l < 2 ^ (8 * length l)
unfolding little
little-lt [] h = omega arith
little-lt (x ∷ l) h =
    let ih = little-lt l (bytes-tail x l h) in
    let all : little l * 256 + x < 2 ^ (8 * length l) * 256 = digits_lt ih (bytes-head x l h) in
    rw (pow-byte (length l)) (omega arith)

pub bytes_drop : (i : ℕ) (l : List ℕ) → AreBytes l → AreBytes (drop i l)
bytes_drop i l h j below =
    let within : i + j < length l = omega (arith, length-drop i l) in
    rw get_or-drop (h (i + j) within)

-- three bytes are below 2 ^ 24
pub three-lt : (i : ℕ) (l : List ℕ) → AreBytes l → length l ≤ i + 3 → little (drop i l) < 2 ^ 24
three-lt i l h short =
    let few : 8 * length (drop i l) ≤ 24 = omega (arith, length-drop i l) in
    lt_of_lt_of_le (little-lt (drop i l) (bytes_drop i l h)) (pow_mono few)

-- one byte more, in front
pub little-drop : (i : ℕ) (l : List ℕ) → i < length l → little (drop i l) ≡ get_or l i 0 + little (drop (suc i) l) * 256
unfolding little
little-drop i l h = rw (drop-cons l i 0 h)

-- the bytes of a number hold it
pub little-bytes_of : (n a : ℕ) → a < 2 ^ (8 * n) → little (bytes_of n a) ≡ a
unfolding bytes_of little
little-bytes_of zero a h = omega arith
little-bytes_of (suc n) a h =
    let below : a < 2 ^ (8 * n + 8) = rw mul-suc at h in
    let ih : little (bytes_of n (a / 256)) ≡ a / 256 = little-bytes_of n (a / 256) (shr_lt (8 * n) 8 below) in
    omega arith

-- bytes are those of the number that they hold
pub bytes_of-little : (l : List ℕ) → AreBytes l → bytes_of (length l) (little l) ≡ l
unfolding bytes_of little
bytes_of-little [] h = refl
bytes_of-little (x ∷ l) h =
    let head = bytes-head x l h in
    let low : (x + little l * 256) % 256 ≡ x = omega arith in
    let high : (x + little l * 256) / 256 ≡ little l = omega arith in
    rw (low, high, bytes_of-little l (bytes-tail x l h))
