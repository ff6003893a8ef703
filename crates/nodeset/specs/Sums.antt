-- Sums over numbers in a row: nodes, or slots.
use Rattle.std.specs.Prelude.{ℕ, zero, suc, ◌+◌, Bool, true, false}

-- The sum of f over the m numbers a, a + 1, .., a + m - 1.
unfoldable pub sum : (ℕ → ℕ) → ℕ → ℕ → ℕ
sum f a zero = 0
sum f a (suc m) = sum f a m + f (a + m)

-- 1 for yes, 0 for no.
abbrev pub num : Bool → ℕ
num true = 1
num false = 0
