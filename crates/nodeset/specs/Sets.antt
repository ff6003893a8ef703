-- Sets of node numbers, as numbers: node 1 is the lowest bit (document 01, "The bench program"), so node i + 1 is bit i.
-- A node number is 1 to 32 ("n nodes are numbered 1 to n, n from 3 to 32"); any other number names no node.
use Rattle.std.specs.Prelude.{ℕ, zero, suc, ◌+◌, ◌-◌, ◌/◌, ◌%◌, ◌^◌, min, Bool, false, cond, not, ◌&&◌, eqb, ltb}
use Rattle.std.specs.Bool.{xor}
use Rattle.std.specs.Int.Bits.{bit_and, bit_or}
use Rattle.nodeset.specs.Sums.{sum, num}

-- Node x is in the set.
unfoldable pub has : ℕ → ℕ → Bool
has s zero = false
has s (suc i) = eqb (s / 2 ^ i % 2) 1

-- The set with node x; the set itself where x names no node.
unfoldable pub with : ℕ → ℕ → ℕ
with s zero = s
with s (suc i) = cond (ltb i 32 && not (has s (suc i))) (s + 2 ^ i) s

-- The set with node x if so, else the set itself.
abbrev pub with_if : Bool → ℕ → ℕ → ℕ
with_if so s x = cond so (with s x) s

-- The set without node x.
unfoldable pub without : ℕ → ℕ → ℕ
without s zero = s
without s (suc i) = cond (has s (suc i)) (s - 2 ^ i) s

-- The nodes that are in one of the sets or in both.
abbrev pub union : ℕ → ℕ → ℕ
union a b = bit_or a b

-- The nodes of the first set, of 1 to 32, that are not in the second.
abbrev pub minus : ℕ → ℕ → ℕ
minus a b = bit_and a (2 ^ 32 - 1 - b)

-- The set of the nodes 1 to n, all of 1 to 32 where n is more.
unfoldable pub full : ℕ → ℕ
full n = 2 ^ min n 32 - 1

-- The set holds only numbers 1 to n.
abbrev pub within : ℕ → ℕ → Bool
within n s = ltb s (2 ^ n)

-- Every node of the first set is in the second.
unfoldable pub subset : ℕ → ℕ → Bool
subset a b = eqb (sum (λ x. num (has a x && not (has b x))) 1 32) 0

-- How many of the nodes 1 to n are in the set.
unfoldable pub size : ℕ → ℕ → ℕ
size n s = sum (λ x. num (has s x)) 1 n

-- The distance of two sets: how many of the nodes 1 to n are in one of them and not in the other
-- ("Ones counted in the differing bits of two sets").
unfoldable pub distance : ℕ → ℕ → ℕ → ℕ
distance n a b = sum (λ x. num (xor (has a x) (has b x))) 1 n

-- The run of ones from bit x on, of at most `most` bits.
unfoldable pub run_from : ℕ → ℕ → ℕ → ℕ
run_from zero x s = 0
run_from (suc most) x s = cond (has s x) (suc (run_from most (suc x) s)) 0

-- "The run of ones from bit 1" of 32 acknowledgement bits ("Listening").
abbrev pub run : ℕ → ℕ
run s = run_from 32 1 s
