-- Inner: the greatest of all counts, which is not above the slot count just where no count is (`greatest-within` in proofs/Laws).
use Rattle.std.specs.Prelude.{ℕ, zero, suc, max, List, [], length, get_or}
use Rattle.node_reports.specs.Reports.{Row, Counts}

-- The greatest of what f gives for the numbers below m, 0 where there is none.
unfoldable pub greatest_below : (ℕ → ℕ) → ℕ → ℕ
greatest_below f zero = 0
greatest_below f (suc m) = max (greatest_below f m) (f m)

-- The greatest count of a row, of a node, of all nodes.
unfoldable pub row_greatest : Row → ℕ
row_greatest row = greatest_below (λ job. get_or row job 0) 8

unfoldable pub counts_greatest : Counts → ℕ
counts_greatest counts = greatest_below (λ sender. row_greatest (get_or counts sender [])) 32

unfoldable pub greatest_of : List Counts → ℕ
greatest_of all = greatest_below (λ node. counts_greatest (get_or all node [])) (length all)
