-- The counts of failure reports (document 02, request h).
use Rattle.std.specs.Prelude.{ℕ, zero, suc, ◌+◌, ◌-◌, ◌/◌, ◌%◌, ◌^◌, min, Bool, true, cond, ◌&&◌, List, [], ◌∷◌, eqb, leb, ltb, length, get_or, set, replicate}
use Rattle.nodeset.specs.Sets.{has}

-- "Each node keeps, for every node and every job, the number of reports heard": a row for each of 32 senders, that of node 1 first, with a count for each of 8 jobs, that of job 1 first.
abbrev pub Row : Type 0
Row = List ℕ

abbrev pub Counts : Type 0
Counts = List Row

-- "only set-up clears them": no reports heard, at a node, and at each of n nodes.
abbrev pub no_reports : Counts
no_reports = replicate 32 (replicate 8 0)

abbrev pub no_reports_at : ℕ → List Counts
no_reports_at n = replicate n no_reports

-- ---- "A report count above the slot count [..] gives 4"

-- The test holds of each number below m.
unfoldable pub every_below : (ℕ → Bool) → ℕ → Bool
every_below test zero = true
every_below test (suc m) = every_below test m && test m

-- No count is above the slot count: of the 8 of a row, of a node's 32 rows, of all nodes.
unfoldable pub row_within : ℕ → Row → Bool
row_within slots row = every_below (λ job. leb (get_or row job 0) slots) 8

unfoldable pub counts_within : ℕ → Counts → Bool
counts_within slots counts = every_below (λ sender. row_within slots (get_or counts sender [])) 32

unfoldable pub all_within : ℕ → List Counts → Bool
all_within slots all = every_below (λ node. counts_within slots (get_or all node [])) (length all)

-- ---- a report is heard

-- One report more. A count of 2 ^ 64 - 1 stays; none that is not above the slot count comes there (`plain_more` in proofs/Laws).
abbrev pub one_more : ℕ → ℕ
one_more x = min (x + 1) (2 ^ 64 - 1)

-- "one byte with a bit per job, lowest first": the sender's row with one report more for each job whose bit is 1.
unfoldable pub row_with : ℕ → Row → Row
row_with jobs [] = []
row_with jobs (x ∷ row) = cond (eqb (jobs % 2) 1) (one_more x) x ∷ row_with (jobs / 2) row

-- A node's counts when it has heard the sender's job byte. A number that is not 1 to 32 names no node, and has no row.
unfoldable pub counts_with : ℕ → ℕ → Counts → Counts
counts_with zero jobs counts = counts
counts_with (suc i) jobs counts = cond (ltb i 32) (set counts i (row_with jobs (get_or counts i []))) counts

-- The counts of all nodes, the first of which is node x, when the hearers have heard the sender's job byte.
unfoldable pub heard_from : ℕ → ℕ → ℕ → ℕ → List Counts → List Counts
heard_from x hearers sender jobs [] = []
heard_from x hearers sender jobs (counts ∷ rest) = cond (has hearers x) (counts_with sender jobs counts) counts ∷ heard_from (suc x) hearers sender jobs rest

abbrev pub heard_by : ℕ → ℕ → ℕ → List Counts → List Counts
heard_by hearers sender jobs all = heard_from 1 hearers sender jobs all
