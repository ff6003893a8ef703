-- Inner: the ledger after a call, from who left and who joined in it as two sets. The laws in proofs/Entered tie it to bench's specs/Ledger.
use Rattle.std.specs.Prelude.{ℕ, zero, suc, ◌+◌, Bool, cond, [], ◌∷◌, ltb}
use Rattle.nodeset.specs.Sets.{has, with}
use Rattle.bench.specs.Table.{Table, record_of, node_count}
use Rattle.bench.specs.Ledger.{Ledger, Figures, figures, left_in, joined_in, last_in, is_leaving, is_joining}

abbrev pub one_more : ℕ → ℕ
one_more count = cond (ltb count 18446744073709551615) (count + 1) count

abbrev pub entry_after : ℕ → Bool → Bool → Figures → Figures
entry_after date left joined f =
    cond left (figures (one_more (left_in f)) (joined_in f) date)
    (cond joined (figures (left_in f) (one_more (joined_in f)) (last_in f)) f)

-- Of so many entries, the first of which is that of node i.
unfoldable pub entered_from : ℕ → ℕ → ℕ → ℕ → ℕ → Ledger → Ledger
entered_from date left joined zero i ledger = ledger
entered_from date left joined (suc m) i [] = []
entered_from date left joined (suc m) i (f ∷ ledger) = entry_after date (has left i) (has joined i) f ∷ entered_from date left joined m (suc i) ledger

abbrev pub entered : ℕ → ℕ → ℕ → Ledger → Ledger
entered date left joined ledger = entered_from date left joined 32 1 ledger

-- The nodes 1 to m of which this holds, as a set.
unfoldable pub nodes_where : (ℕ → Bool) → ℕ → ℕ
nodes_where p zero = 0
nodes_where p (suc m) = cond (p (suc m)) (with (nodes_where p m) (suc m)) (nodes_where p m)

-- Who left in a call on a table, and who joined.
abbrev pub leavers : Table → Table → ℕ
leavers before after = nodes_where (λ i. is_leaving (record_of before i).state (record_of after i).state) (node_count before)

abbrev pub joiners : Table → Table → ℕ
joiners before after = nodes_where (λ i. is_joining (record_of before i).state (record_of after i).state) (node_count before)
