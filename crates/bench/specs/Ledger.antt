-- The ledger of leavings (document 02, request a): "for each node how often it left, how often it joined, and the slot of its last leaving (0 if never)". It is lent beside
-- the table, an entry of three numbers per node.
use Rattle.std.specs.Prelude.{ℕ, suc, ◌+◌, Bool, true, cond, not, ◌&&◌, List, [], ◌∷◌, eqb, leb, length, get_or}
use Rattle.node.specs.node_record.declared.State.{State}
use Rattle.node.specs.node_record.States.{is_member}
use Rattle.bench.specs.Table.{Table, record_of}

-- ---- entries

abbrev pub Figures : Type 0
Figures = List ℕ

abbrev pub figures : ℕ → ℕ → ℕ → Figures
figures left joined last = left ∷ joined ∷ last ∷ []

abbrev pub left_in : Figures → ℕ
left_in f = get_or f 0 0

abbrev pub joined_in : Figures → ℕ
joined_in f = get_or f 1 0

abbrev pub last_in : Figures → ℕ
last_in f = get_or f 2 0

abbrev pub Ledger : Type 0
Ledger = List Figures

-- ---- 13

-- "a ledger whose length is not n, or with a count above the slot count plus one" (the slot of the last leaving is no count)
abbrev pub counts_fit : ℕ → Figures → Bool
counts_fit slots f = leb (left_in f) (slots + 1) && leb (joined_in f) (slots + 1)

unfoldable pub all_fit : ℕ → Ledger → Bool
all_fit slots [] = true
all_fit slots (f ∷ ledger) = counts_fit slots f && all_fit slots ledger

unfoldable pub ledger_fits : ℕ → ℕ → Ledger → Bool
ledger_fits n slots ledger = eqb (length ledger) n && all_fit slots ledger

-- ---- leaving and joining

-- It was in the member state and is no longer. ("A node that only stops following is not counted.")
abbrev pub is_leaving : State → State → Bool
is_leaving a b = is_member a && not (is_member b)

abbrev pub is_joining : State → State → Bool
is_joining a b = not (is_member a) && is_member b

-- An entry after a call that took the node from one state to another, dated with a slot.
abbrev pub figures_after : ℕ → State → State → Figures → Figures
figures_after date a b f =
    cond (is_leaving a b) (figures (left_in f + 1) (joined_in f) date)
    (cond (is_joining a b) (figures (left_in f) (joined_in f + 1) (last_in f)) f)

-- The ledger after a call that leaves the table so; the first entry is that of node i.
unfoldable pub entries_from : ℕ → Table → Table → ℕ → Ledger → Ledger
entries_from date before after i [] = []
entries_from date before after i (f ∷ ledger) =
    figures_after date (record_of before i).state (record_of after i).state f ∷ entries_from date before after (suc i) ledger

abbrev pub ledger_after : ℕ → Table → Table → Ledger → Ledger
ledger_after date before after ledger = entries_from date before after 1 ledger
