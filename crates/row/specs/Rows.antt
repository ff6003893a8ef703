-- Document 02, request l: "The set shall be held as a row of node numbers in slot order from place 1, with its length, unused places 0." Rows, the sets that they stand for, and which rows
-- are sound.
use Rattle.std.specs.Prelude.{ℕ, ◌-◌, ◌^◌, min, Bool, true, false, cond, ◌&&◌, List, [], ◌∷◌, ◌++◌, eqb, leb, length, take, drop, replicate}
use Rattle.ring.specs.nodeset.Sets.{has}
use Rattle.ring.specs.slot_table.Order.{nodes_at}
use Rattle.row.specs.declared.Row.{Row}

-- "A row of node numbers .. from place 1, with its length, unused places 0."
abbrev pub row_for : List ℕ → Row
row_for nodes = record { length = length nodes; nodes = nodes ++ replicate (32 - length nodes) 0 }

-- Those of the list that pass a test, in its order.
abbrev pub keep : (ℕ → Bool) → List ℕ → List ℕ
keep f [] = []
keep f (x ∷ l) = cond (f x) (x ∷ keep f l) (keep f l)

-- The row of a set: its nodes "in slot order", those of the slot table that are in it. (0, which spare places hold, is in no set.)
unfoldable pub as_row : List ℕ → ℕ → Row
as_row order s = row_for (keep (has s) order)

-- The first list is the second with some left out: in its order, none more often, no other number.
abbrev pub is_part : List ℕ → List ℕ → Bool
is_part [] o = true
is_part (x ∷ l) [] = false
is_part (x ∷ l) (y ∷ o) = cond (eqb x y) (is_part l o) (is_part (x ∷ l) o)

-- All places are 0.
abbrev pub blank : List ℕ → Bool
blank [] = true
blank (x ∷ l) = eqb x 0 && blank l

-- Refused by 4: "a row out of order, doubled, longer than n or with a used spare place". A sound row has 32 places, at most n of them used (a table has no more than 32); the used ones are the
-- slot table with nodes left out, the others 0.
unfoldable pub sound_row : ℕ → List ℕ → Row → Bool
sound_row n order row =
    eqb (length row.nodes) 32
    && (leb row.length (min n 32)
    && (is_part (take row.length row.nodes) (take n order) && blank (drop row.length row.nodes)))

-- The nodes in a row, as a set.
unfoldable pub nodes_in : Row → ℕ
nodes_in row = nodes_at 32 row.nodes

-- The number of no set of nodes 1 to 32.
abbrev pub no_set : ℕ
no_set = 2 ^ 32

-- The set that a row stands for. One that is not sound stands for none: a record with it is refused by 4 "in its old place", as one whose set has other numbers is.
unfoldable pub as_set : ℕ → List ℕ → Row → ℕ
as_set n order row = cond (sound_row n order row) (nodes_in row) no_set
