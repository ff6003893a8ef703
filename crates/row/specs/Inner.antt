-- Inner: what the code computes of any row and any table. Laws tie it to sets where the row is that of a set (row_laws' proofs/Laws): it need not be believed.
use Rattle.std.specs.Prelude.{ℕ, zero, suc, ◌+◌, ◌-◌, Bool, false, cond, not, ◌&&◌, ◌||◌, List, [], ◌∷◌, ◌++◌, eqb, leb, ltb, get_or, set, take, drop}
use Rattle.ring.specs.nodeset.Sums.{num}
use Rattle.ring.specs.slot_table.Order.{place, same_order}
use Rattle.row.specs.declared.Row.{Row}
use Rattle.row.specs.Rows.{row_for, keep}

-- x stands in the list.
abbrev pub elem : ℕ → List ℕ → Bool
elem x [] = false
elem x (y ∷ l) = eqb y x || elem x l

-- Node x, of 1 to 32, stands in the row.
unfoldable pub has_row : Row → ℕ → Bool
has_row row x = leb 1 x && (leb x 32 && elem x row.nodes)

-- ---- taking out, putting in

-- m stays where x goes.
abbrev pub stays : ℕ → ℕ → Bool
stays x m = not (eqb m 0) && not (eqb m x)

-- The row without node x: those after it move up.
unfoldable pub without_row : Row → ℕ → Row
without_row row x = row_for (keep (stays x) row.nodes)

-- A place of the row holds node m of the table.
abbrev pub is_next : ℕ → ℕ → Bool
is_next m y = not (eqb m 0) && eqb y m

-- Table and row side by side: how many places of the row are passed with the first i of the table.
unfoldable pub passed : ℕ → List ℕ → List ℕ → ℕ
passed zero order nodes = 0
passed (suc i) order nodes = let p = passed i order nodes in p + num (is_next (get_or order i 0) (get_or nodes p 0))

-- How many of the row speak before node x, from place 1 of the table on.
unfoldable pub rank_in : List ℕ → Row → ℕ → ℕ
rank_in order row x = passed (place order x - 1) order row.nodes

-- 32 places with m put in at index p: those from there on move down, the last one goes.
abbrev pub put_in : ℕ → ℕ → List ℕ → List ℕ
put_in p m nodes = take 32 (take p nodes ++ m ∷ drop p nodes)

-- Node x, of 1 to 32, is not in the row, and there is room.
abbrev pub may_join : Row → ℕ → Bool
may_join row x = not (has_row row x || leb 32 row.length) && (leb 1 x && leb x 32)

-- It is put in after those that speak before it.
unfoldable pub with_row : List ℕ → Row → ℕ → Row
with_row order row x = cond (may_join row x) (record { length = row.length + 1; nodes = put_in (rank_in order row x) x row.nodes }) row

-- ---- the members before a node

-- The j-th member before a node with p members before it, itself in the row or not: j places back, round the row's end. 0 for nobody.
unfoldable pub back_in : Row → ℕ → Bool → ℕ → ℕ
back_in row p here j =
    cond (eqb j 0 || (ltb 32 row.length || ltb 32 p)) 0
    (cond (leb j p) (get_or row.nodes (p - j) 0)
    (cond (ltb row.length j || (eqb row.length j && here)) 0
    (get_or row.nodes (row.length + p - j) 0)))

-- The j-th member before node x.
abbrev pub before_row : List ℕ → Row → ℕ → ℕ → ℕ
before_row order row x j = back_in row (rank_in order row x) (has_row row x) j

-- ---- equal rows

-- The same length, and the same number at each place.
abbrev pub same_row : Row → Row → Bool
same_row a b = eqb a.length b.length && same_order a.nodes b.nodes

-- ---- of the code

-- The element, if so.
abbrev pub one : Bool → ℕ → List ℕ
one b x = cond b (x ∷ []) []

-- The row that is being built.
abbrev pub row_at : ℕ → List ℕ → Row
row_at at places = record { length = at; nodes = places }

-- One member more at the end, if so.
abbrev pub added : Row → ℕ → Bool → Row
added r m b = cond (b && ltb r.length 32) (record { length = r.length + 1; nodes = set r.nodes r.length m }) r

-- The next place, if so.
abbrev pub past : ℕ → Bool → ℕ
past p b = cond (b && ltb p 32) (p + 1) p
