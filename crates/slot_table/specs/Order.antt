-- Document 02, request k: "A slot table says which node speaks at each place, each node exactly once; the record keeps it with spare places 0." A table is a list of node numbers, place 1
-- first.
use Rattle.std.specs.Prelude.{ℕ, zero, suc, ◌+◌, ◌-◌, min, Bool, true, cond, ◌&&◌, List, [], ◌∷◌, ◌++◌, eqb, leb, get_or, length, replicate, take}
use Rattle.nodeset.specs.Sets.{with, full}

-- "Which node speaks at each place": the one at place p, 0 where there is no such place.
unfoldable pub node_at : List ℕ → ℕ → ℕ
node_at order zero = 0
node_at order (suc p) = get_or order p 0

-- The nodes at the first m places.
unfoldable pub nodes_at : ℕ → List ℕ → ℕ
nodes_at zero order = 0
nodes_at (suc m) order = with (nodes_at m order) (node_at order (suc m))

-- "Each node exactly once": none of the nodes 1 to n is missing at the first n places, so that none is doubled there (`Ordered-of`).
unfoldable pub is_order : ℕ → List ℕ → Bool
is_order n order = leb n 32 && eqb (nodes_at n order) (full n)

-- "With spare places 0": the m places after place n.
unfoldable pub spare_empty : ℕ → ℕ → List ℕ → Bool
spare_empty zero n order = true
spare_empty (suc m) n order = spare_empty m n order && eqb (node_at order (n + suc m)) 0

-- What a record keeps for n nodes: 32 places, of which the first n are the table.
unfoldable pub is_kept : ℕ → List ℕ → Bool
is_kept n order = eqb (length order) 32 && (is_order n order && spare_empty (32 - n) n order)

-- A table as it is kept: 32 places at the most, the spare ones 0.
unfoldable pub kept : List ℕ → List ℕ
kept order = let count = min (length order) 32 in take count order ++ replicate (32 - count) 0

-- m numbers from i on.
unfoldable pub numbers_from : ℕ → ℕ → List ℕ
numbers_from zero i = []
numbers_from (suc m) i = i ∷ numbers_from m (suc i)

-- "The plain table 1 to n", as it is kept.
unfoldable pub plain : ℕ → List ℕ
plain n = let count = min n 32 in numbers_from count 1 ++ replicate (32 - count) 0

-- The place of node x: the first of `left` places from place p on; 0 where that node has none of them.
unfoldable pub place_from : ℕ → List ℕ → ℕ → ℕ → ℕ
place_from zero order x p = 0
place_from (suc left) order x p = cond (eqb (node_at order p) x) p (place_from left order x (suc p))

unfoldable pub place : List ℕ → ℕ → ℕ
place order x = place_from 32 order x 1

-- The same node at each of the first m places; two tables that are kept are the same.
unfoldable pub same_to : ℕ → List ℕ → List ℕ → Bool
same_to zero a b = true
same_to (suc m) a b = same_to m a b && eqb (node_at a (suc m)) (node_at b (suc m))

abbrev pub same_order : List ℕ → List ℕ → Bool
same_order a b = eqb (length a) (length b) && same_to 32 a b
