-- The pairs of a slot (document 01, "The bench"): "two bytes per node whose state changed: node, then kind .. the bytes after them are untouched, and the
-- number of pairs is returned." Their order is that of document 02, request c.
use Rattle.std.specs.Prelude.{ℕ, suc, Bool, cond, not, ◌&&◌, ◌||◌, List, [], ◌∷◌, ◌++◌, eqb, length, drop, Err, Ok}
use Rattle.node.specs.node_record.declared.State.{State}
use Rattle.node.specs.node_record.States.{is_member, is_listening, is_following, is_knocking, is_out}
use Rattle.node.specs.Answers.{Answer}
use Rattle.bench.specs.Table.{Table}
use Rattle.bench.specs.Calls.{Called}

-- One of the states "member, listening, following, knocking, out" twice.
abbrev pub same_state : State → State → Bool
same_state a b =
    (is_member a && is_member b)
    || ((is_listening a && is_listening b)
    || ((is_following a && is_following b)
    || ((is_knocking a && is_knocking b)
    || (is_out a && is_out b))))

-- "1 left, 2 listening to following, 3 knocked, 4 joined, 5 knocking to following, 6 to listening from following or knocking". No slot makes another change
-- (proofs/SlotKinds).
abbrev pub kind_from : State → State → ℕ
kind_from a b =
    cond (is_member a && is_out b) 1
    (cond (is_listening a && is_following b) 2
    (cond (is_following a && is_knocking b) 3
    (cond (is_knocking a && is_member b) 4
    (cond (is_knocking a && is_following b) 5
    (cond ((is_following a || is_knocking a) && is_listening b) 6 0)))))

-- A pair, and the bytes of pairs.
abbrev pub Pair : Type 0
Pair = ℕ × ℕ

unfoldable pub pair_bytes : List Pair → List ℕ
pair_bytes [] = []
pair_bytes (p ∷ ps) = p.0 ∷ p.1 ∷ pair_bytes ps

-- A change of kind 1, and any other.
abbrev pub leaves : State → State → Bool
leaves a b = not (same_state a b) && eqb (kind_from a b) 1

abbrev pub changes_else : State → State → Bool
changes_else a b = not (same_state a b) && not (eqb (kind_from a b) 1)

-- The nodes of one group, in a table before a slot and in the one after it, by rising number, each with the kind of its change; the first of them is node i.
unfoldable pub group_from : (State → State → Bool) → ℕ → Table → Table → List Pair
group_from group i [] after = []
group_from group i (v ∷ before) [] = []
group_from group i (v ∷ before) (w ∷ after) =
    let rest = group_from group (suc i) before after in
    cond (group v.state w.state) ((i, kind_from v.state w.state) ∷ rest) rest

-- "First come the nodes that left, then all the others, each group by rising node number."
unfoldable pub pairs_in : Table → Table → List Pair
pairs_in before after = group_from leaves 1 before after ++ group_from changes_else 1 before after

-- "The number of pairs is returned": none are told of a slot that is refused.
abbrev pub pairs_told : Table → Called → ℕ
pairs_told before called = go called.answer
  where
    go : Answer → ℕ
    go (Ok _) = length (pairs_in before called.table)
    go (Err cause) = 0

-- The lent bytes after a slot: the pairs, and after them what stood there; a slot that is refused changes no byte.
abbrev pub slot_bytes : Table → Called → List ℕ → List ℕ
slot_bytes before called out = go called.answer
  where
    go : Answer → List ℕ
    go (Ok _) = let bytes = pair_bytes (pairs_in before called.table) in bytes ++ drop (length bytes) out
    go (Err cause) = out
