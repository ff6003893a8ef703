-- The table (document 01, "The bench"): "a lent slice of node records, one per node in number order, all with the same n, k and slot count"; a kept choice of set-up is "the same throughout the table" (document 02, h).
use Rattle.std.specs.Prelude.{ℕ, suc, ◌+◌, ◌-◌, Bool, true, false, ◌&&◌, List, [], ◌∷◌, eqb, length, get_or}
use Rattle.cable.specs.declared.Cable.{Cable}
use Rattle.cable.specs.Cable.{same_cable}
use Rattle.node.specs.ring.Ring.{sender}
use Rattle.node.specs.node_record.declared.Node.{Node}
use Rattle.node.specs.node_record.Soundness.{sound}
use Rattle.node.specs.Calls.{no_node}

abbrev pub Table : Type 0
Table = List Node

-- The record of node i: the i-th.
unfoldable pub record_of : Table → ℕ → Node
record_of t i = get_or t (i - 1) no_node

-- Each record made anew from its row and itself; the first of them stands in row i.
unfoldable pub each_from : (ℕ → Node → Node) → ℕ → Table → Table
each_from f i [] = []
each_from f i (v ∷ t) = f i v ∷ each_from f (suc i) t

abbrev pub each : (ℕ → Node → Node) → Table → Table
each f t = each_from f 1 t

-- ---- a table that is not refused by 4

-- A sound record in row i, that of node i, of a table on this cable after so many slots.
abbrev pub in_place : Cable → ℕ → ℕ → Node → Bool
in_place cable slots i v = sound v && (same_cable v.cable cable && (eqb v.slots slots && eqb v.own i))

unfoldable pub placed_from : Cable → ℕ → ℕ → Table → Bool
placed_from cable slots i [] = true
placed_from cable slots i (v ∷ t) = in_place cable slots i v && placed_from cable slots (suc i) t

-- "One per node", and cable and slot count are those of the first record.
unfoldable pub table_sound : Table → Bool
table_sound [] = false
table_sound (v ∷ t) = eqb v.cable.n (suc (length t)) && placed_from v.cable v.slots 1 (v ∷ t)

-- ---- what a sound table says of the next slot

-- n: "one per node".
abbrev pub node_count : Table → ℕ
node_count t = length t

unfoldable pub slots_of : Table → ℕ
slots_of t = (record_of t 1).slots

-- The next slot's sender.
unfoldable pub speaker : Table → ℕ
speaker t = sender (record_of t 1).cable (slots_of t + 1)
