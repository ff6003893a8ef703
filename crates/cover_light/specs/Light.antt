-- Document 02, request n, "Cover light": the level of each lamp, worked out from what a node knows. Lamps have the nodes' numbers, 1 to n, whatever the slot table.
use Rattle.std.specs.Prelude.{ℕ, zero, suc, ◌+◌, ◌-◌, ◌/◌, min, Bool, cond, ◌&&◌, List, ◌++◌, map, eqb, leb, length, get_or, drop, Err, Ok, Result}
use Rattle.refusal.specs.declared.Refusal.{Refusal}
use Rattle.refusal.specs.Causes.{cause}
use Rattle.nodeset.specs.Sets.{has}
use Rattle.cable.specs.slot_table.Order.{numbers_from}
use Rattle.cable.specs.Cable.{node_number}
use Rattle.node.specs.node_reports.Reports.{every_below}
use Rattle.message.specs.Message.{Outcome, if_written, wrote}
use Rattle.node_record.specs.declared.Node.{Node}
use Rattle.node_record.specs.States.{is_member}
use Rattle.node_record.specs.Soundness.{sound}

-- The level of a lamp, or why there is none.
abbrev pub Light : Type 0
Light = Result ℕ Refusal

-- "0 to 254"; "at most 254"; "254 for each lamp".
abbrev pub brightest : ℕ
brightest = 254

-- "Each lamp i has a base level": the i-th of the table. "Lamps 1 and n have one neighbour": there is no lamp 0 and, in a table of n entries, no lamp n + 1; what is no lamp has base 0, so that nothing is added for it.
unfoldable pub base : List ℕ → ℕ → ℕ
base bases zero = 0
base bases (suc i) = get_or bases i 0

-- "half the base of each neighbour .. that is not listed", "rounded down"
unfoldable pub half : ℕ → List ℕ → ℕ → ℕ
half list bases lamp = cond (has list lamp) 0 (base bases lamp / 2)

-- "A member works out lamp i as its base plus half the base of each neighbour i - 1 and i + 1 that is not listed, halves rounded down one by one, and at most 254."
unfoldable pub worked : ℕ → List ℕ → ℕ → ℕ
worked list bases lamp = min brightest (base bases lamp + half list bases (lamp - 1) + half list bases (lamp + 1))

-- "A node in any other state gives 254 for each lamp."
abbrev pub given_by : Bool → ℕ → List ℕ → ℕ → ℕ
given_by member list bases lamp = cond member (worked list bases lamp) brightest

unfoldable pub lamp_level : Node → List ℕ → ℕ → ℕ
lamp_level v bases lamp = given_by (is_member v.state) v.set bases lamp

-- Refused by 20: "Base above 254 or a table not of n entries".
unfoldable pub bases_fit : ℕ → List ℕ → Bool
bases_fit n bases = eqb (length bases) n && every_below (λ i. leb (get_or bases i 0) brightest) n

-- ---- the calls

-- The level of a lamp: "20, after 4 and 3"; a lamp that is none of 1 to n is 3.
unfoldable pub level_of : Node → List ℕ → ℕ → Light
level_of v bases lamp =
    cond (sound v)
    (cond (node_number v.cable.n lamp)
    (cond (bases_fit v.cable.n bases) (Ok (lamp_level v bases lamp)) (Err (cause 20)))
    (Err (cause 3)))
    (Err (cause 4))

-- The levels of the lamps 1 to n.
unfoldable pub all_levels : Node → List ℕ → List ℕ
all_levels v bases = map (lamp_level v bases) (numbers_from v.cable.n 1)

-- All levels, written to the start of lent bytes: 4, 20 and 9. The bytes after them stay, and a refusal leaves all.
unfoldable pub levels_of : Node → List ℕ → List ℕ → Outcome
levels_of v bases out =
    if_written (sound v) 4 out
    (if_written (bases_fit v.cable.n bases) 20 out
    (if_written (leb v.cable.n (length out)) 9 out
    (wrote v.cable.n, all_levels v bases ++ drop v.cable.n out)))
