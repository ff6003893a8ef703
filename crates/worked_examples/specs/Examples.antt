-- "The examples marked P form a single table, proved by one statement against the definitions" (document 01, "What a contract says, and which examples carry
-- proof"). The rows stand in document 01's order under its sentences.
use Rattle.std.specs.Prelude.{ℕ, true, false, List, [], ◌∷◌, replicate, None, Ok}
use Rattle.cover_light.specs.cable.Cable.{cable_of}
use Rattle.cover_light.specs.ring.Answers.{finds, sender_of, sponsored_of, decided_of}
use Rattle.converter.specs.message.Message.{read_of, write_of}
use Rattle.plan_program.specs.bench.Table.{Table}
use Rattle.plan_program.specs.bench.Runs.{Call, off}
use Rattle.plan_program.specs.plan_line.Words.{bytes}
use Rattle.plan_program.specs.Program.{printed}
use Rattle.plan_program.specs.bench.Plans.{ok, lost}
use Rattle.worked_examples.specs.Rows.{Row, ◌gives◌, these, refusal_in, holds, out, standing, standings, miss, after, failures, apart}
use Rattle.cover_light.specs.ring.Ring.{found}

-- ---- plans, and the listing

-- "Input `4 2`, `ok`, `lost`, `ok`, `ok` prints" ("The bench program"): as bytes, and as calls
abbrev pub input : List ℕ
input = bytes "4 2\nok\nlost\nok\nok\n"

abbrev pub listing : List ℕ
listing = bytes "1 1 sent 0000000f 0\n2 2 lost 0000000f 0\n3 3 sent 0000000f 0\n4 4 sent 0000000d 0\n"

abbrev pub slot_two_lost : List Call
slot_two_lost = ok ∷ lost ∷ ok ∷ ok ∷ []

-- "node 3 alone misses slot 2"
abbrev pub slot_two_missed : List Call
slot_two_missed = ok ∷ miss (3 ∷ []) ∷ ok ∷ ok ∷ []

-- "the same with slot 4 lost"
abbrev pub slot_four_lost : List Call
slot_four_lost = ok ∷ miss (3 ∷ []) ∷ ok ∷ lost ∷ []

-- "nodes 1 and 2 off from the start", and so many slots
abbrev pub two_off : ℕ → List Call
two_off slots = off 1 ∷ off 2 ∷ replicate slots ok

abbrev pub all_four : ℕ
all_four = these (1 ∷ 2 ∷ 3 ∷ 4 ∷ [])

-- ---- the table

-- Over any table of four records that was lent to set-up.
unfoldable pub examples : Table → List Row
examples lent =
    -- "n = 4, slot 4 has sender 4; slot 5 has 1."
    (sender_of (cable_of 4 2) 4 gives Ok 4)
    ∷ (sender_of (cable_of 4 2) 5 gives Ok 1)
    -- "set {1,3,4}, k = 2: node 1 sponsors 4, 3 and decides 3."
    ∷ (sponsored_of (cable_of 4 2) (these (1 ∷ 3 ∷ 4 ∷ [])) 1 1 gives finds (found 4 1))
    ∷ (sponsored_of (cable_of 4 2) (these (1 ∷ 3 ∷ 4 ∷ [])) 1 2 gives finds (found 3 2))
    ∷ (sponsored_of (cable_of 4 2) (these (1 ∷ 3 ∷ 4 ∷ [])) 1 3 gives finds None)
    ∷ (decided_of (cable_of 4 2) (these (1 ∷ 3 ∷ 4 ∷ [])) 1 gives finds (found 3 2))
    -- "set {2,5}, k = 3: node 5 sponsors and decides 2."
    ∷ (sponsored_of (cable_of 5 3) (these (2 ∷ 5 ∷ [])) 5 1 gives finds (found 2 3))
    ∷ (sponsored_of (cable_of 5 3) (these (2 ∷ 5 ∷ [])) 5 2 gives finds None)
    ∷ (decided_of (cable_of 5 3) (these (2 ∷ 5 ∷ [])) 5 gives finds (found 2 3))
    -- "set {2}: nobody."
    ∷ (sponsored_of (cable_of 5 3) (these (2 ∷ [])) 2 1 gives finds None)
    ∷ (decided_of (cable_of 5 3) (these (2 ∷ [])) 2 gives finds None)
    -- "k = 2, both yes, no return: 02 03 01 00." ("document 01's messages get 00 00 added for m = 0": document 02, h)
    ∷ (write_of 2 0 0b11 false 0 (replicate 6 0xAA) gives (Ok 6, 0x02 ∷ 0x03 ∷ 0x01 ∷ 0x00 ∷ 0x00 ∷ 0x00 ∷ []))
    -- "k = 9, all yes, return: 09 FF 01 01 01."
    ∷ (write_of 9 0 0b1_1111_1111 true 0 (replicate 7 0xAA) gives (Ok 7, 0x09 ∷ 0xFF ∷ 0x01 ∷ 0x01 ∷ 0x01 ∷ 0x00 ∷ 0x00 ∷ []))
    -- "for k = 2, 02 07 01 00 is refusal 8; 02 03 02 00 is 7."
    ∷ (refusal_in (read_of 2 0 (0x02 ∷ 0x07 ∷ 0x01 ∷ 0x00 ∷ 0x00 ∷ 0x00 ∷ [])).reading gives 8)
    ∷ (refusal_in (read_of 2 0 (0x02 ∷ 0x03 ∷ 0x02 ∷ 0x00 ∷ 0x00 ∷ 0x00 ∷ [])).reading gives 7)
    -- "the listing above; node 2 is out, cause 1."
    ∷ (printed input gives listing)
    ∷ (standing (after 4 2 lent slot_two_lost) 2 gives out 1)
    -- "n = 4, k = 2, node 3 alone misses slot 2: after slot 4 all hold {1,2,3,4}."
    ∷ (standings (after 4 2 lent slot_two_missed) gives replicate 4 (holds all_four))
    -- "the same with slot 4 lost: two failures; node 3 holds {1,3,4}, node 1 all four, node 2 is out, distance 1."
    ∷ (failures 4 2 lent slot_four_lost 4 gives 2)
    ∷ (standing (after 4 2 lent slot_four_lost) 3 gives holds (these (1 ∷ 3 ∷ 4 ∷ [])))
    ∷ (standing (after 4 2 lent slot_four_lost) 1 gives holds all_four)
    ∷ (standing (after 4 2 lent slot_four_lost) 2 gives out 1)
    ∷ (apart (after 4 2 lent slot_four_lost) gives 1)
    -- "n = 4, k = 3, nodes 1 and 2 off from the start: 1 leaves at slot 4, 2 at slot 8." With request f 2 leaves at slot 4, too: "The last example of document 01
    -- then has 2 leaving at slot 4" (document 02).
    ∷ (standings (after 4 3 lent (two_off 3)) gives out 4 ∷ out 4 ∷ replicate 2 (holds all_four))
    ∷ (standings (after 4 3 lent (two_off 4)) gives out 4 ∷ out 4 ∷ replicate 2 (holds (these (3 ∷ 4 ∷ []))))
    ∷ (standings (after 4 3 lent (two_off 8)) gives out 4 ∷ out 4 ∷ replicate 2 (holds (these (3 ∷ 4 ∷ []))))
    ∷ []
