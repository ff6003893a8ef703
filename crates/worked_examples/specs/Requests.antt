-- Examples of document 02's requests, under its sentences.
use Rattle.std.specs.Prelude.{ℕ, ◌-◌, Bool, true, false, List, [], ◌∷◌, ◌++◌, reverse, length, get_or, replicate, take, Err, None, Ok}
use Rattle.cover_light.specs.nodeset.Sets.{has}
use Rattle.converter.specs.refusal.Causes.{cause}
use Rattle.cover_light.specs.cable.declared.Cable.{Cable}
use Rattle.cover_light.specs.cable.declared.Choices.{Choices}
use Rattle.cover_light.specs.cable.Cable.{cable_of, lagging_cable, cable_with}
use Rattle.cover_light.specs.ring.Answers.{finds, sender_of, sponsored_of, decided_of}
use Rattle.cover_light.specs.node_record.declared.Window.{Window}
use Rattle.cover_light.specs.node_hearing.Hearing.{clean}
use Rattle.cover_light.specs.node_sending.Sending.{bits_sent}
use Rattle.plan_program.specs.bench.Table.{Table, record_of}
use Rattle.cover_light.specs.node_reports.Reports.{no_reports}
use Rattle.cover_light.specs.node.Calls as node
use Rattle.plan_program.specs.bench.Calls.{Called, set_up_given, slot_of}
use Rattle.plan_program.specs.bench.Pairs.{slot_bytes}
use Rattle.plan_program.specs.bench.Runs.{Call, off, restart, table_after}
use Rattle.plan_program.specs.bench.Plans.{ok, lost}
use Rattle.converter.specs.message.Message.{Outcome, heard, unwritten, read_of, write_of}
use Rattle.converter.specs.Converter.{to_three_of, to_two_of}
use Rattle.cover_light.specs.Light.{worked, level_of, levels_of}
use Rattle.cover_light.specs.row.declared.Row as members
use Rattle.cover_light.specs.row.Rows.{as_row, sound_row, as_set}
use Rattle.worked_examples.specs.Rows.{Row, ◌gives◌, these, refusal_in, Standing, standing_as, holds, out, other, standings, miss, after_on, after}
use Rattle.cover_light.specs.ring.Ring.{found}

-- ---- c: changes in a fixed order

-- n = 4, k = 2. Node 2 leaves at slot 4, returns and knocks in slot 14; the message of slot 15 is lost. So in slot 17 node 1 decides node 3, and node 2 joins.
abbrev pub joins_as_one_leaves : List Call
joins_as_one_leaves = ok ∷ lost ∷ ok ∷ ok ∷ restart 2 ∷ replicate 10 ok ++ lost ∷ ok ∷ []

-- 64 lent bytes, all of which hold AA, after a slot that follows a plan.
abbrev pub bytes_after : Table → List ℕ
bytes_after before = slot_bytes before (slot_of false 0 64 before) (replicate 64 0xAA)

-- "Within one slot, first come the nodes that left, then all the others, each group by rising node number." Over any table of four records that was lent to set-up.
unfoldable pub fixed_order : Table → List Row
fixed_order lent =
    (bytes_after (after 4 2 lent joins_as_one_leaves) gives 3 ∷ 1 ∷ 2 ∷ 4 ∷ replicate 60 0xAA)
    ∷ (standings (after 4 2 lent (joins_as_one_leaves ++ ok ∷ [])) gives holds (these (1 ∷ 2 ∷ 4 ∷ [])) ∷ holds (these (1 ∷ 2 ∷ 4 ∷ [])) ∷ out 1 ∷ holds (these (1 ∷ 2 ∷ 4 ∷ [])) ∷ [])
    ∷ []

-- ---- e: a feeder cut takes no healthy controller along

-- "A cut feeder silenced 2, 3, 5 and 6 of six controllers, k = 2. Node 1 was sound and heard by node 4", and stays: 2 leaves at slot 4, 3 at slot 5, 5 at slot 7, 6 at slot 10.
abbrev pub cut_feeder : ℕ → List Call
cut_feeder slots = off 2 ∷ off 3 ∷ off 5 ∷ off 6 ∷ replicate slots ok

-- What nodes 1 and 4 hold, the others being switched off.
abbrev pub only_two : List ℕ → List Standing
only_two nodes = let both = holds (these nodes) in both ∷ out 4 ∷ out 4 ∷ both ∷ out 4 ∷ out 4 ∷ []

-- Over any table of six records that was lent to set-up.
unfoldable pub feeder_cut : Table → List Row
feeder_cut lent =
    (standings (after 6 2 lent (cut_feeder 3)) gives only_two (1 ∷ 2 ∷ 3 ∷ 4 ∷ 5 ∷ 6 ∷ []))
    ∷ (standings (after 6 2 lent (cut_feeder 4)) gives only_two (1 ∷ 3 ∷ 4 ∷ 5 ∷ 6 ∷ []))
    ∷ (standings (after 6 2 lent (cut_feeder 5)) gives only_two (1 ∷ 4 ∷ 5 ∷ 6 ∷ []))
    ∷ (standings (after 6 2 lent (cut_feeder 6)) gives only_two (1 ∷ 4 ∷ 5 ∷ 6 ∷ []))
    ∷ (standings (after 6 2 lent (cut_feeder 7)) gives only_two (1 ∷ 4 ∷ 6 ∷ []))
    ∷ (standings (after 6 2 lent (cut_feeder 9)) gives only_two (1 ∷ 4 ∷ 6 ∷ []))
    ∷ (standings (after 6 2 lent (cut_feeder 10)) gives only_two (1 ∷ 4 ∷ []))
    ∷ (standings (after 6 2 lent (cut_feeder 16)) gives only_two (1 ∷ 4 ∷ []))
    ∷ []

-- Node i's own mark, and whether it has heard a yes.
abbrev pub own_mark : Table → ℕ → Bool × Bool
own_mark t i = (has (record_of t i).present i, (record_of t i).yes_heard)

-- n = 4, k = 3: node 3 misses the messages of slots 1 and 2 and says no to both in slot 3. Node 1 has heard a yes of node 2, node 2 has not yet heard one.
abbrev pub no_after_yes : List Call
no_after_yes = miss (3 ∷ []) ∷ miss (3 ∷ []) ∷ ok ∷ []

-- n = 4, k = 3: node 2, which would speak of node 1 first, is off.
abbrev pub silent_sponsor : List Call
silent_sponsor = off 2 ∷ ok ∷ ok ∷ []

-- Over any table of four records that was lent to set-up.
unfoldable pub own_marks : Table → List Row
own_marks lent =
    -- "The own slot sets the own mark on"; yes heard is "cleared .. in the own slot".
    (own_mark (after 4 3 lent (ok ∷ [])) 1 gives (true, false))
    -- "A heard no for the own message puts it off, unless a yes has been heard since that slot; a yes puts it on and keeps it on."
    ∷ (own_mark (after 4 3 lent no_after_yes) 1 gives (true, true))
    ∷ (own_mark (after 4 3 lent no_after_yes) 2 gives (false, false))
    -- A silent sponsor says no "no".
    ∷ (own_mark (after 4 3 lent silent_sponsor) 1 gives (true, false))
    ∷ []

-- ---- h: failure reports for jobs

-- The message for k = 2 that says yes twice and no return, with this third section.
abbrev pub with_section : ℕ → ℕ → List ℕ
with_section m jobs = 0x02 ∷ 0x03 ∷ 0x01 ∷ 0x00 ∷ m ∷ jobs ∷ []

-- n = 4, k = 2, so many jobs.
abbrev pub jobs_on_four : ℕ → Choices
jobs_on_four m = record { n = 4; k = 2; m = m; lag = 0 }

-- What is set up with the plain table over a lent one.
abbrev pub four_with : ℕ → Table → Called
four_with m lent = set_up_given (jobs_on_four m) (1 ∷ 2 ∷ 3 ∷ 4 ∷ []) lent

-- How many reports of job 1, 2 and 3 of node 1 node i has heard, where it heard these bytes in slot 1.
abbrev pub heard_of_node1 : ℕ → List ℕ → Table → List ℕ
heard_of_node1 i heard lent = take 3 (get_or (node.slot_of heard (record_of (four_with 3 lent).table i) no_reports).counts 0 [])

-- How node i stands, where it heard these bytes in slot 1.
abbrev pub state_after : ℕ → List ℕ → Table → Standing
state_after i heard lent = let v = (node.slot_of heard (record_of (four_with 3 lent).table i) no_reports).stepped.node in standing_as v.state v.set

-- What node 2 of that cable writes into six lent bytes in slot 14, where it knocks, given this job byte.
abbrev pub knock_given : ℕ → Table → Outcome
knock_given jobs lent = node.send_of (record_of (table_after (four_with 3 lent).table (reverse (take 14 joins_as_one_leaves))) 2) jobs (replicate 6 0xAA)

-- Over any table of four records that was lent to set-up.
unfoldable pub failure_reports : Table → List Row
failure_reports lent =
    -- "The message gains a third section: the number of jobs m, 0 to 8, then one byte with a bit per job, lowest first"; "reading back gives it too".
    (write_of 2 3 0b11 false 0b101 (replicate 7 0xAA) gives (Ok 6, with_section 3 0b101 ++ 0xAA ∷ []))
    ∷ (read_of 2 3 (with_section 3 0b101) gives heard 0b11 false 0b101)
    -- "Its controllers read and send only that m, and any other message is unheard"; "the new section's wrong count or a spare bit .. gives 7 or 8".
    ∷ (refusal_in (read_of 2 3 (with_section 2 0b1)).reading gives 7)
    ∷ (refusal_in (read_of 2 3 (with_section 3 0b1000)).reading gives 8)
    -- "also in a given job byte": the writer's.
    ∷ (write_of 2 3 0b11 false 0b1000 (replicate 7 0xAA) gives (unwritten 8, replicate 7 0xAA))
    -- "The length that 6 tests grows by two bytes."
    ∷ (refusal_in (read_of 2 0 (0x02 ∷ 0x03 ∷ 0x01 ∷ 0x00 ∷ [])).reading gives 6)
    -- "Job count above 8 at set-up, in reader or writer: 14, after 2"
    ∷ ((four_with 9 lent).answer gives Err (cause 14))
    ∷ (refusal_in (read_of 2 9 (with_section 9 0)).reading gives 14)
    -- "Each node keeps, for every node and every job, the number of reports heard": nodes 2 and 4 of node 1's, and node 1 none of its own.
    ∷ (heard_of_node1 2 (with_section 3 0b101) lent gives 1 ∷ 0 ∷ 1 ∷ [])
    ∷ (heard_of_node1 4 (with_section 3 0b101) lent gives 1 ∷ 0 ∷ 1 ∷ [])
    ∷ (heard_of_node1 1 (with_section 3 0b101) lent gives 0 ∷ 0 ∷ 0 ∷ [])
    -- "Even if that message makes it leave": node 2 reads a return bit where nobody returns, leaves with cause 3, and has counted.
    ∷ (heard_of_node1 2 (0x02 ∷ 0x03 ∷ 0x01 ∷ 0x01 ∷ 3 ∷ 0b101 ∷ []) lent gives 1 ∷ 0 ∷ 1 ∷ [])
    ∷ (state_after 2 (0x02 ∷ 0x03 ∷ 0x01 ∷ 0x01 ∷ 3 ∷ 0b101 ∷ []) lent gives out 3)
    -- "A knock carries zero job bits": node 2's.
    ∷ (knock_given 0b101 lent gives (Ok 6, 0x02 ∷ 0x00 ∷ 0x01 ∷ 0x00 ∷ 3 ∷ 0 ∷ []))
    ∷ []

-- ---- i: recorded messages of last year

unfoldable pub recorded_messages : List Row
recorded_messages =
    -- "A converter brings a message to the three-section form with no jobs, and takes one with no jobs back." "Lent bytes after the result stay untouched."
    (to_three_of 2 (0x02 ∷ 0x03 ∷ 0x01 ∷ 0x00 ∷ []) (replicate 7 0xAA) gives (Ok 6, with_section 0 0 ++ 0xAA ∷ []))
    ∷ (to_two_of 2 (with_section 0 0) (replicate 5 0xAA) gives (Ok 4, 0x02 ∷ 0x03 ∷ 0x01 ∷ 0x00 ∷ 0xAA ∷ []))
    -- "Message with a job count of 1 to 8 to be taken back: 15, after 8, which judges spare bits by that count. A job count above 8 there gives 7."
    ∷ (to_two_of 2 (with_section 3 0b101) (replicate 5 0xAA) gives (unwritten 15, replicate 5 0xAA))
    ∷ (to_two_of 2 (with_section 3 0b1000) (replicate 5 0xAA) gives (unwritten 8, replicate 5 0xAA))
    ∷ (to_two_of 2 (with_section 9 0) (replicate 5 0xAA) gives (unwritten 7, replicate 5 0xAA))
    ∷ []

-- ---- j: slow receivers

-- The cable of n nodes with k = 2 and lag 1.
abbrev pub slow : ℕ → Cable
slow n = lagging_cable n 2 1

-- The message of slot 2 is lost, and so many slots follow.
abbrev pub second_lost : ℕ → List Call
second_lost slots = ok ∷ lost ∷ replicate slots ok

-- A window in which these nodes were heard, the shortest run of ones being this.
abbrev pub window : List ℕ → ℕ → Window
window nodes run = record { done = 5; heard = these nodes; shortest = run; return_seen = false; last = 0 }

-- Over any table of five records that was lent to set-up.
unfoldable pub slow_receivers : Table → List Row
slow_receivers lent =
    -- "With lag 1 and c members, ks is the smaller of k and c - 2": of {1,3,4} node 1 sponsors 3 and nobody else, and decides 3,
    (sponsored_of (slow 4) (these (1 ∷ 3 ∷ 4 ∷ [])) 1 1 gives finds (found 3 2))
    ∷ (sponsored_of (slow 4) (these (1 ∷ 3 ∷ 4 ∷ [])) 1 2 gives finds None)
    ∷ (decided_of (slow 4) (these (1 ∷ 3 ∷ 4 ∷ [])) 1 gives finds (found 3 2))
    -- "and with two members or fewer nobody is decided."
    ∷ (decided_of (slow 4) (these (1 ∷ 3 ∷ [])) 1 gives finds None)
    -- "Bit 1 concerns the second member back": in slot 4 node 4 says no of node 2, and yes of node 1.
    ∷ (bits_sent (record_of (after_on (slow 5) lent (second_lost 1)) 4) gives 0b10)
    -- "Leaving falls at the (k + lag)-th member after": node 2 leaves at slot 5, that of the third member after it.
    ∷ (standings (after_on (slow 5) lent (second_lost 2)) gives replicate 5 (holds (these (1 ∷ 2 ∷ 3 ∷ 4 ∷ 5 ∷ []))))
    ∷ (standings (after_on (slow 5) lent (second_lost 3)) gives holds (these (1 ∷ 3 ∷ 4 ∷ 5 ∷ [])) ∷ out 1 ∷ replicate 3 (holds (these (1 ∷ 3 ∷ 4 ∷ 5 ∷ []))))
    -- "The listening rule uses the same reduced number": three heard need a run of one, two heard a run of none,
    ∷ (clean (slow 5) (window (1 ∷ 2 ∷ 3 ∷ []) 1) gives true)
    ∷ (clean (slow 5) (window (1 ∷ 2 ∷ 3 ∷ []) 0) gives false)
    ∷ (clean (slow 5) (window (1 ∷ 2 ∷ []) 0) gives true)
    -- without lag two and one.
    ∷ (clean (cable_of 5 2) (window (1 ∷ 2 ∷ 3 ∷ []) 2) gives true)
    ∷ (clean (cable_of 5 2) (window (1 ∷ 2 ∷ 3 ∷ []) 1) gives false)
    ∷ (clean (cable_of 5 2) (window (1 ∷ 2 ∷ []) 1) gives true)
    ∷ (clean (cable_of 5 2) (window (1 ∷ 2 ∷ []) 0) gives false)
    -- "Lag above 1: 16, after 1. The limit on k is refused by 2."
    ∷ ((set_up_given (record { n = 5; k = 2; m = 0; lag = 2 }) (1 ∷ 2 ∷ 3 ∷ 4 ∷ 5 ∷ []) lent).answer gives Err (cause 16))
    ∷ ((set_up_given (record { n = 5; k = 4; m = 0; lag = 1 }) (1 ∷ 2 ∷ 3 ∷ 4 ∷ 5 ∷ []) lent).answer gives Err (cause 2))
    ∷ []

-- ---- k: slots out of number order

-- n = 5, k = 2.
abbrev pub five : Choices
five = record { n = 5; k = 2; m = 0; lag = 0 }

-- "A slot table says which node speaks at each place": nodes 3, 1, 5, 2 and 4.
abbrev pub crossed : Cable
crossed = cable_with five (3 ∷ 1 ∷ 5 ∷ 2 ∷ 4 ∷ [])

-- Node 1 leaves at slot 4 and is restarted, and so many slots follow.
abbrev pub first_returns : ℕ → List Call
first_returns slots = second_lost 2 ++ restart 1 ∷ replicate slots ok

-- Over any table of five records that was lent to set-up.
unfoldable pub crossed_slots : Table → List Row
crossed_slots lent =
    -- "Slots, ring, sponsoring .. follow the table": before node 3 speak 4 and 2,
    (sender_of crossed 1 gives Ok 3)
    ∷ (sender_of crossed 7 gives Ok 1)
    ∷ (sponsored_of crossed (these (1 ∷ 2 ∷ 3 ∷ 4 ∷ 5 ∷ [])) 3 1 gives finds (found 4 1))
    ∷ (decided_of crossed (these (1 ∷ 2 ∷ 3 ∷ 4 ∷ 5 ∷ [])) 3 gives finds (found 2 2))
    -- and the message of slot 2 is that of node 1, which node 2 decides in slot 4; "sets and printed figures keep node numbers."
    ∷ (standings (after_on crossed lent (second_lost 1)) gives replicate 5 (holds (these (1 ∷ 2 ∷ 3 ∷ 4 ∷ 5 ∷ []))))
    ∷ (standings (after_on crossed lent (second_lost 2)) gives out 1 ∷ replicate 4 (holds (these (2 ∷ 3 ∷ 4 ∷ 5 ∷ []))))
    -- "And joining": node 1, which knocks in slot 17, joins in slot 21, that of node 3, which speaks just before it.
    ∷ (standings (after_on crossed lent (first_returns 16)) gives other ∷ replicate 4 (holds (these (2 ∷ 3 ∷ 4 ∷ 5 ∷ []))))
    ∷ (standings (after_on crossed lent (first_returns 17)) gives replicate 5 (holds (these (1 ∷ 2 ∷ 3 ∷ 4 ∷ 5 ∷ []))))
    -- "Table of the wrong length: 17, after 14. A node missing or doubled: 18, next".
    ∷ ((set_up_given five (3 ∷ 1 ∷ 5 ∷ 2 ∷ []) lent).answer gives Err (cause 17))
    ∷ ((set_up_given five (3 ∷ 1 ∷ 5 ∷ 2 ∷ 2 ∷ []) lent).answer gives Err (cause 18))
    ∷ []

-- ---- l: members as a row

-- So many nodes, these in the first places, and zeros after them.
abbrev pub in_places : ℕ → List ℕ → members.Row
in_places count nodes = record { length = count; nodes = nodes ++ replicate (32 - length nodes) 0 }

-- With the slot table 3, 1, 5, 2, 4.
unfoldable pub members_as_row : List Row
members_as_row =
    -- "A row of node numbers in slot order from place 1, with its length, unused places 0": that of nodes 1, 2 and 5, and back;
    (as_row crossed.order (these (1 ∷ 2 ∷ 5 ∷ [])) gives in_places 3 (1 ∷ 5 ∷ 2 ∷ []))
    ∷ (as_set 5 crossed.order (in_places 3 (1 ∷ 5 ∷ 2 ∷ [])) gives these (1 ∷ 2 ∷ 5 ∷ []))
    -- "a row out of order, doubled, longer than n or with a used spare place: 4"; and one with a number that is none.
    ∷ (sound_row 5 crossed.order (in_places 3 (1 ∷ 2 ∷ 5 ∷ [])) gives false)
    ∷ (sound_row 5 crossed.order (in_places 3 (1 ∷ 5 ∷ 5 ∷ [])) gives false)
    ∷ (sound_row 5 crossed.order (in_places 6 (3 ∷ 1 ∷ 5 ∷ 2 ∷ 4 ∷ [])) gives false)
    ∷ (sound_row 5 crossed.order (in_places 2 (1 ∷ 5 ∷ 2 ∷ [])) gives false)
    ∷ (sound_row 5 crossed.order (in_places 3 (1 ∷ 5 ∷ 6 ∷ [])) gives false)
    ∷ []

-- ---- n: cover light

-- n = 4, k = 2, the message of slot 2 is lost: node 2 is listed until slot 4 ends, and then out.
abbrev pub until_slot : ℕ → Table → Table
until_slot s lent = after 4 2 lent (take s (ok ∷ lost ∷ ok ∷ ok ∷ []))

-- What node i writes into five lent bytes, which hold AA, after slot s.
abbrev pub levels_by : ℕ → ℕ → Table → Outcome
levels_by i s lent = levels_of (record_of (until_slot s lent) i) (10 ∷ 21 ∷ 30 ∷ 41 ∷ []) (replicate 5 0xAA)

-- Over any table of four records that was lent to set-up.
unfoldable pub cover_light : Table → List Row
cover_light lent =
    -- "its base plus half the base of each neighbour i - 1 and i + 1 that is not listed": while all are listed, the bases; without node 2 half of 21 for lamps 1 and 3.
    (levels_by 1 3 lent gives (Ok 4, 10 ∷ 21 ∷ 30 ∷ 41 ∷ 0xAA ∷ []))
    ∷ (levels_by 1 4 lent gives (Ok 4, 20 ∷ 21 ∷ 40 ∷ 41 ∷ 0xAA ∷ []))
    -- "A node in any other state gives 254 for each lamp."
    ∷ (levels_by 2 4 lent gives (Ok 4, 254 ∷ 254 ∷ 254 ∷ 254 ∷ 0xAA ∷ []))
    -- "halves rounded down one by one, and at most 254"
    ∷ (worked (these (2 ∷ [])) (1 ∷ 10 ∷ 3 ∷ []) 2 gives 11)
    ∷ (worked (these (2 ∷ [])) (254 ∷ 2 ∷ 253 ∷ []) 2 gives 254)
    -- "Lamps 1 and n have one neighbour."
    ∷ (worked (these (3 ∷ [])) (8 ∷ 100 ∷ 60 ∷ []) 1 gives 58)
    ∷ (worked (these (1 ∷ [])) (8 ∷ 100 ∷ 60 ∷ []) 3 gives 110)
    -- "Base above 254 or a table not of n entries: 20, after 4 and 3"
    ∷ (level_of (record_of (until_slot 4 lent) 1) (10 ∷ 21 ∷ 30 ∷ []) 1 gives Err (cause 20))
    ∷ (level_of (record_of (until_slot 4 lent) 1) (10 ∷ 21 ∷ 30 ∷ 255 ∷ []) 1 gives Err (cause 20))
    ∷ (level_of (record_of (until_slot 4 lent) 1) (10 ∷ 21 ∷ 30 ∷ []) 5 gives Err (cause 3))
    ∷ []
