-- What each call of the bench answers and what table it leaves, refusals included (document 01, "The bench" and "Causes and their numbers"; the ledger of document 02 is added in specs/Kept):
-- "Checks run in table order, except that .. 4 comes just before 3 where n is taken from a record .. Off and restart don't test 5." A refused call
-- leaves the table as it was.
use Rattle.std.specs.Prelude.{ℕ, max, Bool, true, false, cond, ◌||◌, List, [], ◌∷◌, eqb, leb, ltb, length, Err, None, Ok, Some}
use Rattle.refusal.specs.Causes.{cause}
use Rattle.cable.specs.nodeset.Sets.{has, within, distance}
use Rattle.cable.specs.declared.Choices.{Choices}
use Rattle.cable.specs.declared.Cable.{Cable}
use Rattle.cable.specs.Cable.{cable_with, cable_fits, may_set_up, node_number, fault_of}
use Rattle.node.specs.message.Answers.{Reading}
use Rattle.node.specs.node_record.States.{is_member, is_out}
use Rattle.node.specs.node_record.Soundness.{limit}
use Rattle.node.specs.node_changes.Changes.{starting}
use Rattle.node.specs.node_sending.Sending.{sends, bits_sent, return_sent}
use Rattle.node.specs.Answers.{Answer}
use Rattle.node.specs.Calls as node
use Rattle.bench.specs.Answers.{Listed}
use Rattle.bench.specs.declared.Fate.{Fate}
use Rattle.bench.specs.declared.Fate.TheVariants as fate
use Rattle.bench.specs.Table.{Table, record_of, each, table_sound, node_count, slots_of, speaker}
use Rattle.node.specs.message.Answers.{heard_with}

-- The table after a call, and what is answered.
pub record Called : Type 0 where
  pub table : Table
  pub answer : Answer

abbrev pub done : Table → Called
done t = record { table = t; answer = Ok tt }

-- What comes of a call where a test holds; where it does not, the refusal with this number.
abbrev pub if_passed : Bool → ℕ → Table → Called → Called
if_passed true number t called = called
if_passed false number t called = record { table = t; answer = Err (cause number) }

-- ---- set-up: 1, 16, 2, 14, 17, 18 and 4

-- "All start as members, set full, all marks on, returning 0."
abbrev pub start_table : Cable → Table → Table
start_table cable t = each (λ i v. starting cable i) t

-- On a cable as the records keep it.
unfoldable pub set_up_of : Cable → Table → Called
set_up_of cable t =
    if_passed (cable_fits cable) (fault_of cable cable.n) t
    (if_passed (eqb (length t) cable.n) 4 t
    (done (start_table cable t)))

-- With the choices and the slot table as they are given.
unfoldable pub set_up_given : Choices → List ℕ → Table → Called
set_up_given choices slots t =
    let cable = cable_with choices slots in
    if_passed (may_set_up cable (length slots)) (fault_of cable (length slots)) t (set_up_of cable t)

-- ---- slot: 4, 3, 5 and 9

-- The next slot's sender sends.
unfoldable pub transmits : Table → Bool
transmits t = sends (record_of t (speaker t))

-- What is read where nothing is heard.
-- (No bytes have the wrong length.)
abbrev pub unheard : Reading
unheard = Err (cause 6)

-- What is read of the next slot's message by those that hear it. (The bytes that the node call `send` writes are read as just this: node's proofs/Sent.)
unfoldable pub spoken : Table → Reading
spoken t =
    cond (transmits t) (heard_with (bits_sent (record_of t (speaker t))) (return_sent (record_of t (speaker t)))) unheard

-- "One slot takes: message lost to all or not, and which nodes miss it. .. A lost message is heard by nobody, named or not." A sender hears nothing in
-- its own slot and in a silent slot there is nothing to hear, so that being named changes nothing there.
unfoldable pub heard_by : Bool → ℕ → Table → ℕ → Reading
heard_by lost missed t i = cond (lost || has missed i) unheard (spoken t)

-- Each record goes through its slot, node's `step_of`.
unfoldable pub table_after_slot : Bool → ℕ → Table → Table
table_after_slot lost missed t = each (λ i v. (node.step_of (heard_by lost missed t i) v).node) t

-- "A lent buffer of at least 64 bytes".
unfoldable pub slot_of : Bool → ℕ → ℕ → Table → Called
slot_of lost missed room t =
    if_passed (table_sound t) 4 t
    (if_passed (within (node_count t) missed) 3 t
    (if_passed (ltb (slots_of t) limit) 5 t
    (if_passed (leb 64 room) 9 t
    (done (table_after_slot lost missed t)))))

-- ---- off: 4 and 3

abbrev pub table_after_off : ℕ → Table → Table
table_after_off a t = each (λ i v. cond (eqb i a) (node.off_of v).node v) t

unfoldable pub off_of : ℕ → Table → Called
off_of a t = if_passed (table_sound t) 4 t (if_passed (node_number (node_count t) a) 3 t (done (table_after_off a t)))

-- ---- restart: 4, 3 and 11

abbrev pub table_after_restart : ℕ → Table → Table
table_after_restart a t = each (λ i v. cond (eqb i a) (node.restart_of v).node v) t

unfoldable pub restart_of : ℕ → Table → Called
restart_of a t =
    if_passed (table_sound t) 4 t
    (if_passed (node_number (node_count t) a) 3 t
    (if_passed (is_out (record_of t a).state) 11 t
    (done (table_after_restart a t))))

-- ---- a look: 4

unfoldable pub look_of : Table → Called
look_of t = if_passed (table_sound t) 4 t (done t)

-- ---- what is told of a table

-- "The list is the set of the lowest-numbered member-state node".
unfoldable pub list_in : Table → Listed
list_in [] = None
list_in (v ∷ t) = cond (is_member v.state) (Some v.set) (list_in t)

-- The greatest distance of a set from those of the members of a table.
unfoldable pub farthest : ℕ → ℕ → Table → ℕ
farthest n set [] = 0
farthest n set (v ∷ t) = max (cond (is_member v.state) (distance n set v.set) 0) (farthest n set t)

-- "The greatest distance between sets of two members (0 if fewer than two)".
unfoldable pub greatest : ℕ → Table → ℕ
greatest n [] = 0
greatest n (v ∷ t) = max (cond (is_member v.state) (farthest n v.set t) 0) (greatest n t)

-- What comes of the next slot's message: "fate (`silent` if nothing is sent, also on a `lost` line; else `lost` if lost, a knock included; else `knock` or
-- `sent`)" ("The bench program").
unfoldable pub fate_of : Bool → Table → Fate
fate_of lost t =
    cond (transmits t)
    (cond lost fate.Lost (cond (is_member (record_of t (speaker t)).state) fate.Sent fate.Knock))
    fate.Silent
