-- Sequences of bench calls from a common start, and what each of their slots was (document 01, "The bench"). The calls are folded over the definitions of
-- specs/Calls, of which those that the bench's contracts cite are made: with ledger, counts and job byte the tests of these, 13, 4 and 8, come to them (specs/Kept, `OnlyRefuses`). A sequence of calls is a list with THE LATEST FIRST.
use Rattle.std.specs.Prelude.{ℕ, ◌+◌, Bool, true, false, cond, not, ◌&&◌, List, [], ◌∷◌, eqb, None, Some}
use Rattle.cable.specs.nodeset.Sums.{sum, num}
use Rattle.cable.specs.nodeset.Sets.{has}
use Rattle.node.specs.node_record.States.{is_member}
use Rattle.bench.specs.Answers.{Listed}
use Rattle.bench.specs.Table.{Table, record_of, node_count, slots_of, speaker}
use Rattle.bench.specs.Calls.{Called, slot_of, off_of, restart_of, transmits, list_in}
use Rattle.node.specs.Calls.{is_done}

-- "Demand 3's calls are the bench's slot, off and restart, with any arguments".
pub data Call : Type 0 where
  slot : Bool → ℕ → ℕ → Call  -- is the message lost, which nodes miss it, how many bytes are lent for the pairs
  off : ℕ → Call
  restart : ℕ → Call

unfoldable pub call_of : Call → Table → Called
call_of (slot lost missed room) t = slot_of lost missed room t
call_of (off a) t = off_of a t
call_of (restart a) t = restart_of a t

-- ---- what a slot is

-- The call is a slot that runs: "a refused one is no slot".
unfoldable pub is_slot : Call → Table → Bool
is_slot (slot lost missed room) t = is_done (slot_of lost missed room t).answer
is_slot (off a) t = false
is_slot (restart a) t = false

-- "The list is the set of the lowest-numbered member-state node": empty where there is none.
abbrev pub set_in : Listed → ℕ
set_in (Some s) = s
set_in None = 0

unfoldable pub list_of : Table → ℕ
list_of t = set_in (list_in t)

-- ""Listed" and "outside the list" are judged as the slot begins."
unfoldable pub is_listed : Table → Bool
is_listed t = has (list_of t) (speaker t)

-- "One member-state node missing a message sent and not lost"; "A sender or silent slot is unaffected by being named."
unfoldable pub misses : Bool → ℕ → Table → ℕ → Bool
misses lost missed t i =
    is_member (record_of t i).state && (transmits t && (not lost && (has missed i && not (eqb i (speaker t)))))

-- "A failure is: a lost message; one member-state node missing a message sent and not lost; a slot of a listed node in which nothing is sent".
unfoldable pub failures_in : Bool → ℕ → Table → ℕ
failures_in lost missed t =
    cond (transmits t) (cond lost 1 (sum (λ i. num (misses lost missed t i)) 1 (node_count t))) (num (is_listed t))

-- What a slot was.
pub record Entry : Type 0 where
  pub listed : Bool  -- its sender is on the list
  pub sent : Bool  -- a message is sent and not lost
  pub outside : Bool  -- a message is sent, lost or not, by a sender that is not on the list
  pub failures : ℕ

abbrev pub entry_of : Bool → ℕ → Table → Entry
entry_of lost missed t = record {
  listed = is_listed t;
  sent = transmits t && not lost;
  outside = transmits t && not (is_listed t);
  failures = failures_in lost missed t;
}

-- A slot that did not run: nothing failed.
abbrev pub no_entry : Entry
no_entry = record { listed = true; sent = true; outside = false; failures = 0 }

abbrev pub new_entry : Call → Table → Entry
new_entry (slot lost missed room) t = entry_of lost missed t
new_entry (off a) t = no_entry
new_entry (restart a) t = no_entry

-- ---- a sequence of calls

-- "The first gets the table that set-up leaves (the common start), each later one the table as the last call left it".
unfoldable pub table_after : Table → List Call → Table
table_after start [] = start
table_after start (c ∷ cs) = (call_of c (table_after start cs)).table

-- What slot u was among the calls, where `run` gives the table after any of them.
unfoldable pub entry_on : (List Call → Table) → List Call → ℕ → Entry
entry_on run [] u = no_entry
entry_on run (c ∷ cs) u = cond (is_slot c (run cs) && eqb u (slots_of (run cs) + 1)) (new_entry c (run cs)) (entry_on run cs u)

abbrev pub entry : Table → List Call → ℕ → Entry
entry start cs u = entry_on (table_after start) cs u
