-- What each call leaves and answers (document 01, "The bench" and "The bench program"; the ledger and the counts of document 02 are added in specs/Kept).
use Rattle.std.specs.Prelude.{ℕ, Bool, List, ltb, Err, Ok}
use Rattle.cable.specs.nodeset.Sets.{within}
use Rattle.node.specs.message.Message.{jobs_within}
use Rattle.node.specs.node_record.Soundness.{limit}
use Rattle.node.specs.Answers.{Answer}
use Rattle.bench.specs.declared.Command.{Command}
use Rattle.bench.specs.declared.Command.TheVariants as command
use Rattle.bench.specs.declared.Outcome.{Outcome}
use Rattle.bench.specs.declared.Outcome.TheVariants as outcome
use Rattle.bench.specs.declared.Reply.{Reply}
use Rattle.bench.specs.Table.{Table, table_sound, node_count, slots_of, speaker}
use Rattle.bench.specs.Calls.{Called, if_passed, set_up_given, slot_of, off_of, restart_of, look_of, list_in, greatest, fate_of}
use Rattle.bench.specs.Reports.{jobs_on}
use Rattle.bench.specs.Pairs.{pairs_told, slot_bytes}

-- "Each slot on the bench, is given the sender's job byte" (document 02, h): 4, 3, 5, 8, then what the slot without it answers (9).
unfoldable pub slot_given : Bool → ℕ → ℕ → ℕ → Table → Called
slot_given lost missed jobs room t =
    if_passed (table_sound t) 4 t
    (if_passed (within (node_count t) missed) 3 t
    (if_passed (ltb (slots_of t) limit) 5 t
    (if_passed (jobs_within (jobs_on t) jobs) 8 t
    (slot_of lost missed room t))))

-- The call that a command asks for, where this slot table and so many bytes for the pairs are lent, and neither ledger nor counts are kept. (Only set-up looks at the slot table.)
abbrev pub called_of : Command → List ℕ → ℕ → Table → Called
called_of (command.SetUp choices) slots room t = set_up_given choices slots t
called_of (command.Off a) slots room t = off_of a t
called_of (command.Restart a) slots room t = restart_of a t
called_of (command.Slot lost missed jobs) slots room t = slot_given lost missed jobs room t
called_of (command.Look lost) slots room t = look_of t

-- ---- what there is to print

-- "Each slot prints: slot, sender, fate .., the set of the lowest-numbered member .., the greatest distance between sets of two members". Sender and fate are
-- those of the table before the slot, the others those of the table after it.
abbrev pub slot_outcome : Bool → Table → Table → Answer → Outcome
slot_outcome lost before after (Ok _) =
    outcome.Slot (slots_of after) (speaker before) (fate_of lost before) (list_in after) (greatest (node_count after) after)
slot_outcome lost before after (Err cause) = outcome.Refused cause

-- "`off a` and `on a` switch or restart a node, no slot": nothing is printed of them, and nothing of line one.
abbrev pub quiet_outcome : Answer → Outcome
quiet_outcome (Ok _) = outcome.Quiet
quiet_outcome (Err cause) = outcome.Refused cause

-- A look leaves the table as it is: the slots done, the next slot's sender and fate, the list and the distance are all told of it.
abbrev pub outcome_of : Command → Table → Called → Outcome
outcome_of (command.SetUp choices) before called = quiet_outcome called.answer
outcome_of (command.Off a) before called = quiet_outcome called.answer
outcome_of (command.Restart a) before called = quiet_outcome called.answer
outcome_of (command.Slot lost missed jobs) before called = slot_outcome lost before called.table called.answer
outcome_of (command.Look lost) before called = slot_outcome lost before called.table called.answer

-- ---- what is answered

-- Pairs are told of slots alone.
abbrev pub pairs_of : Command → Table → Called → ℕ
pairs_of (command.SetUp choices) before called = 0
pairs_of (command.Off a) before called = 0
pairs_of (command.Restart a) before called = 0
pairs_of (command.Slot lost missed jobs) before called = pairs_told before called
pairs_of (command.Look lost) before called = 0

-- The table after a call, and the answer.
pub record Ended : Type 0 where
  pub table : Table
  pub reply : Reply

abbrev pub ended_by : Command → Table → Called → Ended
ended_by c before called = record {
  table = called.table;
  reply = record { outcome = outcome_of c before called; pairs = pairs_of c before called };
}

unfoldable pub ended_of : Command → List ℕ → ℕ → Table → Ended
ended_of c slots room t = ended_by c t (called_of c slots room t)

-- The lent bytes after a call that came to this: no call but a slot changes one.
abbrev pub bytes_by : Command → Table → Called → List ℕ → List ℕ
bytes_by (command.SetUp choices) t called out = out
bytes_by (command.Off a) t called out = out
bytes_by (command.Restart a) t called out = out
bytes_by (command.Slot lost missed jobs) t called out = slot_bytes t called out
bytes_by (command.Look lost) t called out = out
