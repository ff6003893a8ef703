-- Request h: "Where no new check refuses a call or message, membership is the same as if the section were absent." The rules of a slot are given nothing of the section
-- (`Reading` has no jobs): all that a table holds of it is the number of jobs m, which each record keeps in its cable, and a table without it is one with m = 0. A sequence of calls has THE LATEST FIRST.
use Rattle.std.specs.Prelude.{ℕ, ◌-◌, ◌≡◌, Bool, true, not, ◌&&◌, ◌||◌, List, [], ◌∷◌, map, eqb, length, take}
use Rattle.ledger.specs.cable.declared.Choices.{Choices}
use Rattle.ledger.specs.cable.declared.Cable.{Cable}
use Rattle.ledger.specs.cable.Cable.{job_count, cable_fits}
use Rattle.ledger.specs.node_reports.Reports.{Counts, no_reports_at, counts_within}
use Rattle.ledger.specs.message.Message.{length_of, part_three, section_in, read_of, jobs_within, two_sections, wrote}
use Rattle.ledger.specs.message.TwoSections.{read_two_of}
use Rattle.ledger.specs.node_record.declared.Node.{Node}
use Rattle.ledger.specs.node_sending.Sending.{bits_sent, return_sent}
use Rattle.ledger.specs.node.Calls.{Stepped, start_of, step_of, slot_of, off_of, restart_of, send_of}
use Rattle.ledger.specs.bench.declared.Command.{Command}
use Rattle.ledger.specs.bench.declared.Command.TheVariants as command
use Rattle.ledger.specs.bench.Table.{Table, table_sound}
use Rattle.ledger.specs.bench.Calls.{set_up_of}
use Rattle.ledger.specs.bench.Reports.{reports_fit, jobs_on}
use Rattle.ledger.specs.bench.Ledger.{Ledger}
use Rattle.ledger.specs.bench.Kept.{Kept, kept_of, bytes_with}
use Rattle.ledger.specs.bench.Runs.{Call, table_after}
use Rattle.ledger.specs.Runs.{Lent, table_lent, taken}
use Rattle.ledger.specs.message.Answers.{heard_with}

-- A cable's choices but for the number of jobs, which is 0.
abbrev pub without_jobs : Cable → Cable
without_jobs cable = record { n = cable.n; k = cable.k; m = 0; lag = cable.lag; order = cable.order }

-- The choices of a set-up so.
abbrev pub choices_without : Choices → Choices
choices_without choices = record { n = choices.n; k = choices.k; m = 0; lag = choices.lag }

-- A record with its number of jobs put to 0, and all else of it.
unfoldable pub forget : Node → Node
forget v = record { cable = without_jobs v.cable; own = v.own; slots = v.slots; state = v.state; set = v.set; present = v.present; returning = v.returning; return_heard = v.return_heard; yes_heard = v.yes_heard; listening = v.listening }

-- Each record of a table so.
abbrev pub forget_all : Table → Table
forget_all t = map forget t

-- "As if the section were absent": the common start with the same choices and no jobs.
abbrev pub start_without : Cable → Table → Table
start_without cable lent = (set_up_of (without_jobs cable) lent).table

-- The tables after any calls are, but for m, those of the same calls where there are no jobs.
abbrev pub SameMembership : Type 0
SameMembership =
    (cable : Cable) → cable_fits cable ≡ true → (lent other : Table) → length lent ≡ cable.n → length other ≡ cable.n → (cs : List Call)
    → forget_all (table_after (set_up_of cable lent).table cs) ≡ table_after (start_without cable other) cs

-- The same of the calls as they are made, with any ledger, counts, job byte and slot table at each: the tables are those of the calls that no check refuses.
abbrev pub SameAsMade : Type 0
SameAsMade =
    (cable : Cable) → cable_fits cable ≡ true → (lent other : Table) → length lent ≡ cable.n → length other ≡ cable.n → (ls : List Lent)
    → forget_all (table_lent (set_up_of cable lent).table ls) ≡ table_after (start_without cable other) (taken (set_up_of cable lent).table ls)

-- ---- what a call answers

-- "So does a kept choice out of range or not the same throughout the table": 4 does not refuse the kept m.
unfoldable pub jobs_kept : ℕ → Table → Bool
jobs_kept m [] = true
jobs_kept m (v ∷ t) = (job_count v.cable.m && eqb v.cable.m m) && jobs_kept m t

-- Each new check of a call holds, so that none refuses it. Of set-up: "Job count above 8 at set-up", 14, and "not one array of counts per node", 4. Of the others: the kept m, 4. Of a slot also:
-- "A report count above the slot count, or not one array of counts per node in .. bench slot, gives 4"; "a spare bit, also in a given job byte", 8.
abbrev pub passes_new : Command → List Counts → Table → Bool
passes_new (command.SetUp choices) counts t = job_count choices.m && eqb (length counts) choices.n
passes_new (command.Off a) counts t = jobs_kept (jobs_on t) t
passes_new (command.Restart a) counts t = jobs_kept (jobs_on t) t
passes_new (command.Slot lost missed jobs) counts t = jobs_kept (jobs_on t) t && (reports_fit t counts && jobs_within (jobs_on t) jobs)
passes_new (command.Look lost) counts t = jobs_kept (jobs_on t) t

-- "As if the section were absent": the same call, with no jobs chosen and no job bits given.
abbrev pub command_without : Command → Command
command_without (command.SetUp choices) = command.SetUp (choices_without choices)
command_without (command.Off a) = command.Off a
command_without (command.Restart a) = command.Restart a
command_without (command.Slot lost missed jobs) = command.Slot lost missed 0
command_without (command.Look lost) = command.Look lost

-- What two calls leave and answer is the same, but for m and the counts; so are the lent bytes after them.
pub record SameKept (kept without : Kept) (out out_without : List ℕ) : Type 0 where
  pub table : forget_all kept.table ≡ without.table
  pub ledger : kept.ledger ≡ without.ledger
  pub reply : kept.reply ≡ without.reply
  pub bytes : out ≡ out_without

-- "Where no new check refuses a call", on any table:
pub record SameCall : Type 0 where
  -- It leaves and answers what the same call does where there are no jobs and no reports in the counts, or is refused as that one is,
  pub calls : (c : Command) (slots : List ℕ) (ledger : Ledger) (counts : List Counts) (t : Table) (out : List ℕ) → passes_new c counts t ≡ true
      → SameKept (kept_of c slots (length out) ledger counts t) (kept_of (command_without c) slots (length out) ledger (no_reports_at (length counts)) (forget_all t))
      (bytes_with c slots ledger counts t out) (bytes_with (command_without c) slots ledger (no_reports_at (length counts)) (forget_all t) out)
  -- and a table that is not refused by 4 keeps such an m.
  pub keeps : (t : Table) → table_sound t ≡ true → jobs_kept (jobs_on t) t ≡ true

-- ---- messages as bytes

-- "As if the section were absent": a message without it, which is its last two bytes.
abbrev pub without_section : List ℕ → List ℕ
without_section bytes = take (length bytes - 2) bytes

-- No new check refuses a message: not 14, "Job count above 8", and, where its length is right, not "The new section's wrong count or a spare bit", 7 or 8.
abbrev pub section_right : ℕ → ℕ → List ℕ → Bool
section_right k m bytes =
    let section = section_in m (part_three k bytes) in
    job_count m && (not (eqb (length bytes) (length_of k)) || (section.counted && section.clear))

-- What a call on a record leaves and answers, with m forgotten.
abbrev pub forget_stepped : Stepped → Stepped
forget_stepped x = record { node = forget x.node; answer = x.answer }

-- "Where no new check refuses a .. message", and at a node that is given it:
pub record SameAtNode : Type 0 where
  -- The message is heard, or refused, as the one without the section is,
  pub reads : (k m : ℕ) (bytes : List ℕ) → section_right k m bytes ≡ true → (read_of k m bytes).reading ≡ (read_two_of k (without_section bytes)).reading
  -- and each message that is heard is such a one.
  pub heard : (k m : ℕ) (bytes : List ℕ) (acknowledgements : ℕ) (return_bit : Bool) → (read_of k m bytes).reading ≡ heard_with acknowledgements return_bit → section_right k m bytes ≡ true
  -- The slot in which it comes, where 4 does not refuse the counts, leaves and answers but for m what it does without the section and without jobs.
  pub slots : (bytes : List ℕ) (v : Node) (counts : Counts) → section_right v.cable.k v.cable.m bytes ≡ true → counts_within v.slots counts ≡ true
      → forget_stepped (slot_of bytes v counts).stepped ≡ step_of (read_two_of v.cable.k (without_section bytes)).reading (forget v)
  -- So does set-up, where 14 does not refuse the m that is chosen,
  pub set-ups : (choices : Choices) (slots : List ℕ) (own : ℕ) → job_count choices.m ≡ true → forget_stepped (start_of choices slots own).stepped ≡ (start_of (choices_without choices) slots own).stepped
  -- and so do off and restart, where 4 does not refuse the kept m.
  pub offs : (v : Node) → job_count v.cable.m ≡ true → forget_stepped (off_of v) ≡ off_of (forget v)
  pub restarts : (v : Node) → job_count v.cable.m ≡ true → forget_stepped (restart_of v) ≡ restart_of (forget v)
  -- Sending, where 4 does not refuse the kept m nor 8 the job byte, answers what it does without jobs: the same length, or the same refusal.
  pub sends-alike : (v : Node) (jobs : ℕ) (out : List ℕ) → job_count v.cable.m ≡ true → jobs_within v.cable.m jobs ≡ true → (send_of v jobs out).0 ≡ (send_of (forget v) 0 out).0
  -- A message that is sent has, without the section, the bytes that say what the node sends without jobs.
  pub sends : (v : Node) (jobs : ℕ) (out : List ℕ) (count : ℕ) (after : List ℕ) → send_of v jobs out ≡ (wrote count, after)
      → without_section (take count after) ≡ two_sections v.cable.k (bits_sent (forget v)) (return_sent (forget v))
