-- The counts of failure reports that are lent beside the table, one array for each node (document 02, h).
use Rattle.std.specs.Prelude.{ℕ, suc, Bool, ◌&&◌, List, [], ◌∷◌, eqb, length}
use Rattle.node.specs.node_reports.Reports.{Counts, all_within}
use Rattle.node.specs.message.declared.Received.{Received}
use Rattle.node.specs.node_sending.Sending.{jobs_sent}
use Rattle.node.specs.Calls as node
use Rattle.bench.specs.Table.{Table, record_of, node_count, slots_of, speaker}
use Rattle.bench.specs.Calls.{heard_by}

-- "A report count above the slot count, or not one array of counts per node in set-up or bench slot, gives 4": no slot with these counts is refused so.
unfoldable pub reports_fit : Table → List Counts → Bool
reports_fit t counts = eqb (length counts) (node_count t) && all_within (slots_of t) counts

-- The number of jobs on the table's cable.
unfoldable pub jobs_on : Table → ℕ
jobs_on t = (record_of t 1).cable.m

-- What node i receives in the next slot, where the sender is given this job byte.
abbrev pub received_by : Bool → ℕ → ℕ → Table → ℕ → Received
received_by lost missed jobs t i = record { reading = heard_by lost missed t i; jobs = jobs_sent jobs (record_of t (speaker t)) }

-- The counts of each node made anew; the first are those of node i.
unfoldable pub each_counts_from : (ℕ → Counts → Counts) → ℕ → List Counts → List Counts
each_counts_from f i [] = []
each_counts_from f i (counts ∷ rest) = f i counts ∷ each_counts_from f (suc i) rest

-- The counts of each node go through its slot, node's `counts_after`.
unfoldable pub reports_after_slot : Bool → ℕ → ℕ → Table → List Counts → List Counts
reports_after_slot lost missed jobs t counts = each_counts_from (λ i c. node.counts_after (received_by lost missed jobs t i) (record_of t i) c) 1 counts
