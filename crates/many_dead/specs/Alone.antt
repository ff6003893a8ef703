-- Request g wants "e) and f) together". Here each is taken back alone: f's run is agreement's `run_before`, with one departure step in a slot; e's is this one. And plans, the first line first.
use Rattle.std.specs.Prelude.{ℕ, false, cond, List, [], ◌∷◌, replicate, Err, Ok}
use Rattle.agreement.specs.nodeset.Sets.{has, without}
use Rattle.agreement.specs.message.Answers.{Reading}
use Rattle.agreement.specs.node_record.declared.Node.{Node}
use Rattle.agreement.specs.node_record.Sponsoring.{sponsors_in}
use Rattle.agreement.specs.node_changes.Changes.{with_marks}
use Rattle.agreement.specs.node_steps.Steps.{is_own, confirmed, heard_return, noted, slot_from}
use Rattle.agreement.specs.bench.Table.{Table}
use Rattle.agreement.specs.bench.Runs.{Call, off}
use Rattle.agreement.specs.bench.Plans.{ok}
use Rattle.agreement.specs.Repeated.{run_by}

-- ---- the run without request e

-- Document 01: "If it is this node, its own mark goes off"; a no changes nothing.
abbrev pub read_without_e : ℕ → Reading → Node → ℕ
read_without_e s (Ok h) v = confirmed (sponsors_in v) s h.acknowledgements v
read_without_e s (Err r) v = without v.present s

abbrev pub marked_without_e : ℕ → Reading → Node → Node
marked_without_e s heard v = with_marks (cond (is_own s v) (without v.present v.own) (read_without_e s heard v)) false (heard_return s heard v) v

abbrev pub slot_without_e : ℕ → Reading → Node → Node
slot_without_e s heard v = slot_from v.cable.n s heard v (cond (has v.set s) (marked_without_e s heard v) (noted s heard v))

abbrev pub run_without_e : Table → List Call → Table
run_without_e start cs = run_by slot_without_e start cs

-- ---- plans

-- `6 3`, with lag 0 or 1: nodes 5, 6, 1 and 2 die one slot after the other; 3 and 4 stay on.
abbrev pub power_cut : List Call
power_cut = ok ∷ ok ∷ ok ∷ ok ∷ off 5 ∷ ok ∷ off 6 ∷ ok ∷ off 1 ∷ ok ∷ off 2 ∷ replicate 5 ok

-- `4 3`: without request f node 2, silent in slot 2, is on the lists of 3 and 4 at the end of slot 5.
abbrev pub lingers : List Call
lingers = off 1 ∷ ok ∷ off 2 ∷ replicate 4 ok

-- `4 2`: without request e node 1, both of whose sponsors are dead, leaves in slot 3.
abbrev pub taken_along : List Call
taken_along = ok ∷ off 2 ∷ ok ∷ off 3 ∷ ok ∷ []
