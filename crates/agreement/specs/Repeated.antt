-- Request f: "On a run from a common start that keeps the premises of the agreement, the k + 1 members included, here also counted between a departure and a joining
-- in the same slot, nothing differs from before, and that is to be proved." The rule before has one departure step in a slot. A sequence of calls has THE LATEST FIRST.
use Rattle.std.specs.Prelude.{ℕ, ◌+◌, ◌≤◌, ◌≡◌, Bool, true, cond, ◌&&◌, List, [], ◌∷◌}
use Rattle.bench.specs.nodeset.Sums.{sum, num}
use Rattle.bench.specs.nodeset.Sets.{has}
use Rattle.bench.specs.cable.declared.Cable.{Cable}
use Rattle.bench.specs.message.Answers.{Reading}
use Rattle.bench.specs.node_record.declared.Node.{Node}
use Rattle.bench.specs.node_changes.Changes.{counted}
use Rattle.bench.specs.node_steps.Steps.{slot_with}
use Rattle.bench.specs.node_slot.Slot.{slot_by}
use Rattle.bench.specs.Table.{Table, each, speaker}
use Rattle.bench.specs.Calls.{heard_by}
use Rattle.bench.specs.Runs.{Call, slot, off, restart, call_of, is_slot, list_of, table_after}
use Rattle.agreement.specs.Demand.{AtEach, AfterEach, PremisesOn, EverySequence}

-- ---- the run of another rule

-- The table after a slot in which `tracking` is the rule of a member, following or knocking node.
abbrev pub table_by : (ℕ → Reading → Node → Node) → Bool → ℕ → Table → Table
table_by tracking lost missed t = each (λ i v. slot_by tracking v.state (speaker t) (heard_by lost missed t i) (counted v)) t

-- A slot is refused where it is refused now; off and restart are as they are.
abbrev pub call_by : (ℕ → Reading → Node → Node) → Call → Table → Table
call_by tracking (slot lost missed room) t = cond (is_slot (slot lost missed room) t) (table_by tracking lost missed t) t
call_by tracking (off a) t = (call_of (off a) t).table
call_by tracking (restart a) t = (call_of (restart a) t).table

unfoldable pub run_by : (ℕ → Reading → Node → Node) → Table → List Call → Table
run_by tracking start [] = start
run_by tracking start (c ∷ cs) = call_by tracking c (run_by tracking start cs)

-- The rule before has one departure step.
abbrev pub rule_before : ℕ → Reading → Node → Node
rule_before s heard v = slot_with 1 s heard v

abbrev pub run_before : Table → List Call → Table
run_before start cs = run_by rule_before start cs

-- ---- what is assumed, and what is claimed

-- How many nodes are on both lists.
unfoldable pub on_both : ℕ → ℕ → ℕ → ℕ
on_both n a b = sum (λ x. num (has a x && has b x)) 1 n

-- "Counted between a departure and a joining in the same slot": the nodes that are on the list as the slot begins and as it ends. (Who leaves in it is not on the
-- list as it ends, and who joins is not as it begins.) With a lag they are k + 1 plus the lag (request j).
unfoldable pub KeepsBetween : Cable → (List Call → Table) → Call → List Call → Type 0
KeepsBetween cable run c cs = is_slot c (run cs) ≡ true → cable.k + (1 + cable.lag) ≤ on_both cable.n (list_of (run cs)) (list_of (run (c ∷ cs)))

-- The tables at the start and after each call are equal, refused calls included.
abbrev pub NothingDiffers : Type 0
NothingDiffers =
    EverySequence
    (λ cable start cs. PremisesOn cable (run_before start) cs × AtEach (KeepsBetween cable (run_before start)) cs)
    (λ cable start cs. AfterEach (λ before. table_after start before ≡ run_before start before) cs)

-- The same of a sequence that keeps the premises on the run of the rule now. There the clause on the members between is not needed: where a second member leaves, at most
-- k and the lag are left, with one that joins.
abbrev pub NothingDiffersNow : Type 0
NothingDiffersNow =
    EverySequence
    (λ cable start cs. PremisesOn cable (table_after start) cs)
    (λ cable start cs. AfterEach (λ before. table_after start before ≡ run_before start before) cs)
