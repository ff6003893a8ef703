-- Rows of worked examples: what is asked of a definition that the contracts cite, and what is answered; and how rows are written.
use Rattle.std.specs.Prelude.{ℕ, ◌≡◌, false, Err, Ok}
use mathlib.Core.List.{List, [], ◌∷◌, foldr, map, reverse}
use Rattle.converter.specs.refusal.Causes.{number_of}
use Rattle.cover_light.specs.nodeset.Sums.{sum}
use Rattle.cover_light.specs.nodeset.Sets.{with}
use Rattle.cover_light.specs.cable.declared.Cable.{Cable}
use Rattle.cover_light.specs.cable.Cable.{cable_of}
use Rattle.converter.specs.message.Answers.{Reading}
use Rattle.cover_light.specs.node_record.declared.Node.{Node}
use Rattle.cover_light.specs.node_record.declared.State.{State}
use Rattle.cover_light.specs.node_record.declared.State.TheVariants as state
use Rattle.cover_light.specs.node_record.States.{cause_number}
use Rattle.plan_program.specs.bench.Table.{Table, record_of, node_count}
use Rattle.plan_program.specs.bench.Calls.{set_up_of, greatest}
use Rattle.plan_program.specs.bench.Runs.{Call, slot, table_after, entry}

-- ---- rows

pub record Row : Type 1 where
  pub Answer : Type 0
  pub asked : Answer
  pub answered : Answer

infix 2 ◌gives◌
abbrev pub ◌gives◌ : {A : Type 0} → A → A → Row
◌gives◌ {A = A} x y = record { Answer = A; asked = x; answered = y }

abbrev pub AllHold : List Row → Type 0
AllHold [] = Unit {0}
AllHold (r ∷ rows) = (r.asked ≡ r.answered) × AllHold rows

-- ---- how rows are written

-- The set of these nodes.
abbrev pub these : List ℕ → ℕ
these nodes = foldr (λ x s. with s x) 0 nodes

-- The number of the refusal; 0 where the bytes are read.
abbrev pub refusal_in : Reading → ℕ
refusal_in (Ok h) = 0
refusal_in (Err cause) = number_of cause

-- What is told of a node: it is a member and holds this set, it is out with a cause of this number, or it is in another state.
pub data Standing : Type 0 where
  holds : ℕ → Standing
  out : ℕ → Standing
  other : Standing

abbrev pub standing_as : State → ℕ → Standing
standing_as state.Member set = holds set
standing_as state.Listening set = other
standing_as state.Following set = other
standing_as state.Knocking set = other
standing_as (state.Out cause) set = out (cause_number cause)

abbrev pub standing : Table → ℕ → Standing
standing t i = standing_as (record_of t i).state (record_of t i).set

-- The same of each node.
abbrev pub standings : Table → List Standing
standings t = map (λ (v : Node). standing_as v.state v.set) t

-- A line of a plan, with a buffer of 64 bytes.
abbrev pub miss : List ℕ → Call
miss nodes = slot false (these nodes) 64

-- The table after a plan (the first line comes first), over a table that was lent to set-up.
abbrev pub after_on : Cable → Table → List Call → Table
after_on cable lent plan = table_after (set_up_of cable lent).table (reverse plan)

-- With no jobs, no lag and the plain table.
abbrev pub after : ℕ → ℕ → Table → List Call → Table
after n k lent plan = after_on (cable_of n k) lent plan

-- The failures in the first m slots of a plan on such a cable.
abbrev pub failures : ℕ → ℕ → Table → List Call → ℕ → ℕ
failures n k lent plan m = sum (λ u. (entry (set_up_of (cable_of n k) lent).table (reverse plan) u).failures) 1 m

-- The greatest distance between sets of two members.
abbrev pub apart : Table → ℕ
apart t = greatest (node_count t) t
