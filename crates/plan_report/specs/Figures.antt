-- Document 02, request m: the four figures of a run, "the number of slots, the sum over slots of nodes in the member state after the slot, the sum of listed nodes after it (by the lowest-numbered member, 0 if there is none), and
-- the slots with a distance above 0", and adding them to totals.
use Rattle.std.specs.Prelude.{ℕ, ◌+◌, Bool, cond, ◌&&◌, [], ◌∷◌, leb, ltb, Err, Ok}
use Rattle.refusal.specs.Causes.{cause}
use Rattle.nodeset.specs.Sums.{num}
use Rattle.nodeset.specs.Sets.{size}
use Rattle.node_record.specs.States.{is_member}
use Rattle.bench.specs.Table.{Table, node_count}
use Rattle.bench.specs.Calls.{greatest}
use Rattle.bench.specs.Runs.{list_of}
use Rattle.plan_report.specs.declared.Figures.{Figures}
use Rattle.plan_report.specs.declared.Added.{Added}

-- ---- the figures of a slot

-- "Nodes in the member state".
unfoldable pub members_in : Table → ℕ
members_in [] = 0
members_in (v ∷ t) = num (is_member v.state) + members_in t

-- What a slot adds that leaves this table.
abbrev pub slot_figures : Table → Figures
slot_figures t = record { slots = 1; members = members_in t; listed = size (node_count t) (list_of t); apart = num (ltb 0 (greatest (node_count t) t)) }

abbrev pub no_figures : Figures
no_figures = record { slots = 0; members = 0; listed = 0; apart = 0 }

abbrev pub plus : Figures → Figures → Figures
plus f g = record { slots = f.slots + g.slots; members = f.members + g.members; listed = f.listed + g.listed; apart = f.apart + g.apart }

-- ---- adding: 19

abbrev pub last64 : ℕ
last64 = 18446744073709551615

-- No sum passes 64 bits.
abbrev pub all_fit : Figures → Figures → Bool
all_fit t f =
    leb (t.slots + f.slots) last64
    && (leb (t.members + f.members) last64
    && (leb (t.listed + f.listed) last64
    && leb (t.apart + f.apart) last64))

-- "Adding four figures to four totals is a call of its own that takes any 64-bit figures. (A sum passing 64 bits in that call: 19, its only refusal; the totals keep what they had. ..)"
unfoldable pub add_of : Figures → Figures → Added
add_of totals figures =
    cond (all_fit totals figures)
    (record { totals = plus totals figures; answer = Ok tt })
    (record { totals = totals; answer = Err (cause 19) })
