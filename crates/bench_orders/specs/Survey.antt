-- Inner: what one look over a table finds, record by record. The laws in bench_calls' proofs/ tie it to bench's specs/Table and specs/Calls.
use Rattle.std.specs.Prelude.{ℕ, zero, suc, ◌+◌, ◌-◌, max, Bool, true, false, cond, ◌&&◌, List, [], ◌∷◌, eqb, leb, ltb, get_or, length, set, replicate, Err, Ok}
use Rattle.nodeset.specs.Sets.{with_if, distance}
use Rattle.ring.specs.Answers.{sender_of}
use Rattle.ring.specs.Answers.{Speaker}
use Rattle.row.specs.Rows.{nodes_in}
use Rattle.row.specs.Inner.{has_row}
use Rattle.node_record.specs.declared.Held.{Held}
use Rattle.node_record.specs.Held.{rowed, setted}
use Rattle.node_record.specs.States.{is_member, is_out}
use Rattle.node.specs.Calls.{no_node}
use Rattle.bench_orders.specs.declared.Survey.{Survey}
use Rattle.bench_orders.specs.declared.Members.{Members}
use Rattle.bench.specs.Table.{in_place}
use Rattle.bench.specs.Held.{HeldTable}

-- What holds the record of no node.
unfoldable pub no_held : Held
no_held = rowed no_node

-- What is gathered record by record; the first stands at index i.
unfoldable pub fold_from : {S X : Type 0} → (S → ℕ → X → S) → S → ℕ → List X → S
fold_from f s i [] = s
fold_from f s i (v ∷ t) = fold_from f (f s i v) (suc i) t

-- Each record made anew from its index and itself; the first stands at index i.
unfoldable pub map_from : {X : Type 0} → (ℕ → X → X) → ℕ → List X → List X
map_from f i [] = []
map_from f i (v ∷ t) = f i v ∷ map_from f (suc i) t

-- The sender of the slot that follows those of a record, and 0 where its n is no ring's.
abbrev pub node_in : Speaker → ℕ
node_in (Ok x) = x
node_in (Err cause) = 0

unfoldable pub sender_after : Held → ℕ
sender_after v = node_in (sender_of v.cable (v.slots + 1))

-- Before any record is seen: cable and slots are those of v.
abbrev pub begun : Bool → Held → Survey
begun fine v = record {
  fine = fine;
  cable = v.cable;
  slots = v.slots;
  sender = sender_after v;
  speaker = v;
  out = 0;
  listers = 0;
}

-- The nodes that are out, with one record more.
abbrev pub out_with : ℕ → Held → ℕ
out_with out v = with_if (is_out v.state) out v.own

-- The nodes whose row has the sender, with one record more.
abbrev pub listers_with : ℕ → ℕ → Held → ℕ
listers_with listers sender v = with_if (has_row v.row sender) listers v.own

-- With the record at index i.
abbrev pub seen : Survey → ℕ → Held → Survey
seen s i v = record {
  fine = s.fine && in_place s.cable s.slots (i + 1) (setted v);
  cable = s.cable;
  slots = s.slots;
  sender = s.sender;
  speaker = cond (eqb v.own s.sender) v s.speaker;
  out = out_with s.out v;
  listers = listers_with s.listers s.sender v;
}

-- The first record gives cable and slots.
unfoldable pub surveyed : Survey → ℕ → Held → Survey
surveyed s i v = seen (cond (eqb i 0) (begun true v) s) i v

abbrev pub survey_from : Survey → ℕ → HeldTable → Survey
survey_from s i t = fold_from surveyed s i t

-- Of an empty table nothing is fine.
unfoldable pub unseen : Survey
unseen = begun false no_held

unfoldable pub survey_of : HeldTable → Survey
survey_of t = survey_from unseen 0 t

-- A table is sound by its survey and its length.
abbrev pub fine_table : Survey → ℕ → Bool
fine_table s size = s.fine && eqb s.cable.n size

-- ---- what a call needs of a survey, without a look over the whole table

-- The index of node x among so many records; that of the first where there is no such node.
abbrev pub index_of : ℕ → ℕ → ℕ
index_of x size = cond (leb 1 x && leb x size) (x - 1) 0

abbrev pub glimpsed : Held → Held → Held → Survey
glimpsed first speaker other = record {
  fine = true;
  cable = first.cable;
  slots = first.slots;
  sender = sender_after first;
  speaker = speaker;
  out = out_with 0 other;
  listers = 0;
}

abbrev pub record_in : HeldTable → ℕ → Held
record_in t x = get_or t (index_of x (length t)) no_held

-- The first record, the next sender's, and that of a named node.
unfoldable pub glimpse_of : HeldTable → ℕ → Survey
glimpse_of t named = let first = record_in t 1 in glimpsed first (record_in t (sender_after first)) (record_in t named)

-- ---- the sets of the members, and the greatest distance of two of them

-- The greatest distance of a set from the first j of a list.
unfoldable pub far_from : ℕ → ℕ → List ℕ → ℕ → ℕ
far_from n set sets zero = 0
far_from n set sets (suc j) = max (far_from n set sets j) (distance n (get_or sets j 0) set)

abbrev pub member_seen : ℕ → Members → ℕ → Members
member_seen n m y = record {
  count = m.count + 1;
  sets = set m.sets m.count y;
  greatest = max m.greatest (far_from n y m.sets m.count);
}

unfoldable pub gathered : Members → ℕ → Held → Members
gathered m i v =
    cond (is_member v.state && ltb m.count 32)
    (member_seen v.cable.n m (nodes_in v.row))
    m

abbrev pub gathered_from : Members → ℕ → HeldTable → Members
gathered_from m i t = fold_from gathered m i t

unfoldable pub no_members : Members
no_members = record { count = 0; sets = replicate 32 0; greatest = 0 }

unfoldable pub members_of : HeldTable → Members
members_of t = gathered_from no_members 0 t
