-- Inner: what is noted as a record changes: the pairs, who left and who joined, and the list. The laws in bench_calls' proofs/ tie it to bench's specs/Pairs, specs/Outcomes and specs/Ledger.
use Rattle.std.specs.Prelude.{ℕ, zero, suc, ◌+◌, ◌*◌, min, Bool, true, false, cond, not, ◌&&◌, List, [], eqb, leb, ltb, get_or, set, replicate, None, Some}
use Rattle.nodeset.specs.Sets.{with_if}
use Rattle.row.specs.declared.Row.{Row}
use Rattle.row.specs.Rows.{row_for, nodes_in}
use Rattle.row.specs.Inner.{same_row}
use Rattle.node_record.specs.declared.Held.{Held}
use Rattle.node_record.specs.States.{is_member}
use Rattle.bench.specs.Answers.{Listed}
use Rattle.bench.specs.Pairs.{same_state, kind_from}
use Rattle.bench_notes.specs.declared.Pairs.{Pairs}
use Rattle.bench_notes.specs.declared.Moves.{Moves}
use Rattle.bench_notes.specs.declared.Lists.{Lists}
use Rattle.bench_notes.specs.declared.Notes.{Notes}

-- ---- the pairs, in rising order of nodes as they are noted

abbrev pub pushed : Pairs → ℕ → ℕ → Pairs
pushed p x kind = record { count = p.count + 1; bytes = set (set p.bytes (p.count * 2) x) (p.count * 2 + 1) kind }

unfoldable pub with_pair : Pairs → Held → Held → Pairs
with_pair p before after =
    cond (same_state before.state after.state) p
    (cond (ltb p.count 32 && leb before.own 32) (pushed p before.own (kind_from before.state after.state)) p)

unfoldable pub no_pairs : Pairs
no_pairs = record { count = 0; bytes = replicate 64 0 }

-- ---- the pairs in their order: those that left, then all others

abbrev pub in_group : Bool → ℕ → Bool
in_group left kind = cond left (eqb kind 1) (not (eqb kind 1))

unfoldable pub with_one : Bool → Pairs → ℕ → ℕ → Pairs
with_one left p x kind = cond (in_group left kind && ltb p.count 32) (pushed p x kind) p

-- The pairs with those of a group, of the first so many in the bytes.
unfoldable pub grouped_to : Bool → List ℕ → ℕ → Pairs → Pairs
grouped_to left bytes zero p = p
grouped_to left bytes (suc j) p = with_one left (grouped_to left bytes j p) (get_or bytes (j * 2) 0) (get_or bytes (j * 2 + 1) 0)

unfoldable pub ordered : Pairs → Pairs
ordered p = let m = min p.count 32 in grouped_to false p.bytes m (grouped_to true p.bytes m no_pairs)

-- ---- who left the member state, and who came to it

unfoldable pub moves_with : Moves → Held → Held → Moves
moves_with m before after =
    cond (same_state before.state after.state) m
    (record { left = with_if (is_member before.state) m.left before.own; joined = with_if (is_member after.state) m.joined before.own })

abbrev pub no_moves : Moves
no_moves = record { left = 0; joined = 0 }

-- ---- the list, and whether all members hold it

abbrev pub list_with : Listed → Held → Listed
list_with None v = cond (is_member v.state) (Some (nodes_in v.row)) None
list_with (Some set) v = Some set

-- The same as a row.
abbrev pub row_with : Listed → Row → Held → Row
row_with None row v = cond (is_member v.state) v.row row
row_with (Some set) row v = row

abbrev pub same_with : Listed → Row → Held → Bool
same_with (Some set) row v = cond (is_member v.state) (same_row row v.row) true
same_with None row v = true

unfoldable pub lists_with : Lists → Held → Lists
lists_with s v = record { list = list_with s.list v; row = row_with s.list s.row v; same = s.same && same_with s.list s.row v }

abbrev pub no_lists : Lists
no_lists = record { list = None; row = row_for []; same = true }

-- ---- notes

unfoldable pub noticed : Notes → Held → Held → Notes
noticed m before after = record { pairs = with_pair m.pairs before after; moves = moves_with m.moves before after; lists = lists_with m.lists after }

unfoldable pub no_notes : Notes
no_notes = record { pairs = no_pairs; moves = no_moves; lists = no_lists }
