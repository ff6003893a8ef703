-- All the definitions that a run is computed from, to be unfolded together by the line `unfolding computed`.
use mathlib.Core.Bool.{xor}
use Rattle.cable.specs.nodeset.Sums.{sum}
use Rattle.cable.specs.nodeset.Sets.{has, with, without, full, subset, size, distance, run_from}
use Rattle.cable.specs.slot_table.Order.{node_at, nodes_at, is_order, spare_empty, is_kept, numbers_from, plain, place_from, place, same_to}
use Rattle.node.specs.ring.Ring.{turn, sender, previous, walk, member_before, sponsors, sponsored, decided}
use Rattle.bench.specs.Outcomes.{slot_given}
use Rattle.bench.specs.Reports.{jobs_on}
use Rattle.node.specs.node_record.Soundness.{sound}
use Rattle.node.specs.node_changes.Changes.{leave}
use Rattle.node.specs.node_steps.Steps.{confirmed, says, heard_marks, noted, departed_in, leaves_in, join, settle, slot_from, tracking_slot}
use Rattle.node.specs.node_hearing.Hearing.{clean, window_end, goes_on, listening_slot}
use Rattle.node.specs.node_sending.Sending.{mark_bits, bits_sent}
use Rattle.node.specs.node_slot.Slot as slot
use Rattle.node.specs.Calls as node
use Rattle.bench.specs.Table.{record_of, each_from, placed_from, table_sound, slots_of, speaker}
use Rattle.bench.specs.Calls.{set_up_of, transmits, spoken, heard_by, table_after_slot, slot_of, off_of, restart_of, list_in, farthest, greatest, fate_of}
use Rattle.bench.specs.Pairs.{pair_bytes, group_from, pairs_in}
use Rattle.bench.specs.Runs.{call_of, table_after, is_slot, list_of, is_listed, misses, failures_in, entry_on}

unfoldable pub computed : Unit {0}
unfolding xor sum has with without full subset size distance run_from node_at nodes_at is_order spare_empty is_kept numbers_from plain place_from place same_to turn sender previous walk member_before sponsors sponsored decided sound leave confirmed says heard_marks noted departed_in leaves_in join settle slot_from tracking_slot clean window_end goes_on listening_slot mark_bits bits_sent slot.after_slot node.step_of node.off_of node.restart_of record_of each_from placed_from table_sound slots_of speaker set_up_of transmits spoken heard_by table_after_slot slot_of jobs_on slot_given off_of restart_of list_in farthest greatest fate_of pair_bytes group_from pairs_in call_of table_after is_slot list_of is_listed misses failures_in entry_on
computed = tt
