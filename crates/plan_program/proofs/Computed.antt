-- All the definitions that a text printed on sets (specs/OnSets) is computed from, but those of the bench's runs, to be unfolded together by the line `unfolding printing`.
use Rattle.node_record.specs.slot_table.Order.{kept}
use Rattle.bench.specs.Calls.{set_up_given}
use Rattle.bench.specs.Outcomes.{ended_of}
use Rattle.plan_line.specs.Words.{gap, parted, begins, all_digits, is_number, value_from}
use Rattle.plan_line.specs.Plan.{ring_of, numbers_of, opening_of, named_of, all_numbers, values_of, rising_from, all_in_ring, with_all, missing_of, word_of, line_of}
use Rattle.plan_text.specs.Text.{digits, next_line, places, decimal, slot_text, refusal_text}
use Rattle.plan_program.specs.OnSets.{printed_on}

unfoldable pub printing : Unit {0}
unfolding kept set_up_given ended_of gap parted begins all_digits is_number value_from ring_of numbers_of opening_of named_of all_numbers values_of rising_from all_in_ring with_all missing_of word_of line_of digits places decimal slot_text refusal_text next_line printed_on
printing = tt
