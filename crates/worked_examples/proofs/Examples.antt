-- The tables of worked examples hold. Assumes nothing.
use mathlib.Core.Path.{refl, ◌∙◌}
use mathlib.Core.List.{[], ◌∷◌}
use Rattle.converter.specs.message.Message.{bytes_of, two_sections, message_of, little, said_by, read_of, write_of}
use Rattle.cover_light.specs.node_record.declared.Node.{Node}
use Rattle.converter.specs.slot_table.Order.{kept, nodes_at}
use Rattle.cover_light.specs.row.Rows.{as_row, sound_row, nodes_in, as_set}
use Rattle.converter.specs.message.TwoSections.{read_two_of, write_two_of}
use Rattle.converter.specs.Converter.{to_three_of, job_count_in, read_any_of, to_two_of}
use Rattle.cover_light.specs.node.Calls.{step_of, counts_after, counted_of, send_of}
use Rattle.cover_light.specs.node_reports.Reports.{every_below, row_within, counts_within, counts_with, row_with}
use Rattle.cover_light.specs.Light.{base, half, worked, lamp_level, bases_fit, level_of, all_levels, levels_of}
use Rattle.plan_program.specs.bench.Calls.{set_up_given}
use Rattle.plan_program.proofs.bench.Computed.{computed}
use Rattle.plan_program.proofs.OnSets.{shown-as-before}
use Rattle.plan_program.proofs.Computed.{printing}
use Rattle.worked_examples.specs.Rows.{AllHold}
use Rattle.worked_examples.specs.Examples.{input, examples}
use Rattle.worked_examples.specs.Requests.{fixed_order, feeder_cut, own_marks, failure_reports, recorded_messages, slow_receivers, crossed_slots, members_as_row, cover_light}

infixr 1 ◌and◌
◌and◌ : {A B : Type 0} → A → B → A × B
◌and◌ x y = (x, y)

pub worked-examples : (a b c d : Node) → AllHold (examples (a ∷ b ∷ c ∷ d ∷ []))
unfolding examples computed printing bytes_of two_sections message_of little said_by read_of write_of
worked-examples a b c d =
    refl and refl  -- senders
    and refl and refl and refl and refl  -- {1,3,4}
    and refl and refl and refl  -- {2,5}
    and refl and refl  -- {2}
    and refl and refl  -- messages written
    and refl and refl  -- messages refused
    and (shown-as-before input ∙ refl) and refl  -- the listing
    and refl  -- node 3 misses slot 2
    and refl and refl and refl and refl and refl  -- and slot 4 is lost
    and refl and refl and refl  -- nodes 1 and 2 off
    and tt

order-holds : (a b c d : Node) → AllHold (fixed_order (a ∷ b ∷ c ∷ d ∷ []))
unfolding fixed_order computed
order-holds a b c d = refl and refl and tt

feeder-holds : (a b c d e f : Node) → AllHold (feeder_cut (a ∷ b ∷ c ∷ d ∷ e ∷ f ∷ []))
unfolding feeder_cut computed
feeder-holds a b c d e f = refl and refl and refl and refl and refl and refl and refl and refl and tt

marks-hold : (a b c d : Node) → AllHold (own_marks (a ∷ b ∷ c ∷ d ∷ []))
unfolding own_marks computed
marks-hold a b c d = refl and refl and refl and refl and tt

slow-holds : (a b c d e : Node) → AllHold (slow_receivers (a ∷ b ∷ c ∷ d ∷ e ∷ []))
unfolding slow_receivers computed kept set_up_given
slow-holds a b c d e =
    refl and refl and refl and refl  -- sponsored and decided
    and refl and refl and refl  -- the bits, and leaving
    and refl and refl and refl and refl and refl and refl and refl  -- listening
    and refl and refl  -- refused
    and tt

reports-hold : (a b c d : Node) → AllHold (failure_reports (a ∷ b ∷ c ∷ d ∷ []))
unfolding failure_reports computed kept set_up_given bytes_of two_sections message_of little said_by read_of write_of every_below row_within counts_within counts_with row_with counted_of counts_after step_of send_of
reports-hold a b c d =
    refl and refl and refl and refl and refl and refl  -- messages
    and refl and refl  -- 14
    and refl and refl and refl and refl and refl  -- counts
    and refl  -- a knock
    and tt

recorded-hold : AllHold recorded_messages
unfolding recorded_messages bytes_of two_sections message_of little said_by read_of write_of read_two_of write_two_of to_three_of job_count_in read_any_of to_two_of
recorded-hold = refl and refl and refl and refl and refl and tt

crossed-hold : (a b c d e : Node) → AllHold (crossed_slots (a ∷ b ∷ c ∷ d ∷ e ∷ []))
unfolding crossed_slots computed kept set_up_given
crossed-hold a b c d e =
    refl and refl and refl and refl  -- whose slot it is, sponsored and decided
    and refl and refl  -- leaving
    and refl and refl  -- joining
    and refl and refl  -- refused
    and tt

rows-hold : AllHold members_as_row
unfolding members_as_row computed kept as_row sound_row as_set nodes_in nodes_at
rows-hold =
    refl and refl  -- there and back
    and refl and refl and refl and refl and refl  -- not sound
    and tt

light-holds : (a b c d : Node) → AllHold (cover_light (a ∷ b ∷ c ∷ d ∷ []))
unfolding cover_light computed every_below base half worked lamp_level bases_fit level_of all_levels levels_of
light-holds a b c d =
    refl and refl and refl  -- by a member and by a node that is out
    and refl and refl and refl and refl  -- halves, and one neighbour
    and refl and refl and refl  -- refused
    and tt

pub request-examples : (a b c d e f : Node)
    → AllHold (fixed_order (a ∷ b ∷ c ∷ d ∷ []))
    × AllHold (feeder_cut (a ∷ b ∷ c ∷ d ∷ e ∷ f ∷ []))
    × AllHold (own_marks (a ∷ b ∷ c ∷ d ∷ []))
    × AllHold (failure_reports (a ∷ b ∷ c ∷ d ∷ []))
    × AllHold recorded_messages
    × AllHold (slow_receivers (a ∷ b ∷ c ∷ d ∷ e ∷ []))
    × AllHold (crossed_slots (a ∷ b ∷ c ∷ d ∷ e ∷ []))
    × AllHold members_as_row
    × AllHold (cover_light (a ∷ b ∷ c ∷ d ∷ []))
request-examples a b c d e f = (order-holds a b c d, feeder-holds a b c d e f, marks-hold a b c d, reports-hold a b c d, recorded-hold, slow-holds a b c d e, crossed-hold a b c d e, rows-hold, light-holds a b c d)
