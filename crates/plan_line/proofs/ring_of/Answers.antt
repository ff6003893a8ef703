-- `plan_line::ring_of` meets its contract: at each `return` the tests that led there say which case of `ring_of` holds.
-- Assumes nothing.
use mathlib.Core.Path.{sym, ap, ◌∙◌}
use Rattle.cable.specs.Cable.{sponsor_count}
use Rattle.plan_line.specs.Plan.{ring_of}
use Rattle.plan_line.proofs.ring_of.Goals as goal

pub returns-then-not-is_ring_size : goal.returns-then-not-is_ring_size
unfolding ring_of
returns-then-not-is_ring_size c = simp (sym c.is_ring_size.ensures ∙ c.if-not-is_ring_size.true)

pub returns-then-not-is_sponsor_count : goal.returns-then-not-is_sponsor_count
unfolding ring_of
returns-then-not-is_sponsor_count c =
    simp (sym c.is_ring_size.ensures ∙ c.if-not-is_ring_size.false, sym (c.is_sponsor_count.ensures ∙ ap sponsor_count c.plain_cable.ensures) ∙ c.if-not-is_sponsor_count.true)

pub returns : goal.returns
unfolding ring_of
returns c =
    simp (sym c.is_ring_size.ensures ∙ c.if-not-is_ring_size.false, sym (c.is_sponsor_count.ensures ∙ ap sponsor_count c.plain_cable.ensures) ∙ c.if-not-is_sponsor_count.false)
