-- `bench_orders::records::step_at` meets its contract: what its node hears and the record that is stepped are those of the definition. Assumes nothing.
use mathlib.Core.Path.{ap, ◌∙◌}
use Rattle.message.specs.Answers.{Reading}
use Rattle.node_record.specs.declared.Held.{Held}
use Rattle.node_slot.specs.Held.{after_by}
use Rattle.bench_orders.specs.Orders.{heard_at, digest_in}
use Rattle.bench_orders.proofs.records.step_at.Goals as goal

pub returns : goal.returns
returns c =
    let turn = c.args.turn in
    let v = c.args.v in
    let digest = digest_in turn c.args.row in
    c.after_slot.ensures ∙ ap (λ (h : Reading). after_by digest turn.sender h c.numbered.result) c.heard_at-heard.ensures ∙ ap (λ (w : Held). after_by digest turn.sender (heard_at turn v) w) c.numbered.ensures
