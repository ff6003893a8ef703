-- `node::reporter` meets its contract: on a ring the sender is never refused. Assumes nothing.
use Prim.Native.Nat.{ℕ, ◌+◌}
use mathlib.Core.Path.{refl, sym, ap, ◌∙◌}
use mathlib.Core.Bool.{cond}
use Rattle.ring.proofs.nodeset.Tests.{told, chosen, otherwise}
use Rattle.node_record.proofs.ring_laws.Speakers.{is-sender}
use Rattle.node.specs.Inner.{hears_held, reporter_held}
use Rattle.node.proofs.reporter.Goals as goal

pub returns-then-hears_report : goal.returns-then-hears_report
unfolding reporter_held
returns-then-hears_report c =
    let a = c.args in
    let v = a.v in
    let s = is-sender v.cable (v.slots + 1) _ _ c.requires c.in-Ok.ensures refl in
    sym (chosen _ 0 (told c.hears_report.ensures c.if-hears_report.true)) ∙ ap (λ (x : ℕ). cond (hears_held x a.heard v) x 0) s

pub returns : goal.returns
unfolding reporter_held
returns c =
    let a = c.args in
    let v = a.v in
    let s = is-sender v.cable (v.slots + 1) _ _ c.requires c.in-Ok.ensures refl in
    sym (otherwise _ 0 (told c.hears_report.ensures c.if-hears_report.false)) ∙ ap (λ (x : ℕ). cond (hears_held x a.heard v) x 0) s
