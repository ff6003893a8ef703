-- `node::started` meets its contract: its tests are in their order, and the record made holds that of the rules. Assumes nothing.
use Rattle.std.specs.Prelude.{Err, Ok}
use Prim.Native.Nat.{ℕ}
use mathlib.Core.Path.{◌≡◌, sym, ap, ◌∙◌}
use mathlib.Core.Bool.{true, false}
use mathlib.Core.List.{[]}
use Rattle.refusal.specs.declared.Refusal.{Refusal}
use Rattle.refusal.specs.declared.Refusal.TheVariants.{NodeNumber}
use Rattle.refusal.specs.Causes.{cause}
use Rattle.cable.specs.slot_table.Order.{numbers_from, plain}
use Rattle.ring.proofs.nodeset.Tests.{failed, passed, chosen, otherwise}
use Rattle.cable.specs.declared.Cable.{Cable}
use Rattle.cable.specs.Cable.{may_set_up, node_number, fault_of}
use Rattle.row.specs.Rows.{row_for}
use Rattle.node_record.specs.declared.Node.{Node}
use Rattle.node_record.specs.declared.Held.{Held}
use Rattle.node_record.specs.Held.{rowed}
use Rattle.node_changes.specs.Changes.{starting}
use Rattle.node_changes.specs.Held as changes
use Rattle.node_changes.proofs.Holding.{starting-held}
use Rattle.node.specs.declared.Stepped as code
use Rattle.node.specs.Calls.{Stepped, done, refused, no_node, set_up_of}
use Rattle.node.specs.Held.{held_as}
use Rattle.node.proofs.Holding.{no-node-held}
use Rattle.node.proofs.started.Goals as goal

abbrev refused_by : Refusal → Held → code.Stepped
refused_by cause v = record { node = v; answer = Err cause }

-- what is left of a refused call
held-refused : (v : Held) (w : Node) (number : ℕ) (s : Stepped) → s ≡ refused number w → refused_by (cause number) v ≡ held_as v s
held-refused v w number s e = sym (ap (held_as v) e)

-- of a call that is made
held-done : (v : Held) (w : Node) (s : Stepped) → s ≡ done w → record { node = rowed w; answer = Ok tt } ≡ held_as v s
held-done v w s e = sym (ap (held_as v) e)

no-cable : (cable : Cable) (places own : ℕ) → may_set_up cable places ≡ false → set_up_of cable places own ≡ refused (fault_of cable places) no_node
unfolding set_up_of
no-cable cable places own e = otherwise _ _ e

no-number : (cable : Cable) (places own : ℕ) → may_set_up cable places ≡ true → node_number cable.n own ≡ false → set_up_of cable places own ≡ refused 3 no_node
unfolding set_up_of
no-number cable places own e f = chosen _ _ e ∙ otherwise _ _ f

made : (cable : Cable) (places own : ℕ) → may_set_up cable places ≡ true → node_number cable.n own ≡ true → set_up_of cable places own ≡ done (starting cable own)
unfolding set_up_of
made cable places own e f = chosen _ _ e ∙ chosen _ _ f

pub returns-then-not-may_set_up : goal.returns-then-not-may_set_up
unfolding plain numbers_from
returns-then-not-may_set_up c =
    let a = c.args in
    ap (λ (r : Refusal). refused_by r (changes.with_row (row_for []) (rowed no_node))) c.fault-cause.ensures
    ∙ ap (refused_by (cause (fault_of a.cable a.places))) no-node-held
    ∙ held-refused (rowed no_node) no_node (fault_of a.cable a.places) _ (no-cable a.cable a.places a.own (failed c.may_set_up.ensures c.if-not-may_set_up.true))

pub returns-then-not-is_node_number : goal.returns-then-not-is_node_number
unfolding plain numbers_from
returns-then-not-is_node_number c =
    let a = c.args in
    ap (refused_by NodeNumber) no-node-held
    ∙ held-refused (rowed no_node) no_node 3 _ (no-number a.cable a.places a.own (passed c.may_set_up.ensures c.if-not-may_set_up.false) (failed c.is_node_number.ensures c.if-not-is_node_number.true))

pub returns : goal.returns
returns c =
    let a = c.args in
    ap (λ (v : Held). record { node = v; answer = Ok tt }) (c.starting-v.ensures ∙ starting-held a.cable a.own)
    ∙ held-done (rowed no_node) (starting a.cable a.own) _ (made a.cable a.places a.own (passed c.may_set_up.ensures c.if-not-may_set_up.false) (passed c.is_node_number.ensures c.if-not-is_node_number.false))
