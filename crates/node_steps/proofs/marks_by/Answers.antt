-- `node_steps::marks_by` meets its contract: its test is that of the definition. Assumes nothing.
use Prim.Native.Nat.{ℕ}
use mathlib.Core.Path.{◌≡◌, refl, sym, ◌∙◌}
use mathlib.Core.Bool.{Bool, cond, not, ◌&&◌}
use Rattle.nodeset.specs.Sets.{has, without, union}
use Rattle.nodeset.proofs.Tests.{chosen, otherwise}
use Rattle.node_record.specs.declared.Node.{Node}
use Rattle.node_record.specs.Held.{setted}
use Rattle.node_steps.specs.declared.Said.{Said}
use Rattle.node_steps.specs.Digests.{marks_by}
use Rattle.node_steps.proofs.marks_by.Goals as goal

-- the marks by what the code has found
with-found : (said : Said) (v : Node) (marks : ℕ) (denied : Bool) → marks ≡ union v.present said.yes → denied ≡ has said.no v.own
    → cond (denied && not v.yes_heard) (without marks v.own) marks ≡ marks_by said v
with-found said v marks denied e f = rw (e, f) refl

pub returns-then-has-v : goal.returns-then-has-v
returns-then-has-v c =
    let a = c.args in
    c.without.ensures
    ∙ sym (chosen _ _ c.if-has-v.true)
    ∙ with-found a.said (setted a.v) c.union-marks.result c.has.result c.union-marks.ensures c.has.ensures

pub returns : goal.returns
returns c =
    let a = c.args in
    sym (otherwise _ _ c.if-has-v.false)
    ∙ with-found a.said (setted a.v) c.union-marks.result c.has.result c.union-marks.ensures c.has.ensures
