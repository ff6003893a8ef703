-- `plan_program::run_lines` meets its contract: the steps of its loop are the turns of `Turns.antt`. Assumes nothing.
use Prim.Native.Nat.{ℕ, ◌≤◌}
use mathlib.Core.Path.{◌≡◌, sym, ap, subst, ◌∙◌}
use lib.ListN.{length}
use Rattle.plan_program.specs.declared.Going.{Going}
use Rattle.plan_program.specs.Inner.{sought}
use Rattle.plan_program.proofs.Turns.{begins, ended, fewer, room, starts, turns}
use Rattle.plan_program.proofs.run_lines.Goals as goal

pub loop-g-init : goal.loop-g-init
loop-g-init c =
    let a = c.args in
    starts a.plan a.part a.input.now a.out.now c.seek-g.result c.rows_for-rows.result c.requires.0 (c.seek-g.ensures ∙ ap (sought a.input.now) c.begun.ensures) c.rows_for-rows.ensures

pub tell-told-requires : goal.tell-told-requires
tell-told-requires c = room c.loop-g.invariant c.loop-g-test.true c.requires.1

pub seek-g-requires-in-loop-g : goal.seek-g-requires-in-loop-g
seek-g-requires-in-loop-g c =
    let at-is = ap (λ (u : Going). u.at) c.tell-told.ensures.is in
    subst (λ (i : ℕ). i ≤ length c.args.input.now) (sym at-is) (begins c.loop-g.invariant c.loop-g-test.true)

pub loop-g-smaller : goal.loop-g-smaller
loop-g-smaller c =
    let loop = c.loop-g in
    let did = rw c.size_of-size.ensures at c.run-outcome.ensures in
    fewer loop.invariant c.loop-g-test.true c.tell-told.result c.seek-g-in-loop-g.result c.run-outcome.result c.run-outcome.new.table c.tell-told.new.out c.size_of-size.array_long c.tell-told.auto.out did
    c.tell-told.ensures c.seek-g-in-loop-g.ensures

pub loop-g-preserved : goal.loop-g-preserved
loop-g-preserved c =
    let loop = c.loop-g in
    let did = rw c.size_of-size.ensures at c.run-outcome.ensures in
    rw c.size_of-size.ensures
    (turns loop.invariant c.loop-g-test.true c.tell-told.result c.seek-g-in-loop-g.result c.run-outcome.result c.run-outcome.new.table c.tell-told.new.out c.size_of-size.array_long c.tell-told.auto.out did
    c.tell-told.ensures c.seek-g-in-loop-g.ensures)

pub returns : goal.returns
returns c = ended c.loop-g.invariant c.came.result c.loop-g-test.false c.came.ensures
