-- `node_steps::departures` meets its contract: the goals about its invariant. Assumes nothing.
use Rattle.std.specs.Prelude.{Option, Some, None}
use Prim.Native.Nat.{ℕ, suc, ◌+◌, ◌-◌}
use mathlib.Core.Path.{◌≡◌, refl, sym, ap, ◌∙◌}
use mathlib.Core.Bool.{true, false}
use native.Mathlib.Omega.{arith}
use native.Mathlib.Nat.{sub-zero}
use borrow.Author.Tests.{eq-eqb, ne_eqb}
use Rattle.nodeset.proofs.Tests.{told, chosen, otherwise}
use Rattle.row.specs.declared.Row.{Row}
use Rattle.row.specs.Inner.{without_row}
use Rattle.row.specs.Sponsoring.{decided_row}
use Rattle.node_record.specs.declared.Held.{Held}
use Rattle.node_record.specs.Held.{setted}
use Rattle.node_steps.specs.Digests.{stays_on}
use Rattle.node_steps.specs.Held.{departures}
use Rattle.node_steps.proofs.departures.Goals as goal

-- one departure, by the tests that the code makes
nobody-left : (m s : ℕ) (row : Row) (v : Held) → Some row ≡ departures 0 m s row v
unfolding departures
nobody-left m s row v = refl

one-stays : (l m s : ℕ) (row : Row) (v : Held) → stays_on m (setted v) ≡ true → Some row ≡ departures (suc l) m s row v
unfolding departures
one-stays l m s row v e = sym (chosen _ _ e)

itself : (l m s : ℕ) (row : Row) (v : Held) → stays_on m (setted v) ≡ false → m ≡ v.own → ◌≡◌ {A = Option Row} None (departures (suc l) m s row v)
unfolding departures
itself l m s row v e o = sym (otherwise _ _ e ∙ chosen _ _ (eq-eqb m v.own o))

one-leaves : (l m s : ℕ) (row : Row) (v : Held) (row' : Row) (m' : ℕ) → stays_on m (setted v) ≡ false → (m ≡ v.own → ⊥) → row' ≡ without_row row m → m' ≡ decided_row v.cable row' s
    → departures l m' s row' v ≡ departures (suc l) m s row v
unfolding departures
one-leaves l m s row v row' m' e o p q =
    ap (λ (x : ℕ). departures l x s row' v) q
    ∙ ap (λ (x : Row). departures l (decided_row v.cable x s) s x v) p
    ∙ sym (otherwise _ _ e ∙ otherwise _ _ (ne_eqb m v.own o))

pub loop-init : goal.loop-init
loop-init c = ap (λ (i : ℕ). departures i c.args.m c.args.s c.args.v.row c.args.v) (sub-zero c.args.v.cable.n)

pub returns-then-stays_on : goal.returns-then-stays_on
returns-then-stays_on c =
    let l = c.loop in
    let a = c.args in
    let some : suc (a.v.cable.n - (l.counter + 1)) ≡ a.v.cable.n - l.counter = omega arith in
    one-stays _ l.m a.s l.row a.v (told c.stays_on.ensures c.if-stays_on.true)
    ∙ ap (λ (i : ℕ). departures i l.m a.s l.row a.v) some ∙ l.invariant

pub returns-then-m-v : goal.returns-then-m-v
returns-then-m-v c =
    let l = c.loop in
    let a = c.args in
    let some : suc (a.v.cable.n - (l.counter + 1)) ≡ a.v.cable.n - l.counter = omega arith in
    itself _ l.m a.s l.row a.v (told c.stays_on.ensures c.if-stays_on.false) c.if-m-v.true
    ∙ ap (λ (i : ℕ). departures i l.m a.s l.row a.v) some ∙ l.invariant

pub loop-preserved : goal.loop-preserved
loop-preserved c =
    let l = c.loop in
    let a = c.args in
    let some : suc (a.v.cable.n - (l.counter + 1)) ≡ a.v.cable.n - l.counter = omega arith in
    one-leaves _ l.m a.s l.row a.v c.without-row.result c.decided-m.result (told c.stays_on.ensures c.if-stays_on.false) c.if-m-v.false c.without-row.ensures c.decided-m.ensures
    ∙ ap (λ (i : ℕ). departures i l.m a.s l.row a.v) some ∙ l.invariant

pub returns : goal.returns
returns c =
    let l = c.loop in
    let a = c.args in
    let none : 0 ≡ a.v.cable.n - l.counter = omega arith in
    nobody-left l.m a.s l.row a.v ∙ ap (λ (i : ℕ). departures i l.m a.s l.row a.v) none ∙ l.invariant
