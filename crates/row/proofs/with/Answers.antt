-- `row::with` meets its contract: its tests are those of the definition, and x is put in at its rank. Assumes nothing.
use borrow.Author.Tests.{lt-leb, le-leb}
use Prim.Native.Nat.{ℕ, ◌+◌}
use mathlib.Core.Path.{◌≡◌, sym, ap, ap₂, ◌∙◌}
use mathlib.Core.Bool.{Bool, true, false, not, ◌&&◌, ◌||◌, and-false}
use mathlib.Core.List.{List}
use native.Mathlib.Omega.{arith}
use lib.Dec.{leb}
use Rattle.ring.proofs.nodeset.Tests.{chosen, otherwise}
use Rattle.row.specs.declared.Row.{Row}
use Rattle.row.specs.Inner.{has_row, put_in, with_row, row_at}
use Rattle.row.proofs.with.Goals as goal

-- the first test
abbrev held : Row → ℕ → Bool
held row x = has_row row x || leb 32 row.length

told : (row : Row) (x : ℕ) (r v : Bool) → r ≡ has_row row x → (r || leb 32 row.length) ≡ v → held row x ≡ v
told row x r v e f = ap (λ (b : Bool). b || leb 32 row.length) (sym e) ∙ f

pub returns-then-has-count : goal.returns-then-has-count
unfolding with_row
returns-then-has-count c =
    let a = c.args in
    let h = c.has in
    sym (otherwise _ a.row (ap (λ (b : Bool). not b && (leb 1 a.x && leb a.x 32)) (told a.row a.x h.result true h.ensures c.if-has-count.true)))

pub returns-then-x-eq0 : goal.returns-then-x-eq0
unfolding with_row
returns-then-x-eq0 c =
    let a = c.args in
    sym (otherwise _ a.row
    (ap (λ (b : Bool). not (held a.row a.x) && (b && leb a.x 32)) (lt-leb 1 a.x (omega arith)) ∙ and-false (not (held a.row a.x))))

pub returns-then-x-ge33 : goal.returns-then-x-ge33
unfolding with_row
returns-then-x-ge33 c =
    let a = c.args in
    sym (otherwise _ a.row
    (ap (λ (b : Bool). not (held a.row a.x) && (leb 1 a.x && b)) (lt-leb a.x 32 (omega arith))
    ∙ ap (λ (b : Bool). not (held a.row a.x) && b) (and-false (leb 1 a.x))
    ∙ and-false (not (held a.row a.x))))

pub returns : goal.returns
unfolding with_row
returns c =
    let a = c.args in
    let h = c.has in
    let yes = told a.row a.x h.result false h.ensures c.if-has-count.false in
    ap (λ (q : List ℕ). row_at (a.row.length + 1) q)
    (c.put_in-places.ensures ∙ ap (λ (p : ℕ). put_in p a.x a.row.nodes) c.rank-p.ensures)
    ∙ sym (chosen _ a.row
    (ap₂ (λ (b d : Bool). not b && (d && leb a.x 32)) yes (le-leb 1 a.x (omega arith)) ∙ le-leb a.x 32 (omega arith)))
