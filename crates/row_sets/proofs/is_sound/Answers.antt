use borrow.Author.Tests.{lt-leb, eq-eqb}
use Prim.Native.Nat.{ℕ, ◌+◌, ◌≤◌, ◌<◌, min}
use mathlib.Core.Path.{◌≡◌, refl, sym, ap, ◌∙◌}
use mathlib.Core.Bool.{Bool, ◌&&◌}
use mathlib.Core.List.{List}
use native.Mathlib.Omega.{arith}
use native.Mathlib.Decide.{dec_le}
use lib.Dec.{eqb, leb, ltb}
use lib.ListN as list
use lib.Seq.{take_all, get_or-take}
use Rattle.row.specs.Rows.{is_part, blank, sound_row}
use Rattle.row.specs.Inner.{past}
use Rattle.row.proofs.Walked.{left, part-start, part-next, part-done, past-le, past-below}
use Rattle.row_sets.proofs.is_sound.Goals as goal

-- the tests of the end
ends : (count most p : ℕ) (part clear : Bool) → (count ≤ most → part ≡ eqb p count) → Dec (count ≤ most) → (leb count most && (eqb p count && clear)) ≡ (leb count most && (part && clear))
ends count most p part clear e (yes l) = ap (λ (b : Bool). leb count most && (b && clear)) (sym (e l))
ends count most p part clear e (no l) = let z = lt-leb count most (omega arith) in rw z refl

-- a table has no more than 32 places
whole : (n : ℕ) (t : List ℕ) → list.length t ≡ 32 → Dec (n ≤ 32) → list.take (min n 32) t ≡ list.take n t
whole n t e (yes l) = let z : min n 32 ≡ n = omega arith in ap (λ (k : ℕ). list.take k t) z
whole n t e (no l) = take_all (min n 32) t (omega arith) ∙ sym (take_all n t (omega arith))

pub loop-m-init : goal.loop-m-init
loop-m-init c = let a = c.args in record { in_table = omega arith; in_row = omega arith; part = part-start c.min-most.result a.row.length a.order a.row.nodes }

pub loop-m-preserved : goal.loop-m-preserved
loop-m-preserved c =
    let a = c.args in
    let l = c.loop-m in
    let most = c.min-most.result in
    let count = a.row.length in
    let short : l.m-index < most = omega (arith, list.length-take most a.order) in
    let e = eqb (list.get_or a.row.nodes l.p 0) (list.get_or a.order l.m-index 0) in
    let moved : c.past-p.result ≡ past l.p (ltb l.p count && e)
    = c.past-p.ensures ∙ ap (λ (x : ℕ). past l.p (ltb l.p count && eqb (list.get_or a.row.nodes l.p 0) x)) (get_or-take most a.order l.m-index 0 short) in
    record {
      in_table = omega (arith, moved, past-le l.p (ltb l.p count && e));
      in_row = omega (arith, moved, past-below l.p count e l.invariant.in_row);
      part = ap (λ (k : ℕ). is_part (left k count a.row.nodes) (left (l.m-index + 1) most a.order)) moved
          ∙ part-next most count a.order a.row.nodes l.m-index l.p (omega arith) (omega arith) short (omega arith) (omega arith)
          ∙ l.invariant.part;
    }

pub returns : goal.returns
unfolding sound_row
returns c =
    let a = c.args in
    let most = c.min-most.result in
    let l = c.loop-m in
    let count = a.row.length in
    let full : list.length a.row.nodes ≡ 32 = omega arith in
    let part = is_part (list.take count a.row.nodes) (list.take most a.order) in
    let clear = blank (list.drop count a.row.nodes) in
    let last : l.m-index ≡ most = omega (arith, list.length-take most a.order) in
    ends count most l.p part c.is_blank-clear.result
    (λ m.
    sym (ap (λ (k : ℕ). is_part (left l.p count a.row.nodes) (left k most a.order)) (sym last) ∙ l.invariant.part)
    ∙ part-done most count a.order a.row.nodes l.p full (omega arith) l.invariant.in_row)
    (dec_le count most)
    ∙ ap (λ (b : Bool). leb count most && (part && b)) c.is_blank-clear.ensures
    ∙ ap (λ (k : ℕ). leb count k && (is_part (list.take count a.row.nodes) (list.take k a.order) && clear)) c.min-most.ensures
    ∙ ap (λ (q : List ℕ). leb count (min a.n 32) && (is_part (list.take count a.row.nodes) q && clear)) (whole a.n a.order (omega arith) (dec_le a.n 32))
    ∙ sym (ap (λ (b : Bool). b && (leb count (min a.n 32) && (is_part (list.take count a.row.nodes) (list.take a.n a.order) && clear))) (eq-eqb (list.length a.row.nodes) 32 full))
