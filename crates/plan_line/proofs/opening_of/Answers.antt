-- `plan_line::opening_of` meets its contract: the two parts that are lent are the bytes before the first space and those after it. Where there is no
-- space, nothing is after it, and that is no number. Assumes nothing.
use Rattle.std.specs.Prelude.{Err}
use Prim.Native.Nat.{ℕ, suc, ◌+◌, ◌-◌, ◌≤◌}
use mathlib.Core.Path.{◌≡◌, sym, ap, ◌∙◌}
use mathlib.Core.List.{List}
use native.Mathlib.Omega.{arith}
use native.Mathlib.Numerals.{add-one}
use lib.ListN.{length, take, drop, drop_of_length-le, length-drop}
use lib.Seq.{length-take-le, take_all}
use borrow.Author.Tests.{le-leb, lt-leb}
use Rattle.plan_line.specs.Words.{after, before, gap, is_number}
use Rattle.refusal.specs.declared.Refusal.TheVariants.{PlanLine}
use Rattle.plan_line.proofs.Words.{and-false}
use Rattle.plan_line.specs.Plan.{numbers_of, opening_of}
use Rattle.plan_line.proofs.opening_of.Goals as goal

no_second : (l : List ℕ) → length l ≤ gap 32 l → numbers_of (before l) (after l) ≡ Err PlanLine
unfolding numbers_of is_number
no_second l h = rw (drop_of_length-le l {i = suc (gap 32 l)} (omega arith), and-false)

pub returns-then-line-gt120 : goal.returns-then-line-gt120
unfolding opening_of
returns-then-line-gt120 c = simp (lt-leb (length c.args.line.now) 120 c.if-line-gt120.true)

pub returns-then-line-end : goal.returns-then-line-end
unfolding opening_of
returns-then-line-end c =
    let l = c.args.line.now in
    let none : length l ≤ gap 32 l = omega (arith, c.part_end-end.ensures) in
    simp (le-leb (length l) 120 c.if-line-gt120.false) (sym (no_second l none))

pub slice_bounds-two_numbers-end : goal.slice_bounds-two_numbers-end
slice_bounds-two_numbers-end c = sym (length-take-le _ _ (omega arith))

pub returns : goal.returns
unfolding opening_of
returns c =
    let l = c.args.line.now in
    let e = c.part_end-end.result in
    let end : e ≡ gap 32 l = omega (arith, c.part_end-end.ensures) in
    let all : take (length l - (e + 1)) (drop (e + 1) l) ≡ drop (e + 1) l = take_all (length l - (e + 1)) (drop (e + 1) l) (omega (arith, length-drop (e + 1) l)) in
    simp (le-leb (length l) 120 c.if-line-gt120.false)
    (c.two_numbers.ensures
    ∙ ap (numbers_of (take e l)) all
    ∙ ap (λ (g : ℕ). numbers_of (take g l) (drop (g + 1) l)) end
    ∙ ap (λ (g : ℕ). numbers_of (take (gap 32 l) l) (drop g l)) (add-one (gap 32 l)))
