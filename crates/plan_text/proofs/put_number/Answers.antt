-- `plan_text::put_number` meets its contract: the digits, and the byte behind them.
-- Assumes nothing.
use Prim.Native.Nat.{ℕ, ◌+◌}
use mathlib.Core.Path.{refl, ap, ◌∙◌}
use native.Mathlib.Omega.{arith}
use Rattle.plan_text.specs.Text.{PutAt, decimal, digits, pasted, places}
use Rattle.plan_text.proofs.Paste.{both, put_byte}
use Rattle.plan_text.proofs.Digits.{places-most, length_digits}
use Rattle.plan_text.proofs.put_number.Goals as goal

pub put_digits-requires : goal.put_digits-requires
put_digits-requires c = omega (arith, c.count_places-count.ensures, places-most 19 c.args.x, c.requires)

pub overflow_add-out : goal.overflow_add-out
overflow_add-out c = omega (arith, c.count_places-count.ensures, places-most 19 c.args.x, c.requires)

pub bounds-out-at : goal.bounds-out-at
bounds-out-at c = omega (arith, c.put_digits.auto.out, c.count_places-count.ensures, places-most 19 c.args.x, c.requires)

pub overflow_add-result : goal.overflow_add-result
overflow_add-result c = omega (arith, c.count_places-count.ensures, places-most 19 c.args.x, c.requires)

pub overflow_add-result-2 : goal.overflow_add-result-2
overflow_add-result-2 c = omega (arith, c.count_places-count.ensures, places-most 19 c.args.x, c.requires)

pub returns : goal.returns
unfolding decimal
returns c =
    let a = c.args in
    let n = c.count_places-count.result in
    let d = a.out.now in
    let e = c.put_digits.new.out in
    let count = c.count_places-count.ensures in
    let number : PutAt (a.at + n) a.at (decimal a.x) d e =
    record {
      end = omega (arith, count, length_digits 10 (places 19 a.x) a.x);
      bytes = c.put_digits.ensures ∙ ap (λ (k : ℕ). pasted d a.at (digits 10 k a.x)) count;
    } in
    both (omega (arith, c.requires)) number (put_byte e (a.at + n) a.byte (a.at + n + 1) refl (omega (arith, c.put_digits.auto.out, count, places-most 19 a.x, c.requires)))
