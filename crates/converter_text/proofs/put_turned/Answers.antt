-- `converter_text::put_turned` meets its contract: where the message is written, k has two digits at the most and the message 9 bytes.
-- Assumes nothing.
use Rattle.std.specs.Prelude.{Ok}
use Prim.Native.Nat.{ℕ, ◌≤◌, min}
use mathlib.Core.Path.{◌≡◌, sym, ap, ◌∙◌}
use mathlib.Core.Bool.{true}
use mathlib.Core.List.{List}
use native.Mathlib.Omega.{arith}
use lib.ListN.{length, take, replicate}
use lib.Seq.{length-take-le}
use Rattle.message.specs.Message.{Outcome}
use Rattle.plan_line.specs.Words.{is_number, value_of}
use Rattle.converter_text.specs.declared.Direction.{Direction}
use Rattle.converter_text.specs.Recorded.{conversion, turned}
use Rattle.converter_text.proofs.Turned.{count_fits, k-small, turned-capped, word-short}
use Rattle.converter_text.proofs.put_turned.Goals as goal

module _ (d : Direction) (k : ℕ) (bytes last : List ℕ) (count : ℕ) (made : ◌≡◌ {A = Outcome} (Ok count, last) (conversion d k bytes (replicate 9 0))) (nine : length last ≡ 9) where
  fits : count ≤ length last
  fits = omega (arith, nine, count_fits d k bytes (replicate 9 0) count last made)

  few : length (take count last) ≤ 9
  few = omega (arith, length-take-le count last fits, nine, fits)

  short : (word : List ℕ) → is_number word ≡ true → k ≡ min (value_of word) 100 → length word ≤ 2
  short word number e = word-short word number (rw e at (k-small d k bytes (replicate 9 0) count last made))

-- what comes of the number is what comes of the capped one
is : (d : Direction) (k : ℕ) (word bytes : List ℕ) (w : Outcome) → w ≡ conversion d k bytes (replicate 9 0) → k ≡ min (value_of word) 100
    → turned d (value_of word) bytes ≡ w
is d k word bytes w e h =
    sym (turned-capped d (value_of word) bytes (replicate 9 0))
    ∙ ap (λ (k : ℕ). conversion d k bytes (replicate 9 0)) (sym h)
    ∙ sym e

pub slice_bounds-made-end : goal.slice_bounds-made-end
slice_bounds-made-end c = fits _ _ _ _ _ c.in-Ok.ensures c.turn-written.auto.out

pub slice_bounds-put_converted-end : goal.slice_bounds-put_converted-end
slice_bounds-put_converted-end c = sym (length-take-le _ _ (fits _ _ _ _ _ c.in-Ok.ensures c.turn-written.auto.out))

pub put_converted-requires : goal.put_converted-requires
put_converted-requires c =
    (c.requires.0, omega (arith, few _ _ _ _ _ c.in-Ok.ensures c.turn-written.auto.out, short _ _ _ _ _ c.in-Ok.ensures c.turn-written.auto.out c.args.word.now c.requires.1 c.small_value.ensures))

pub returns-in-Ok : goal.returns-in-Ok
returns-in-Ok c = rw (is _ _ c.args.word.now _ _ c.in-Ok.ensures c.small_value.ensures) c.put_converted.ensures

pub returns-in-Err : goal.returns-in-Err
returns-in-Err c = rw (is _ _ c.args.word.now _ _ c.in-Err.ensures c.small_value.ensures) (rw c.number.ensures at c.put_refusal.ensures)
