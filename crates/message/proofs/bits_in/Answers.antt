use Prim.Native.Nat.{ℕ, suc, ◌+◌, ◌-◌, ◌*◌, ◌^◌, ◌≤◌, ◌<◌}
use mathlib.Core.List.{List}
use mathlib.Core.Path.{◌≡◌, sym, ap, ◌∙◌}
use native.Mathlib.Omega.{arith}
use lib.ListN.{length, drop, get_or}
use lib.Seq.{drop-length}
use Rattle.message.specs.Message.{little}
use Rattle.message.proofs.Bytes.{three-lt, little-drop}
use Rattle.message.proofs.bits_in.Goals as goal

-- at most three bytes have been read before a turn
small : (i bits : ℕ) (l : List ℕ) → ((j : ℕ) → get_or l j 0 < 256) → length l ≤ i + 3 → bits ≡ little (drop i l) → bits < 2 ^ 24
small i bits l bytes few e =
    let h : little (drop i l) < 2 ^ 24 = three-lt i l (λ j below. bytes j) few in
    omega arith

pub loop-i-init : goal.loop-i-init
unfolding little
loop-i-init c = (c.requires.0, sym (ap little (drop-length c.args.part.now)))

pub overflow_mul-bits : goal.overflow_mul-bits
overflow_mul-bits c = omega (arith, small c.loop-i.i c.loop-i.bits c.args.part.now (λ j. (c.type_inv.part j).fits) (omega arith) c.loop-i.invariant.1)

pub overflow_add-bits : goal.overflow_add-bits
overflow_add-bits c = omega (arith, small c.loop-i.i c.loop-i.bits c.args.part.now (λ j. (c.type_inv.part j).fits) (omega arith) c.loop-i.invariant.1, (c.type_inv.part (c.loop-i.i - 1)).fits)

pub loop-i-preserved : goal.loop-i-preserved
loop-i-preserved c =
    let l = c.args.part.now in
    let i = c.loop-i.i in
    let next : suc (i - 1) ≡ i = omega arith in
    let more : little (drop (i - 1) l) ≡ get_or l (i - 1) 0 + little (drop i l) * 256 = little-drop (i - 1) l (omega arith) ∙ ap (λ (j : ℕ). get_or l (i - 1) 0 + little (drop j l) * 256) next in
    (omega arith, omega arith)

pub returns : goal.returns
returns c =
    let last : c.loop-i.i ≡ 1 = omega arith in
    c.loop-i.invariant.1 ∙ ap (λ (i : ℕ). little (drop i c.args.part.now)) last
