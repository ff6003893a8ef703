use Prim.Native.Nat.{ℕ, suc, ◌+◌, ◌-◌, ◌/◌, ◌%◌, ◌≤◌, ◌<◌}
use mathlib.Core.Path.{◌≡◌, refl, sym, ap, ◌∙◌}
use mathlib.Core.List.{List, [], ◌∷◌, ◌++◌, append_assoc, append-nil}
use native.Mathlib.Omega.{arith}
use native.Mathlib.Numerals.{add-one}
use lib.ListN.{length, take, set, length-set}
use lib.Seq.{take-suc-set, take-length}
use Rattle.message.specs.Message.{bytes_of, section_of}
use Rattle.message.proofs.put_section.Goals as goal

-- the count is stored
first : (l : List ℕ) (count bits : ℕ) → 1 ≤ length l → take 1 (set l 0 count) ++ bytes_of (length (set l 0 count) - 1) bits ≡ section_of count (length (set l 0 count) - 1) bits
first [] count bits some = absurd (omega arith)
first (x ∷ l) count bits some = refl

-- a turn stores the lowest byte of what is left
next : (l : List ℕ) (i rest : ℕ) → i < length l → take (i + 1) (set l i (rest % 256)) ++ bytes_of (length (set l i (rest % 256)) - (i + 1)) (rest / 256) ≡ take i l ++ bytes_of (length l - i) rest
unfolding bytes_of
next l i rest below =
    let left : length l - i ≡ suc (length l - (i + 1)) = omega arith in
    rw (left, length-set, add-one i, take-suc-set l i (rest % 256) below, append_assoc)

-- at the end nothing is left
last : (l : List ℕ) (i rest : ℕ) → i ≡ length l → take i l ++ bytes_of (length l - i) rest ≡ l
unfolding bytes_of
last l i rest end =
    let none : length l - i ≡ 0 = omega arith in
    rw (none, end, take-length, append-nil)

pub loop-i-init : goal.loop-i-init
loop-i-init c = first c.args.part.now c.args.count c.args.bits c.requires.1

pub loop-i-preserved : goal.loop-i-preserved
loop-i-preserved c = next c.loop-i.part c.loop-i.i c.loop-i.rest (omega arith) ∙ c.loop-i.invariant

pub returns : goal.returns
returns c =
    let a = c.args in
    let l = c.loop-i.part in
    let long = length-set a.part.now 0 a.count in
    sym (last l c.loop-i.i c.loop-i.rest (omega arith)) ∙ c.loop-i.invariant ∙ ap (λ (n : ℕ). section_of a.count (n - 1) a.bits) long
