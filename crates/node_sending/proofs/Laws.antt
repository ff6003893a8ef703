-- Laws of the acknowledgement bits that are sent (specs/Sending), from the laws of sets (nodeset): no bit past those asked for is set, so
-- what a node sends fits k bits; and bit i is the mark of the i-th sponsored member. Assumes nothing.
use Prim.Native.Nat.{ℕ, zero, suc, ◌^◌, ◌≤◌, ◌<◌}
use mathlib.Core.Path.{◌≡◌, sym, ap, ◌∙◌}
use mathlib.Core.Bool.{Bool, true, false}
use native.Mathlib.Omega.{arith}
use native.Mathlib.Decide.{dec_le}
use lib.Pow.{pow_pos, pow_mono, pow-lt}
use Rattle.nodeset.specs.Sets.{has, with}
use Rattle.nodeset.proofs.Tests.{by_cases, chosen, otherwise}
use Rattle.nodeset.proofs.Bits.{has-beyond}
use Rattle.nodeset.proofs.Laws.{has-with, has-with-other, with-lt}
use Rattle.row.specs.ring.Ring.{member_in, sponsors}
use Rattle.node_record.specs.declared.Node.{Node}
use Rattle.node_record.specs.Sponsoring.{sponsors_in, sponsored_in}
use Rattle.node_record.specs.States.{is_member}
use Rattle.node_sending.specs.Sending.{mark_bits, bits_sent}

-- the mark of the j-th sponsored member
abbrev pub marked : Node → ℕ → Bool
marked v j = has v.present (member_in (sponsored_in v.own j v))

-- ---- one bit more, by the mark

pub mark_bits-on : (v : Node) (j : ℕ) → marked v (suc j) ≡ true → mark_bits (suc j) v ≡ with (mark_bits j v) (suc j)
unfolding mark_bits
mark_bits-on v j e = chosen (with (mark_bits j v) (suc j)) (mark_bits j v) e

pub mark_bits-off : (v : Node) (j : ℕ) → marked v (suc j) ≡ false → mark_bits (suc j) v ≡ mark_bits j v
unfolding mark_bits
mark_bits-off v j e = otherwise (with (mark_bits j v) (suc j)) (mark_bits j v) e

-- ---- the bits fit

-- the first j bits are below 2 ^ j
pub mark_bits-lt : (v : Node) (j : ℕ) → mark_bits j v < 2 ^ j
unfolding mark_bits
mark_bits-lt v zero = pow_pos 0
mark_bits-lt v (suc j) =
    let wider : mark_bits j v < 2 ^ suc j = omega (arith, mark_bits-lt v j, pow-lt {i = j} {j = suc j} (omega arith)) in
    by_cases (marked v (suc j))
    (λ e. omega (arith, mark_bits-on v j e, with-lt (suc j) (mark_bits j v) (suc j) (omega arith) wider))
    (λ e. omega (arith, mark_bits-off v j e))

-- what any node sends fits k bits, so that the writer refuses none of it by cause 8
pub bits_sent-lt : (v : Node) → bits_sent v < 2 ^ v.cable.k
unfolding bits_sent sponsors
bits_sent-lt v =
    let most : ℕ = sponsors_in v in
    by_cases (is_member v.state)
    (λ e. omega (arith, chosen (mark_bits most v) 0 e, mark_bits-lt v most, pow_mono {i = most} {j = v.cable.k} (omega arith)))
    (λ e. omega (arith, otherwise (mark_bits most v) 0 e, pow_pos v.cable.k))

-- ---- what each bit says

-- no bit is set past the first j
pub mark_bits-beyond : (v : Node) (j i : ℕ) → j < i → has (mark_bits j v) i ≡ false
mark_bits-beyond v j i h = has-beyond j (mark_bits j v) i (mark_bits-lt v j) h

-- one bit more leaves the bits before it
mark_bits-before : (v : Node) (j i : ℕ) → i ≤ j → has (mark_bits (suc j) v) i ≡ has (mark_bits j v) i
mark_bits-before v j i h =
    by_cases (marked v (suc j))
    (λ e. ap (λ (b : ℕ). has b i) (mark_bits-on v j e) ∙ has-with-other (mark_bits j v) (suc j) i (λ z. omega arith))
    (λ e. ap (λ (b : ℕ). has b i) (mark_bits-off v j e))

-- and is itself the mark
mark_bits-last : (v : Node) (j : ℕ) → suc j ≤ 32 → has (mark_bits (suc j) v) (suc j) ≡ marked v (suc j)
mark_bits-last v j h =
    by_cases (marked v (suc j))
    (λ e. ap (λ (b : ℕ). has b (suc j)) (mark_bits-on v j e) ∙ has-with (mark_bits j v) (suc j) (omega arith) h ∙ sym e)
    (λ e. ap (λ (b : ℕ). has b (suc j)) (mark_bits-off v j e) ∙ mark_bits-beyond v j (suc j) (omega arith) ∙ sym e)

-- bit i of the first j is the mark of the i-th sponsored member
pub has-mark_bits : (v : Node) (j i : ℕ) → 1 ≤ i → i ≤ j → j ≤ 32 → has (mark_bits j v) i ≡ marked v i
has-mark_bits v zero i p q r = absurd (omega arith)
has-mark_bits v (suc j) i p q r = go (dec_le i j) (λ h. has-mark_bits v j i p h (omega arith))
  where
    go : Dec (i ≤ j) → (i ≤ j → has (mark_bits j v) i ≡ marked v i) → has (mark_bits (suc j) v) i ≡ marked v i
    go (yes h) rest = mark_bits-before v j i h ∙ rest h
    go (no h) rest =
        let last : i ≡ suc j = omega arith in
        ap (has (mark_bits (suc j) v)) last ∙ mark_bits-last v j r ∙ sym (ap (marked v) last)
