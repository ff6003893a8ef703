-- The acknowledgement bits that a node sends by its row (specs/Held) are those that the rules say by its set (specs/Sending), where the slot table is kept and the own number is of 1 to n. Assumes nothing.
use Prim.Native.Nat.{ℕ, zero, suc, ◌≤◌}
use mathlib.Core.Path.{◌≡◌, refl, ap, ap₂, ◌∙◌}
use mathlib.Core.Bool.{true, cond}
use native.Mathlib.Omega.{arith}
use Rattle.nodeset.specs.Sets.{has, with_if}
use Rattle.row.specs.slot_table.Order.{is_kept}
use Rattle.node_record.proofs.row_laws.Sponsored.{sponsors-row, sponsored-row}
use Rattle.node_record.specs.declared.Node.{Node}
use Rattle.node_record.specs.Held.{rowed}
use Rattle.node_record.specs.Sponsoring.{sponsors_in}
use Rattle.node_record.specs.States.{is_member}
use Rattle.node_sending.specs.Sending as rules
use Rattle.node_sending.specs.Held as held

module _ (v : Node) (kept : is_kept v.cable.n v.cable.order ≡ true) (low : 1 ≤ v.own) (high : v.own ≤ v.cable.n) where
  -- as many as it sponsors
  pub marks-held : (j : ℕ) → j ≤ sponsors_in v → held.mark_bits j (rowed v) ≡ rules.mark_bits j v
  unfolding held.mark_bits rules.mark_bits
  marks-held zero most = refl
  marks-held (suc j) most =
      ap₂ (λ (x b : ℕ). with_if (has v.present x) b (suc j)) (sponsored-row v.cable kept v.set v.own (suc j) low high (omega arith) most) (marks-held j (omega arith))

  pub bits-held : held.bits_sent (rowed v) ≡ rules.bits_sent v
  unfolding held.bits_sent rules.bits_sent
  bits-held =
      ap (λ (b : ℕ). cond (is_member v.state) b 0)
      (ap (λ (m : ℕ). held.mark_bits m (rowed v)) (sponsors-row v.cable kept v.set) ∙ marks-held (sponsors_in v) (omega arith))
