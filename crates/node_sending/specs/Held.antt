-- Inner: the acknowledgement bits of specs/Sending, by a record as it is held: what the code sends. The laws in proofs/Holding tie each to its namesake on sets; it need not be believed.
use Rattle.std.specs.Prelude.{ℕ, zero, suc, cond}
use Rattle.nodeset.specs.Sets.{has, with_if}
use Rattle.row.specs.Sponsoring.{sponsors_row, sponsored_row}
use Rattle.node_record.specs.declared.Held.{Held}
use Rattle.node_record.specs.States.{is_member}

-- "bits taken from the marks before the slot", "bit 1 concerns the nearest member before the sender", with lag 1 "the second member back" (document 02, j): the first j of them, as a set of numbers.
unfoldable pub mark_bits : ℕ → Held → ℕ
mark_bits zero v = 0
mark_bits (suc j) v = with_if (has v.present (sponsored_row v.cable v.row v.own (suc j))) (mark_bits j v) (suc j)

-- "Acknowledgement bits past ks are sent as 0"; "A knock carries zero bits".
unfoldable pub bits_sent : Held → ℕ
bits_sent v = cond (is_member v.state) (mark_bits (sponsors_row v.cable v.row) v) 0
