-- What a node sends in its own slot (document 01, end of "One slot").
use Rattle.std.specs.Prelude.{ℕ, zero, suc, Bool, cond, not, ◌&&◌, ◌||◌, eqb}
use Rattle.nodeset.specs.Sets.{has, with_if}
use Rattle.row.specs.ring.Ring.{member_in}
use Rattle.node_record.specs.declared.Node.{Node}
use Rattle.node_record.specs.Sponsoring.{sponsors_in, sponsored_in}
use Rattle.node_record.specs.States.{is_member, is_following}

-- "Members send in their own slots", and a following node "in its own slot with returning 0 knocks: it sends".
abbrev pub sends : Node → Bool
sends v = is_member v.state || (is_following v.state && eqb v.returning 0)

-- "bits taken from the marks before the slot", "bit 1 concerns the nearest member before the sender", with lag 1 "the second member back" (document 02, j): the first j of them, as a set of numbers.
unfoldable pub mark_bits : ℕ → Node → ℕ
mark_bits zero v = 0
mark_bits (suc j) v = with_if (has v.present (member_in (sponsored_in v.own (suc j) v))) (mark_bits j v) (suc j)

-- "Acknowledgement bits past ks are sent as 0"; "A knock carries zero bits".
unfoldable pub bits_sent : Node → ℕ
bits_sent v = cond (is_member v.state) (mark_bits (sponsors_in v) v) 0

-- "the return bit is 1 if returning is not 0. A knock carries .. return bit 0."
abbrev pub return_sent : Node → Bool
return_sent v = is_member v.state && not (eqb v.returning 0)

-- "Sending .. is given the sender's job byte"; "A knock carries zero job bits" (document 02, h).
abbrev pub jobs_sent : ℕ → Node → ℕ
jobs_sent jobs v = cond (is_member v.state) jobs 0
