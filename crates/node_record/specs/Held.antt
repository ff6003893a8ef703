-- Document 02, request l: "The set shall be held as a row of node numbers in slot order .. Conversion each way is proved to lose nothing for sound records". The record with a set, of which the rules speak, and the
-- record as it is held.
use Rattle.row.specs.Rows.{as_row, as_set}
use Rattle.node_record.specs.declared.Node.{Node}
use Rattle.node_record.specs.declared.Held.{Held}

-- What holds a record of the rules.
abbrev pub rowed : Node → Held
rowed v = record { cable = v.cable; own = v.own; slots = v.slots; state = v.state; row = as_row v.cable.order v.set; present = v.present; returning = v.returning; return_heard = v.return_heard; yes_heard = v.yes_heard; listening = v.listening }

-- The record that a held one stands for. (Of a row that is not sound the set is no set, so that the record is not sound.)
abbrev pub setted : Held → Node
setted v = record { cable = v.cable; own = v.own; slots = v.slots; state = v.state; set = as_set v.cable.n v.cable.order v.row; present = v.present; returning = v.returning; return_heard = v.return_heard; yes_heard = v.yes_heard; listening = v.listening }
