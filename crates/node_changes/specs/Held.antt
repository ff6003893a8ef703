-- Inner: the records of specs/Changes as they are held: what the code makes. The laws in proofs/Holding tie each to its namesake on sets; it need not be believed.
use Rattle.std.specs.Prelude.{ℕ, ◌+◌, Bool, false, cond, []}
use Rattle.nodeset.specs.Sets.{full}
use Rattle.cable.specs.declared.Cable.{Cable}
use Rattle.row.specs.declared.Row.{Row}
use Rattle.row.specs.Rows.{row_for, as_row}
use Rattle.node_record.specs.declared.Held.{Held}
use Rattle.node_record.specs.declared.Window.{Window}
use Rattle.node_record.specs.declared.State.{State}
use Rattle.node_record.specs.declared.State.TheVariants.{Member, Listening, Following, Out}
use Rattle.node_record.specs.declared.Cause.{Cause}
use Rattle.node_record.specs.States.{is_member}
use Rattle.node_changes.specs.Changes.{no_window}

-- A member that begins with a row, and these marks.
abbrev pub beginning : Cable → ℕ → Row → ℕ → Held
beginning cable own row marks = record { cable = cable; own = own; slots = 0; state = Member; row = row; present = marks; returning = 0; return_heard = false; yes_heard = false; listening = no_window }

-- At the common start.
abbrev pub starting : Cable → ℕ → Held
starting cable own = beginning cable own (as_row cable.order (full cable.n)) (full cable.n)

-- Out for a cause.
abbrev pub out_for : Cause → Held → Held
out_for cause v = record { cable = v.cable; own = v.own; slots = v.slots; state = Out cause; row = row_for []; present = 0; returning = 0; return_heard = false; yes_heard = false; listening = no_window }

-- Listening, after a last clean window in which the nodes `last` were heard.
abbrev pub listening_after : ℕ → Held → Held
listening_after last v = record { cable = v.cable; own = v.own; slots = v.slots; state = Listening; row = row_for []; present = 0; returning = 0; return_heard = false; yes_heard = false; listening = record { done = 0; heard = 0; shortest = v.cable.k; return_seen = false; last = last } }

-- Listening afresh.
abbrev pub fresh : Held → Held
fresh v = listening_after 0 v

-- Following with these members, all marked.
abbrev pub following_with : ℕ → Held → Held
following_with s v = record { cable = v.cable; own = v.own; slots = v.slots; state = Following; row = as_row v.cable.order s; present = s; returning = 0; return_heard = false; yes_heard = false; listening = no_window }

-- After leaving: out, or listening afresh.
unfoldable pub leave : Cause → Held → Held
leave cause v = cond (is_member v.state) (out_for cause v) (fresh v)

-- Another slot count.
abbrev pub numbered : ℕ → Held → Held
numbered slots v = record { cable = v.cable; own = v.own; slots = slots; state = v.state; row = v.row; present = v.present; returning = v.returning; return_heard = v.return_heard; yes_heard = v.yes_heard; listening = v.listening }

-- One slot more on the count.
abbrev pub counted : Held → Held
counted v = numbered (v.slots + 1) v

abbrev pub with_row : Row → Held → Held
with_row row v = record { cable = v.cable; own = v.own; slots = v.slots; state = v.state; row = row; present = v.present; returning = v.returning; return_heard = v.return_heard; yes_heard = v.yes_heard; listening = v.listening }

-- Other marks, another yes heard, and another return heard.
abbrev pub with_marks : ℕ → Bool → Bool → Held → Held
with_marks p assured heard v = record { cable = v.cable; own = v.own; slots = v.slots; state = v.state; row = v.row; present = p; returning = v.returning; return_heard = heard; yes_heard = assured; listening = v.listening }

-- Another returning node, in another state.
abbrev pub with_returning : State → ℕ → Held → Held
with_returning state r v = record { cable = v.cable; own = v.own; slots = v.slots; state = state; row = v.row; present = v.present; returning = r; return_heard = v.return_heard; yes_heard = v.yes_heard; listening = v.listening }

abbrev pub with_window : Window → Held → Held
with_window w v = record { cable = v.cable; own = v.own; slots = v.slots; state = v.state; row = v.row; present = v.present; returning = v.returning; return_heard = v.return_heard; yes_heard = v.yes_heard; listening = w }
