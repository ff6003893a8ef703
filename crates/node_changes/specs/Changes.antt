-- Records made anew: whole ones, and copies with a field changed.
use Rattle.std.specs.Prelude.{ℕ, ◌+◌, Bool, false, cond}
use Rattle.nodeset.specs.Sets.{full}
use Rattle.cable.specs.declared.Cable.{Cable}
use Rattle.node_record.specs.declared.Node.{Node}
use Rattle.node_record.specs.declared.Window.{Window}
use Rattle.node_record.specs.declared.State.{State}
use Rattle.node_record.specs.declared.State.TheVariants.{Member, Listening, Following, Out}
use Rattle.node_record.specs.declared.Cause.{Cause}
use Rattle.node_record.specs.States.{is_member}

-- Listening data "zero or no".
abbrev pub no_window : Window
no_window = record { done = 0; heard = 0; shortest = 0; return_seen = false; last = 0 }

-- A member that begins with a set, all of it marked.
abbrev pub beginning : Cable → ℕ → ℕ → Node
beginning cable own set = record { cable = cable; own = own; slots = 0; state = Member; set = set; present = set; returning = 0; return_heard = false; yes_heard = false; listening = no_window }

-- "All start as members, set full, all marks on, returning 0."; yes heard is "cleared at set-up" (document 02, e).
abbrev pub starting : Cable → ℕ → Node
starting cable own = beginning cable own (full cable.n)

-- Out for a cause: "its set empty".
abbrev pub out_for : Cause → Node → Node
out_for cause v = record { cable = v.cable; own = v.own; slots = v.slots; state = Out cause; set = 0; present = 0; returning = 0; return_heard = false; yes_heard = false; listening = no_window }

-- Listening, "with no slot done", after a last clean window in which the nodes `last` were heard (none where it was unclean, or there was none).
abbrev pub listening_after : ℕ → Node → Node
listening_after last v = record { cable = v.cable; own = v.own; slots = v.slots; state = Listening; set = 0; present = 0; returning = 0; return_heard = false; yes_heard = false; listening = record { done = 0; heard = 0; shortest = v.cable.k; return_seen = false; last = last } }

-- "starts listening afresh, with no slot done; its first window opens with the next slot"
abbrev pub fresh : Node → Node
fresh v = listening_after 0 v

-- "these become the set, all marked, state following"
abbrev pub following_with : ℕ → Node → Node
following_with s v = record { cable = v.cable; own = v.own; slots = v.slots; state = Following; set = s; present = s; returning = 0; return_heard = false; yes_heard = false; listening = no_window }

-- "A member that leaves is out .. A following or knocking node that must leave starts listening afresh."
unfoldable pub leave : Cause → Node → Node
leave cause v = cond (is_member v.state) (out_for cause v) (fresh v)

-- Another slot count.
abbrev pub numbered : ℕ → Node → Node
numbered slots v = record { cable = v.cable; own = v.own; slots = slots; state = v.state; set = v.set; present = v.present; returning = v.returning; return_heard = v.return_heard; yes_heard = v.yes_heard; listening = v.listening }

-- One slot more on the count.
abbrev pub counted : Node → Node
counted v = numbered (v.slots + 1) v

abbrev pub with_set : ℕ → Node → Node
with_set s v = record { cable = v.cable; own = v.own; slots = v.slots; state = v.state; set = s; present = v.present; returning = v.returning; return_heard = v.return_heard; yes_heard = v.yes_heard; listening = v.listening }

-- Other marks, another yes heard, and another return heard.
abbrev pub with_marks : ℕ → Bool → Bool → Node → Node
with_marks p assured heard v = record { cable = v.cable; own = v.own; slots = v.slots; state = v.state; set = v.set; present = p; returning = v.returning; return_heard = heard; yes_heard = assured; listening = v.listening }

-- Another returning node, in another state.
abbrev pub with_returning : State → ℕ → Node → Node
with_returning state r v = record { cable = v.cable; own = v.own; slots = v.slots; state = state; set = v.set; present = v.present; returning = r; return_heard = v.return_heard; yes_heard = v.yes_heard; listening = v.listening }

abbrev pub with_window : Window → Node → Node
with_window w v = record { cable = v.cable; own = v.own; slots = v.slots; state = v.state; set = v.set; present = v.present; returning = v.returning; return_heard = v.return_heard; yes_heard = v.yes_heard; listening = w }
