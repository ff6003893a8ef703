-- One slot, for a listening node (document 01, "Listening").
use Rattle.std.specs.Prelude.{ℕ, ◌+◌, min, Bool, cond, not, ◌&&◌, ◌||◌, eqb, leb, ltb, Err, Ok}
use Rattle.nodeset.specs.Sets.{with, size, run}
use Rattle.cable.specs.declared.Cable.{Cable}
use Rattle.ring.specs.Ring.{ks}
use Rattle.message.specs.Answers.{Reading}
use Rattle.node_record.specs.declared.Node.{Node}
use Rattle.node_record.specs.declared.Window.{Window}
use Rattle.node_changes.specs.Changes.{listening_after, following_with, with_window}

-- One more slot of the window is done, and nobody was heard in it.
abbrev pub slot_unheard : Window → Window
slot_unheard w = record { done = w.done + 1; heard = w.heard; shortest = w.shortest; return_seen = w.return_seen; last = w.last }

-- Who was heard, "the shortest run of ones", "whether a return bit of 1 was heard". "An unreadable message is unheard".
abbrev pub overheard : ℕ → Reading → Window → Window
overheard s (Ok h) w = record { done = w.done + 1; heard = with w.heard s; shortest = min w.shortest (run h.acknowledgements); return_seen = w.return_seen || h.return_bit; last = w.last }
overheard s (Err r) w = slot_unheard w

-- "the own slot hears nothing"
abbrev pub window_after : ℕ → Reading → Node → Window
window_after s heard v = cond (eqb s v.own) (slot_unheard v.listening) (overheard s heard v.listening)

-- "A window is clean if every message heard has return bit 0, and the run of ones from bit 1 in each is at least the smaller of k and
-- (number of nodes heard) - 1"; "the listening rule uses the same reduced number" (document 02, j); "a window with fewer than two nodes heard is unclean".
unfoldable pub clean : Cable → Window → Bool
clean cable w =
    let count = size cable.n w.heard in
    leb 2 count && (not w.return_seen && leb (ks cable count) w.shortest)

-- "Two clean windows in a row with the same nodes heard, two or more: these become the set, all marked, state following. .. An unclean window
-- also wipes out the clean one before it; a clean one with other nodes replaces it."
unfoldable pub window_end : Window → Node → Node
window_end w v =
    cond (clean v.cable w)
    (cond (eqb w.last w.heard) (following_with w.heard v) (listening_after w.heard v))
    (listening_after 0 v)

-- "It counts windows of n slots from there."
unfoldable pub goes_on : Window → Node → Node
goes_on w v = cond (ltb w.done v.cable.n) (with_window w v) (window_end w v)

unfoldable pub listening_slot : ℕ → Reading → Node → Node
listening_slot s heard v = goes_on (window_after s heard v) v

-- ---- Inner

-- The slot where what is heard of the own slot is a refused reading.
unfoldable pub listening_by : ℕ → Reading → Node → Node
listening_by s heard v = goes_on (overheard s heard v.listening) v

-- The listening data with another count of slots done.
abbrev pub with_done : ℕ → Window → Window
with_done done w = record { done = done; heard = w.heard; shortest = w.shortest; return_seen = w.return_seen; last = w.last }
