-- Inner: the definitions of specs/Hearing that make a record, of records as they are held: what the code makes. The laws in proofs/Holding tie each to its namesake on sets; it need not be believed.
use Rattle.std.specs.Prelude.{ℕ, cond, eqb, ltb}
use Rattle.message.specs.Answers.{Reading}
use Rattle.node_record.specs.declared.Held.{Held}
use Rattle.node_record.specs.declared.Window.{Window}
use Rattle.node_changes.specs.Held.{listening_after, following_with, with_window}
use Rattle.node_hearing.specs.Hearing.{overheard, clean}

-- "Two clean windows in a row with the same nodes heard, two or more: these become the set, all marked, state following. .. An unclean window
-- also wipes out the clean one before it; a clean one with other nodes replaces it."
unfoldable pub window_end : Window → Held → Held
window_end w v =
    cond (clean v.cable w)
    (cond (eqb w.last w.heard) (following_with w.heard v) (listening_after w.heard v))
    (listening_after 0 v)

-- "It counts windows of n slots from there."
unfoldable pub goes_on : Window → Held → Held
goes_on w v = cond (ltb w.done v.cable.n) (with_window w v) (window_end w v)

-- The slot where what is heard of the own slot is a refused reading.
unfoldable pub listening_by : ℕ → Reading → Held → Held
listening_by s heard v = goes_on (overheard s heard v.listening) v
