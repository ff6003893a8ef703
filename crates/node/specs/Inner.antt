-- Inner: whose job byte counts, as the code works it out by a row. The laws in proofs/Holding tie it to specs/Calls; it need not be believed.
use Rattle.std.specs.Prelude.{ℕ, ◌+◌, Bool, cond, not, ◌&&◌, eqb}
use Rattle.ring.specs.Ring.{sender}
use Rattle.row.specs.Inner.{has_row}
use Rattle.message.specs.Answers.{Reading}
use Rattle.node_record.specs.declared.Held.{Held}
use Rattle.node_steps.specs.Steps.{is_heard}

abbrev pub hears_held : ℕ → Reading → Held → Bool
hears_held s heard v = not (eqb s v.own) && (is_heard heard && has_row v.row s)

-- 0 for nobody.
unfoldable pub reporter_held : Reading → Held → ℕ
reporter_held heard v =
    let s = sender v.cable (v.slots + 1) in
    cond (hears_held s heard v) s 0
