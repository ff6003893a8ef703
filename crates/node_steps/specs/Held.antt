-- Inner: one slot of a held record, as the code works it out: the definitions of specs/Steps and specs/Digests with a row in place of the set. The laws in proofs/Holding tie each to its namesake; it need not be believed.
use Rattle.std.specs.Prelude.{ℕ, zero, suc, Bool, true, false, cond, not, ◌&&◌, ◌||◌, eqb, ltb, Err, Ok, Option, Some, None}
use Rattle.nodeset.specs.Sets.{has, with, with_if}
use Rattle.cable.specs.declared.Cable.{Cable}
use Rattle.row.specs.declared.Row.{Row}
use Rattle.row.specs.Inner.{has_row, with_row, without_row, before_row, same_row}
use Rattle.row.specs.Sponsoring.{sponsors_row, sponsored_row, decided_row}
use Rattle.message.specs.Answers.{Reading}
use Rattle.node_record.specs.declared.Held.{Held}
use Rattle.node_record.specs.declared.State.{State}
use Rattle.node_record.specs.declared.State.TheVariants.{Following, Knocking}
use Rattle.node_record.specs.declared.Cause.TheVariants.{Unconfirmed, NothingHeard, MissedReturn}
use Rattle.node_record.specs.States.{is_member, is_following, is_knocking}
use Rattle.node_record.specs.Held.{setted}
use Rattle.node_changes.specs.Held as changes
use Rattle.node_changes.specs.Held.{leave, fresh, with_marks, with_returning}
use Rattle.node_steps.specs.declared.Said.{Said}
use Rattle.node_steps.specs.declared.Digest.{Digest}
use Rattle.node_steps.specs.declared.Effect.{Effect}
use Rattle.node_steps.specs.Steps.{says_so, state_on_list, nothing_heard}
use Rattle.node_steps.specs.Digests.{bits_heard, heard_effect, unheard_effect, stays_on, decided_where}

-- ---- the digest

unfoldable pub answered : Bool → ℕ → ℕ → ℕ → ℕ → Cable → Row → ℕ
answered answer nodes zero s bits cable row = nodes
answered answer nodes (suc j) s bits cable row =
    let earlier = answered answer nodes j s bits cable row in
    with_if (says_so answer (has bits (suc j))) earlier (sponsored_row cable row s (suc j))

abbrev pub said_of : ℕ → ℕ → Cable → Row → Said
said_of s bits cable row =
    let most = sponsors_row cable row in
    record { yes = answered true (with 0 s) most s bits cable row; no = answered false 0 most s bits cable row }

unfoldable pub digest_of : ℕ → Reading → Cable → Row → Digest
digest_of s heard cable row = record { row = row; said = said_of s (bits_heard heard) cable row; decided = decided_row cable row s }

-- It is taken by one who holds its row; any other works it out.
abbrev pub said_by : Digest → ℕ → ℕ → Held → Said
said_by d s bits v = cond (same_row d.row v.row) d.said (said_of s bits v.cable v.row)

abbrev pub decided_by : Digest → ℕ → Held → ℕ
decided_by d s v = cond (same_row d.row v.row) d.decided (decided_row v.cable v.row s)

-- ---- the slot

abbrev pub effect_of : Digest → ℕ → Reading → Held → Effect
effect_of d s (Ok h) v = heard_effect (said_by d s h.acknowledgements v) h.return_bit (setted v)
effect_of d s (Err r) v = unheard_effect s (setted v)

-- Steps 1 and 2.
abbrev pub marked_by : Effect → Held → Held
marked_by e v = with_marks e.marks e.yes (v.return_heard || (is_knocking v.state && e.returned)) v

unfoldable pub noted_by : ℕ → Bool → Held → Held
noted_by s heard v =
    cond (eqb s v.own)
    (cond (is_following v.state && eqb v.returning 0) (with_returning Knocking v.own v) v)
    (cond (heard && eqb v.returning 0) (with_returning v.state s v) v)

abbrev pub taken_by : Bool → ℕ → Effect → Held → Held
taken_by inside s e v = cond inside (marked_by e v) (noted_by s e.heard v)

-- Step 3.
unfoldable pub departures : ℕ → ℕ → ℕ → Row → Held → Option Row
departures zero m s row v = Some row
departures (suc times) m s row v =
    cond (stays_on m (setted v)) (Some row)
    (cond (eqb m v.own) None
    (departures times (decided_row v.cable (without_row row m) s) s (without_row row m) v))

-- Steps 4 and 5.
abbrev pub too_few : Held → Bool
too_few v = not (is_member v.state) && ltb v.row.length 2

-- Of the number 0, which stands for nobody, a sender is not the one found.
abbrev pub joins : ℕ → Held → Bool
joins s v = not (eqb v.returning 0) && eqb (before_row v.cable.order v.row v.returning 1) s

abbrev pub settled_as : State → Row → ℕ → Held → Held
settled_as state row marks v = record { cable = v.cable; own = v.own; slots = v.slots; state = state; row = row; present = marks; returning = 0; return_heard = false; yes_heard = v.yes_heard; listening = v.listening }

abbrev pub joined : Held → Held
joined v = settled_as (state_on_list v.state) (with_row v.cable.order v.row v.returning) (with v.present v.returning) v

unfoldable pub join : Held → Held
join v = cond (is_knocking v.state && not v.return_heard) (with_returning Following 0 v) (joined v)

unfoldable pub settle : Bool → ℕ → Held → Held
settle inside s v =
    cond (too_few v) (fresh v)
    (cond (nothing_heard (setted v)) (leave NothingHeard v)
    (cond (inside && joins s v) (join v) v))

-- The rest of the slot, by the row after the departures.
abbrev pub ended : Bool → ℕ → Option Row → Held → Held
ended inside s (Some row) v = settle inside s (changes.with_row row v)
ended inside s None v = leave Unconfirmed v

abbrev pub departing_by : Bool → ℕ → ℕ → Held → Held
departing_by inside m s v = ended inside s (departures v.cable.n m s v.row v) v

-- Any slot of a member, following or knocking node.
abbrev pub tracking_with : Bool → Effect → ℕ → ℕ → Held → Held
tracking_with inside e m s v =
    cond (inside && (e.returned && eqb v.returning 0)) (leave MissedReturn v)
    (departing_by inside (decided_where inside m) s (taken_by inside s e v))

unfoldable pub tracking_by : Digest → ℕ → Reading → Held → Held
tracking_by d s heard v = tracking_with (has_row v.row s) (effect_of d s heard v) (decided_by d s v) s v
