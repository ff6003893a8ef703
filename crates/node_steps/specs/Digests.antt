-- Inner: one slot by what it means to all who hold one set, which is worked out once for all of them. The law in proofs/Digests ties it to specs/Steps; specs/Held has it on rows, as the code works.
use Rattle.std.specs.Prelude.{ℕ, zero, suc, Bool, true, false, cond, not, ◌&&◌, ◌||◌, eqb, Err, Ok, Option, Some, None}
use Rattle.nodeset.specs.Sets.{has, with, with_if, without, union}
use Rattle.cable.specs.declared.Cable.{Cable}
use Rattle.row.specs.ring.Ring.{sponsors, sponsored, decided, member_in}
use Rattle.message.specs.Answers.{Reading}
use Rattle.node_record.specs.declared.Node.{Node}
use Rattle.node_record.specs.declared.State.TheVariants.{Knocking}
use Rattle.node_record.specs.declared.Cause.TheVariants.{Unconfirmed, MissedReturn}
use Rattle.node_record.specs.States.{is_following, is_knocking}
use Rattle.node_record.specs.Sponsoring.{decided_in}
use Rattle.node_changes.specs.Changes.{leave, with_set, with_marks, with_returning}
use Rattle.node_steps.specs.declared.Said.{Said}
use Rattle.node_steps.specs.declared.Effect.{Effect}
use Rattle.node_steps.specs.Steps.{says_so, settle}

-- ---- the digest

pub record Digest : Type 0 where
  pub set : ℕ
  pub said : Said
  pub decided : ℕ

-- The acknowledgements heard.
abbrev pub bits_heard : Reading → ℕ
bits_heard (Ok h) = h.acknowledgements
bits_heard (Err r) = 0

-- The nodes given, with those of the first j members that s sponsors whose acknowledgement says so.
unfoldable pub answered : Bool → ℕ → ℕ → ℕ → ℕ → Cable → ℕ → ℕ
answered answer nodes zero s bits cable set = nodes
answered answer nodes (suc j) s bits cable set =
    let earlier = answered answer nodes j s bits cable set in
    with_if (says_so answer (has bits (suc j))) earlier (member_in (sponsored cable set s (suc j)))

-- What a message of s says: a yes for s and for those that it acknowledges, a no for the others that it sponsors.
abbrev pub said_of : ℕ → ℕ → Cable → ℕ → Said
said_of s bits cable set =
    let most = sponsors cable set in
    record { yes = answered true (with 0 s) most s bits cable set; no = answered false 0 most s bits cable set }

unfoldable pub digest_of : ℕ → Reading → Cable → ℕ → Digest
digest_of s heard cable set = record {
  set = set;
  said = said_of s (bits_heard heard) cable set;
  decided = member_in (decided cable set s);
}

-- It is taken by one who holds its set; any other works it out.
abbrev pub said_by : Digest → ℕ → ℕ → Node → Said
said_by d s bits v = cond (eqb d.set v.set) d.said (said_of s bits v.cable v.set)

abbrev pub decided_by : Digest → ℕ → Node → ℕ
decided_by d s v = cond (eqb d.set v.set) d.decided (member_in (decided_in s v))

-- ---- the slot

-- What a heard message that says this does.
abbrev pub marks_by : Said → Node → ℕ
marks_by said v =
    let marks = union v.present said.yes in
    cond (has said.no v.own && not v.yes_heard) (without marks v.own) marks

abbrev pub heard_effect : Said → Bool → Node → Effect
heard_effect said return_bit v = record { heard = true; marks = marks_by said v; yes = v.yes_heard || has said.yes v.own; returned = return_bit }

-- What a slot does of which nothing is heard, the own one, too.
abbrev pub unheard_marks : ℕ → Node → ℕ
unheard_marks s v = cond (eqb s v.own) (with v.present v.own) (without v.present s)

abbrev pub unheard_effect : ℕ → Node → Effect
unheard_effect s v = record { heard = false; marks = unheard_marks s v; yes = not (eqb s v.own) && v.yes_heard; returned = false }

-- What the message does.
abbrev pub effect_of : Digest → ℕ → Reading → Node → Effect
effect_of d s (Ok h) v = heard_effect (said_by d s h.acknowledgements v) h.return_bit v
effect_of d s (Err r) v = unheard_effect s v

-- Steps 1 and 2.
abbrev pub marked_by : Effect → Node → Node
marked_by e v = with_marks e.marks e.yes (v.return_heard || (is_knocking v.state && e.returned)) v

unfoldable pub noted_by : ℕ → Bool → Node → Node
noted_by s heard v =
    cond (eqb s v.own)
    (cond (is_following v.state && eqb v.returning 0) (with_returning Knocking v.own v) v)
    (cond (heard && eqb v.returning 0) (with_returning v.state s v) v)

abbrev pub taken_by : Bool → ℕ → Effect → Node → Node
taken_by inside s e v = cond inside (marked_by e v) (noted_by s e.heard v)

-- Step 3: the member decided first, 0 where the sender is outside the set.
abbrev pub decided_where : Bool → ℕ → ℕ
decided_where inside m = cond inside m 0

-- Nobody leaves: nobody is decided, or the decided member is marked.
abbrev pub stays_on : ℕ → Node → Bool
stays_on m v = eqb m 0 || has v.present m

-- The set after at most so many departures from a set whose decided member is m; none where the node itself left.
unfoldable pub departures : ℕ → ℕ → ℕ → ℕ → Node → Option ℕ
departures zero m s set v = Some set
departures (suc times) m s set v =
    cond (stays_on m v) (Some set)
    (cond (eqb m v.own) None
    (departures times (member_in (decided v.cable (without set m) s)) s (without set m) v))

-- The rest of the slot, by the set after the departures.
abbrev pub ended : Bool → ℕ → Option ℕ → Node → Node
ended inside s (Some set) v = settle inside s (with_set set v)
ended inside s None v = leave Unconfirmed v

abbrev pub departing_by : Bool → ℕ → ℕ → Node → Node
departing_by inside m s v = ended inside s (departures v.cable.n m s v.set v) v

-- Any slot of a member, following or knocking node.
abbrev pub tracking_with : Bool → Effect → ℕ → ℕ → Node → Node
tracking_with inside e m s v =
    cond (inside && (e.returned && eqb v.returning 0)) (leave MissedReturn v)
    (departing_by inside (decided_where inside m) s (taken_by inside s e v))

unfoldable pub tracking_by : Digest → ℕ → Reading → Node → Node
tracking_by d s heard v = tracking_with (has v.set s) (effect_of d s heard v) (decided_by d s v) s v
