-- One slot, for a member, following or knocking node (document 01, "One slot"): the definitions of each numbered step under its sentences, then
-- one that does them in order. s is the slot's sender; a reading is what the reader made of the bytes that were handed over.
-- Acknowledgement bits are a set of numbers: bit j is 1 where j is in it.
use Rattle.std.specs.Prelude.{ℕ, zero, suc, Bool, true, false, cond, not, ◌&&◌, ◌||◌, eqb, ltb, Err, Ok}
use Rattle.nodeset.specs.Sets.{has, with, without, size}
use Rattle.row.specs.ring.Ring.{member_before, member_in, is_found}
use Rattle.message.specs.Answers.{Reading}
use Rattle.node_record.specs.declared.Node.{Node}
use Rattle.node_record.specs.declared.State.{State}
use Rattle.node_record.specs.declared.State.TheVariants.{Member, Listening, Following, Knocking, Out}
use Rattle.node_record.specs.States.{is_member, is_following, is_knocking, leaving_cause}
use Rattle.node_record.specs.Sponsoring.{sponsors_in, sponsored_in, decided_in}
use Rattle.node_changes.specs.Changes.{fresh, leave, with_set, with_marks, with_returning}

-- ---- the slot's message

-- "An unreadable message counts as not heard."
abbrev pub is_heard : Reading → Bool
is_heard (Ok h) = true
is_heard (Err r) = false

abbrev pub return_in : Reading → Bool
return_in (Ok h) = h.return_bit
return_in (Err r) = false

-- The sender is this node.
abbrev pub is_own : ℕ → Node → Bool
is_own s v = eqb s v.own

-- A return bit of 1 is heard; "A message handed over in the own slot is ignored."
abbrev pub hears_return : ℕ → Reading → Node → Bool
hears_return s heard v = not (is_own s v) && return_in heard

-- ---- step 1: "The sender is in the set."

-- "The own slot sets the own mark on, in place of off" (document 02, e; in place of document 01's "If it is this node, its own mark goes off").
abbrev pub own_marks : Node → ℕ
own_marks v = with v.present v.own

-- "its mark goes on and each sponsored member whose bit is 1 is marked, this node included": the marks with the first j of the members that s sponsors.
unfoldable pub confirmed : ℕ → ℕ → ℕ → Node → ℕ
confirmed zero s bits v = with v.present s
confirmed (suc j) s bits v =
    let marks = confirmed j s bits v in
    cond (has bits (suc j)) (with marks (member_in (sponsored_in s (suc j) v))) marks

-- Does a bit say so: 1 yes, 0 no?
abbrev pub says_so : Bool → Bool → Bool
says_so true bit = bit
says_so false bit = not bit

-- Is one of the first j acknowledgements in a message of s for this node's own message, and does it say so?
unfoldable pub says : Bool → ℕ → ℕ → ℕ → Node → Bool
says answer zero s bits v = false
says answer (suc j) s bits v = says answer j s bits v || (is_found v.own (sponsored_in s (suc j) v) && says_so answer (has bits (suc j)))

-- "A heard no for the own message", and a yes for it: bits past ks are "ignored when heard" ("The message").
abbrev pub hears_no : ℕ → ℕ → Node → Bool
hears_no s bits v = says false (sponsors_in v) s bits v

abbrev pub hears_yes : ℕ → ℕ → Node → Bool
hears_yes s bits v = says true (sponsors_in v) s bits v

-- "A heard no for the own message puts it off, unless a yes has been heard since that slot; a yes puts it on and keeps it on" (e).
unfoldable pub heard_marks : ℕ → ℕ → Node → ℕ
heard_marks s bits v =
    let marks = confirmed (sponsors_in v) s bits v in
    cond (hears_no s bits v && not v.yes_heard) (without marks v.own) marks

-- "If its message is heard", so. "If not heard, its mark goes off."
abbrev pub read_marks : ℕ → Reading → Node → ℕ
read_marks s (Ok h) v = heard_marks s h.acknowledgements v
read_marks s (Err r) v = without v.present s

abbrev pub marks_after : ℕ → Reading → Node → ℕ
marks_after s heard v = cond (is_own s v) (own_marks v) (read_marks s heard v)

-- "One more mark for "yes heard", cleared .. in the own slot" (e).
abbrev pub read_yes : ℕ → Reading → Node → Bool
read_yes s (Ok h) v = v.yes_heard || hears_yes s h.acknowledgements v
read_yes s (Err r) v = v.yes_heard

abbrev pub yes_after : ℕ → Reading → Node → Bool
yes_after s heard v = not (is_own s v) && read_yes s heard v

-- "A return bit of 1 heard while returning is 0 means leaving with cause 3"
abbrev pub missed_return : ℕ → Reading → Node → Bool
missed_return s heard v = hears_return s heard v && eqb v.returning 0

-- "heard while knocking, it sets return heard"
abbrev pub heard_return : ℕ → Reading → Node → Bool
heard_return s heard v = v.return_heard || (is_knocking v.state && hears_return s heard v)

abbrev pub marked : ℕ → Reading → Node → Node
marked s heard v = with_marks (marks_after s heard v) (yes_after s heard v) (heard_return s heard v) v

-- ---- step 2: "The sender is outside the set."

-- "If heard and returning is 0, returning becomes the sender; if returning is not 0 it is ignored. The contents don't matter. A following node in
-- its own slot with returning 0 knocks: it sends and sets returning to itself. A knocking node found in its own slot is silent and stays knocking."
unfoldable pub noted : ℕ → Reading → Node → Node
noted s heard v =
    cond (is_own s v)
    (cond (is_following v.state && eqb v.returning 0) (with_returning Knocking v.own v) v)
    (cond (is_heard heard && eqb v.returning 0) (with_returning v.state s v) v)

-- ---- step 3: "Departure, only if the sender is in the set"

-- "The decided member leaves if its mark is off": does node x leave?
abbrev pub leaves : ℕ → Node → ℕ → Bool
leaves s v x = is_found x (decided_in s v) && not (has v.present x)

-- The set without it.
abbrev pub without_decided : ℕ → Node → ℕ
without_decided s v =
    let m = member_in (decided_in s v) in
    cond (leaves s v m) (without v.set m) v.set

abbrev pub departed : ℕ → Node → Node
departed s v = with_set (without_decided s v) v

-- "So the departure step is repeated on the shortened set until the decided member is marked, nobody is decided, or the node itself has left" (document 02, f):
-- the record after so many departure steps. Where the decided member is marked, or nobody is decided, a further one changes nothing.
unfoldable pub departed_in : ℕ → ℕ → Node → Node
departed_in zero s v = v
departed_in (suc times) s v = departed_in times s (departed s v)

-- Does the node itself leave in one of them?
unfoldable pub leaves_in : ℕ → ℕ → Node → Bool
leaves_in zero s v = false
leaves_in (suc times) s v = leaves s v v.own || leaves_in times s (departed s v)

-- ---- step 4, and what stands before it

-- "Following and knocking need two members or more in the set; if fewer remain after step 3, the node goes to fresh listening."
abbrev pub too_few : Node → Bool
too_few v = not (is_member v.state) && ltb (size v.cable.n v.set) 2

-- "Then, if no other member is marked, this node leaves with cause 2."
abbrev pub nothing_heard : Node → Bool
nothing_heard v = eqb (size v.cable.n (without v.present v.own)) 0

-- ---- step 5

-- There is a returning node, and "the sender .. is the nearest member before" it.
abbrev pub joins : ℕ → Node → Bool
joins s v = not (eqb v.returning 0) && is_found s (member_before v.cable v.set v.returning 1)

-- The state of a node once the returning one is on the list: a knocking node, which is that one, is a member.
abbrev pub state_on_list : State → State
state_on_list Member = Member
state_on_list Listening = Listening
state_on_list Following = Following
state_on_list Knocking = Member
state_on_list (Out cause) = Out cause

-- The record with a state, a set and marks, returning 0. (A node that joins has heard no yes: it was no member.)
abbrev pub settled_as : State → ℕ → ℕ → Node → Node
settled_as state set marks v = record { cable = v.cable; own = v.own; slots = v.slots; state = state; set = set; present = marks; returning = 0; return_heard = false; yes_heard = v.yes_heard; listening = v.listening }

-- "that node joins, marked, and returning becomes 0"
abbrev pub joined : Node → Node
joined v = settled_as (state_on_list v.state) (with v.set v.returning) (with v.present v.returning) v

-- "A knocking node joins only if it has heard a return bit of 1 since its knock; otherwise it is following again, returning 0."
unfoldable pub join : Node → Node
join v = cond (is_knocking v.state && not v.return_heard) (with_returning Following 0 v) (joined v)

-- ---- the steps in their order

-- What the slot's message changes: step 1 if the sender is in the set, else step 2.
abbrev pub after_message : Bool → ℕ → Reading → Node → Node
after_message inside s heard v = cond inside (marked s heard v) (noted s heard v)

-- The rest of the slot for a node that has not left by step 3: two members, step 4, step 5, the latter "only if the sender is in the set".
unfoldable pub settle : Bool → ℕ → Node → Node
settle inside s v =
    cond (too_few v) (fresh v)
    (cond (nothing_heard v) (leave (leaving_cause 2) v)
    (cond (inside && joins s v) (join v) v))

-- The rest of a slot with so many departure steps, where its message made the record w of v. Step 1: "leaving with cause 3, and nothing further happens". Step 3: "If that is
-- this node, it leaves with cause 1 and the steps end."
unfoldable pub slot_from : ℕ → ℕ → Reading → Node → Node → Node
slot_from times s heard v w =
    let inside = has v.set s in
    cond (inside && missed_return s heard v) (leave (leaving_cause 3) v)
    (cond (inside && leaves_in times s w) (leave (leaving_cause 1) w)
    (settle inside s (cond inside (departed_in times s w) w)))

-- One slot with so many departure steps: 1 was the rule before request f.
abbrev pub slot_with : ℕ → ℕ → Reading → Node → Node
slot_with times s heard v = slot_from times s heard v (after_message (has v.set s) s heard v)

-- One slot. Each departure step that changes the set takes a member, so that after n of them nobody is left to leave.
unfoldable pub tracking_slot : ℕ → Reading → Node → Node
tracking_slot s heard v = slot_with v.cable.n s heard v
