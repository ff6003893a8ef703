-- Document 01, "The node record": when a record is sound, clause by clause in the order of its sentence; the last clause is the sentence after it.
use Rattle.std.specs.Prelude.{ℕ, Bool, not, ◌&&◌, ◌||◌, eqb, leb, ltb}
use Rattle.std.specs.Bool.{beq}
use Rattle.nodeset.specs.Sets.{has, within, subset, size}
use Rattle.cable.specs.declared.Cable.{Cable}
use Rattle.cable.specs.Cable.{cable_fits, node_number}
use Rattle.node_record.specs.declared.Node.{Node}
use Rattle.node_record.specs.declared.Window.{Window}
use Rattle.node_record.specs.States.{is_member, is_listening, is_following, is_knocking, is_out}

-- "The limit is 1,000,000,000,000,000" ("The ring").
abbrev pub limit : ℕ
limit = 1_000_000_000_000_000

-- The second wherever the first.
abbrev pub implies : Bool → Bool → Bool
implies a b = not a || b

-- One exactly where the other.
abbrev pub exactly : Bool → Bool → Bool
exactly a b = beq a b

-- "n, k and own number are in range, the slot count is at most the limit"; "The record keeps m and later choices of set-up", and "a kept choice out of range" is refused, too (document 02, h), as is a slot table "kept so" (a node missing or doubled), "or with a spare place used" (k)
abbrev pub numbers_sound : Node → Bool
numbers_sound v = cable_fits v.cable && (node_number v.cable.n v.own && leb v.slots limit)

-- "set and marks hold only numbers 1 to n, each marked node is in the set"
abbrev pub sets_sound : Node → Bool
sets_sound v = within v.cable.n v.set && (within v.cable.n v.present && subset v.present v.set)

-- "returning is outside the set"; it is "0 or a node"
abbrev pub returning_sound : Node → Bool
returning_sound v = leb v.returning v.cable.n && not (has v.set v.returning)

-- "a member's own number is in its set and otherwise not"
abbrev pub own_sound : Node → Bool
own_sound v = exactly (is_member v.state) (has v.set v.own)

-- "returning equals own number exactly in the knocking state"
abbrev pub knock_sound : Node → Bool
knock_sound v = exactly (is_knocking v.state) (eqb v.returning v.own)

-- "set and marks and returning are empty when listening or out"
abbrev pub empty_sound : Node → Bool
empty_sound v =
    implies (is_listening v.state || is_out v.state) (eqb v.set 0 && (eqb v.present 0 && eqb v.returning 0))

-- "return heard is no except when knocking"
abbrev pub heard_sound : Node → Bool
heard_sound v = implies v.return_heard (is_knocking v.state)

-- "yes heard .. off whenever the node is not a member" (document 02, e)
abbrev pub yes_sound : Node → Bool
yes_sound v = implies v.yes_heard (is_member v.state)

-- "Listening data: slots done in this window (0 to n - 1), nodes heard in it, the shortest run of ones in it (0 to k, k while nothing is
-- heard), whether a return bit of 1 was heard in it, and the nodes of the last clean window (none, or two or more). Neither group of
-- nodes holds the own number." ("Listening")
abbrev pub window_in_range : Cable → ℕ → Window → Bool
window_in_range cable own w =
    ltb w.done cable.n
    && (within cable.n w.heard
    && (leb w.shortest cable.k
    && (implies (eqb w.heard 0) (eqb w.shortest cable.k)
    && (within cable.n w.last
    && ((eqb w.last 0 || leb 2 (size cable.n w.last))
    && (not (has w.heard own) && not (has w.last own)))))))

abbrev pub window_empty : Window → Bool
window_empty w =
    eqb w.done 0 && (eqb w.heard 0 && (eqb w.shortest 0 && (not w.return_seen && eqb w.last 0)))

-- "listening data are within the ranges given under Listening, and zero or no in every other state"
abbrev pub window_sound : Node → Bool
window_sound v =
    implies (is_listening v.state) (window_in_range v.cable v.own v.listening)
    && (is_listening v.state || window_empty v.listening)

-- "Following and knocking need two members or more in the set"
abbrev pub enough_sound : Node → Bool
enough_sound v = implies (is_following v.state || is_knocking v.state) (leb 2 (size v.cable.n v.set))

unfoldable pub sound : Node → Bool
sound v =
    numbers_sound v
    && (sets_sound v
    && (returning_sound v
    && (own_sound v
    && (knock_sound v
    && (empty_sound v
    && (heard_sound v
    && (yes_sound v
    && (window_sound v
    && enough_sound v))))))))
