-- A record made anew as it is held (specs/Held) holds the record of the rules that is made anew in the same way (specs/Changes). Assumes nothing.
use Prim.Native.Nat.{ℕ}
use mathlib.Core.Path.{◌≡◌, refl, sym, ap, ◌∙◌}
use mathlib.Core.Bool.{Bool, true, false, cond}
use Rattle.cable.specs.declared.Cable.{Cable}
use Rattle.row.specs.declared.Row.{Row}
use Rattle.node_record.proofs.row_laws.Laws.{empty-row}
use Rattle.node_record.specs.declared.Node.{Node}
use Rattle.node_record.specs.declared.Held.{Held}
use Rattle.node_record.specs.declared.Cause.{Cause}
use Rattle.node_record.specs.Held.{rowed}
use Rattle.node_record.specs.States.{is_member}
use Rattle.node_changes.specs.Changes as rules
use Rattle.node_changes.specs.Held as held

pub starting-held : (cable : Cable) (own : ℕ) → held.starting cable own ≡ rowed (rules.starting cable own)
starting-held cable own = refl

pub out-held : (cause : Cause) (v : Node) → held.out_for cause (rowed v) ≡ rowed (rules.out_for cause v)
out-held cause v = ap (λ (r : Row). held.with_row r (held.out_for cause (rowed v))) (sym (empty-row v.cable.order))

pub listening-held : (last : ℕ) (v : Node) → held.listening_after last (rowed v) ≡ rowed (rules.listening_after last v)
listening-held last v = ap (λ (r : Row). held.with_row r (held.listening_after last (rowed v))) (sym (empty-row v.cable.order))

pub following-held : (s : ℕ) (v : Node) → held.following_with s (rowed v) ≡ rowed (rules.following_with s v)
following-held s v = refl

-- of two by one test
pub either_held : (b : Bool) {x' y' : Held} (x y : Node) → x' ≡ rowed x → y' ≡ rowed y → cond b x' y' ≡ rowed (cond b x y)
either_held true x y p q = p
either_held false x y p q = q

pub tested-held : {b' : Bool} (b : Bool) {x' y' : Held} (x y : Node) → b' ≡ b → x' ≡ rowed x → y' ≡ rowed y → cond b' x' y' ≡ rowed (cond b x y)
tested-held b {x' = x'} {y' = y'} x y e p q = ap (λ (c : Bool). cond c x' y') e ∙ either_held b x y p q

pub leave-held : (cause : Cause) (v : Node) → held.leave cause (rowed v) ≡ rowed (rules.leave cause v)
unfolding held.leave rules.leave
leave-held cause v = either_held (is_member v.state) (rules.out_for cause v) (rules.fresh v) (out-held cause v) (listening-held 0 v)
