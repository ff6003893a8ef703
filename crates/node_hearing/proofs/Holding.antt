-- A slot of a listening node as it is held (specs/Held) makes what holds the record that the rules make (specs/Hearing). Assumes nothing.
use Prim.Native.Nat.{ℕ}
use mathlib.Core.Path.{◌≡◌, refl}
use lib.Dec.{eqb, ltb}
use Rattle.message.specs.Answers.{Reading}
use Rattle.node_record.specs.declared.Node.{Node}
use Rattle.node_record.specs.declared.Window.{Window}
use Rattle.node_record.specs.Held.{rowed}
use Rattle.node_changes.specs.Changes.{listening_after, following_with, with_window}
use Rattle.node_changes.proofs.Holding.{following-held, either_held}
use Rattle.node_changes.proofs.Holding as changes
use Rattle.node_hearing.specs.Hearing.{overheard, clean}
use Rattle.node_hearing.specs.Hearing as rules
use Rattle.node_hearing.specs.Held as held

pub end-held : (w : Window) (v : Node) → held.window_end w (rowed v) ≡ rowed (rules.window_end w v)
unfolding held.window_end rules.window_end
end-held w v =
    let nodes = w.heard in
    either_held (clean v.cable w) _ (listening_after 0 v)
    (either_held (eqb w.last nodes) (following_with nodes v) (listening_after nodes v) (following-held nodes v) (changes.listening-held nodes v))
    (changes.listening-held 0 v)

pub goes-on-held : (w : Window) (v : Node) → held.goes_on w (rowed v) ≡ rowed (rules.goes_on w v)
unfolding held.goes_on rules.goes_on
goes-on-held w v = either_held (ltb w.done v.cable.n) (with_window w v) (rules.window_end w v) refl (end-held w v)

pub listening-held : (s : ℕ) (heard : Reading) (v : Node) → held.listening_by s heard (rowed v) ≡ rowed (rules.listening_by s heard v)
unfolding held.listening_by rules.listening_by
listening-held s heard v = goes-on-held (overheard s heard v.listening) v
