-- The own slot (specs/Hearing): where what is heard of it is a refused reading, the slot is that of document 01. Assumes nothing.
use Rattle.std.specs.Prelude.{Err, Ok}
use Prim.Native.Nat.{ℕ}
use mathlib.Core.Path.{◌≡◌, refl, ap}
use mathlib.Core.Bool.{true}
use lib.Dec.{eqb}
use borrow.Author.Tests.{ne_eqb}
use Rattle.nodeset.proofs.Tests.{by_cases, chosen, otherwise}
use Rattle.message.specs.Answers.{Reading}
use Rattle.message.proofs.From.{FromOther}
use Rattle.node_record.specs.declared.Node.{Node}
use Rattle.node_record.specs.declared.Window.{Window}
use Rattle.node_hearing.specs.Hearing.{overheard, window_after, goes_on, listening_slot, listening_by}

window-is : (s : ℕ) (heard : Reading) (v : Node) → FromOther s heard v.own → window_after s heard v ≡ overheard s heard v.listening
window-is s (Ok h) v f = otherwise _ _ (ne_eqb s v.own f)
window-is s (Err r) v f = by_cases (eqb s v.own) (λ e. chosen _ _ e) (λ e. otherwise _ _ e)

pub listening-is : (s : ℕ) (heard : Reading) (v : Node) → FromOther s heard v.own → listening_slot s heard v ≡ listening_by s heard v
unfolding listening_slot listening_by
listening-is s heard v f = ap (λ (w : Window). goes_on w v) (window-is s heard v f)

-- a message handed over in the own slot is not heard
pub listening-ignores : (s : ℕ) (a b : Reading) (v : Node) → eqb s v.own ≡ true → listening_slot s a v ≡ listening_slot s b v
unfolding listening_slot
listening-ignores s a b v e = rw e refl
