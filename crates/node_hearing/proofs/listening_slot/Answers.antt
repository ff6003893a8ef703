-- `node_hearing::listening_slot` meets its contract: the window goes on where fewer than n slots are done, and else ends; how it ends does not depend on the count of slots
-- done. Assumes nothing.
use Rattle.std.specs.Prelude.{Err, Ok}
use Prim.Native.Nat.{ℕ, ◌+◌, ◌^◌, ◌<◌, ◌≤◌}
use mathlib.Core.Path.{◌≡◌, refl, sym, ap, ◌∙◌}
use native.Mathlib.Omega.{arith}
use borrow.Author.Rules.{rules}
use borrow.Author.Tests.{lt-ltb, le-ltb}
use Rattle.nodeset.proofs.Tests.{chosen, otherwise}
use Rattle.message.specs.Answers.{Reading}
use Rattle.node_record.specs.declared.Held.{Held}
use Rattle.node_record.specs.declared.Window.{Window}
use Rattle.node_changes.specs.Held.{with_window}
use Rattle.node_hearing.specs.Hearing.{overheard, with_done, clean}
use Rattle.node_hearing.specs.Held.{window_end, goes_on, listening_by}
use Rattle.node_hearing.proofs.listening_slot.Goals as goal

-- one slot more is done
counts : (s : ℕ) (heard : Reading) (w : Window) → with_done (w.done + 1) (overheard s heard w) ≡ overheard s heard w
counts s (Ok h) w = refl
counts s (Err r) w = refl

done-is : (s : ℕ) (heard : Reading) (w : Window) → (overheard s heard w).done ≡ w.done + 1
done-is s (Ok h) w = refl
done-is s (Err r) w = refl

-- the end of a window does not look at the count
end-any : (done : ℕ) (w : Window) (v : Held) → window_end (with_done done w) v ≡ window_end w v
unfolding window_end clean
end-any done w v = refl

-- where the window goes on, and where it ends
goes-on : (s : ℕ) (heard : Reading) (v : Held) (done : ℕ) → done ≡ v.listening.done + 1 → done < v.cable.n → with_window (with_done done (overheard s heard v.listening)) v ≡ listening_by s heard v
unfolding listening_by goes_on
goes-on s heard v done e t =
    ap (λ (m : ℕ). with_window (with_done m (overheard s heard v.listening)) v) e
    ∙ ap (λ (w : Window). with_window w v) (counts s heard v.listening)
    ∙ sym (chosen _ _ (lt-ltb (overheard s heard v.listening).done v.cable.n (omega (arith, done-is s heard v.listening))))

ends : (s : ℕ) (heard : Reading) (v : Held) (done : ℕ) → v.cable.n ≤ v.listening.done + 1 → window_end (with_done done (overheard s heard v.listening)) v ≡ listening_by s heard v
unfolding listening_by goes_on
ends s heard v done t =
    end-any done (overheard s heard v.listening) v
    ∙ sym (otherwise _ _ (le-ltb (overheard s heard v.listening).done v.cable.n (omega (arith, done-is s heard v.listening))))

pub returns-then-done-v : goal.returns-then-done-v
returns-then-done-v c =
    let a = c.args in
    let fits : a.v.cable.n < 2 ^ 32 = search rules in
    c.with_window.ensures ∙ ap (λ (w : Window). with_window w a.v) c.overheard-w.ensures ∙ goes-on a.s a.heard a.v _ (omega arith) (omega arith)

pub returns : goal.returns
returns c =
    let a = c.args in
    c.window_end.ensures ∙ ap (λ (w : Window). window_end w a.v) c.overheard-w.ensures ∙ ends a.s a.heard a.v _ (omega arith)
