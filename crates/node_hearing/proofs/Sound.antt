-- One slot of a listening node (specs/Hearing) keeps its record sound. Assumes nothing.
use Rattle.std.specs.Prelude.{Err, Ok}
use Prim.Native.Nat.{ℕ, ◌^◌, ◌≤◌, ◌<◌}
use mathlib.Core.Path.{◌≡◌, sym, ap, ◌∙◌}
use mathlib.Core.Logic.{inr}
use mathlib.Core.Bool.{true, false, not, ◌||◌, true≢false}
use native.Mathlib.Omega.{arith}
use lib.Dec.{eqb, leb, ltb}
use borrow.Author.Tests.{leb-true, le-leb, ltb-true, lt-ltb, eqb-true, eq-eqb, not-true}
use Rattle.nodeset.specs.Sets.{has, within, size}
use Rattle.nodeset.proofs.Tests.{by_cases, both, all, or_left}
use Rattle.nodeset.proofs.Bits.{has-none}
use Rattle.nodeset.proofs.Laws.{has-with, has-with-other, with-lt}
use Rattle.cable.specs.declared.Cable.{Cable}
use Rattle.cable.proofs.Ranges.{ring-size}
use Rattle.message.specs.Answers.{Reading}
use Rattle.message.proofs.From.{FromOther}
use Rattle.node_record.specs.declared.Node.{Node}
use Rattle.node_record.specs.declared.Window.{Window}
use Rattle.node_record.specs.States.{is_listening}
use Rattle.node_record.specs.Soundness.{implies, window_in_range, window_empty, sound}
use Rattle.node_record.proofs.Facts.{clauses, sound-by, implied, implies-by, window-listening}
use Rattle.node_changes.specs.Changes.{with_window}
use Rattle.node_changes.proofs.Sound.{in-range, fresh-sound, listening-sound, following-sound}
use Rattle.node_hearing.specs.Hearing.{overheard, clean, window_end, goes_on, listening_by}

-- the ranges of the listening data, as facts
record Ranges (cable : Cable) (own : ℕ) (w : Window) : Type 0 where
  heard-in : w.heard < 2 ^ cable.n
  short : w.shortest ≤ cable.k
  silent : w.heard ≡ 0 → w.shortest ≡ cable.k
  last-in : w.last < 2 ^ cable.n
  last-two : (eqb w.last 0 || leb 2 (size cable.n w.last)) ≡ true
  heard-others : has w.heard own ≡ false
  last-others : has w.last own ≡ false

ranges : (cable : Cable) (own : ℕ) (w : Window) → window_in_range cable own w ≡ true → Ranges cable own w
ranges cable own w e =
    let n = cable.n in
    let k = cable.k in
    let b₁ = both (ltb w.done n) _ e in
    let b₂ = both (within n w.heard) _ b₁.1 in
    let b₃ = both (leb w.shortest k) _ b₂.1 in
    let b₄ = both (implies (eqb w.heard 0) (eqb w.shortest k)) _ b₃.1 in
    let b₅ = both (within n w.last) _ b₄.1 in
    let b₆ = both (eqb w.last 0 || leb 2 (size n w.last)) _ b₅.1 in
    let b₇ = both (not (has w.heard own)) (not (has w.last own)) b₆.1 in
    record {
      heard-in = ltb-true w.heard (2 ^ n) b₂.0;
      short = leb-true w.shortest k b₃.0;
      silent = λ z. eqb-true w.shortest k (implied (eqb w.heard 0) (eqb w.shortest k) b₄.0 (eq-eqb w.heard 0 z));
      last-in = ltb-true w.last (2 ^ n) b₅.0;
      last-two = b₆.0;
      heard-others = not-true (has w.heard own) b₇.0;
      last-others = not-true (has w.last own) b₇.1;
    }

in_window : (cable : Cable) (own : ℕ) (w : Window) → w.done < cable.n → Ranges cable own w → window_in_range cable own w ≡ true
in_window cable own w h r =
    let n = cable.n in
    let k = cable.k in
    all (lt-ltb w.done n h)
    (all (lt-ltb w.heard (2 ^ n) r.heard-in)
    (all (le-leb w.shortest k r.short)
    (all (implies-by (eqb w.heard 0) (eqb w.shortest k) (λ z. eq-eqb w.shortest k (r.silent (eqb-true w.heard 0 z))))
    (all (lt-ltb w.last (2 ^ n) r.last-in)
    (all r.last-two (all (ap not r.heard-others) (ap not r.last-others)))))))

-- ---- one slot more in the window

overheard-ranges : (cable : Cable) (own s : ℕ) (heard : Reading) (w : Window) → cable.n ≤ 32 → 1 ≤ s → s ≤ cable.n → FromOther s heard own → Ranges cable own w → Ranges cable own (overheard s heard w)
overheard-ranges cable own s (Ok said) w h a b d r = record {
  heard-in = with-lt cable.n w.heard s b r.heard-in;
  short = omega (arith, r.short);
  silent = λ z. absurd (true≢false (sym (has-with w.heard s a (omega arith)) ∙ ap (λ (q : ℕ). has q s) z ∙ has-none s));
  last-in = r.last-in;
  last-two = r.last-two;
  heard-others = has-with-other w.heard s own d ∙ r.heard-others;
  last-others = r.last-others;
}
overheard-ranges cable own s (Err c) w h a b d r = record {
  heard-in = r.heard-in;
  short = r.short;
  silent = r.silent;
  last-in = r.last-in;
  last-two = r.last-two;
  heard-others = r.heard-others;
  last-others = r.last-others;
}

-- a listening record with another window in range
window-sound : (w : Window) (v : Node) → sound v ≡ true → is_listening v.state ≡ true → window_in_range v.cable v.own w ≡ true → sound (with_window w v) ≡ true
window-sound w v e l h =
    let c = clauses v e in
    sound-by (with_window w v)
    (record {
      choices = c.choices;
      own = c.own;
      slots = c.slots;
      sets = c.sets;
      returning = c.returning;
      own_in = c.own_in;
      knock = c.knock;
      empty = c.empty;
      heard = c.heard;
      yes = c.yes;
      window = all (implies-by (is_listening v.state) (window_in_range v.cable v.own w) (λ t. h)) (or_left (is_listening v.state) (window_empty w) l);
      enough = c.enough;
    })

-- ---- the end of a window

window-end-sound : (w : Window) (v : Node) → sound v ≡ true → Ranges v.cable v.own w → sound (window_end w v) ≡ true
unfolding window_end clean
window-end-sound w v e r =
    by_cases (clean v.cable w)
    (λ c.
    let two : 2 ≤ size v.cable.n w.heard = leb-true 2 (size v.cable.n w.heard) (both (leb 2 (size v.cable.n w.heard)) _ c).0 in
    rw c (by_cases (eqb w.last w.heard)
    (λ s. rw s (following-sound w.heard v (in-range v e) r.heard-in two r.heard-others))
    (λ s. rw s (listening-sound w.heard v (in-range v e) r.heard-in (inr two) r.heard-others))))
    (λ c. rw c (fresh-sound v (in-range v e)))

pub listening-slot-sound : (s : ℕ) (heard : Reading) (v : Node) → 1 ≤ s → s ≤ v.cable.n → FromOther s heard v.own → sound v ≡ true → is_listening v.state ≡ true → sound (listening_by s heard v) ≡ true
unfolding listening_by goes_on
listening-slot-sound s heard v a b d e l =
    let c = clauses v e in
    let w = overheard s heard v.listening in
    let r = overheard-ranges v.cable v.own s heard v.listening (ring-size v.cable.n c.choices.ring).1 a b d (ranges v.cable v.own v.listening (window-listening v c.window l)) in
    by_cases (ltb w.done v.cable.n)
    (λ t. rw t (window-sound w v e l (in_window v.cable v.own w (ltb-true w.done v.cable.n t) r)))
    (λ t. rw t (window-end-sound w v e r))
