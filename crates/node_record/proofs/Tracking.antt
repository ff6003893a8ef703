-- Soundness of a record in the member, following or knocking state, as facts about its fields; and back. Assumes nothing.
use Prim.Native.Nat.{ℕ, ◌^◌, ◌≤◌, ◌<◌}
use mathlib.Core.Path.{◌≡◌, refl, sym, ap, ◌∙◌}
use mathlib.Core.Bool.{Bool, true, false, not, ◌&&◌, ◌||◌, true≢false}
use native.Mathlib.Omega.{arith}
use lib.Dec.{eqb, leb}
use borrow.Author.Tests.{leb-true, le-leb, ltb-true, lt-ltb, not-true}
use lib.Pow.{pow_mono}
use Rattle.nodeset.specs.Sets.{has, within, subset, size}
use Rattle.nodeset.proofs.Tests.{both, all, or_right}
use Rattle.nodeset.proofs.Subsets.{subset-has, has-subset}
use Rattle.cable.specs.Cable.{node_number}
use Rattle.cable.proofs.Ranges.{Fits, ring-size}
use Rattle.node_record.specs.declared.Node.{Node}
use Rattle.node_record.specs.declared.State.{State}
use Rattle.node_record.specs.declared.State.TheVariants.{Member, Listening, Following, Knocking, Out}
use Rattle.node_record.specs.States.{is_member, is_listening, is_following, is_knocking, is_out}
use Rattle.node_record.specs.Soundness.{limit, window_in_range, window_empty, sound}
use Rattle.node_record.proofs.Facts.{clauses, sound-by, implied, implies-by, same_test, exactly-by, window-other}

-- a member, following or knocking node
abbrev pub tracks : State → Bool
tracks Member = true
tracks Listening = false
tracks Following = true
tracks Knocking = true
tracks (Out cause) = false

pub record Tracking (v : Node) : Type 0 where
  pub choices : Fits v.cable
  pub own : node_number v.cable.n v.own ≡ true
  pub slots : leb v.slots limit ≡ true
  pub tracking : tracks v.state ≡ true
  pub set-in : v.set < 2 ^ v.cable.n
  pub marks-in : v.present < 2 ^ v.cable.n
  pub marked : (x : ℕ) → has v.present x ≡ true → has v.set x ≡ true
  pub returning : v.returning ≤ v.cable.n
  pub outside : has v.set v.returning ≡ false
  pub own_in : is_member v.state ≡ has v.set v.own
  pub knock : is_knocking v.state ≡ eqb v.returning v.own
  pub heard : v.return_heard ≡ true → is_knocking v.state ≡ true
  pub yes : v.yes_heard ≡ true → is_member v.state ≡ true
  pub window : window_empty v.listening ≡ true

-- ---- the states

tracks-not-listening : (s : State) → tracks s ≡ true → is_listening s ≡ false
tracks-not-listening Member e = refl
tracks-not-listening Listening e = sym e
tracks-not-listening Following e = refl
tracks-not-listening Knocking e = refl
tracks-not-listening (Out cause) e = refl

tracks-not-away : (s : State) → tracks s ≡ true → (is_listening s || is_out s) ≡ false
tracks-not-away Member e = refl
tracks-not-away Listening e = sym e
tracks-not-away Following e = refl
tracks-not-away Knocking e = refl
tracks-not-away (Out cause) e = sym e

follower-no-member : (s : State) → (is_following s || is_knocking s) ≡ true → is_member s ≡ false
follower-no-member Member e = sym e
follower-no-member Listening e = refl
follower-no-member Following e = refl
follower-no-member Knocking e = refl
follower-no-member (Out cause) e = refl

pub no-member-follower : (s : State) → tracks s ≡ true → is_member s ≡ false → (is_following s || is_knocking s) ≡ true
no-member-follower Member e f = sym f
no-member-follower Listening e f = e
no-member-follower Following e f = refl
no-member-follower Knocking e f = refl
no-member-follower (Out cause) e f = e

-- ---- there and back

pub sound-tracking : (v : Node) → sound v ≡ true → tracks v.state ≡ true → Tracking v
sound-tracking v e t =
    let c = clauses v e in
    let s = both (within v.cable.n v.set) (within v.cable.n v.present && subset v.present v.set) c.sets in
    let m = both (within v.cable.n v.present) (subset v.present v.set) s.1 in
    let r = both (leb v.returning v.cable.n) (not (has v.set v.returning)) c.returning in
    let marks : v.present < 2 ^ v.cable.n = ltb-true v.present (2 ^ v.cable.n) m.0 in
    let word : 2 ^ v.cable.n ≤ 2 ^ 32 = pow_mono {i = v.cable.n} {j = 32} (ring-size v.cable.n c.choices.ring).1 in
    record {
      choices = c.choices;
      own = c.own;
      slots = c.slots;
      tracking = t;
      set-in = ltb-true v.set (2 ^ v.cable.n) s.0;
      marks-in = marks;
      marked = λ x h. subset-has v.present v.set x (omega arith) m.1 h;
      returning = leb-true v.returning v.cable.n r.0;
      outside = not-true (has v.set v.returning) r.1;
      own_in = same_test (is_member v.state) (has v.set v.own) c.own_in;
      knock = same_test (is_knocking v.state) (eqb v.returning v.own) c.knock;
      heard = implied v.return_heard (is_knocking v.state) c.heard;
      yes = implied v.yes_heard (is_member v.state) c.yes;
      window = window-other v c.window (tracks-not-listening v.state t);
    }

-- "Following and knocking need two members or more in the set"
pub enough : (v : Node) → sound v ≡ true → tracks v.state ≡ true → is_member v.state ≡ false → 2 ≤ size v.cable.n v.set
enough v e t m =
    leb-true 2 (size v.cable.n v.set)
    (implied (is_following v.state || is_knocking v.state) (leb 2 (size v.cable.n v.set)) (clauses v e).enough (no-member-follower v.state t m))

pub tracking-sound : (v : Node) → Tracking v → (is_member v.state ≡ false → 2 ≤ size v.cable.n v.set) → sound v ≡ true
tracking-sound v k two =
    sound-by v
    (record {
      choices = k.choices;
      own = k.own;
      slots = k.slots;
      sets = all (lt-ltb v.set (2 ^ v.cable.n) k.set-in) (all (lt-ltb v.present (2 ^ v.cable.n) k.marks-in) (has-subset v.present v.set (λ x p q h. k.marked x h)));
      returning = all (le-leb v.returning v.cable.n k.returning) (ap not k.outside);
      own_in = exactly-by (is_member v.state) (has v.set v.own) k.own_in;
      knock = exactly-by (is_knocking v.state) (eqb v.returning v.own) k.knock;
      empty = implies-by (is_listening v.state || is_out v.state) (eqb v.set 0 && (eqb v.present 0 && eqb v.returning 0)) (λ h. absurd (true≢false (sym h ∙ tracks-not-away v.state k.tracking)));
      heard = implies-by v.return_heard (is_knocking v.state) k.heard;
      yes = implies-by v.yes_heard (is_member v.state) k.yes;
      window =
          all
          (implies-by (is_listening v.state) (window_in_range v.cable v.own v.listening) (λ h. absurd (true≢false (sym h ∙ tracks-not-listening v.state k.tracking))))
          (or_right (is_listening v.state) (window_empty v.listening) k.window);
      enough = implies-by (is_following v.state || is_knocking v.state) (leb 2 (size v.cable.n v.set)) (λ h. le-leb 2 (size v.cable.n v.set) (two (follower-no-member v.state h)));
    })
