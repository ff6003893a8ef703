-- What soundness (specs/Soundness) says, clause by clause: a record is sound exactly where every clause holds. Assumes nothing.
use mathlib.Core.Path.{◌≡◌, refl, sym, ap}
use mathlib.Core.Bool.{Bool, true, false, ◌||◌, true≢false}
use lib.Dec.{leb}
use Rattle.nodeset.proofs.Tests.{both, all, or_else}
use Rattle.cable.specs.Cable.{node_number}
use Rattle.cable.proofs.Ranges.{Fits, fitting, fits_by}
use Rattle.node_record.specs.declared.Node.{Node}
use Rattle.node_record.specs.States.{is_listening}
use Rattle.node_record.specs.Soundness.{limit, implies, exactly, sets_sound, returning_sound, own_sound, knock_sound, empty_sound, heard_sound, yes_sound, window_in_range, window_empty, window_sound, enough_sound, sound}

pub record Clauses (v : Node) : Type 0 where
  pub choices : Fits v.cable
  pub own : node_number v.cable.n v.own ≡ true
  pub slots : leb v.slots limit ≡ true
  pub sets : sets_sound v ≡ true
  pub returning : returning_sound v ≡ true
  pub own_in : own_sound v ≡ true
  pub knock : knock_sound v ≡ true
  pub empty : empty_sound v ≡ true
  pub heard : heard_sound v ≡ true
  pub yes : yes_sound v ≡ true
  pub window : window_sound v ≡ true
  pub enough : enough_sound v ≡ true

pub clauses : (v : Node) → sound v ≡ true → Clauses v
unfolding sound
clauses v e =
    let c₁ = both _ _ e in
    let c₂ = both _ _ c₁.1 in
    let c₃ = both _ _ c₂.1 in
    let c₄ = both _ _ c₃.1 in
    let c₅ = both _ _ c₄.1 in
    let c₆ = both _ _ c₅.1 in
    let c₇ = both _ _ c₆.1 in
    let c₈ = both _ _ c₇.1 in
    let c₉ = both _ _ c₈.1 in
    let n₁ = both _ _ c₁.0 in
    let n₂ = both _ _ n₁.1 in
    record {
      choices = fitting v.cable n₁.0;
      own = n₂.0;
      slots = n₂.1;
      sets = c₂.0;
      returning = c₃.0;
      own_in = c₄.0;
      knock = c₅.0;
      empty = c₆.0;
      heard = c₇.0;
      yes = c₈.0;
      window = c₉.0;
      enough = c₉.1;
    }

pub sound-by : (v : Node) → Clauses v → sound v ≡ true
unfolding sound
sound-by v c =
    all (all (fits_by v.cable c.choices) (all c.own c.slots))
    (all c.sets (all c.returning (all c.own_in (all c.knock (all c.empty (all c.heard (all c.yes (all c.window c.enough))))))))

-- ---- tests with a condition

pub implied : (a b : Bool) → implies a b ≡ true → a ≡ true → b ≡ true
implied true b e h = e
implied false b e h = absurd (true≢false (sym h))

pub implies-by : (a b : Bool) → (a ≡ true → b ≡ true) → implies a b ≡ true
implies-by true b f = f refl
implies-by false b f = refl

pub same_test : (a b : Bool) → exactly a b ≡ true → a ≡ b
same_test true true e = refl
same_test true false e = sym e
same_test false true e = e
same_test false false e = refl

pub exactly-by : (a b : Bool) → a ≡ b → exactly a b ≡ true
exactly-by true b e = ap (exactly true) (sym e)
exactly-by false b e = ap (exactly false) (sym e)

-- ---- the window's count of slots done can go up by one

-- the listening data of a listening node, and of any other
pub window-listening : (v : Node) → window_sound v ≡ true → is_listening v.state ≡ true → window_in_range v.cable v.own v.listening ≡ true
window-listening v e l = implied (is_listening v.state) (window_in_range v.cable v.own v.listening) (both (implies (is_listening v.state) (window_in_range v.cable v.own v.listening)) (is_listening v.state || window_empty v.listening) e).0 l

pub window-other : (v : Node) → window_sound v ≡ true → is_listening v.state ≡ false → window_empty v.listening ≡ true
window-other v e l = or_else (is_listening v.state) (window_empty v.listening) (both (implies (is_listening v.state) (window_in_range v.cable v.own v.listening)) (is_listening v.state || window_empty v.listening) e).1 l
