-- What request n promises of the levels (specs/Light), for all records, lists and tables of bases.
use Rattle.std.specs.Prelude.{ℕ, ◌-◌, ◌≤◌, ◌≡◌, true, List, get_or, Ok}
use Rattle.nodeset.specs.Sets.{without}
use Rattle.node_record.specs.declared.Node.{Node}
use Rattle.node_record.specs.States.{is_member}
use Rattle.node_record.specs.Soundness.{sound}
use Rattle.cover_light.specs.Light.{brightest, level_of, levels_of}

-- Both are members, and work out these levels for a lamp from one table of bases.
pub record Work (v w : Node) (bases : List ℕ) (lamp a b : ℕ) : Type 0 where
  pub one : is_member v.state ≡ true
  pub other : is_member w.state ≡ true
  pub first : level_of v bases lamp ≡ Ok a
  pub second : level_of w bases lamp ≡ Ok b

-- Both are sound members with one list, on cables with the same n.
pub record Alike (v w : Node) : Type 0 where
  pub one-sound : sound v ≡ true
  pub other-sound : sound w ≡ true
  pub one : is_member v.state ≡ true
  pub other : is_member w.state ≡ true
  pub lamps : v.cable.n ≡ w.cable.n
  pub list : v.set ≡ w.set

pub record CoverLight : Type 0 where
  -- "Two members with equal lists and equal base tables work out equal levels for every lamp"
  pub equal : (v w : Node) (bases : List ℕ) (lamp a b : ℕ) → v.set ≡ w.set → Work v w bases lamp a b → a ≡ b
  -- with the same n they answer alike, refusals and lent bytes included
  pub same-level : (v w : Node) → Alike v w → (bases : List ℕ) (lamp : ℕ) → level_of v bases lamp ≡ level_of w bases lamp
  pub same-levels : (v w : Node) → Alike v w → (bases out : List ℕ) → levels_of v bases out ≡ levels_of w bases out
  -- "taking a node off a list makes no remaining lamp darker": with node x off the list, the lamp is at least as bright
  pub no-darker : (v w : Node) (bases : List ℕ) (lamp a b x : ℕ) → w.set ≡ without v.set x → Work v w bases lamp a b → a ≤ b
  -- "at most 254", so that a node that is no member any more gives no less, either
  pub at_most : (v : Node) (bases : List ℕ) (lamp a : ℕ) → level_of v bases lamp ≡ Ok a → a ≤ brightest
  -- the levels that are written are these, lamp by lamp
  pub written : (v : Node) (bases out : List ℕ) (count : ℕ) (after : List ℕ) → levels_of v bases out ≡ (Ok count, after)
      → (lamp : ℕ) → 1 ≤ lamp → lamp ≤ count → level_of v bases lamp ≡ Ok (get_or after (lamp - 1) 0)
