-- The pairs of a slot (bench's specs/Pairs): whether one of a node is told depends on its states before and after alone. Assumes nothing.
use Prim.Native.Nat.{ℕ, zero, suc, ◌+◌, ◌-◌, ◌≤◌, ◌<◌}
use mathlib.Core.Path.{◌≡◌, refl, sym, ap, ap₂, ◌∙◌}
use mathlib.Core.Logic.{◌≢◌}
use mathlib.Core.Bool.{Bool, true, false, cond, ◌&&◌, ◌||◌, or-false}
use mathlib.Core.List.{List, [], ◌∷◌, ◌++◌}
use native.Mathlib.Omega.{arith}
use lib.Dec.{eqb}
use lib.ListN.{length, get_or}
use borrow.Author.Tests.{eq-eqb, ne_eqb}
use Rattle.ledger.specs.node_record.declared.Node.{Node}
use Rattle.ledger.specs.node_record.declared.State.{State}
use Rattle.ledger.specs.node.Calls.{no_node}
use Rattle.ledger.specs.bench.Table.{Table, record_of}
use Rattle.ledger.specs.bench.Pairs.{Pair, kind_from, leaves, changes_else, group_from, pairs_in}
use Rattle.renaming.specs.Renamed.{is_told}

-- a pair of this kind is told of a change within a group, and of one in either group
abbrev told_by : (State → State → Bool) → ℕ → State → State → Bool
told_by group kind a b = group a b && eqb (kind_from a b) kind

abbrev pub told_of : ℕ → State → State → Bool
told_of kind a b = told_by leaves kind a b || told_by changes_else kind a b

module _ (x kind : ℕ) where
  told-append : (ps qs : List Pair) → is_told x kind (ps ++ qs) ≡ (is_told x kind ps || is_told x kind qs)
  unfolding is_told
  told-append [] qs = refl
  told-append (p ∷ ps) qs = ap (λ (b : Bool). (eqb p.0 x && eqb p.1 kind) || b) (told-append ps qs) ∙ or-or (eqb p.0 x && eqb p.1 kind) (is_told x kind ps) (is_told x kind qs)
    where
      or-or : (a b c : Bool) → (a || (b || c)) ≡ ((a || b) || c)
      or-or true b c = refl
      or-or false b c = refl

  told-if : (b : Bool) (i k : ℕ) (rest : List Pair) → is_told x kind (cond b ((i, k) ∷ rest) rest) ≡ ((b && (eqb i x && eqb k kind)) || is_told x kind rest)
  unfolding is_told
  told-if true i k rest = refl
  told-if false i k rest = refl

  module _ (group : State → State → Bool) where
    -- of the first node, or of one of the others
    told-first : (i : ℕ) (v w : Node) (t u : Table) {b c : Bool} → eqb i x ≡ b → is_told x kind (group_from group (suc i) t u) ≡ c
        → is_told x kind (group_from group i (v ∷ t) (w ∷ u)) ≡ ((group v.state w.state && (b && eqb (kind_from v.state w.state) kind)) || c)
    unfolding group_from
    told-first i v w t u e f =
        let here = group v.state w.state in
        let k = kind_from v.state w.state in
        told-if here i k (group_from group (suc i) t u) ∙ ap₂ (λ (b c : Bool). (here && (b && eqb k kind)) || c) e f

    told-past : (i : ℕ) (v w : Node) (t u : Table) {c : Bool} → x ≢ i → is_told x kind (group_from group (suc i) t u) ≡ c → is_told x kind (group_from group i (v ∷ t) (w ∷ u)) ≡ c
    told-past i v w t u {c = c} ne f = told-first i v w t u (ne_eqb i x (λ e. ne (sym e))) f ∙ only (group v.state w.state) c
      where
        only : (a b : Bool) → ((a && false) || b) ≡ b
        only true b = refl
        only false b = refl

    none_below : (i : ℕ) (t u : Table) → x < i → is_told x kind (group_from group i t u) ≡ false
    unfolding group_from is_told
    none_below i [] u h = refl
    none_below i (v ∷ t) [] h = refl
    none_below i (v ∷ t) (w ∷ u) h = told-past i v w t u (λ e. omega arith) (none_below (suc i) t u (omega arith))

    told-from : (i j : ℕ) (t u : Table) → x ≡ i + j → j < length t → length t ≡ length u
        → is_told x kind (group_from group i t u) ≡ told_by group kind (get_or t j no_node).state (get_or u j no_node).state
    told-from i j [] u e h l = absurd (elim h [ ])
    told-from i j (v ∷ t) [] e h l = let z : ⊥ = omega arith in absurd z
    told-from i zero (v ∷ t) (w ∷ u) e h l =
        told-first i v w t u (eq-eqb i x (omega arith)) (none_below (suc i) t u (omega arith)) ∙ or-false (told_by group kind v.state w.state)
    told-from i (suc j) (v ∷ t) (w ∷ u) e h l = told-past i v w t u (λ z. omega arith) (told-from (suc i) j t u (omega arith) (omega arith) (omega arith))

  pub told-pairs : (t u : Table) → 1 ≤ x → x ≤ length t → length t ≡ length u → is_told x kind (pairs_in t u) ≡ told_of kind (record_of t x).state (record_of u x).state
  unfolding pairs_in record_of
  told-pairs t u h l e =
      told-append (group_from leaves 1 t u) (group_from changes_else 1 t u)
      ∙ ap₂ (λ (b c : Bool). b || c) (told-from leaves 1 (x - 1) t u (omega arith) (omega arith) e) (told-from changes_else 1 (x - 1) t u (omega arith) (omega arith) e)
