-- The test that two kept tables are the same (specs/Order). Assumes nothing.
use Prim.Native.Nat.{ℕ, zero, suc, ◌<◌}
use mathlib.Core.Path.{◌≡◌, refl, sym, ap, ◌∙◌, subst}
use mathlib.Core.Bool.{true}
use mathlib.Core.List.{List, [], ◌∷◌}
use native.Mathlib.Omega.{arith}
use native.Mathlib.Decide.{ℕ_discrete}
use lib.Dec.{eqb}
use lib.ListN.{get_or, length}
use borrow.Author.Tests.{eqb-true, eq-eqb}
use Rattle.std.specs.Cmp.Lexicographic.{pointwise}
use Rattle.std.proofs.lemmas.Bool.Decides.{same_from_decides, Decides-eqb}
use Rattle.std.proofs.lemmas.Slice.Eq.{slice_eq-Decides}
use Rattle.nodeset.proofs.Tests.{both, all}
use Rattle.slot_table.specs.Order.{node_at, same_to, same_order}

-- a list is its entries
by_entries : (a b : List ℕ) → length a ≡ length b → ((i : ℕ) → i < length a → get_or a i 0 ≡ get_or b i 0) → a ≡ b
by_entries [] [] e h = refl
by_entries [] (y ∷ b) e h = let z : ⊥ = omega arith in absurd z
by_entries (x ∷ a) [] e h = let z : ⊥ = omega arith in absurd z
by_entries (x ∷ a) (y ∷ b) e h =
    ap (λ (z : ℕ). z ∷ a) (h 0 (omega arith)) ∙ ap (λ (t : List ℕ). y ∷ t) (by_entries a b (omega arith) (λ i l. h (suc i) (omega arith)))

entries-same : (m : ℕ) (a b : List ℕ) → same_to m a b ≡ true → (i : ℕ) → i < m → get_or a i 0 ≡ get_or b i 0
unfolding same_to node_at
entries-same zero a b e i l = let z : ⊥ = omega arith in absurd z
entries-same (suc m) a b e i l =
    let t = both (same_to m a b) (eqb (get_or a m 0) (get_or b m 0)) e in
    go (λ (less : i < m). entries-same m a b t.0 i less) (eqb-true (get_or a m 0) (get_or b m 0) t.1) (ℕ_discrete i m)
  where
    go : (i < m → get_or a i 0 ≡ get_or b i 0) → get_or a m 0 ≡ get_or b m 0 → Dec (i ≡ m) → get_or a i 0 ≡ get_or b i 0
    go r s (yes q) = subst (λ (j : ℕ). get_or a j 0 ≡ get_or b j 0) (sym q) s
    go r s (no q) = r (omega arith)

pub same-order : (a b : List ℕ) → length a ≡ 32 → same_order a b ≡ true → a ≡ b
same-order a b l e =
    let t = both (eqb (length a) (length b)) (same_to 32 a b) e in
    by_entries a b (eqb-true (length a) (length b) t.0) (λ i h. entries-same 32 a b t.1 i (omega (arith, h, l)))

pub order_same : (a b : List ℕ) → a ≡ b → same_order a b ≡ true
unfolding same_to
order_same a b e = all (eq-eqb (length a) (length b) (ap (λ (t : List ℕ). length t) e)) (go 32)
  where
    go : (m : ℕ) → same_to m a b ≡ true
    go zero = refl
    go (suc m) = all (go m) (eq-eqb (node_at a (suc m)) (node_at b (suc m)) (ap (λ (t : List ℕ). node_at t (suc m)) e))

-- the same, place by place, as `==` compares
pub places-same : (a b : List ℕ) → length a ≡ 32 → pointwise eqb a b ≡ same_order a b
places-same a b l = same_from_decides (pointwise eqb a b) (same_order a b) (slice_eq-Decides Decides-eqb a b _ refl) (same-order a b l, order_same a b)
