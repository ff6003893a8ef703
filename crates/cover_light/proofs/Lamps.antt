-- Laws of the levels (specs/Light). Assumes nothing.
use Prim.Native.Nat.{ℕ, zero, suc, ◌+◌, ◌-◌, ◌≤◌, ◌<◌}
use mathlib.Core.Path.{◌≡◌, refl, sym, ap, ◌∙◌}
use mathlib.Core.Bool.{Bool, true, false, ◌&&◌}
use mathlib.Core.List.{List, ◌++◌, map}
use native.Mathlib.Omega.{arith}
use native.Mathlib.Nat.{zero-add}
use native.Mathlib.Numerals.{add-one}
use lib.Dec.{leb}
use lib.ListN.{length, get_or, take, drop, set, length-map}
use lib.Seq.{take_all, paste-suc}
use borrow.Author.Tests.{eq-eqb, ne_eqb, le-leb, lt-leb}
use Rattle.std.specs.List.{list_all}
use Rattle.cable.specs.slot_table.Order.{numbers_from}
use Rattle.cable.proofs.slot_table.Numbers.{count_of}
use Rattle.node.specs.node_reports.Reports.{every_below}
use Rattle.node.proofs.node_reports.Below.{every-list}
use Rattle.message.specs.Message.{unwritten, wrote}
use Rattle.node_record.specs.declared.Node.{Node}
use Rattle.node_record.specs.Soundness.{sound}
use Rattle.cover_light.specs.Light.{brightest, base, lamp_level, bases_fit, all_levels, levels_of}

pub base-at : (bases : List ℕ) (lamp : ℕ) → 1 ≤ lamp → get_or bases (lamp - 1) 0 ≡ base bases lamp
unfolding base
base-at bases zero h = let z : ⊥ = omega arith in absurd z
base-at bases (suc i) h = let z : suc i - 1 ≡ i = omega arith in ap (λ (m : ℕ). get_or bases m 0) z

-- what is no lamp has base 0
pub base-none : (bases : List ℕ) (lamp : ℕ) → lamp ≡ 0 → 0 ≡ base bases lamp
unfolding base
base-none bases zero h = refl
base-none bases (suc i) h = let z : ⊥ = omega arith in absurd z

-- ---- the table of bases

abbrev dim : List ℕ → ℕ → Bool
dim bases i = leb (get_or bases i 0) brightest

pub unfit-length : (n : ℕ) (bases : List ℕ) → (length bases ≡ n → ⊥) → false ≡ bases_fit n bases
unfolding bases_fit
unfit-length n bases h = ap (λ (b : Bool). b && every_below (dim bases) n) (sym (ne_eqb (length bases) n h))

pub fit-by : (n : ℕ) (bases : List ℕ) → length bases ≡ n → list_all (λ x. leb x brightest) bases ≡ bases_fit n bases
unfolding bases_fit
fit-by n bases e =
    every-list (λ x. leb x brightest) 0 bases n e
    ∙ sym (ap (λ (b : Bool). b && every_below (dim bases) n) (eq-eqb (length bases) n e))

-- ---- the levels as they are written, f giving that of each lamp

module _ (f : ℕ → ℕ) where
  pub number_at : (m i x : ℕ) → x < m → get_or (map f (numbers_from m i)) x 0 ≡ f (i + x)
  unfolding numbers_from
  number_at zero i x h = let z : ⊥ = omega arith in absurd z
  number_at (suc m) i zero h = let z : i ≡ i + 0 = omega arith in ap f z
  number_at (suc m) i (suc x) h = let z : suc i + x ≡ i + suc x = omega arith in number_at m (suc i) x (omega arith) ∙ ap f z

  pub how-many : (n : ℕ) → length (map f (numbers_from n 1)) ≡ n
  how-many n = length-map (numbers_from n 1) f ∙ count_of n 1

  -- one level more
  pub one-laid : (n : ℕ) (out : List ℕ) (i x : ℕ) → i < n → n ≤ length out → x ≡ f (i + 1)
      → let s = map f (numbers_from n 1) in set (take i s ++ drop i out) i x ≡ take (i + 1) s ++ drop (i + 1) out
  one-laid n out i x h l e =
      let s : List ℕ = map f (numbers_from n 1) in
      let long : i < length s = omega (arith, how-many n) in
      let z : 1 + i ≡ i + 1 = omega arith in
      let here : x ≡ get_or s i 0 = e ∙ sym (number_at n 1 i h ∙ ap f z) in
      ap (λ (y : ℕ). set (take i s ++ drop i out) i y) here ∙ simp zero-add at (paste-suc out 0 s i 0 (omega arith) long)
      ∙ ap (λ (m : ℕ). take m s ++ drop m out) (sym (add-one i))

  -- all of them
  pub all_laid : (n : ℕ) (out : List ℕ) (i : ℕ) → i ≡ n → let s = map f (numbers_from n 1) in take i s ++ drop i out ≡ s ++ drop n out
  all_laid n out i e =
      let s : List ℕ = map f (numbers_from n 1) in
      ap (λ (m : ℕ). take m s ++ drop m out) e ∙ ap (λ (r : List ℕ). r ++ drop n out) (take_all n s (omega (arith, how-many n)))

-- ---- the call that writes them, case by case

module _ (v : Node) (bases out : List ℕ) where
  pub levels-unsound : sound v ≡ false → (unwritten 4, out) ≡ levels_of v bases out
  unfolding levels_of
  levels-unsound s = rw s refl

  pub levels-unfit : sound v ≡ true → bases_fit v.cable.n bases ≡ false → (unwritten 20, out) ≡ levels_of v bases out
  unfolding levels_of
  levels-unfit s f = rw (s, f) refl

  pub levels-short : sound v ≡ true → bases_fit v.cable.n bases ≡ true → length out < v.cable.n → (unwritten 9, out) ≡ levels_of v bases out
  unfolding levels_of
  levels-short s f l = rw (s, f, lt-leb v.cable.n (length out) l) refl

  pub levels-all : sound v ≡ true → bases_fit v.cable.n bases ≡ true → v.cable.n ≤ length out
      → (wrote v.cable.n, map (lamp_level v bases) (numbers_from v.cable.n 1) ++ drop v.cable.n out) ≡ levels_of v bases out
  unfolding levels_of all_levels
  levels-all s f l = rw (s, f, le-leb v.cable.n (length out) l) refl
