-- A list of numbers, word by word: what the words that are left say after those that were read, and where each word of a text stands.
-- Assumes nothing.
use Rattle.std.specs.Prelude.{Ok, Err}
use Prim.Native.Nat.{ℕ, suc, ◌+◌, ◌-◌, ◌≤◌, ◌<◌, min}
use mathlib.Core.Path.{◌≡◌, refl, ap, ◌∙◌}
use mathlib.Core.Bool.{Bool, true, false, cond, ◌&&◌, and-eq-true_iff}
use mathlib.Core.List.{List, [], ◌∷◌}
use native.Mathlib.Omega.{arith}
use native.Mathlib.Decide.{dec_le}
use lib.ListN.{length, take, drop, length-drop}
use lib.Seq.{drop-drop}
use lib.Dec.{eqb, leb, leb-suc-suc}
use borrow.Author.Tests.{le-leb, lt-leb}
use denote.Param.Members.{Mut}
use denote.Ref.{Bor}
use Rattle.std.specs.declared.slice.Split.{Split}
use Rattle.std.specs.Fn.{CalledAt}
use Rattle.std.specs.List.{onto_first, slice_split}
use Rattle.std.specs.Slice.Iter.{split_callee, split_done, split_rest, split_steps}
use Rattle.std.proofs.lemmas.Iterator.{YieldsList}
use Rattle.std.proofs.lemmas.Iterator.Splits.{YieldsList-from_slice_split}
use Rattle.refusal.specs.declared.Refusal.TheVariants.{NodeNumber, PlanLine}
use Rattle.nodeset.specs.Sets.{with}
use Rattle.plan_line.specs.declared.Missed.{Missed}
use Rattle.plan_line.specs.Plan.{Said}
use Rattle.plan_line.specs.declared.Line.TheVariants as lines
use Rattle.plan_line.specs.Words.{gap, is_number, least_after, longer, parted, value_of, words_of}
use Rattle.plan_line.specs.Plan.{all_in_ring, all_numbers, if_said, in_ring, missed_with, missed_line, missing_of, rising_from, values_of, with_all}
use Rattle.plan_line.proofs.Words.{and-false}
use Rattle.plan_line.proofs.Numbers.{form}
use Rattle.plan_line.proofs.Capped.{in-ring-capped, with-capped}

-- ---- what is left

-- What a line says whose words so far came to `missed`, the last of them `last`, with these words left.
unfoldable pub rest : ℕ → List ℕ → Missed → List (List ℕ) → Said
rest n last missed words =
    if_said (all_numbers words && rising_from (least_after last) (values_of words)) PlanLine
    (if_said (missed.inside && all_in_ring n (values_of words)) NodeNumber
    (Ok (lines.Miss (with_all missed.set (values_of words)))))

pub rest-start : (n : ℕ) (text : List ℕ) → missing_of n text ≡ rest n [] (record { inside = true; set = 0 }) (words_of text)
unfolding missing_of rest
rest-start n text = refl

and-true : (x : Bool) → (x && true) ≡ x
and-true true = refl
and-true false = refl

and_assoc : (x y z : Bool) → (x && (y && z)) ≡ ((x && y) && z)
and_assoc true y z = refl
and_assoc false y z = refl

-- two tests that fail together, among others
one-fails : (a b c d : Bool) → (a && c) ≡ false → ((a && b) && (c && d)) ≡ false
one-fails true b true d e = let z : ◌≡◌ {A = ℕ} 0 1 = cc in absurd (omega arith)
one-fails true b false d e = and-false b
one-fails false b c d e = refl

pub rest_end : (n : ℕ) (last : List ℕ) (missed : Missed) → rest n last missed [] ≡ missed_line missed
unfolding rest all_numbers values_of rising_from all_in_ring with_all
rest_end n last missed = ap (λ (b : Bool). if_said b NodeNumber (Ok (lines.Miss missed.set))) (and-true missed.inside)

pub rest-stop : (n : ℕ) (last : List ℕ) (missed : Missed) (word : List ℕ) (words : List (List ℕ)) → (is_number word && leb (least_after last) (value_of word)) ≡ false
    → rest n last missed (word ∷ words) ≡ Err PlanLine
unfolding rest all_numbers values_of rising_from
rest-stop n last missed word words e =
    simp (one-fails (is_number word) (all_numbers words) (leb (least_after last) (value_of word)) (rising_from (suc (value_of word)) (values_of words)) e)

-- a word that is no empty one is followed by more
least_more : (word : List ℕ) → 0 < length word → least_after word ≡ suc (value_of word)
least_more [] h = absurd (omega arith)
least_more (b ∷ l) h = refl

pub rest-next : (n : ℕ) (last : List ℕ) (missed : Missed) (word : List ℕ) (words : List (List ℕ)) → (is_number word && leb (least_after last) (value_of word)) ≡ true
    → rest n last missed (word ∷ words) ≡ rest n word (missed_with n missed (value_of word)) words
unfolding rest all_numbers values_of rising_from all_in_ring with_all
rest-next n last missed word words e =
    let both = (and-eq-true_iff (is_number word) (leb (least_after last) (value_of word))).0 e in
    let v = value_of word in
    let least : least_after word ≡ suc v = least_more word (form word both.0).0 in
    simp (both.0, both.1, least)
    (ap (λ (b : Bool). if_said (all_numbers words && rising_from (suc v) (values_of words)) PlanLine (if_said b NodeNumber (Ok (lines.Miss (with_all (with missed.set v) (values_of words))))))
    (and_assoc missed.inside (in_ring n v) (all_in_ring n (values_of words))))

pub joined-capped : (n : ℕ) (missed : Missed) (v : ℕ) → missed_with n missed (min v 100) ≡ missed_with n missed v
joined-capped n missed v = cc (in-ring-capped n v, with-capped missed.set v)

-- ---- where the parts of a text stand

onto : (b : ℕ) (parts : List (List ℕ)) → onto_first b parts ≡ longer b parts
onto b [] = refl
onto b (part ∷ parts) = refl

module _ (mark : ℕ) where
  -- the parts are the pieces of std's `split`
  pub pieces : (l : List ℕ) → slice_split (λ b. eqb b mark) l ≡ parted mark l
  unfolding parted
  pieces [] = refl
  pieces (b ∷ l) =
      ap (λ (ps : List (List ℕ)). cond (eqb b mark) ([] ∷ ps) (onto_first b ps)) (pieces l)
      ∙ ap (cond (eqb b mark) ([] ∷ parted mark l)) (onto b (parted mark l))

  pub gap-le : (l : List ℕ) → gap mark l ≤ length l
  unfolding gap
  gap-le [] = omega arith
  gap-le (b ∷ l) = go (eqb b mark) (gap-le l)
    where
      go : (t : Bool) → gap mark l ≤ length l → cond t 0 (suc (gap mark l)) ≤ suc (length l)
      go true h = omega arith
      go false h = omega arith

  -- the parts from a place on: none past the end
  unfoldable pub parts_from : List ℕ → ℕ → List (List ℕ)
  parts_from text i = cond (leb i (length text)) (parted mark (drop i text)) []

  -- the first part, and the parts from behind its mark on
  parts-split : (l : List ℕ) → parted mark l ≡ take (gap mark l) l ∷ parts_from l (suc (gap mark l))
  unfolding parted parts_from gap
  parts-split [] = refl
  parts-split (b ∷ l) = go (eqb b mark) (parts-split l)
    where
      go : (t : Bool) → parted mark l ≡ take (gap mark l) l ∷ parts_from l (suc (gap mark l))
          → cond t ([] ∷ parted mark l) (longer b (parted mark l)) ≡ take (cond t 0 (suc (gap mark l))) (b ∷ l) ∷ parts_from (b ∷ l) (suc (cond t 0 (suc (gap mark l))))
      go true ih = simp (le-leb 1 (suc (length l)) (omega arith))
      go false ih = ap (longer b) ih ∙ simp (leb-suc-suc (suc (gap mark l)) (length l))

  from-drop : (l : List ℕ) (i j : ℕ) → i ≤ length l → parts_from (drop i l) j ≡ parts_from l (i + j)
  unfolding parts_from
  from-drop l i j h = go (dec_le (i + j) (length l))
    where
      go : Dec (i + j ≤ length l) → cond (leb j (length (drop i l))) (parted mark (drop j (drop i l))) [] ≡ cond (leb (i + j) (length l)) (parted mark (drop (i + j) l)) []
      go (yes in-l) =
          let in-drop : j ≤ length (drop i l) = omega (arith, length-drop i l) in
          simp (le-leb j (length (drop i l)) in-drop, le-leb (i + j) (length l) in-l) (ap (parted mark) (drop-drop j i l))
      go (no past) =
          let out : length (drop i l) < j = omega (arith, length-drop i l) in
          simp (lt-leb j (length (drop i l)) out, lt-leb (i + j) (length l) (omega arith))

  -- the part at `i` reaches to `next`, and the parts from behind it follow
  pub part_at : (l : List ℕ) (i next : ℕ) → i ≤ length l → next ≡ i + gap mark (drop i l) → parts_from l i ≡ take (next - i) (drop i l) ∷ parts_from l (next + 1)
  unfolding parts_from
  part_at l i next h e =
      let size : gap mark (drop i l) ≡ next - i = omega arith in
      let place : i + suc (gap mark (drop i l)) ≡ next + 1 = omega arith in
      simp (le-leb i (length l) h)
      (parts-split (drop i l)
      ∙ ap (λ (g : ℕ). take g (drop i l) ∷ parts_from (drop i l) (suc (gap mark (drop i l)))) size
      ∙ ap (λ (ps : List (List ℕ)). take (next - i) (drop i l) ∷ ps) (from-drop l i (suc (gap mark (drop i l))) h ∙ ap (parts_from l) place))

  -- the end of that part is in the text
  pub part-in : (l : List ℕ) (i next : ℕ) → i ≤ length l → next ≡ i + gap mark (drop i l) → (i ≤ next) × (next ≤ length l)
  part-in l i next h e = (omega arith, omega (arith, gap-le (drop i l), length-drop i l))

  pub from_place : (l : List ℕ) (i : ℕ) → i ≤ length l → parts_from l i ≡ parted mark (drop i l)
  unfolding parts_from
  from_place l i h = simp (le-leb i (length l) h)

  pub from_end : (l : List ℕ) (i : ℕ) → length l < i → parts_from l i ≡ []
  unfolding parts_from
  from_end l i h = simp (lt-leb i (length l) h)

-- std's `split` at the spaces gives the words
pub split-words : {F : Type 0} {s : Split ℕ F} (g : Mut F (Bor ℕ × Unit {0}) Bool) {f : F} (text : List ℕ) → split_rest s ≡ text → split_done s ≡ false → split_callee s ≡ f
    → ((x : ℕ) (b : Bool) (q : F) → CalledAt g f x b q → (q ≡ f) × (b ≡ eqb x 32)) → YieldsList (split_steps g) (λ x. x.now) s (words_of text)
split-words {s = s} g text left more callee computes =
    rw (pieces 32 text) at (YieldsList-from_slice_split {s = s} g (λ b. eqb b 32) text left more callee computes)
