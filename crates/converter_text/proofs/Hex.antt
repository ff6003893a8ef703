-- Messages as text: one byte more of a text that is read, and one byte more of a text that is put.
-- Assumes nothing.
use Rattle.std.specs.Prelude.{None, Option, Some}
use Rattle.std.proofs.lemmas.Option.{none-some, same_Some}
use Prim.Native.Nat.{ℕ, suc, ◌+◌, ◌*◌, ◌%◌, ◌≤◌, ◌<◌}
use mathlib.Core.Path.{◌≡◌, refl, sym, ap, ◌∙◌}
use mathlib.Core.Bool.{Bool, true, false, cond, ◌&&◌}
use mathlib.Core.List.{List, [], ◌∷◌, ◌++◌, append_assoc}
use native.Mathlib.Omega.{arith}
use native.Mathlib.Numerals.{add-one}
use lib.Dec.{eqb}
use lib.ListN.{length, get_or, take, drop, set, drop_of_length-le}
use lib.Seq.{drop-cons, take-suc, take-suc-set}
use Rattle.plan_line.proofs.Words.{and-false}
use Rattle.converter_text.specs.Recorded.{bytes_of, digit_of, is_hex, is_message, message_text}
use Rattle.converter_text.specs.Inner.{byte_at}

-- ---- reading

module _ (l : List ℕ) (i : ℕ) where
  three-at : i + 3 ≤ length l → drop i l ≡ get_or l i 0 ∷ get_or l (i + 1) 0 ∷ get_or l (i + 2) 0 ∷ drop (i + 3) l
  three-at h =
      let one : suc i ≡ i + 1 = omega arith in
      let two : suc (i + 1) ≡ i + 2 = omega arith in
      let three : suc (i + 2) ≡ i + 3 = omega arith in
      drop-cons l i 0 (omega arith)
      ∙ ap (λ (n : ℕ). get_or l i 0 ∷ drop n l) one
      ∙ ap (λ (r : List ℕ). get_or l i 0 ∷ r) (drop-cons l (i + 1) 0 (omega arith))
      ∙ ap (λ (n : ℕ). get_or l i 0 ∷ get_or l (i + 1) 0 ∷ drop n l) two
      ∙ ap (λ (r : List ℕ). get_or l i 0 ∷ get_or l (i + 1) 0 ∷ r) (drop-cons l (i + 2) 0 (omega arith))
      ∙ ap (λ (n : ℕ). get_or l i 0 ∷ get_or l (i + 1) 0 ∷ get_or l (i + 2) 0 ∷ drop n l) three

  -- the byte that stands at `i`
  abbrev here : Option ℕ
  here = byte_at (get_or l i 0) (get_or l (i + 1) 0) (get_or l (i + 2) 0)

  abbrev formed : Bool
  formed = eqb (get_or l i 0) 32 && (is_hex (get_or l (i + 1) 0) && is_hex (get_or l (i + 2) 0))

  abbrev whole : ℕ
  whole = digit_of (get_or l (i + 1) 0) * 16 + digit_of (get_or l (i + 2) 0)

  is-formed : (b : ℕ) → here ≡ Some b → (formed ≡ true) × (whole ≡ b)
  is-formed b h = go formed h
    where
      go : (t : Bool) → cond t (Some whole) None ≡ Some b → (t ≡ true) × (whole ≡ b)
      go true e = (refl, same_Some whole b e)
      go false e = absurd (none-some b e)

  un-formed : here ≡ None → formed ≡ false
  un-formed h = go formed h
    where
      go : (t : Bool) → cond t (Some whole) None ≡ None → t ≡ false
      go false e = refl
      go true e = absurd (none-some whole (sym e))

  pub message-next : i + 3 ≤ length l → (b : ℕ) → here ≡ Some b → is_message (drop i l) ≡ is_message (drop (i + 3) l)
  unfolding is_message
  message-next h b e = ap is_message (three-at h) ∙ ap (λ (t : Bool). t && is_message (drop (i + 3) l)) (is-formed b e).0

  pub message-stop : i + 3 ≤ length l → here ≡ None → is_message (drop i l) ≡ false
  unfolding is_message
  message-stop h e = ap is_message (three-at h) ∙ ap (λ (t : Bool). t && is_message (drop (i + 3) l)) (un-formed e)

  pub bytes_next : i + 3 ≤ length l → (b : ℕ) → here ≡ Some b → bytes_of (drop i l) ≡ b ∷ bytes_of (drop (i + 3) l)
  unfolding bytes_of
  bytes_next h b e = ap bytes_of (three-at h) ∙ ap (λ (n : ℕ). n ∷ bytes_of (drop (i + 3) l)) (is-formed b e).1

-- a message takes three bytes of text for each byte
pub message-threes : (m : List ℕ) → (length m % 3 ≡ 0 → ⊥) → is_message m ≡ false
unfolding is_message
message-threes [] h = absurd (h refl)
message-threes (a ∷ []) h = refl
message-threes (a ∷ b ∷ []) h = refl
message-threes (a ∷ b ∷ c ∷ m) h = rw (message-threes m (λ e. h (omega arith))) (and-false (eqb a 32 && (is_hex b && is_hex c)))

pub message-end : (l : List ℕ) (i : ℕ) → length l ≤ i → is_message (drop i l) ≡ true
unfolding is_message
message-end l i h = ap is_message (drop_of_length-le l h)

pub bytes-end : (l : List ℕ) (i : ℕ) → length l ≤ i → bytes_of (drop i l) ≡ []
unfolding bytes_of
bytes-end l i h = ap bytes_of (drop_of_length-le l h)

-- one byte more is held
pub held : (bytes : List ℕ) (count b : ℕ) (rest all : List ℕ) → count < length bytes → take count bytes ++ (b ∷ rest) ≡ all → take (count + 1) (set bytes count b) ++ rest ≡ all
held bytes count b rest all h e =
    ap (λ (n : ℕ). take n (set bytes count b) ++ rest) (add-one count)
    ∙ ap (λ (l : List ℕ). l ++ rest) (take-suc-set bytes count b h)
    ∙ append_assoc (take count bytes) (b ∷ []) rest
    ∙ e

-- ---- putting

pub text-append : (a b : List ℕ) → message_text (a ++ b) ≡ message_text a ++ message_text b
unfolding message_text
text-append [] b = refl
text-append (x ∷ a) b = rw (text-append a b)

pub text-next : (l : List ℕ) (i : ℕ) → i < length l → message_text (take (i + 1) l) ≡ message_text (take i l) ++ message_text (get_or l i 0 ∷ [])
text-next l i h = ap (λ (n : ℕ). message_text (take n l)) (add-one i) ∙ ap message_text (take-suc l i 0 h) ∙ text-append (take i l) (get_or l i 0 ∷ [])

pub text-long : (l : List ℕ) → length (message_text l) ≡ 3 * length l
unfolding message_text
text-long [] = refl
text-long (x ∷ l) = omega (arith, text-long l)
