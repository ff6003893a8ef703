-- What is printed of a line and of a byte, test by test, and where it is put.
-- Assumes nothing.
use Prim.Native.Nat.{ℕ, zero, suc, ◌≤◌, ◌<◌}
use mathlib.Core.Path.{◌≡◌, refl, ap, ◌∙◌}
use mathlib.Core.Bool.{Bool, true, false, cond, ◌&&◌}
use mathlib.Core.List.{List, [], ◌∷◌}
use native.Mathlib.Omega.{arith}
use lib.Dec.{eqb, leb}
use lib.ListN.{length, take}
use borrow.Author.Tests.{eq-eqb, ne_eqb, le-leb, lt-leb}
use Rattle.plan_line.specs.Words.{before, is_number, value_of}
use Rattle.plan_line.proofs.Words.{and-false}
use Rattle.plan_text.specs.Text.{next_line, refusal_text}
use Rattle.converter_text.specs.declared.Direction.{Direction}
use Rattle.converter_text.specs.declared.Recording.{Recording}
use Rattle.converter_text.specs.Recorded.{behind, bytes_of, is_message, line_text, outcome_text, readable, turned, unended_text}
use Rattle.converter_text.specs.Calls.{after_byte, byte_text, bytes_in, end_text, line_ended, with_byte}

-- ---- a line

module _ (line : List ℕ) where
  pub too_long : 120 < length line → readable line ≡ false
  unfolding readable
  too_long h = simp (lt-leb (length line) 120 h)

  pub no_number : is_number (before line) ≡ false → readable line ≡ false
  unfolding readable
  no_number e = rw e (and-false (leb (length line) 120))

  pub no-message : is_message (behind line) ≡ false → readable line ≡ false
  unfolding readable
  no-message e =
      ap (λ (t : Bool). leb (length line) 120 && (is_number (before line) && t)) e
      ∙ ap (λ (t : Bool). leb (length line) 120 && t) (and-false (is_number (before line)))
      ∙ and-false (leb (length line) 120)

  pub reads : length line ≤ 120 → is_number (before line) ≡ true → is_message (behind line) ≡ true → readable line ≡ true
  unfolding readable
  reads few number message = simp (le-leb (length line) 120 few, number, message)

module _ (d : Direction) (L : ℕ) (line : List ℕ) where
  pub unreadable : readable line ≡ false → line_text d L line ≡ refusal_text L 12
  unfolding line_text
  unreadable e = simp e

  pub was_read : readable line ≡ true → line_text d L line ≡ outcome_text L (before line) (turned d (value_of (before line)) (bytes_of (behind line)))
  unfolding line_text
  was_read e = simp e

-- ---- a byte

module _ (r : Recording) (byte : ℕ) where
  pub no_end : (byte ≡ 10 → ⊥) → (after_byte r byte ≡ with_byte r byte) × (byte_text r byte ≡ [])
  unfolding after_byte byte_text
  no_end h = (simp (ne_eqb byte 10 h), simp (ne_eqb byte 10 h))

  pub an-end : byte ≡ 10 → (after_byte r byte ≡ line_ended r) × (byte_text r byte ≡ line_text r.direction (next_line r.lines) (bytes_in r))
  unfolding after_byte byte_text
  an-end h = (simp (eq-eqb byte 10 h), simp (eq-eqb byte 10 h))

-- ---- the end

some_left : (n : ℕ) (t : List ℕ) → (n ≡ 0 → ⊥) → 0 < length t → length (take n t) ≡ 0 → ⊥
some_left zero t n-some t_some e = n-some refl
some_left (suc n) [] n-some t_some e = omega arith
some_left (suc n) (b ∷ t) n-some t_some e = omega arith

pub end-some : (r : Recording) → (r.length ≡ 0 → ⊥) → length r.text ≡ 121 → end_text r ≡ refusal_text (next_line r.lines) 12
unfolding unended_text
end-some r h room = simp (ne_eqb (length (bytes_in r)) 0 (some_left r.length r.text h (omega arith)))

pub end_none : (r : Recording) → r.length ≡ 0 → end_text r ≡ []
unfolding unended_text
end_none r e = ap (λ (n : ℕ). cond (eqb (length (take n r.text)) 0) [] (refusal_text (next_line r.lines) 12)) e
