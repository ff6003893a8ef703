-- The law of pieces: the texts of the pieces and of the end, one after the other, are what is printed of the whole text, however it is cut.
-- Assumes nothing.
use Rattle.std.specs.Prelude.{Err, Ok}
use Prim.Native.Nat.{ℕ, ◌*◌, ◌≤◌, ◌<◌}
use mathlib.Core.Path.{◌≡◌, refl, sym, ap, ◌∙◌}
use mathlib.Core.Bool.{Bool, cond}
use mathlib.Core.List.{List, [], ◌∷◌, ◌++◌}
use native.Mathlib.Omega.{arith}
use native.Mathlib.Decide.{dec_lt}
use lib.ListN.{length, take}
use lib.Seq.{take_all, length-take-le}
use borrow.Author.Tests.{le-leb, lt-leb, lt-ltb, le-ltb}
use Rattle.refusal.specs.declared.Refusal.TheVariants.{OutputShort}
use Rattle.plan_line.specs.Words.{parted}
use Rattle.plan_text.proofs.Bytewise as bytewise
use Rattle.plan_text.proofs.Bytewise.{all_lines, in_pieces, kept_full, kept_more, kept-none, put_first, ByLine, Follows, InPieces, Kept}
use Rattle.plan_text.specs.Text.{input_of, next_line, pasted, refusal_text, written_of}
use Rattle.plan_text.proofs.Paste.{empty-take}
use Rattle.converter_text.specs.declared.Direction.{Direction}
use Rattle.converter_text.specs.declared.Recording.{Recording}
use Rattle.converter_text.specs.Recorded.{converted, line_text, lines_text, unended_text}
use Rattle.converter_text.specs.Calls.{after, after_byte, byte_text, bytes_in, end_text, fed_of, line_ended, start_of, text_of, texts_fed, with_byte, PiecesConverted}
use Rattle.converter_text.proofs.Lines.{an-end, no_end, too_long, unreadable}

-- ---- what the calls write

module _ (r : Recording) (input out : List ℕ) where
  pub fed-some : 80 * length input ≤ length out → fed_of r input out ≡ record { recording = after r input; written = Ok (length (text_of r input)); out = pasted out 0 (text_of r input) }
  unfolding fed_of
  fed-some h = simp (le-leb (80 * length input) (length out) h)

  pub fed-none : length out < 80 * length input → fed_of r input out ≡ record { recording = r; written = Err OutputShort; out = out }
  unfolding fed_of
  fed-none h = simp (lt-leb (80 * length input) (length out) h)

calls : InPieces after_byte byte_text end_text texts_fed (λ r. Unit) 80 80
unfolding texts_fed written_of
calls =
    record {
      ends = λ r out room. simp (le-leb 80 (length out) room) (put_first (end_text r) out);
      goes-on = λ r c more out good room. rw (fed-some r c.input c.out room.0, put_first (text_of r c.input) c.out) refl;
      stays = λ r bytes good. good;
    }

-- ---- 121 bytes of a line are enough

pub enough : (d : Direction) (L : ℕ) (line : List ℕ) → line_text d L (take 121 line) ≡ line_text d L line
enough d L line = go (dec_lt 120 (length line))
  where
    go : Dec (120 < length line) → line_text d L (take 121 line) ≡ line_text d L line
    go (yes h) =
        let cut : 120 < length (take 121 line) = omega (arith, length-take-le 121 line (omega arith)) in
        unreadable d L (take 121 line) (too_long (take 121 line) cut) ∙ sym (unreadable d L line (too_long line h))
    go (no h) = ap (line_text d L) (take_all 121 line (omega arith))

end-enough : (L : ℕ) (rest : List ℕ) → unended_text L (take 121 rest) ≡ unended_text L rest
unfolding unended_text
end-enough L rest = ap (λ (t : Bool). cond t [] (refusal_text L 12)) (empty-take 120 rest)

-- Of the next line, the bytes `line` have come.
record Holds (d : Direction) (r : Recording) (lines : ℕ) (line : List ℕ) : Type 0 where
  form : r.direction ≡ d
  count : r.lines ≡ lines
  kept : Kept r.length r.text line

by_line : Direction → ByLine ℕ
unfolding lines_text
by_line d =
    record {
      after = λ lines line. next_line lines;
      text = λ lines line. line_text d (next_line lines) line;
      last = λ lines rest. unended_text (next_line lines) rest;
      all = lines_text d;
      ends = λ lines rest. refl;
      goes-on = λ lines line next more. refl;
    }

module _ {d : Direction} {r : Recording} {lines : ℕ} {line : List ℕ} (h : Holds d r lines line) where
  line-is : line_text r.direction (next_line r.lines) (bytes_in r) ≡ line_text d (next_line lines) line
  line-is =
      ap (λ (x : Direction). line_text x (next_line r.lines) (bytes_in r)) h.form
      ∙ ap (λ (n : ℕ). line_text d (next_line n) (bytes_in r)) h.count
      ∙ ap (line_text d (next_line lines)) h.kept.bytes
      ∙ enough d (next_line lines) line

  end_is : end_text r ≡ unended_text (next_line lines) line
  end_is =
      ap (λ (n : ℕ). unended_text (next_line n) (bytes_in r)) h.count
      ∙ ap (unended_text (next_line lines)) h.kept.bytes
      ∙ end-enough (next_line lines) line

  ended : Holds d (line_ended r) (next_line lines) []
  ended = record { form = h.form; count = ap next_line h.count; kept = kept-none r.text h.kept.room }

  begun : (b : ℕ) → Holds d (with_byte r b) lines (line ++ (b ∷ []))
  begun b = go (dec_lt r.length 121)
    where
      go : Dec (r.length < 121) → Holds d (with_byte r b) lines (line ++ (b ∷ []))
      go (yes less) = rw (lt-ltb r.length 121 less) (record { form = h.form; count = h.count; kept = kept_more h.kept b less })
      go (no full) = rw (le-ltb r.length 121 (omega arith)) (record { form = h.form; count = h.count; kept = kept_full h.kept b (omega arith) })

follows : (d : Direction) → Follows (by_line d) after_byte byte_text end_text (Holds d)
unfolding by_line
follows d =
    record {
      feed = λ r lines line b e h. ((an-end r b e).1 ∙ line-is h, rw (an-end r b e).0 (ended h));
      other = λ r lines line b e h. ((no_end r b e).1, rw (no_end r b e).0 (begun h b));
      ends = λ r lines line h. end_is h;
    }

-- a line with a line feed, and the parts after it
pub next-lines : (d : Direction) (lines : ℕ) (line rest : List ℕ) → lines_text d lines (line ∷ parted 10 rest) ≡ line_text d (next_line lines) line ++ lines_text d (next_line lines) (parted 10 rest)
unfolding by_line
next-lines d lines line rest = bytewise.next-lines (by_line d) lines line rest

-- ---- the law

holds-start : (d : Direction) → Holds d (start_of d) 0 []
holds-start d = record { form = refl; count = refl; kept = kept-none (start_of d).text refl }

pub pieces-converted : PiecesConverted
unfolding converted by_line
pieces-converted d pieces last room =
    in_pieces calls pieces (start_of d) last tt room ∙ all_lines (follows d) (input_of pieces) (holds-start d)
