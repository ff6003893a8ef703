-- The law of pieces: the texts of the pieces and of the end, one after the other, are what is printed of the whole text, however it is cut.
-- Assumes nothing.
use Rattle.std.specs.Prelude.{Err, Ok}
use Prim.Native.Nat.{ℕ, ◌*◌, ◌≤◌, ◌<◌}
use mathlib.Core.Path.{◌≡◌, refl, sym, ap, ◌∙◌}
use mathlib.Core.Bool.{Bool, true, false, cond, not}
use mathlib.Core.List.{List, [], ◌∷◌, ◌++◌}
use native.Mathlib.Omega.{arith}
use native.Mathlib.Decide.{dec_lt}
use lib.ListN.{length, take}
use lib.Seq.{take_all, length-take-le}
use borrow.Author.Tests.{le-leb, lt-leb, lt-ltb, le-ltb, ne_eqb}
use Rattle.refusal.specs.declared.Refusal.TheVariants.{OutputShort, Unsound}
use Rattle.plan_text.specs.Text.{input_of, pasted}
use Rattle.plan_text.specs.Bytewise.{after_bytes}
use Rattle.plan_text.proofs.Paste.{empty-take}
use Rattle.plan_text.proofs.Bytewise.{all_lines, in_pieces, kept_full, kept_more, kept-none, put_first, ByLine, Follows, InPieces, Kept}
use Rattle.plan_program.specs.Calls.{bytes_in, plan_sound}
use Rattle.plan_program.specs.declared.Plan.{Plan}
use Rattle.plan_program.proofs.Lines.{enough}
use Rattle.plan_report.specs.declared.Report.{Report}
use Rattle.plan_report.specs.declared.Tally.{Tally}
use Rattle.plan_report.specs.Report.{fault_in, is_next, total_text}
use Rattle.plan_report.specs.Tallies.{after_line_in, end_text, figures_after, last_text, line_done, line_text, lines_text, plan_ended}
use Rattle.plan_report.specs.Calls.{after, after_byte, byte_text, fed_of, final_text, finished_of, line_ended, start_of, text_of, texts_fed, with_byte, PiecesReported}
use Rattle.plan_report.proofs.Lines.{an-end, no_end, sound-byte}
use Rattle.plan_report.proofs.Plans.{by-plans}

-- ---- what the calls write

module _ (r : Report) (input out : List ℕ) where
  pub fed-unsound : plan_sound r.tally.plan ≡ false → fed_of r input out ≡ record { report = r; written = Err Unsound; out = out }
  unfolding fed_of
  fed-unsound e = simp e

  pub fed-short : plan_sound r.tally.plan ≡ true → length out < 110 * length input → fed_of r input out ≡ record { report = r; written = Err OutputShort; out = out }
  unfolding fed_of
  fed-short e h = simp (e, lt-leb (110 * length input) (length out) h)

  pub fed-some : plan_sound r.tally.plan ≡ true → 110 * length input ≤ length out
      → fed_of r input out ≡ record { report = after r input; written = Ok (length (text_of r input)); out = pasted out 0 (text_of r input) }
  unfolding fed_of
  fed-some e h = simp (e, le-leb (110 * length input) (length out) h)

-- No call refuses its plan.
abbrev Sound : Report → Type 0
Sound r = plan_sound r.tally.plan ≡ true

still-sound : (r : Report) (bytes : List ℕ) → Sound r → Sound (after r bytes)
unfolding after_bytes
still-sound r [] sound = sound
still-sound r (b ∷ bytes) sound = still-sound (after_byte r b) bytes (sound-byte r b sound)

calls : InPieces after_byte byte_text final_text texts_fed Sound 110 200
unfolding texts_fed finished_of
calls =
    record {
      ends = λ r out room. simp (le-leb 200 (length out) room) (put_first (final_text r) out);
      goes-on = λ r c more out sound room. rw (fed-some r c.input c.out sound room.0, put_first (text_of r c.input) c.out) refl;
      stays = still-sound;
    }

-- ---- 121 bytes of a line are enough

long-next : (line : List ℕ) → 120 < length line → is_next line ≡ false
unfolding is_next
long-next line h = simp (ne_eqb 4 (length line) (λ e. omega arith))

next-enough : (line : List ℕ) → is_next (take 121 line) ≡ is_next line
next-enough line = go (dec_lt 121 (length line))
  where
    go : Dec (121 < length line) → is_next (take 121 line) ≡ is_next line
    go (yes h) = long-next (take 121 line) (omega (arith, length-take-le 121 line (omega arith))) ∙ sym (long-next line (omega arith))
    go (no h) = ap is_next (take_all 121 line (omega arith))

enough-text : (t : Tally) (line : List ℕ) → line_text t (take 121 line) ≡ line_text t line
unfolding line_text
enough-text t line = ap (λ (next : Bool). cond next (end_text t false) []) (next-enough line)

-- the tally after a line that left this plan
abbrev tally_by : Tally → Plan → Tally
tally_by t q = record { plans = t.plans; plan = q; figures = figures_after t.figures q; fault = cond t.plan.over t.fault (fault_in q.outcome); totals = t.totals }

enough-after : (t : Tally) (line : List ℕ) → after_line_in t (take 121 line) ≡ after_line_in t line
unfolding after_line_in
enough-after t line =
    ap (λ (next : Bool). cond next (plan_ended t false) (line_done t (take 121 line))) (next-enough line)
    ∙ ap (λ (q : Plan). cond (is_next line) (plan_ended t false) (tally_by t q)) (enough t.plan line)

enough-last : (t : Tally) (rest : List ℕ) → last_text t (take 121 rest) ≡ last_text t rest
enough-last t rest = ap (λ (e : Bool). end_text t (not e) ++ total_text (plan_ended t (not e)).totals) (empty-take 120 rest)

-- Of the next line, the bytes `line` have come.
record Holds (r : Report) (t : Tally) (line : List ℕ) : Type 0 where
  tally : r.tally ≡ t
  kept : Kept r.part.length r.part.text line

by_line : ByLine Tally
unfolding lines_text
by_line = record { after = after_line_in; text = line_text; last = last_text; all = lines_text; ends = λ t rest. refl; goes-on = λ t line next more. refl }

module _ {r : Report} {t : Tally} {line : List ℕ} (h : Holds r t line) where
  line-is : line_text r.tally (bytes_in r.part) ≡ line_text t line
  line-is = ap (λ (u : Tally). line_text u (bytes_in r.part)) h.tally ∙ ap (line_text t) h.kept.bytes ∙ enough-text t line

  end_is : final_text r ≡ last_text t line
  end_is = ap (λ (u : Tally). last_text u (bytes_in r.part)) h.tally ∙ ap (last_text t) h.kept.bytes ∙ enough-last t line

  ended : Holds (line_ended r) (after_line_in t line) []
  ended =
      record {
        tally = ap (λ (u : Tally). after_line_in u (bytes_in r.part)) h.tally ∙ ap (after_line_in t) h.kept.bytes ∙ enough-after t line;
        kept = kept-none r.part.text h.kept.room;
      }

  begun : (b : ℕ) → Holds (record { tally = r.tally; part = with_byte r.part b }) t (line ++ (b ∷ []))
  begun b = go (dec_lt r.part.length 121)
    where
      go : Dec (r.part.length < 121) → Holds (record { tally = r.tally; part = with_byte r.part b }) t (line ++ (b ∷ []))
      go (yes less) = rw (lt-ltb r.part.length 121 less) (record { tally = h.tally; kept = kept_more h.kept b less })
      go (no full) = rw (le-ltb r.part.length 121 (omega arith)) (record { tally = h.tally; kept = kept_full h.kept b (omega arith) })

follows : Follows by_line after_byte byte_text final_text Holds
unfolding by_line
follows =
    record {
      feed = λ r t line b e h. ((an-end r b e).1 ∙ line-is h, rw (an-end r b e).0 (ended h));
      other = λ r t line b e h. ((no_end r b e).1, rw (no_end r b e).0 (begun h b));
      ends = λ r t line h. end_is h;
    }

-- ---- the law

pub pieces-reported : PiecesReported
unfolding by_line plan_sound
pieces-reported pieces last room =
    in_pieces calls pieces start_of last refl room ∙ all_lines follows (input_of pieces) (record { tally = refl; kept = kept-none start_of.part.text refl })
    ∙ by-plans (input_of pieces)
