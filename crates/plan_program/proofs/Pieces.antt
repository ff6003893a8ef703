-- A text that comes in pieces prints what the whole text prints, though 121 bytes are kept of a line that has not ended; nothing is printed of what
-- comes after a refusal.
-- Assumes nothing.
use Rattle.std.specs.Prelude.{Ok}
use Prim.Native.Nat.{ℕ, zero, suc, ◌+◌, ◌*◌, ◌≤◌}
use mathlib.Core.Path.{◌≡◌, refl, sym, ap, ◌∙◌}
use mathlib.Core.Bool.{Bool, true, false, cond}
use mathlib.Core.List.{List, [], ◌∷◌, ◌++◌, append-nil, append_assoc}
use native.Mathlib.Omega.{arith}
use lib.Dec.{eqb}
use lib.ListN.{length, take, drop, replicate}
use lib.Seq.{take_at, take-take}
use borrow.Author.Tests.{le-leb}
use Rattle.refusal.specs.declared.Refusal.TheVariants.{Unsound, OutputShort}
use Rattle.plan_line.specs.Words.{parted}
use Rattle.plan_text.specs.Text.{input_of, next_line, PutAt, pasted, refusal_text, written_of, Piece, Written}
use Rattle.plan_text.proofs.Paste.{both, empty-take}
use Rattle.plan_text.specs.Bytewise.{begun_with}
use Rattle.plan_text.proofs.Bytewise.{begun-none}
use Rattle.plan_program.specs.declared.Plan.{Plan}
use Rattle.plan_program.specs.declared.Part.{Part}
use Rattle.plan_program.specs.declared.Ahead.{Ahead}
use Rattle.plan_program.specs.Program.{after_line, end_text, line_text, lines_in, may_end, no_plan, printed, quiet, run_of, text_then, whole_text, Run}
use Rattle.plan_program.specs.Calls.{bytes_in, fed_as, fed_by, fed_of, finished_of, has_room, laid, part_of, plan_sound, printed_in, run_piece, texts_fed, unfed, PiecesPrint, Roomy}
use Rattle.plan_program.specs.Inner.{Goes}
use Rattle.plan_program.proofs.Chunks.{chunks}
use Rattle.plan_program.proofs.Lines.{enough, part_bytes}
use Rattle.plan_program.proofs.Sound.{over-line, sound-run}

-- ---- the end

pub end_none : (p : Plan) (rest : List ℕ) → may_end p rest ≡ true → end_text p rest ≡ []
unfolding end_text
end_none p rest e = ap (λ (b : Bool). cond b [] (refusal_text (next_line p.lines) 12)) e

pub end-some : (p : Plan) (rest : List ℕ) → may_end p rest ≡ false → end_text p rest ≡ refusal_text (next_line p.lines) 12
unfolding end_text
end-some p rest e = ap (λ (b : Bool). cond b [] (refusal_text (next_line p.lines) 12)) e

pub end-enough : (p : Plan) (rest : List ℕ) → end_text p (take 121 rest) ≡ end_text p rest
unfolding end_text
end-enough p rest =
    ap (λ (b : Bool). cond (cond p.over true (cond (eqb p.lines 0) false b)) [] (refusal_text (next_line p.lines) 12)) (empty-take 120 rest)

-- ---- 121 bytes of a line that has not ended are enough

cut : (n : ℕ) (x y : List ℕ) → take n (take n x ++ y) ≡ take n (x ++ y)
cut zero x y = refl
cut (suc n) [] y = refl
cut (suc n) (b ∷ x) y = ap (λ (l : List ℕ). b ∷ l) (cut n x y)

-- The same is printed, and will be.
pub record Alike (f g : Run) : Type 0 where
  pub plan : f.plan ≡ g.plan
  pub text : f.text ≡ g.text
  pub rest : take 121 f.rest ≡ take 121 g.rest

same_alike : {f g : Run} → f ≡ g → Alike f g
same_alike e = record { plan = ap (λ (h : Run). h.plan) e; text = ap (λ (h : Run). h.text) e; rest = ap (λ (h : Run). take 121 h.rest) e }

pub alike : (p : Plan) (x : List ℕ) (ps : List (List ℕ)) → Alike (run_of p (begun_with (take 121 x) ps)) (run_of p (begun_with x ps))
unfolding run_of
alike p x [] = record { plan = refl; text = refl; rest = take-take 121 121 x (omega arith) }
alike p x (l ∷ []) = record { plan = refl; text = refl; rest = cut 121 x l }
alike p x (l ∷ m ∷ ps) =
    same_alike (ap (λ (t : Plan). text_then (line_text t) (run_of t (m ∷ ps))) (sym (enough p (take 121 x ++ l)) ∙ ap (after_line p) (cut 121 x l) ∙ enough p (x ++ l)))

-- ---- a piece

pub laid-is : (text out : List ℕ) → pasted out 0 text ≡ laid text out
unfolding pasted
laid-is text out = let none : 0 + length text ≡ length text = omega arith in ap (λ (n : ℕ). text ++ drop n out) none

module _ (p : Plan) (part : Part) (input out : List ℕ) where
  abbrev ran : Run
  ran = run_piece p (bytes_in part) input

  pub fed-unsound : plan_sound p ≡ false → fed_of p part input out ≡ unfed Unsound p part out
  unfolding fed_of
  fed-unsound e = simp e

  pub fed-short : plan_sound p ≡ true → has_room input out ≡ false → fed_of p part input out ≡ unfed OutputShort p part out
  unfolding fed_of
  fed-short e f = simp (e, f)

  fed-some : plan_sound p ≡ true → has_room input out ≡ true → fed_of p part input out ≡ fed_by ran out
  unfolding fed_of
  fed-some e f = simp (e, f)

  pub fed-run : {last : List ℕ} (r : Ahead) (rest : Part) → rest ≡ part_of (bytes_in r.part) → plan_sound p ≡ true → has_room input out ≡ true → Goes ran (length input) out r last
      → fed_as (record { plan = r.plan; part = rest; written = Ok r.count }) last ≡ fed_of p part input out
  fed-run r rest cleaned e f goes =
      let count : r.count ≡ length ran.text = omega (arith, goes.put.end) in
      let kept : rest ≡ part_of (take 121 ran.rest) = cleaned ∙ ap part_of goes.part-is in
      rw (fed-some e f) (cc (goes.plan-is, kept, count, goes.put.bytes ∙ laid-is ran.text out))

-- ---- all pieces

-- All pieces one after the other.
unfoldable run_pieces : Plan → List ℕ → List Piece → Run
run_pieces p begun [] = record { plan = p; rest = begun; text = [] }
run_pieces p begun (c ∷ more) =
    let r = run_piece p begun c.input in
    text_then r.text (run_pieces r.plan (take 121 r.rest) more)

alike-pieces : (pieces : List Piece) (p : Plan) (x : List ℕ) → Alike (run_pieces p (take 121 x) pieces) (run_piece p x (input_of pieces))
unfolding run_pieces run_of parted
alike-pieces [] p x = record { plan = refl; text = refl; rest = take-take 121 121 x (omega arith) ∙ ap (take 121) (sym (append-nil x)) }
alike-pieces (c ∷ more) p x =
    let f = run_piece p (take 121 x) c.input in
    let g = run_piece p x c.input in
    let first : Alike f g = alike p x (lines_in c.input) in
    let after : Alike (run_pieces g.plan (take 121 g.rest) more) (run_piece g.plan g.rest (input_of more)) = alike-pieces more g.plan g.rest in
    let one : run_pieces p (take 121 x) (c ∷ more) ≡ text_then g.text (run_pieces g.plan (take 121 g.rest) more) =
    ap (λ (l : List ℕ). text_then l (run_pieces f.plan (take 121 f.rest) more)) first.text
    ∙ ap (λ (q : Plan). text_then g.text (run_pieces q (take 121 f.rest) more)) first.plan
    ∙ ap (λ (l : List ℕ). text_then g.text (run_pieces g.plan l more)) first.rest in
    let all : run_piece p x (c.input ++ input_of more) ≡ text_then g.text (run_piece g.plan g.rest (input_of more)) = chunks c.input x p (input_of more) in
    record {
      plan = ap (λ (h : Run). h.plan) one ∙ after.plan ∙ sym (ap (λ (h : Run). h.plan) all);
      text = ap (λ (h : Run). h.text) one ∙ ap (λ (l : List ℕ). g.text ++ l) after.text ∙ sym (ap (λ (h : Run). h.text) all);
      rest = ap (λ (h : Run). take 121 h.rest) one ∙ after.rest ∙ sym (ap (λ (h : Run). take 121 h.rest) all);
    }

alike-text : {f g : Run} → Alike f g → whole_text f ≡ whole_text g
alike-text {f} {g} a =
    ap (λ (l : List ℕ). l ++ end_text f.plan f.rest) a.text
    ∙ ap (λ (l : List ℕ). g.text ++ l) (sym (end-enough f.plan f.rest) ∙ ap (end_text f.plan) a.rest ∙ end-enough f.plan g.rest ∙ ap (λ (p : Plan). end_text p g.rest) a.plan)

from_start : (input : List ℕ) → printed input ≡ whole_text (run_piece no_plan [] input)
unfolding printed
from_start input = ap (λ (ps : List (List ℕ)). whole_text (run_of no_plan ps)) (sym (begun-none input))

-- ---- what the calls write

-- where there is room for the end
finished : (p : Plan) (x last : List ℕ) → 80 ≤ length last → finished_of p x last ≡ (Ok (length (end_text p x)), laid (end_text p x) last)
unfolding written_of
finished p x last room = simp (le-leb 80 (length last) room) (ap (λ (l : List ℕ). (Ok (length (end_text p x)), l)) (laid-is (end_text p x) last))

fed-texts : (pieces : List Piece) (p : Plan) (part : Part) (last : List ℕ) → plan_sound p ≡ true → Roomy pieces last
    → texts_fed p part pieces last ≡ whole_text (run_pieces p (bytes_in part) pieces)
unfolding texts_fed run_pieces
fed-texts [] p part last sound room =
    let end = end_text p (bytes_in part) in
    rw (finished p (bytes_in part) last room) (take_at end (drop (length end) last) (length end) refl)
fed-texts (c ∷ more) p part last sound room =
    let x = bytes_in part in
    let r = run_piece p x c.input in
    let begun = take 121 r.rest in
    let next = run_pieces r.plan begun more in
    rw (fed-some p part c.input c.out sound room.0, take_at r.text (drop (length r.text) c.out) (length r.text) refl)
    (ap (λ (l : List ℕ). r.text ++ l)
    (fed-texts more r.plan (part_of begun) last (sound-run p (begun_with x (lines_in c.input)) sound) room.1
    ∙ ap (λ (y : List ℕ). whole_text (run_pieces r.plan y more)) (part_bytes (replicate 121 0) begun))
    ∙ sym (append_assoc r.text next.text (end_text next.plan next.rest)))

-- The texts of the pieces and of the end, one after the other, are what is printed of the whole text, however it is cut; and no such call is refused.
pub pieces-print : PiecesPrint
unfolding plan_sound
pieces-print pieces last room =
    fed-texts pieces no_plan (part_of []) last refl room ∙ alike-text (alike-pieces pieces no_plan []) ∙ sym (from_start (input_of pieces))

-- ---- after a refusal

-- The plan stays over, and nothing is printed.
record Silent (f : Run) : Type 0 where
  over : f.plan.over ≡ true
  text : f.text ≡ []

same-silent : {f g : Run} → f ≡ g → Silent g → Silent f
same-silent e s = record { over = ap (λ (h : Run). h.plan.over) e ∙ s.over; text = ap (λ (h : Run). h.text) e ∙ s.text }

over-run : (p : Plan) (ps : List (List ℕ)) → p.over ≡ true → Silent (run_of p ps)
unfolding run_of
over-run p [] e = record { over = e; text = refl }
over-run p (l ∷ []) e = record { over = e; text = refl }
over-run p (l ∷ m ∷ ps) e = same-silent (ap (λ (t : Plan). text_then (line_text t) (run_of t (m ∷ ps))) (over-line p l e)) (over-run (quiet p) (m ∷ ps) e)

over-pieces : (pieces : List Piece) (p : Plan) (x : List ℕ) → p.over ≡ true → Silent (run_pieces p x pieces)
unfolding run_pieces
over-pieces [] p x e = record { over = e; text = refl }
over-pieces (c ∷ more) p x e =
    let f = run_piece p x c.input in
    let first : Silent f = over-run p (begun_with x (lines_in c.input)) e in
    same-silent (ap (λ (l : List ℕ). text_then l (run_pieces f.plan (take 121 f.rest) more)) first.text) (over-pieces more f.plan (take 121 f.rest) first.over)

-- Where the plan is over nothing is printed, whatever else comes: a program may stop reading.
pub over-prints-nothing : (p : Plan) (part : Part) (pieces : List Piece) (last : List ℕ) → p.over ≡ true → Roomy pieces last → texts_fed p part pieces last ≡ []
unfolding plan_sound
over-prints-nothing p part pieces last e room =
    let f = run_pieces p (bytes_in part) pieces in
    let s : Silent f = over-pieces pieces p (bytes_in part) e in
    let sound : plan_sound p ≡ true = simp e in
    fed-texts pieces p part last sound room
    ∙ ap (λ (l : List ℕ). l ++ end_text f.plan f.rest) s.text
    ∙ end_none f.plan f.rest (simp s.over)

-- ---- all at once

pub whole : (p : Plan) (x input : List ℕ) {out mid last : List ℕ} {most next : ℕ} (r : Ahead) → p ≡ no_plan → x ≡ [] → Goes (run_piece p x input) most out r mid
    → PutAt next r.count (end_text r.plan (bytes_in r.part)) mid last → PutAt next 0 (printed input) out last
whole p x input r plan-is begun-is goes end =
    let f = run_piece p x input in
    let ended : end_text r.plan (bytes_in r.part) ≡ end_text f.plan f.rest =
    ap (λ (q : Plan). end_text q (bytes_in r.part)) goes.plan-is ∙ ap (end_text f.plan) goes.part-is ∙ end-enough f.plan f.rest in
    let all : f.text ++ end_text r.plan (bytes_in r.part) ≡ printed input =
    ap (λ (l : List ℕ). f.text ++ l) ended
    ∙ ap (λ (q : Plan). whole_text (run_piece q x input)) plan-is
    ∙ ap (λ (y : List ℕ). whole_text (run_piece no_plan y input)) begun-is
    ∙ sym (from_start input) in
    rw (← all) (both (omega arith) goes.put end)

pub printed-in : (input : List ℕ) {out last : List ℕ} {next : ℕ} → 80 * length input + 80 ≤ length out → PutAt next 0 (printed input) out last
    → ◌≡◌ {A = Written × List ℕ} (Ok next, last) (printed_in input out)
unfolding printed_in
printed-in input {out} {last} {next} room put =
    let count : next ≡ length (printed input) = omega (arith, put.end) in
    simp (le-leb (80 * length input + 80) (length out) room) (cc (count, put.bytes ∙ laid-is (printed input) out))
