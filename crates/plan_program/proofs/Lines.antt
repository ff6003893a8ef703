-- Where the lines of a text stand; how much of a line tells all; how long a printed line is. Assumes nothing.
use Rattle.std.specs.Prelude.{Err, Ok}
use Prim.Native.Nat.{ℕ, zero, suc, ◌+◌, ◌-◌, ◌*◌, ◌/◌, ◌≤◌, ◌<◌, min}
use mathlib.Core.Path.{◌≡◌, refl, sym, ap, ◌∙◌}
use mathlib.Core.Bool.{cond}
use mathlib.Core.List.{List, [], ◌∷◌, ◌++◌, append_assoc}
use native.Mathlib.Omega.{arith}
use native.Mathlib.Decide.{dec_le}
use native.Mathlib.Nat.{min_comm}
use borrow.Rule.Slice.PartMut.{put_mid}
use lib.Dec.{eqb}
use lib.ListN.{length, take, drop, length-append}
use lib.Seq.{drop-drop, length-take-le, take_all, take_at, take-append-add}
use borrow.Author.Tests.{ne_eqb, le-leb, lt-leb}
use Rattle.std.proofs.lemmas.List.{take_min}
use Rattle.refusal.specs.declared.Refusal.TheVariants.{PlanLine}
use Rattle.refusal.specs.Causes.{number_of}
use Rattle.bench.specs.declared.Outcome.{Outcome}
use Rattle.bench.specs.declared.Outcome.TheVariants as outcome
use Rattle.plan_line.specs.Plan.{Opening, Said, opening_of, line_of}
use Rattle.plan_line.specs.Words.{gap}
use Rattle.plan_line.proofs.Lists.{part_at, from_place, from_end}
use Rattle.plan_run.specs.Run.{opened_by, opened_of, ran_by, act_of, ran_of}
use Rattle.plan_text.specs.Text.{next_line, slot_text, pasted, written_of, PutAt, Written}
use Rattle.plan_text.proofs.Digits.{decimal-short, fate-short, refusal-short, shown-short}
use Rattle.plan_program.specs.declared.Plan.{Plan}
use Rattle.plan_program.specs.declared.Part.{Part}
use Rattle.plan_program.specs.Program.{after_line, lines_in, plan_opened, plan_ran, quiet, run_line, text_of}
use Rattle.plan_program.specs.Calls.{bytes_in, part_in}
use Rattle.plan_program.specs.Inner.{end_of}

-- ---- line feeds

-- the line from `i` on ends at `e`
module _ (l : List ℕ) (i e : ℕ) (ends : e ≡ i + gap 10 (drop i l)) (inside : i ≤ length l) where
  pub line_at : e < length l → lines_in (drop i l) ≡ take (e - i) (drop i l) ∷ lines_in (drop (e + 1) l)
  line_at more =
      sym (from_place 10 l i inside)
      ∙ part_at 10 l i e inside ends
      ∙ ap (λ (ps : List (List ℕ)). take (e - i) (drop i l) ∷ ps) (from_place 10 l (e + 1) (omega arith))

  pub last-at : length l ≤ e → lines_in (drop i l) ≡ take (e - i) (drop i l) ∷ []
  last-at none =
      sym (from_place 10 l i inside)
      ∙ part_at 10 l i e inside ends
      ∙ ap (λ (ps : List (List ℕ)). take (e - i) (drop i l) ∷ ps) (from_end 10 l (e + 1) (omega arith))

-- ---- 121 bytes of a line are enough

long-opening : (l : List ℕ) → 120 < length l → opening_of l ≡ Err PlanLine
unfolding opening_of
long-opening l h = simp (lt-leb (length l) 120 h)

long-later : (n : ℕ) (l : List ℕ) → 120 < length l → line_of n l ≡ Err PlanLine
unfolding line_of
long-later n l h = simp (lt-leb (length l) 120 h)

openings : (l : List ℕ) → opening_of (take 121 l) ≡ opening_of l
openings l = go (dec_le (length l) 121)
  where
    go : Dec (length l ≤ 121) → opening_of (take 121 l) ≡ opening_of l
    go (yes h) = ap opening_of (take_all 121 l h)
    go (no h) = long-opening (take 121 l) (omega (arith, length-take-le 121 l (omega arith))) ∙ sym (long-opening l (omega arith))

later : (n : ℕ) (l : List ℕ) → line_of n (take 121 l) ≡ line_of n l
later n l = go (dec_le (length l) 121)
  where
    go : Dec (length l ≤ 121) → line_of n (take 121 l) ≡ line_of n l
    go (yes h) = ap (line_of n) (take_all 121 l h)
    go (no h) = long-later n (take 121 l) (omega (arith, length-take-le 121 l (omega arith))) ∙ sym (long-later n l (omega arith))

pub enough : (p : Plan) (l : List ℕ) → after_line p (take 121 l) ≡ after_line p l
unfolding after_line run_line opened_of ran_of
enough p l =
    ap (λ (o : Opening). cond p.over (quiet p) (cond (eqb p.lines 0) (plan_opened (next_line p.lines) (opened_by o)) (plan_ran (next_line p.lines) p.n (ran_by p.n p.rows (act_of (line_of p.n (take 121 l))))))) (openings l)
    ∙ ap (λ (o : Said). cond p.over (quiet p) (cond (eqb p.lines 0) (plan_opened (next_line p.lines) (opened_by (opening_of l))) (plan_ran (next_line p.lines) p.n (ran_by p.n p.rows (act_of o))))) (later p.n l)

-- ---- a line is printed in 80 bytes

pub text-short : (L : ℕ) (o : Outcome) → length (text_of L o) ≤ 80
unfolding slot_text
text-short L outcome.Quiet = omega arith
text-short L (outcome.Slot slot sender fate shown distance) =
    simp length-append (omega (arith, decimal-short slot, decimal-short sender, fate-short fate, shown-short shown, decimal-short distance))
text-short L (outcome.Refused cause) = refusal-short L (number_of cause)

-- ---- bytes in a part

pub empty-is : (n : ℕ) (t : List ℕ) → 0 < length t → eqb n 0 ≡ eqb (length (take n t)) 0
empty-is zero t h = refl
empty-is (suc n) [] h = absurd (omega arith)
empty-is (suc n) (b ∷ t) h = ne_eqb (suc n) 0 (λ e. omega arith) ∙ sym (ne_eqb (suc (length (take n t))) 0 (λ e. omega arith))

-- ---- a line that was written

pub put-at : {next at : ℕ} {w : Written} {text out last : List ℕ} → at + 80 ≤ length out → length out ≤ 18446744073709551615 → length text ≤ 80
    → ◌≡◌ {A = Written × List ℕ} (w, last) (written_of text at out) → next ≡ end_of at w → PutAt next at text out last
unfolding written_of end_of
put-at {next} {at} {w} {text} {out} {last} room fits short wrote place =
    let is : ◌≡◌ {A = Written × List ℕ} (w, last) (Ok (length text), pasted out at text) = simp (le-leb (at + 80) (length out) room) at wrote in
    let count : w ≡ Ok (length text) = ap (λ (p : Written × List ℕ). p.0) is in
    let bytes : last ≡ pasted out at text = ap (λ (p : Written × List ℕ). p.1) is in
    let end : end_of at (Ok (length text)) ≡ at + length text = simp (le-leb (at + length text) 18446744073709551615 (omega arith)) in
    record { end = place ∙ ap (end_of at) count ∙ end; bytes = bytes }

-- ---- a part is its bytes and what stands after them

pub part_bytes : (text begun : List ℕ) → bytes_in (part_in text begun) ≡ begun
part_bytes text begun = take_at begun (drop (length begun) text) (length begun) refl

-- as many bytes as there is room for
with_room : (x bytes : List ℕ) (most : ℕ) → length x ≤ most → x ++ take (min (length bytes) (most - length x)) bytes ≡ take most (x ++ bytes)
with_room x bytes most h =
    let whole : length x + (most - length x) ≡ most = omega arith in
    rw (min_comm (length bytes) (most - length x), take_min (most - length x) bytes)
    (sym (take-append-add x bytes (most - length x)) ∙ ap (λ (n : ℕ). take n (x ++ bytes)) whole)

-- a part with as many more bytes as there is room for
pub part_longer : (text bytes put : List ℕ) (size start count : ℕ) → length text ≡ 121 → start ≡ min size 121 → count ≡ min (length bytes) (121 - start) → put ≡ take count bytes
    → ◌≡◌ {A = Part} (record { length = start + count; text = put_mid start (start + count - start) text put }) (part_in text (take 121 (take size text ++ bytes)))
part_longer text bytes put size start count whole s c is =
    let held : take start text ≡ take size text = rw (s, ← whole) (take_min size text) in
    let few : length (take start text) ≡ start = length-take-le start text (omega arith) in
    let begun : take start text ++ put ≡ take 121 (take size text ++ bytes) =
    rw (is, c, ← held) (rw few at (with_room (take start text) bytes 121 (omega arith))) in
    let long : length (take start text ++ put) ≡ start + count = omega (arith, length-append (take start text) put, ap length is, length-take-le count bytes (omega arith)) in
    let width : start + count - start ≡ count = omega arith in
    let all : put_mid start (start + count - start) text put ≡ (take start text ++ put) ++ drop (start + count) text =
    rw (width, drop-drop count start text) (sym (append_assoc (take start text) put (drop (start + count) text))) in
    rw (← begun) (cc (long, all))
