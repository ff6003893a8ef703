-- Texts put one after the other are put as one text; what a turn of a loop that puts bytes leaves; what is kept of a line.
-- Assumes nothing.
use Rattle.std.specs.Prelude.{Err, Ok}
use Prim.Native.Nat.{ℕ, suc, ◌+◌, ◌-◌, ◌/◌, ◌%◌, ◌≤◌, ◌<◌}
use mathlib.Core.Path.{◌≡◌, refl, sym, ap, ◌∙◌}
use mathlib.Core.List.{List, [], ◌∷◌, ◌++◌, append_assoc}
use native.Mathlib.Omega.{arith}
use native.Mathlib.Numerals.{add-one}
use native.Mathlib.Nat.{add-zero, add-suc}
use lib.Dec.{eqb}
use lib.ListN.{length, take, drop, set, length-append, take-append-drop}
use lib.Seq.{length-take-le, lt-length-set, take_at, drop_at, drop-cons, drop-drop, drop-set-lt, take-set-le, get_or-set_same, set_split}
use Rattle.plan_text.proofs.Digits.{length_digits}
use Rattle.plan_text.specs.Text.{PutAt, PutFew, digits, glyph, pasted, written_of}
use Rattle.plan_text.specs.Text.{Written}
use Rattle.refusal.specs.declared.Refusal.{Refusal}
use borrow.Author.Tests.{le-leb, ne_eqb}

-- ---- one text

-- what stands before the end of the text that was put
head-length : (d : List ℕ) (at : ℕ) (t : List ℕ) → at ≤ length d → length (take at d ++ t) ≡ at + length t
head-length d at t h = length-append (take at d) t ∙ ap (λ (n : ℕ). n + length t) (length-take-le at d h)

pub pasted-none : (d : List ℕ) (at : ℕ) → d ≡ pasted d at []
unfolding pasted
pasted-none d at = sym (ap (λ (n : ℕ). take at d ++ drop n d) (add-zero at) ∙ take-append-drop at d)

-- a byte is put by a store
pub pasted-byte : (d : List ℕ) (at b : ℕ) → at < length d → set d at b ≡ pasted d at (b ∷ [])
unfolding pasted
pasted-byte d at b h = set_split d at b h ∙ ap (λ (n : ℕ). take at d ++ (b ∷ drop n d)) (sym (add-one at))

-- ---- two texts

take-pasted : (d : List ℕ) (at : ℕ) (s : List ℕ) → at ≤ length d → take (at + length s) (pasted d at s) ≡ take at d ++ s
unfolding pasted
take-pasted d at s h =
    ap (take (at + length s)) (sym (append_assoc (take at d) s (drop (at + length s) d)))
    ∙ take_at (take at d ++ s) (drop (at + length s) d) (at + length s) (head-length d at s h)

drop-pasted : (d : List ℕ) (at : ℕ) (s : List ℕ) (m : ℕ) → at ≤ length d → drop (at + length s + m) (pasted d at s) ≡ drop (at + length s + m) d
unfolding pasted
drop-pasted d at s m h =
    let n = at + length s in
    sym (drop-drop m n (pasted d at s))
    ∙ ap (drop m) (ap (drop n) (sym (append_assoc (take at d) s (drop n d))) ∙ drop_at (take at d ++ s) (drop n d) n (head-length d at s h))
    ∙ drop-drop m n d

pub pasted-twice : (d : List ℕ) (at : ℕ) (s t : List ℕ) → at ≤ length d → pasted (pasted d at s) (at + length s) t ≡ pasted d at (s ++ t)
unfolding pasted
pasted-twice d at s t h =
    let n = at + length s in
    let m = n + length t in
    let place : m ≡ at + length (s ++ t) = omega (arith, length-append s t) in
    ap (λ (l : List ℕ). l ++ (t ++ drop m (pasted d at s))) (take-pasted d at s h)
    ∙ ap (λ (l : List ℕ). (take at d ++ s) ++ (t ++ l)) (drop-pasted d at s (length t) h)
    ∙ append_assoc (take at d) s (t ++ drop m d)
    ∙ ap (λ (l : List ℕ). take at d ++ l) (sym (append_assoc s t (drop m d)))
    ∙ ap (λ (k : ℕ). take at d ++ ((s ++ t) ++ drop k d)) place

pub both : {n m at : ℕ} {s t d e f : List ℕ} → at ≤ length d → PutAt m at s d e → PutAt n m t e f → PutAt n at (s ++ t) d f
both {n} {m} {at} {s} {t} {d} {e} {f} h one two =
    record {
      end = omega (arith, one.end, two.end, length-append s t);
      bytes =
          two.bytes
          ∙ ap (λ (l : List ℕ). pasted l m t) one.bytes
          ∙ ap (λ (k : ℕ). pasted (pasted d at s) k t) one.end
          ∙ pasted-twice d at s t h;
    }

pub put_byte : (d : List ℕ) (at b next : ℕ) → next ≡ at + 1 → at < length d → PutAt next at (b ∷ []) d (set d at b)
put_byte d at b next e h = record { end = e; bytes = pasted-byte d at b h }

-- ---- a line, text by text

-- What was put so far, of at most so many bytes.
pub record Sofar (next at most : ℕ) (text before after : List ℕ) : Type 0 where
  pub put : PutAt next at text before after
  pub near : next ≤ at + most
  pub same : length after ≡ length before

pub nothing : (at : ℕ) (d : List ℕ) → Sofar at at 0 [] d d
nothing at d = record { put = record { end = omega arith; bytes = pasted-none d at }; near = omega arith; same = refl }

pub more : {n m at a : ℕ} {s t d e f : List ℕ} (b : ℕ) → at ≤ length d → Sofar m at a s d e → PutAt n m t e f → length f ≡ length e → length t ≤ b
    → Sofar n at (a + b) (s ++ t) d f
more b h one two kept few =
    record { put = both h one.put two; near = omega (arith, one.near, two.end); same = kept ∙ one.same }

-- the answer where there is room
pub written : (text : List ℕ) (at : ℕ) (out : List ℕ) (next : ℕ) (last : List ℕ) → at + 80 ≤ length out → PutAt next at text out last
    → (Ok (next - at), last) ≡ written_of text at out
unfolding written_of
written text at out next last room put =
    let size : next - at ≡ length text = omega (arith, put.end) in
    simp (le-leb (at + 80) (length out) room) (cc (size, put.bytes))

-- ---- a line that is written

module _ {w : Written} {last : List ℕ} (text out : List ℕ) (at : ℕ) (room : at + 80 ≤ length out) (wrote : ◌≡◌ {A = Written × List ℕ} (w, last) (written_of text at out)) where
  is-written : ◌≡◌ {A = Written × List ℕ} (w, last) (Ok (length text), pasted out at text)
  unfolding written_of
  is-written = simp (le-leb (at + 80) (length out) room) at wrote

  pub count-is : {count : ℕ} → w ≡ Ok count → count ≡ length text
  count-is e = let first : w ≡ Ok (length text) = ap (λ (p : Written × List ℕ). p.0) is-written in cc

  pub put-few : {count : ℕ} → length text ≤ 80 → w ≡ Ok count → PutFew 80 (at + count) at text out last
  put-few {count} short e =
      let size : count ≡ length text = count-is e in
      record {
        put = record { end = omega arith; bytes = ap (λ (p : Written × List ℕ). p.1) is-written };
        few = omega arith;
      }

  pub not-refused : {cause : Refusal} → w ≡ Err cause → ⊥
  not-refused e =
      let first : w ≡ Ok (length text) = ap (λ (p : Written × List ℕ). p.0) is-written in
      let z : ◌≡◌ {A = ℕ} 0 1 = cc in
      omega arith

-- ---- a turn of a loop

-- A number's digits are put from the last one on: with `i` of them left to put, the whole will be this.
unfoldable pub filling : ℕ → List ℕ → ℕ → ℕ → ℕ → List ℕ
filling base out at i rest = take at out ++ (digits base i rest ++ drop (at + i) out)

drop-set : (l : List ℕ) (i v : ℕ) → i < length l → drop i (set l i v) ≡ v ∷ drop (suc i) l
drop-set l i v h =
    drop-cons (set l i v) i 0 (lt-length-set l i v h)
    ∙ ap (λ (x : ℕ). x ∷ drop (suc i) (set l i v)) (get_or-set_same l i v 0 h)
    ∙ ap (λ (r : List ℕ). v ∷ r) (drop-set-lt (suc i) l i v (omega arith))

next-digit : (base : ℕ) (out : List ℕ) (at j rest v : ℕ) → at + j < length out → v ≡ glyph (rest % base)
    → filling base (set out (at + j) v) at j (rest / base) ≡ filling base out at (suc j) rest
unfolding filling digits
next-digit base out at j rest v room e =
    let low = digits base j (rest / base) in
    ap (λ (l : List ℕ). l ++ (low ++ drop (at + j) (set out (at + j) v))) (take-set-le at out (at + j) v (omega arith))
    ∙ ap (λ (l : List ℕ). take at out ++ (low ++ l)) (drop-set out (at + j) v room)
    ∙ ap (λ (g : ℕ). take at out ++ (low ++ (g ∷ drop (suc (at + j)) out))) e
    ∙ ap (λ (n : ℕ). take at out ++ (low ++ (glyph (rest % base) ∷ drop n out))) (sym (add-suc at j))
    ∙ ap (λ (l : List ℕ). take at out ++ l) (sym (append_assoc low (glyph (rest % base) ∷ []) (drop (at + suc j) out)))

pub digit-turn : (base : ℕ) (out : List ℕ) (at i rest v : ℕ) → 0 < i → at + i ≤ length out → v ≡ glyph (rest % base)
    → filling base (set out (at + (i - 1)) v) at (i - 1) (rest / base) ≡ filling base out at i rest
digit-turn base out at i rest v some room e =
    let one : suc (i - 1) ≡ i = omega arith in
    next-digit base out at (i - 1) rest v (omega arith) e ∙ ap (λ (k : ℕ). filling base out at k rest) one

pub filling-end : (base : ℕ) (out : List ℕ) (at i rest : ℕ) → i ≡ 0 → filling base out at i rest ≡ out
unfolding filling digits
filling-end base out at i rest e =
    ap (λ (k : ℕ). take at out ++ (digits base k rest ++ drop (at + k) out)) e
    ∙ ap (λ (n : ℕ). take at out ++ drop n out) (add-zero at)
    ∙ take-append-drop at out

-- before the first digit the whole will be the bytes with the number put
pub filled : (base : ℕ) (out : List ℕ) (at count x : ℕ) → filling base out at count x ≡ pasted out at (digits base count x)
unfolding filling pasted
filled base out at count x = ap (λ (n : ℕ). take at out ++ (digits base count x ++ drop (at + n) out)) (sym (length_digits base count x))

-- ---- a text that comes in pieces

-- as much of a line as is kept is empty where the line is
pub empty-take : (n : ℕ) (l : List ℕ) → eqb (length (take (suc n) l)) 0 ≡ eqb (length l) 0
empty-take n [] = refl
empty-take n (b ∷ l) = ne_eqb (suc (length (take n l))) 0 (λ e. omega arith) ∙ sym (ne_eqb (suc (length l)) 0 (λ e. omega arith))
