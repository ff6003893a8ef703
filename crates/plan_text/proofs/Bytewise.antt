-- Laws of a text that is taken byte by byte (specs/Bytewise): piece after piece is one text, and a text taken byte by byte is taken line by line. Assumes nothing.
use Prim.Native.Nat.{ℕ, ◌+◌, ◌≤◌, ◌<◌}
use mathlib.Core.Path.{◌≡◌, refl, sym, ap, ◌∙◌}
use mathlib.Core.Bool.{Bool, true, false, cond}
use mathlib.Core.List.{List, [], ◌∷◌, ◌++◌, append_assoc, append-nil}
use native.Mathlib.Omega.{arith}
use native.Mathlib.Numerals.{add-one}
use native.Mathlib.Decide.{dec_le}
use lib.Dec.{eqb}
use lib.ListN.{length, get_or, take, drop, set, length-append, length-set}
use lib.Seq.{take_all, take_at, take-suc, take-suc-set, length-take-le, take-append-le}
use borrow.Author.Tests.{eqb-true, eqb-false}
use Rattle.plan_line.specs.Words.{longer, parted}
use Rattle.plan_line.proofs.Lists.{from_place, part_at}
use Rattle.plan_text.specs.Text.{input_of, pasted, Piece}
use Rattle.plan_text.specs.Bytewise.{after_bytes, bytes_text, RoomFor, begun_with}

-- ---- bytes after bytes

module _ {S : Type 0} (step : S → ℕ → S) where
  pub after-append : (s : S) (a b : List ℕ) → after_bytes step s (a ++ b) ≡ after_bytes step (after_bytes step s a) b
  unfolding after_bytes
  after-append s [] b = refl
  after-append s (x ∷ a) b = after-append (step s x) a b

module _ {S : Type 0} (step : S → ℕ → S) (say : S → ℕ → List ℕ) where
  pub text-append : (s : S) (a b : List ℕ) → bytes_text step say s (a ++ b) ≡ bytes_text step say s a ++ bytes_text step say (after_bytes step s a) b
  unfolding after_bytes bytes_text
  text-append s [] b = refl
  text-append s (x ∷ a) b =
      ap (λ (l : List ℕ). say s x ++ l) (text-append (step s x) a b)
      ∙ sym (append_assoc (say s x) (bytes_text step say (step s x) a) (bytes_text step say (after_bytes step (step s x) a) b))

-- one byte more of a text
module _ {S : Type 0} (step : S → ℕ → S) (s : S) (input : List ℕ) (i : ℕ) (below : i < length input) where
  one-more : take (i + 1) input ≡ take i input ++ (get_or input i 0 ∷ [])
  one-more = ap (λ (n : ℕ). take n input) (add-one i) ∙ take-suc input i 0 below

  pub after_next : after_bytes step s (take (i + 1) input) ≡ step (after_bytes step s (take i input)) (get_or input i 0)
  unfolding after_bytes
  after_next = ap (after_bytes step s) one-more ∙ after-append step s (take i input) (get_or input i 0 ∷ [])

  pub text-next : (say : S → ℕ → List ℕ)
      → bytes_text step say s (take (i + 1) input) ≡ bytes_text step say s (take i input) ++ say (after_bytes step s (take i input)) (get_or input i 0)
  unfolding bytes_text
  text-next say =
      ap (bytes_text step say s) one-more
      ∙ text-append step say s (take i input) (get_or input i 0 ∷ [])
      ∙ ap (λ (l : List ℕ). bytes_text step say s (take i input) ++ l) (append-nil (say (after_bytes step s (take i input)) (get_or input i 0)))

-- ---- pieces

-- what was put at the start is read there
pub put_first : (text out : List ℕ) → take (length text) (pasted out 0 text) ≡ text
unfolding pasted
put_first text out = take_at text (drop (0 + length text) out) (length text) refl

-- `texts`: what the calls on pieces write one after the other, `end` what the last of them does. `Good`: no call refuses such a state.
pub record InPieces {S : Type 0} (step : S → ℕ → S) (say : S → ℕ → List ℕ) (end : S → List ℕ) (texts : S → List Piece → List ℕ → List ℕ) (Good : S → Type 0) (each last : ℕ) : Type 0 where
  pub ends : (s : S) (out : List ℕ) → last ≤ length out → texts s [] out ≡ end s
  pub goes-on : (s : S) (c : Piece) (more : List Piece) (out : List ℕ) → Good s → RoomFor each last (c ∷ more) out
      → texts s (c ∷ more) out ≡ bytes_text step say s c.input ++ texts (after_bytes step s c.input) more out
  pub stays : (s : S) (bytes : List ℕ) → Good s → Good (after_bytes step s bytes)

module _ {S : Type 0} {step : S → ℕ → S} {say : S → ℕ → List ℕ} {end : S → List ℕ} {texts : S → List Piece → List ℕ → List ℕ} {Good : S → Type 0} {each last : ℕ} (calls : InPieces step say end texts Good each last) where
  pub in_pieces : (pieces : List Piece) (s : S) (out : List ℕ) → Good s → RoomFor each last pieces out
      → texts s pieces out ≡ bytes_text step say s (input_of pieces) ++ end (after_bytes step s (input_of pieces))
  unfolding after_bytes bytes_text
  in_pieces [] s out good room = calls.ends s out room
  in_pieces (c ∷ more) s out good room =
      let here = bytes_text step say s c.input in
      let next = after_bytes step s c.input in
      calls.goes-on s c more out good room
      ∙ ap (λ (l : List ℕ). here ++ l) (in_pieces more next out (calls.stays s c.input good) room.1)
      ∙ sym (append_assoc here (bytes_text step say next (input_of more)) (end (after_bytes step next (input_of more))))
      ∙ ap (λ (l : List ℕ). l ++ end (after_bytes step next (input_of more))) (sym (text-append step say s c.input (input_of more)))
      ∙ ap (λ (t : S). bytes_text step say s (c.input ++ input_of more) ++ end t) (sym (after-append step s c.input (input_of more)))

-- ---- lines

-- What a line leaves, what is printed of it, of the last part, and of all parts of a text (of which there is one at least).
pub record ByLine (T : Type 0) : Type 0 where
  pub after : T → List ℕ → T
  pub text : T → List ℕ → List ℕ
  pub last : T → List ℕ → List ℕ
  pub all : T → List (List ℕ) → List ℕ
  pub ends : (t : T) (rest : List ℕ) → all t (rest ∷ []) ≡ last t rest
  pub goes-on : (t : T) (line next : List ℕ) (more : List (List ℕ)) → all t (line ∷ next ∷ more) ≡ text t line ++ all (after t line) (next ∷ more)

-- Byte by byte the same is done: `Holds s t line` says that s holds what lines left and, of the next one, the bytes `line`.
pub record Follows {S T : Type 0} (lines : ByLine T) (step : S → ℕ → S) (say : S → ℕ → List ℕ) (end : S → List ℕ) (Holds : S → T → List ℕ → Type 0) : Type 0 where
  pub feed : (s : S) (t : T) (line : List ℕ) (b : ℕ) → b ≡ 10 → Holds s t line → (say s b ≡ lines.text t line) × Holds (step s b) (lines.after t line) []
  pub other : (s : S) (t : T) (line : List ℕ) (b : ℕ) → (b ≡ 10 → ⊥) → Holds s t line → (say s b ≡ []) × Holds (step s b) t (line ++ (b ∷ []))
  pub ends : (s : S) (t : T) (line : List ℕ) → Holds s t line → end s ≡ lines.last t line

-- A byte of the first part may come with what has begun it.
pub begun-longer : (line : List ℕ) (b : ℕ) (parts : List (List ℕ)) → begun_with line (longer b parts) ≡ begun_with (line ++ (b ∷ [])) parts
begun-longer line b [] = refl
begun-longer line b (part ∷ parts) = ap (λ (l : List ℕ). l ∷ parts) (sym (append_assoc line (b ∷ []) part))

-- A text has a part, and nothing begun leaves its parts.
pub some-part : (text : List ℕ) → (part : List ℕ) × (parts : List (List ℕ)) × (parted 10 text ≡ part ∷ parts)
some-part text = (_, _, sym (from_place 10 text 0 (omega arith)) ∙ part_at 10 text 0 _ (omega arith) refl)

pub begun-none : (text : List ℕ) → begun_with [] (parted 10 text) ≡ parted 10 text
begun-none text = let some = some-part text in rw some.2 refl

module _ {T : Type 0} (lines : ByLine T) where
  -- a line with a line feed, and the parts after it
  pub next-lines : (t : T) (line rest : List ℕ) → lines.all t (line ∷ parted 10 rest) ≡ lines.text t line ++ lines.all (lines.after t line) (parted 10 rest)
  next-lines t line rest = let some = some-part rest in rw some.2 (lines.goes-on t line some.0 some.1)

module _ {S T : Type 0} {lines : ByLine T} {step : S → ℕ → S} {say : S → ℕ → List ℕ} {end : S → List ℕ} {Holds : S → T → List ℕ → Type 0} (follows : Follows lines step say end Holds) where
  -- a text, and what is printed after it
  abbrev whole : List ℕ → List ℕ → S → List ℕ
  whole input text s = (text ++ bytes_text step say s input) ++ end (after_bytes step s input)

  abbrev ByLines : List ℕ → Type 0
  ByLines input = (s : S) (t : T) (line : List ℕ) → Holds s t line → whole input [] s ≡ lines.all t (begun_with line (parted 10 input))

  by-line : (input : List ℕ) → ByLines input
  unfolding after_bytes bytes_text parted
  by-line [] s t line h = follows.ends s t line h ∙ sym (lines.ends t line) ∙ ap (λ (l : List ℕ). lines.all t (l ∷ [])) (sym (append-nil line))
  by-line (b ∷ input) s t line h = go (eqb b 10) refl (by-line input)
    where
      go : (e : Bool) → eqb b 10 ≡ e → ByLines input
          → whole input (say s b) (step s b) ≡ lines.all t (begun_with line (cond e ([] ∷ parted 10 input) (longer b (parted 10 input))))
      go true e rest =
          let is = follows.feed s t line b (eqb-true b 10 e) h in
          ap (λ (text : List ℕ). whole input text (step s b)) is.0
          ∙ append_assoc (lines.text t line) (bytes_text step say (step s b) input) (end (after_bytes step (step s b) input))
          ∙ ap (λ (text : List ℕ). lines.text t line ++ text) (rest (step s b) (lines.after t line) [] is.1 ∙ ap (lines.all (lines.after t line)) (begun-none input))
          ∙ sym (next-lines lines t line input)
          ∙ ap (λ (l : List ℕ). lines.all t (l ∷ parted 10 input)) (sym (append-nil line))
      go false e rest =
          let is = follows.other s t line b (eqb-false b 10 e) h in
          ap (λ (text : List ℕ). whole input text (step s b)) is.0
          ∙ rest (step s b) t (line ++ (b ∷ [])) is.1
          ∙ ap (lines.all t) (sym (begun-longer line b (parted 10 input)))

  pub all_lines : (input : List ℕ) {s : S} {t : T} → Holds s t [] → bytes_text step say s input ++ end (after_bytes step s input) ≡ lines.all t (parted 10 input)
  all_lines input {s} {t} h = by-line input s t [] h ∙ ap (lines.all t) (begun-none input)

-- ---- the bytes of a line, of which 121 are kept

take_short : (n : ℕ) (l : List ℕ) → length (take n l) < n → length l < n
take_short n l h = go (dec_le n (length l))
  where
    go : Dec (n ≤ length l) → length l < n
    go (yes more) = absurd (omega (arith, length-take-le n l more))
    go (no less) = omega arith

take-full : (n : ℕ) (l : List ℕ) → n ≤ length (take n l) → n ≤ length l
take-full n l h = go (dec_le n (length l))
  where
    go : Dec (n ≤ length l) → n ≤ length l
    go (yes more) = more
    go (no less) = omega (arith, ap length (take_all n l (omega arith)))

-- Of the next line, the bytes `line` have come: `size` of 121 places hold what is kept of them.
pub record Kept (size : ℕ) (text line : List ℕ) : Type 0 where
  pub room : length text ≡ 121
  pub few : size ≤ 121
  pub bytes : take size text ≡ take 121 line

pub kept-none : (text : List ℕ) → length text ≡ 121 → Kept 0 text []
kept-none text room = record { room = room; few = omega arith; bytes = refl }

module _ {size : ℕ} {text line : List ℕ} (k : Kept size text line) where
  size_is : size ≡ length (take 121 line)
  size_is = sym (length-take-le size text (omega (arith, k.few, k.room))) ∙ ap length k.bytes

  pub kept_more : (b : ℕ) → size < 121 → Kept (size + 1) (set text size b) (line ++ (b ∷ []))
  kept_more b less =
      let short : length line < 121 = take_short 121 line (omega (arith, size_is)) in
      record {
        room = length-set text size b ∙ k.room;
        few = omega arith;
        bytes =
            ap (λ (n : ℕ). take n (set text size b)) (add-one size)
            ∙ take-suc-set text size b (omega (arith, k.room))
            ∙ ap (λ (l : List ℕ). l ++ (b ∷ [])) (k.bytes ∙ take_all 121 line (omega arith))
            ∙ sym (take_all 121 (line ++ (b ∷ [])) (omega (arith, length-append line (b ∷ []))));
      }

  pub kept_full : (b : ℕ) → 121 ≤ size → Kept size text (line ++ (b ∷ []))
  kept_full b full =
      let long : 121 ≤ length line = take-full 121 line (omega (arith, size_is, k.few)) in
      record { room = k.room; few = k.few; bytes = k.bytes ∙ sym (take-append-le 121 line (b ∷ []) long) }
