-- A converted line, and a text of them, comes back as it was: bytes are read back from their text, and a text is that of the bytes that it holds.
-- Assumes nothing.
use Rattle.std.specs.Prelude.{Ok}
use Prim.Native.Nat.{ℕ, zero, suc, ◌+◌, ◌-◌, ◌*◌, ◌/◌, ◌%◌, ◌≤◌, ◌<◌}
use mathlib.Core.Path.{◌≡◌, refl, sym, ap, ◌∙◌}
use mathlib.Core.Bool.{Bool, true, false, cond, ◌&&◌, and-eq-true_iff}
use mathlib.Core.List.{List, [], ◌∷◌, ◌++◌, append_assoc}
use native.Mathlib.Omega.{arith}
use native.Mathlib.Decide.{dec_lt}
use lib.Dec.{eqb, ltb, leb}
use lib.ListN.{length, take, drop, replicate, length-append, take-append-drop}
use lib.Seq.{take_at, drop_at}
use borrow.Author.Tests.{ne_eqb, eqb-true, le-leb, leb-true, lt-ltb, le-ltb, ltb-true}
use Rattle.message.specs.Message.{AreBytes, message_of, two_sections}
use Rattle.message.proofs.Bytes.{bytes-head, bytes-tail}
use Rattle.message.proofs.Parts.{length-section, length-two}
use Rattle.message.proofs.RoundTrip.{bytes_take, length-message, message-read}
use Rattle.message.proofs.TwoSections.{bytes-none, none, two-read}
use Rattle.converter.proofs.ThereAndBack.{there_and_back, turns-three, turns-two}
use Rattle.plan_line.specs.Words.{all_digits, before, gap, is_digit, is_number, longer, parted, value_of}
use Rattle.plan_line.proofs.Numbers.{digits-head, digits-tail, form, many-digits}
use Rattle.plan_line.proofs.Words.{digit-yes, digit-high}
use Rattle.plan_text.specs.Text.{next_line}
use Rattle.converter_text.specs.declared.Direction.{Direction}
use Rattle.converter_text.specs.declared.Direction.TheVariants.{Three, Two}
use Rattle.converter_text.specs.Recorded.{behind, bytes_of, capital, conversion, digit_of, is_hex, is_message, line_text, lines_text, message_text, outcome_text, readable, turned, unended_text, converted}
use Rattle.converter_text.specs.Returns.{AllConvert, Converts, LinesReturn, Returns, TextsReturn, fed, other, there}
use Rattle.converter_text.proofs.Hex.{text-long}
use Rattle.converter_text.proofs.Lines.{reads, was_read}
use Rattle.converter_text.proofs.Pieces.{next-lines}
use Rattle.converter_text.proofs.Turned.{count_fits, k-small}

-- ---- digits

digit-capital : (d : ℕ) → d < 16 → digit_of (capital d) ≡ d
unfolding digit_of
digit-capital d h = go (dec_lt d 10)
  where
    go : Dec (d < 10) → digit_of (capital d) ≡ d
    go (yes small) =
        rw (lt-ltb d 10 small)
        (rw (digit-yes (48 + d) (omega arith) (omega arith)) (omega arith))
    go (no large) =
        rw (le-ltb d 10 (omega arith))
        (rw (digit-high (55 + d) (omega arith), le-leb 65 (55 + d) (omega arith), le-leb (55 + d) 70 (omega arith)) (omega arith))

capital-digit : (b : ℕ) → digit_of b < 16 → capital (digit_of b) ≡ b
unfolding digit_of
capital-digit b h = go (is_digit b) refl (leb 65 b && leb b 70) refl h
  where
    go : (t : Bool) → is_digit b ≡ t → (u : Bool) → (leb 65 b && leb b 70) ≡ u → cond t (b - 48) (cond u (b - 55) 16) < 16
        → capital (cond t (b - 48) (cond u (b - 55) 16)) ≡ b
    go true e u f less =
        let range = (and-eq-true_iff (leb 48 b) (leb b 57)).0 e in
        let low = leb-true 48 b range.0 in
        let high = leb-true b 57 range.1 in
        rw (lt-ltb (b - 48) 10 (omega arith)) (omega arith)
    go false e true f less =
        let range = (and-eq-true_iff (leb 65 b) (leb b 70)).0 f in
        let low = leb-true 65 b range.0 in
        let high = leb-true b 70 range.1 in
        rw (le-ltb (b - 55) 10 (omega arith)) (omega arith)
    go false e false f less = absurd (omega arith)

-- ---- messages

hex-byte : (d : ℕ) → d < 16 → is_hex (capital d) ≡ true
hex-byte d h = lt-ltb (digit_of (capital d)) 16 (omega (arith, digit-capital d h))

text-is-message : (l : List ℕ) → AreBytes l → is_message (message_text l) ≡ true
unfolding message_text is_message
text-is-message [] are = refl
text-is-message (x ∷ l) are =
    let small = bytes-head x l are in
    simp (hex-byte (x / 16) (omega arith), hex-byte (x % 16) (omega arith)) (text-is-message l (bytes-tail x l are))

text-bytes : (l : List ℕ) → AreBytes l → bytes_of (message_text l) ≡ l
unfolding message_text bytes_of
text-bytes [] are = refl
text-bytes (x ∷ l) are =
    let small = bytes-head x l are in
    let high : digit_of (capital (x / 16)) ≡ x / 16 = digit-capital (x / 16) (omega arith) in
    let low : digit_of (capital (x % 16)) ≡ x % 16 = digit-capital (x % 16) (omega arith) in
    let whole : digit_of (capital (x / 16)) * 16 + digit_of (capital (x % 16)) ≡ x = omega arith in
    cc (whole, text-bytes l (bytes-tail x l are))

-- one byte of a text that is a message
record Formed (space high low : ℕ) (rest : List ℕ) : Type 0 where
  spaced : space ≡ 32
  upper : digit_of high < 16
  lower : digit_of low < 16
  more : is_message rest ≡ true

formed : (space high low : ℕ) (rest : List ℕ) → is_message (space ∷ high ∷ low ∷ rest) ≡ true → Formed space high low rest
unfolding is_message
formed space high low rest e =
    let one = (and-eq-true_iff (eqb space 32 && (is_hex high && is_hex low)) (is_message rest)).0 e in
    let two = (and-eq-true_iff (eqb space 32) (is_hex high && is_hex low)).0 one.0 in
    let three = (and-eq-true_iff (is_hex high) (is_hex low)).0 two.1 in
    record {
      spaced = eqb-true space 32 two.0;
      upper = ltb-true (digit_of high) 16 three.0;
      lower = ltb-true (digit_of low) 16 three.1;
      more = one.1;
    }

bytes-text : (t : List ℕ) → is_message t ≡ true → message_text (bytes_of t) ≡ t
unfolding message_text bytes_of is_message
bytes-text [] e = refl
bytes-text (a ∷ []) e = let z : ◌≡◌ {A = ℕ} 0 1 = cc in absurd (omega arith)
bytes-text (a ∷ b ∷ []) e = let z : ◌≡◌ {A = ℕ} 0 1 = cc in absurd (omega arith)
bytes-text (a ∷ b ∷ c ∷ t) e =
    let f = formed a b c t e in
    let x = digit_of b * 16 + digit_of c in
    let high : x / 16 ≡ digit_of b = omega (arith, f.upper, f.lower) in
    let low : x % 16 ≡ digit_of c = omega (arith, f.upper, f.lower) in
    cc (f.spaced, ap capital high ∙ capital-digit b f.upper, ap capital low ∙ capital-digit c f.lower, bytes-text t f.more)

bytes-are : (t : List ℕ) → is_message t ≡ true → AreBytes (bytes_of t)
unfolding bytes_of is_message
bytes-are [] e i below = absurd (omega arith)
bytes-are (a ∷ []) e i below = absurd (omega arith)
bytes-are (a ∷ b ∷ []) e i below = absurd (omega arith)
bytes-are (a ∷ b ∷ c ∷ t) e zero below = let f = formed a b c t e in omega (arith, f.upper, f.lower)
bytes-are (a ∷ b ∷ c ∷ t) e (suc i) below = bytes-are t (formed a b c t e).more i (omega arith)

-- ---- k

gap-digits : (word rest : List ℕ) → all_digits word ≡ true → gap 32 rest ≡ 0 → gap 32 (word ++ rest) ≡ length word
unfolding gap
gap-digits [] rest e none = none
gap-digits (b ∷ word) rest e none =
    let range = digits-head b word e in
    simp (ne_eqb b 32 (λ is. omega arith)) (ap suc (gap-digits word rest (digits-tail b word e) none))

gap-text : (l : List ℕ) → gap 32 (message_text l) ≡ 0
unfolding gap message_text
gap-text [] = refl
gap-text (x ∷ l) = refl

-- ---- what is written

prefix-are : (a b : List ℕ) → AreBytes (a ++ b) → AreBytes a
prefix-are a b are = rw (take_at a b (length a) refl) at (bytes_take (length a) (a ++ b) are)

-- the bytes that came, and those that were written
record Wrote (bytes out : List ℕ) (count : ℕ) (after : List ℕ) : Type 0 where
  short : length bytes ≤ 9
  are : AreBytes (take count after)

three-is : (k a : ℕ) (b : Bool) → message_of k 0 a b 0 ≡ two_sections k a b ++ none
unfolding message_of
three-is k a b = refl

wrote : (d : Direction) (k : ℕ) (bytes out : List ℕ) (count : ℕ) (after : List ℕ) → k ≤ 31 → AreBytes bytes → conversion d k bytes out ≡ (Ok count, after) → Wrote bytes out count after
wrote Three k bytes out count after small are e =
    let h = turns-three.gives k bytes out count after e in
    let same : bytes ≡ two_sections k h.a h.b = two-read k h.a h.b 0 bytes are h.said in
    let made : take count after ≡ message_of k 0 h.a h.b 0 =
    ap (take count) (sym h.left) ∙ take_at (message_of k 0 h.a h.b 0) _ count (length-message k 0 h.a h.b 0 ∙ h.told) in
    record {
      short = omega (arith, ap length same, length-two k h.a h.b);
      are = rw (made ∙ three-is k h.a h.b, ← same) (bytes-none bytes are);
    }
wrote Two k bytes out count after small are e =
    let h = turns-two.gives k bytes out count after e in
    let same : bytes ≡ two_sections k h.a h.b ++ none = message-read k 0 h.a h.b 0 bytes are h.said ∙ three-is k h.a h.b in
    let made : take count after ≡ two_sections k h.a h.b =
    ap (take count) (sym h.left) ∙ take_at (two_sections k h.a h.b) _ count (length-two k h.a h.b ∙ h.told) in
    record {
      short = omega (arith, ap length same, length-append (two_sections k h.a h.b) none, length-section 0 1 0, length-two k h.a h.b);
      are = rw made (prefix-are (two_sections k h.a h.b) none (rw same at are));
    }

back_is : (d : Direction) (k : ℕ) (bytes : List ℕ) (count : ℕ) (after : List ℕ) → k ≤ 31 → AreBytes bytes → turned d k bytes ≡ (Ok count, after)
    → turned (other d) k (take count after) ≡ (Ok (length bytes), bytes ++ drop (length bytes) (replicate 9 0))
back_is Three k bytes count after small are e =
    there_and_back.from-two.returns k bytes (replicate 9 0) count after (replicate 9 0) are e (wrote Three k bytes (replicate 9 0) count after small are e).short
back_is Two k bytes count after small are e =
    there_and_back.from-three.returns k bytes (replicate 9 0) count after (replicate 9 0) are e (wrote Two k bytes (replicate 9 0) count after small are e).short

-- ---- a line

take-most : (n : ℕ) (l : List ℕ) → length (take n l) ≤ n
take-most zero l = omega arith
take-most (suc n) [] = omega arith
take-most (suc n) (x ∷ l) = omega (arith, take-most n l)

parts : (line : List ℕ) → readable line ≡ true → (is_number (before line) ≡ true) × (is_message (behind line) ≡ true)
unfolding readable
parts line e =
    let one = (and-eq-true_iff (leb (length line) 120) (is_number (before line) && is_message (behind line))).0 e in
    (and-eq-true_iff (is_number (before line)) (is_message (behind line))).0 one.1

module _ (d : Direction) (line : List ℕ) (c : Converts d line) where
  number : is_number (before line) ≡ true
  number = (parts line c.form).0

  message : is_message (behind line) ≡ true
  message = (parts line c.form).1

  bytes-come : AreBytes (bytes_of (behind line))
  bytes-come = bytes-are (behind line) message

  small : value_of (before line) ≤ 31
  small = k-small d (value_of (before line)) (bytes_of (behind line)) (replicate 9 0) c.count c.after (sym c.wrote)

  few : c.count ≤ 9
  few = count_fits d (value_of (before line)) (bytes_of (behind line)) (replicate 9 0) c.count c.after (sym c.wrote)

  bytes-go : AreBytes (take c.count c.after)
  bytes-go = (wrote d (value_of (before line)) (bytes_of (behind line)) (replicate 9 0) c.count c.after small bytes-come c.wrote).are

  short : length (before line) ≤ 2
  short = go (dec_lt 2 (length (before line)))
    where
      go : Dec (2 < length (before line)) → length (before line) ≤ 2
      go (yes long) = absurd (omega (arith, small, many-digits (before line) number long))
      go (no h) = omega arith

  abbrev text : List ℕ
  text = message_text (take c.count c.after)

  gap-there : gap 32 (there c) ≡ length (before line)
  gap-there = gap-digits (before line) text (form (before line) number).2 (gap-text (take c.count c.after))

  before-there : before (there c) ≡ before line
  before-there = ap (λ (n : ℕ). take n (there c)) gap-there ∙ take_at (before line) text (length (before line)) refl

  behind-there : behind (there c) ≡ text
  behind-there = ap (λ (n : ℕ). drop n (there c)) gap-there ∙ drop_at (before line) text (length (before line)) refl

  readable-there : readable (there c) ≡ true
  readable-there =
      reads (there c)
      (omega (arith, length-append (before line) text, text-long (take c.count c.after), take-most c.count c.after, few, short))
      (ap is_number before-there ∙ number)
      (ap is_message behind-there ∙ text-is-message (take c.count c.after) bytes-go)

  line-back : (L : ℕ) → line_text (other d) L (there c) ≡ line ++ (10 ∷ [])
  line-back L =
      let word = before line in
      let bytes = bytes_of (behind line) in
      was_read (other d) L (there c) readable-there
      ∙ ap (λ (w : List ℕ). outcome_text L w (turned (other d) (value_of w) (bytes_of (behind (there c))))) before-there
      ∙ ap (λ (l : List ℕ). outcome_text L word (turned (other d) (value_of word) (bytes_of l))) behind-there
      ∙ ap (λ (l : List ℕ). outcome_text L word (turned (other d) (value_of word) l)) (text-bytes (take c.count c.after) bytes-go)
      ∙ ap (outcome_text L word) (back_is d (value_of word) bytes c.count c.after small bytes-come c.wrote)
      ∙ ap (λ (l : List ℕ). word ++ message_text l ++ (10 ∷ [])) (take_at bytes (drop (length bytes) (replicate 9 0)) (length bytes) refl)
      ∙ ap (λ (l : List ℕ). word ++ l ++ (10 ∷ [])) (bytes-text (behind line) message)
      ∙ ap (λ (l : List ℕ). l ++ (10 ∷ [])) (take-append-drop (gap 32 line) line)

  line-returns : Returns d line c
  line-returns = record { prints = λ L. was_read d L line c.form ∙ ap (outcome_text L (before line)) c.wrote; back = line-back }

pub lines-return : LinesReturn
lines-return = line-returns

-- ---- a text

-- No byte is a line feed.
abbrev NoFeed : List ℕ → Type 0
NoFeed [] = Unit {0}
NoFeed (b ∷ l) = (b ≡ 10 → ⊥) × NoFeed l

both-free : (a b : List ℕ) → NoFeed a → NoFeed b → NoFeed (a ++ b)
both-free [] b p q = q
both-free (x ∷ a) b p q = (p.0, both-free a b p.1 q)

digits-free : (word : List ℕ) → all_digits word ≡ true → NoFeed word
digits-free [] e = tt
digits-free (b ∷ word) e = (λ is. omega (arith, (digits-head b word e).0), digits-free word (digits-tail b word e))

capital-large : (digit : ℕ) → 48 ≤ capital digit
capital-large digit = go (ltb digit 10)
  where
    go : (t : Bool) → 48 ≤ cond t (48 + digit) (55 + digit)
    go true = omega arith
    go false = omega arith

text-free : (l : List ℕ) → NoFeed (message_text l)
unfolding message_text
text-free [] = tt
text-free (x ∷ l) = (λ e. omega arith, (λ e. omega (arith, capital-large (x / 16)), (λ e. omega (arith, capital-large (x % 16)), text-free l)))

-- a line, its line feed and more
parted-feed : (line rest : List ℕ) → NoFeed line → parted 10 (line ++ (10 ∷ rest)) ≡ line ∷ parted 10 rest
unfolding parted
parted-feed [] rest free = refl
parted-feed (b ∷ line) rest free = simp (ne_eqb b 10 free.0) (ap (longer b) (parted-feed line rest free.1))

step : (d : Direction) (n : ℕ) (line rest text more : List ℕ) → NoFeed line → line_text d (next_line n) line ≡ text → lines_text d (next_line n) (parted 10 rest) ≡ more
    → lines_text d n (parted 10 ((line ++ (10 ∷ [])) ++ rest)) ≡ text ++ more
step d n line rest text more free one others =
    ap (λ (l : List ℕ). lines_text d n (parted 10 l)) (append_assoc line (10 ∷ []) rest)
    ∙ ap (lines_text d n) (parted-feed line rest free)
    ∙ next-lines d n line rest
    ∙ cc (one, others)

module _ (d : Direction) where
  theres : (lines : List (List ℕ)) → AllConvert d lines → List (List ℕ)
  theres [] all = []
  theres (line ∷ more) all = there all.0 ∷ theres more all.1

  line-free : (line : List ℕ) (c : Converts d line) → NoFeed line
  line-free line c =
      rw (← take-append-drop (gap 32 line) line, ← bytes-text (behind line) (message d line c))
      (both-free (before line) (message_text (bytes_of (behind line))) (digits-free (before line) (form (before line) (number d line c)).2) (text-free (bytes_of (behind line))))

  there-free : (line : List ℕ) (c : Converts d line) → NoFeed (there c)
  there-free line c = both-free (before line) (text d line c) (digits-free (before line) (form (before line) (number d line c)).2) (text-free (take c.count c.after))

  all_there : (lines : List (List ℕ)) (all : AllConvert d lines) (n : ℕ) → lines_text d n (parted 10 (fed lines)) ≡ fed (theres lines all)
  unfolding theres parted lines_text unended_text
  all_there [] all n = refl
  all_there (line ∷ more) all n =
      step d n line (fed more) (there all.0 ++ (10 ∷ [])) (fed (theres more all.1)) (line-free line all.0) ((line-returns d line all.0).prints (next_line n)) (all_there more all.1 (next_line n))

  all_back : (lines : List (List ℕ)) (all : AllConvert d lines) (n : ℕ) → lines_text (other d) n (parted 10 (fed (theres lines all))) ≡ fed lines
  unfolding theres parted lines_text unended_text
  all_back [] all n = refl
  all_back (line ∷ more) all n =
      step (other d) n (there all.0) (fed (theres more all.1)) (line ++ (10 ∷ [])) (fed more) (there-free line all.0) ((line-returns d line all.0).back (next_line n)) (all_back more all.1 (next_line n))

pub texts-return : TextsReturn
unfolding converted
texts-return d lines all = ap (λ (l : List ℕ). lines_text (other d) 0 (parted 10 l)) (all_there d lines all 0) ∙ all_back d lines all 0
