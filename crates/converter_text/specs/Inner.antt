-- Inner: what the functions below `feed` leave.
use Rattle.std.specs.Prelude.{ℕ, ◌+◌, ◌*◌, ◌≤◌, ◌≡◌, true, false, cond, ◌&&◌, List, eqb, take, None, Option, Some}
use Rattle.plan_text.specs.Text.{PutFew}
use Rattle.converter_text.specs.declared.Message.{Message}
use Rattle.converter_text.specs.declared.Recording.{Recording}
use Rattle.converter_text.specs.Recorded.{bytes_of, digit_of, is_hex, is_message}
use Rattle.converter_text.specs.Calls.{after_byte, byte_text}

-- The digit of a byte, where it is one. `digit_of`, on which the theorem `texts-return` rests, is a number for every byte.
abbrev pub digit_at : ℕ → Option ℕ
digit_at byte = cond (is_hex byte) (Some (digit_of byte)) None

-- The byte whose text is these three bytes, where they are a byte's.
abbrev pub byte_at : ℕ → ℕ → ℕ → Option ℕ
byte_at space high low = cond (eqb space 32 && (is_hex high && is_hex low)) (Some (digit_of high * 16 + digit_of low)) None

-- A text is a message, and its bytes are these.
pub record Holds (text : List ℕ) (m : Message) : Type 0 where
  pub is : is_message text ≡ true
  pub few : m.count ≤ 40
  pub bytes : take m.count m.bytes ≡ bytes_of text

-- A message was read from a text, or none is there.
abbrev pub Read : List ℕ → Option Message → Type 0
Read text (Some m) = Holds text m
Read text None = is_message text ≡ false

-- A byte was taken, and its text put.
pub record Took (r : Recording) (byte at : ℕ) (now : Recording) (end : ℕ) (out written : List ℕ) : Type 0 where
  pub is : now ≡ after_byte r byte
  pub put : PutFew 80 end at (byte_text r byte) out written
