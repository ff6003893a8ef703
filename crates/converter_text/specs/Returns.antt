-- A converted line is a line of the other direction, and comes back as it was; so does a text of which no line is refused.
use Rattle.std.specs.Prelude.{ℕ, ◌≡◌, true, List, [], ◌∷◌, ◌++◌, take, Ok}
use Rattle.message.specs.Message.{Outcome}
use Rattle.plan_line.specs.Words.{before, value_of}
use Rattle.converter_text.specs.declared.Direction.{Direction}
use Rattle.converter_text.specs.declared.Direction.TheVariants.{Three, Two}
use Rattle.converter_text.specs.Recorded.{behind, bytes_of, converted, line_text, message_text, readable, turned}

abbrev pub other : Direction → Direction
other Three = Two
other Two = Three

-- A line, without its line feed, that is converted: it is readable, and its message is not refused.
pub record Converts (d : Direction) (line : List ℕ) : Type 0 where
  pub form : readable line ≡ true
  pub count : ℕ
  pub after : List ℕ
  pub wrote : ◌≡◌ {A = Outcome} (turned d (value_of (before line)) (bytes_of (behind line))) (Ok count, after)

-- What is printed of it, without the line feed.
abbrev pub there : {d : Direction} {line : List ℕ} → Converts d line → List ℕ
there {d} {line} c = before line ++ message_text (take c.count c.after)

-- "Going there and back gives the bytes we began with, from either side", of lines as text, whatever their numbers.
pub record Returns (d : Direction) (line : List ℕ) (c : Converts d line) : Type 0 where
  pub prints : (L : ℕ) → line_text d L line ≡ there c ++ (10 ∷ [])
  pub back : (L : ℕ) → line_text (other d) L (there c) ≡ line ++ (10 ∷ [])

abbrev pub LinesReturn : Type 0
LinesReturn = (d : Direction) (line : List ℕ) (c : Converts d line) → Returns d line c

-- ---- whole texts

-- Lines with their line feeds, one after the other.
abbrev pub fed : List (List ℕ) → List ℕ
fed [] = []
fed (line ∷ more) = (line ++ (10 ∷ [])) ++ fed more

abbrev pub AllConvert : Direction → List (List ℕ) → Type 0
AllConvert d [] = Unit {0}
AllConvert d (line ∷ more) = Converts d line × AllConvert d more

-- A text of which no line is refused comes back as it was.
abbrev pub TextsReturn : Type 0
TextsReturn = (d : Direction) (lines : List (List ℕ)) → AllConvert d lines → converted (other d) (converted d (fed lines)) ≡ fed lines
