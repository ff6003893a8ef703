-- A text that comes in pieces: the part of it that has come, and the room that it needs. One that is taken byte by byte (by the converter and by the report): what some bytes leave, and what is printed of them.
use Rattle.std.specs.Prelude.{ℕ, ◌*◌, ◌≤◌, List, [], ◌∷◌, ◌++◌, length}
use Rattle.plan_text.specs.Text.{Piece}

-- `step` and `say`: what a byte leaves, and what is printed of it.
module _ {S : Type 0} (step : S → ℕ → S) where
  unfoldable pub after_bytes : S → List ℕ → S
  after_bytes s [] = s
  after_bytes s (byte ∷ rest) = after_bytes (step s byte) rest

module _ {S : Type 0} (step : S → ℕ → S) (say : S → ℕ → List ℕ) where
  unfoldable pub bytes_text : S → List ℕ → List ℕ
  bytes_text s [] = []
  bytes_text s (byte ∷ rest) = say s byte ++ bytes_text (step s byte) rest

-- The parts of a text whose first part has begun with these bytes.
abbrev pub begun_with : List ℕ → List (List ℕ) → List (List ℕ)
begun_with begun [] = begun ∷ []
begun_with begun (part ∷ parts) = (begun ++ part) ∷ parts

-- There is room for what is printed of each piece, so much for each byte, and of the end.
abbrev pub RoomFor : ℕ → ℕ → List Piece → List ℕ → Type 0
RoomFor each end [] last = end ≤ length last
RoomFor each end (c ∷ more) last = (each * length c.input ≤ length c.out) × RoomFor each end more last
