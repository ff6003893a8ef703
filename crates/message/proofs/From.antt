-- A reading that a node may have of a slot: nothing is heard, or a node other than itself. Assumes nothing.
use Rattle.std.specs.Prelude.{Err, Ok}
use Prim.Native.Nat.{ℕ}
use mathlib.Core.Logic.{◌≢◌}
use Rattle.message.specs.Answers.{Reading}

abbrev pub FromOther : ℕ → Reading → ℕ → Type 0
FromOther s (Ok h) own = s ≢ own
FromOther s (Err r) own = Unit {0}
