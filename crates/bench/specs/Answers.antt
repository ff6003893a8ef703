-- The set of the lowest-numbered member, if there is one.
use Rattle.std.specs.Prelude.{ℕ, Option}

abbrev pub Listed : Type 0
Listed = Option ℕ
