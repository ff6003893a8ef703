-- What a call on a record answers: that it was made, or why it was not.
use Rattle.std.specs.Prelude.{Result}
use Rattle.refusal.specs.declared.Refusal.{Refusal}

abbrev pub Answer : Type 0
Answer = Result Unit Refusal
