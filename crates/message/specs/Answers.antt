-- What reading and writing answer. A message is heard or its bytes are refused; writing tells the number of bytes, or why none was written.
use Rattle.std.specs.Prelude.{ℕ, Bool, Result, Ok}
use Rattle.refusal.specs.declared.Refusal.{Refusal}
use Rattle.message.specs.declared.Heard.{Heard}

abbrev pub Reading : Type 0
Reading = Result Heard Refusal

abbrev pub heard_with : ℕ → Bool → Reading
heard_with acknowledgements return_bit = Ok (record { acknowledgements = acknowledgements; return_bit = return_bit })

abbrev pub Written : Type 0
Written = Result ℕ Refusal
