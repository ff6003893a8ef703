-- What a command's letter asks for: U (85) set-up, S (83) a slot, T (84) sending, F (70) off, L (76) that the record is loaded, H (72) that it holds
-- a record of the rules, A (65) the record of the rules that it stands for; every other letter restarts.
use Rattle.std.specs.Prelude.{ℕ, cond, eqb}
use Rattle.node_bytes.specs.declared.calls.Request.{Request}
use Rattle.node_bytes.specs.declared.calls.Request.TheVariants.{SetUp, Slot, Send, Off, Restart, Load, Hold, AsSet}

unfoldable pub request_of : ℕ → Request
request_of letter =
    cond (eqb letter 85) SetUp
    (cond (eqb letter 83) Slot
    (cond (eqb letter 84) Send
    (cond (eqb letter 70) Off
    (cond (eqb letter 76) Load
    (cond (eqb letter 72) Hold
    (cond (eqb letter 65) AsSet Restart))))))
