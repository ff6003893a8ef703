-- `ledger::enter` meets its contract. The invariant: the entries so far are entered. Assumes nothing.
use mathlib.Core.Path.{◌≡◌}
use Rattle.ledger.specs.Entered.{entered_from}
use Rattle.ledger.proofs.enter.Given as goal

abbrev pub invariant-loop-i : goal.invariant-loop-i
invariant-loop-i l = l.ledger ≡ entered_from l.date l.left l.joined l.i 1 l.initial.ledger
