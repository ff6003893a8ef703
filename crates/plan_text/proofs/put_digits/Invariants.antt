-- `plan_text::put_digits` meets its contract. The loop's invariant: with the digits that are left to put, the bytes will be what they should.
-- Assumes nothing.
use mathlib.Core.Path.{◌≡◌}
use Rattle.plan_text.proofs.Paste.{filling}
use Rattle.plan_text.proofs.put_digits.Given as goal

abbrev pub invariant-loop-i : goal.invariant-loop-i
invariant-loop-i l = filling l.base l.out l.at l.i l.rest ≡ filling l.base l.initial.out l.at l.count l.x
