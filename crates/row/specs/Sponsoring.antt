-- Inner: what the rules ask of the ring (ring's specs/Ring), by a row. Laws tie it to sets (row_laws' proofs/Sponsored): it need not be believed.
use Rattle.std.specs.Prelude.{ℕ, ◌+◌, cond, eqb}
use Rattle.ring.specs.cable.declared.Cable.{Cable}
use Rattle.ring.specs.Ring.{ks}
use Rattle.row.specs.declared.Row.{Row}
use Rattle.row.specs.Inner.{before_row}

-- How many of the row's members one of them sponsors.
abbrev pub sponsors_row : Cable → Row → ℕ
sponsors_row cable row = ks cable row.length

-- The j-th of them, of node x; 0 for nobody.
abbrev pub sponsored_row : Cable → Row → ℕ → ℕ → ℕ
sponsored_row cable row x j = before_row cable.order row x (j + cable.lag)

-- The last of them.
unfoldable pub decided_row : Cable → Row → ℕ → ℕ
decided_row cable row x = cond (eqb (sponsors_row cable row) 0) 0 (sponsored_row cable row x (sponsors_row cable row))
