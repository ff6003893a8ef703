-- What the rules ask of the ring (ring's specs/Ring), by a record's cable and set.
use Rattle.std.specs.Prelude.{ℕ, Option}
use Rattle.row.specs.ring.declared.Found.{Found}
use Rattle.row.specs.ring.Ring.{sponsors, sponsored, decided}
use Rattle.node_record.specs.declared.Node.{Node}

-- How many others a member sponsors: document 01's ks.
abbrev pub sponsors_in : Node → ℕ
sponsors_in v = sponsors v.cable v.set

-- The j-th member that s sponsors.
abbrev pub sponsored_in : ℕ → ℕ → Node → Option Found
sponsored_in s j v = sponsored v.cable v.set s j

-- The member that s decides.
abbrev pub decided_in : ℕ → Node → Option Found
decided_in s v = decided v.cable v.set s
