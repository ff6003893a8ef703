-- The proof of demand 3: `Demanded` has `demand3 : Demand3`. It is mathematics about the rules, over laws of the sender, the sets, the walk, the step and the table.
pub mod Past
pub mod Backwards
pub mod Parts
pub mod History
pub mod Invariant
pub mod Marks
pub mod Outcome
pub mod Listed
pub mod Depart
pub mod Returns
pub mod Join
pub mod Rounds
pub mod Outside
pub mod Hearing
pub mod Alike
pub mod Again
pub mod Nodes
pub mod Tables
pub mod Reached
pub mod Records
pub mod Slots
pub mod Entries
pub mod Onwards
pub mod Leaving
pub mod Beginnings
pub mod Kept
pub mod Before
pub mod Differs
pub mod Demanded
pub mod Throughout
pub mod Plain
pub mod ByNumber
pub use Rattle.bench.proofs.nodeset as nodeset
pub use Rattle.bench.proofs.cable as cable
pub use Rattle.bench.proofs.ring as ring
pub use Rattle.bench.proofs.ring_laws as ring_laws
pub use Rattle.bench.proofs.node_steps as node_steps
pub use Rattle.bench.proofs as bench
