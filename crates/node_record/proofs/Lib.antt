pub mod Causes
pub mod Facts
pub mod Tracking
pub mod Holding
pub use Rattle.nodeset.proofs as nodeset
pub use Rattle.cable.proofs.slot_table as slot_table
pub use Rattle.cable.proofs as cable
pub use Rattle.row_laws.proofs.ring_laws as ring_laws
pub use Rattle.row_laws.proofs as row_laws
