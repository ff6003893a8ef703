pub mod Members
pub mod Places
pub mod Tested
pub use Rattle.nodeset.proofs as nodeset
pub use Rattle.slot_table.proofs as slot_table
pub use Rattle.cable.proofs as cable
