pub mod Ranges
pub mod Cables
pub use Rattle.slot_table.proofs.nodeset as nodeset
pub use Rattle.slot_table.proofs as slot_table
