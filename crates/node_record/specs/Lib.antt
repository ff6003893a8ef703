pub mod States
pub mod Soundness
pub mod Sponsoring
pub mod Held
pub mod Inner
pub use Rattle.nodeset.specs as nodeset
pub use Rattle.cable.specs.slot_table as slot_table
pub use Rattle.cable.specs as cable
pub use Rattle.row.specs as row
