pub mod Cable
pub use Rattle.slot_table.specs.nodeset as nodeset
pub use Rattle.slot_table.specs as slot_table
