pub mod Rows
pub mod Inner
pub mod Sponsoring
pub use Rattle.ring.specs.slot_table as slot_table
pub use Rattle.ring.specs as ring
