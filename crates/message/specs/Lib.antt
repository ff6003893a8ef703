pub mod Answers
pub mod Message
pub mod TwoSections
pub use Rattle.cable.specs.slot_table as slot_table
pub use Rattle.cable.specs as cable
